use Rattle.query_eval.proofs.Items.{item_at}
use Rattle.query_eval.proofs.places.element_at.Goals as goal

pub returns : goal.returns
returns c = item_at c.args.list.now c.args.i _ c.requires c.value.ensures
