use Rattle.query_eval.proofs.Items.{item_at}
use Rattle.query_eval.proofs.places.found_at.Goals as goal

pub returns : goal.returns
returns c = item_at c.args.found.now c.args.i _ c.requires c.get.ensures
