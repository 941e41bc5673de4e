use Rattle.join_forms.specs.Words.{accumulators, kind_named}
use Rattle.join_forms.proofs.words.kind_named.Goals as goal

pub returns : goal.returns
unfolding accumulators kind_named
returns c = c.find.ensures
