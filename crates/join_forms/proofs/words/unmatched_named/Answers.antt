use Rattle.join_forms.specs.Words.{unmatched_words, unmatched_named}
use Rattle.join_forms.proofs.words.unmatched_named.Goals as goal

pub returns : goal.returns
unfolding unmatched_words unmatched_named
returns c = c.find.ensures
