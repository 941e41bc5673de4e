use Rattle.join_forms.specs.Words.{matched_words, matched_named}
use Rattle.join_forms.proofs.words.matched_named.Goals as goal

pub returns : goal.returns
unfolding matched_words matched_named
returns c = c.find.ensures
