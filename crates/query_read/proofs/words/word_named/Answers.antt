use Rattle.query_read.specs.Words.{words, word_named}
use Rattle.query_read.proofs.words.word_named.Goals as goal

pub returns : goal.returns
unfolding words word_named
returns c = c.find_word.ensures
