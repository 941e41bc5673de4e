use Rattle.command_words.proofs.Numerals.{number_is}
use Rattle.command_words.proofs.WrittenLemmas.{mode_is}
use Rattle.command_words.proofs.laws.modes_are_written.Goals as goal

pub returns-clause-modes : goal.returns-clause-modes
returns-clause-modes c = mode_is

pub returns-clause-numbers : goal.returns-clause-numbers
returns-clause-numbers c = number_is
