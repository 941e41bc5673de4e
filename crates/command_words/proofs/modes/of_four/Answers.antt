use Rattle.std.proofs.Common.{rules}
use Rattle.command_words.specs.Views.{given_of}
use Rattle.command_words.proofs.Lengths.{other_lengths}
use Rattle.command_words.proofs.modes.of_four.Goals as goal

pub returns-in_default : goal.returns-in_default
returns-in_default c = other_lengths (given_of c.args.given.now) c.args.given.now.places.now c.requires (search rules)
