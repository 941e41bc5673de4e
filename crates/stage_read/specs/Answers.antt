-- A reader's answer is the reading of the command, or its first fault, unless memory ran out.
use Rattle.std.specs.Prelude.{◌≡◌, ℕ, List, Result, Ok, Err}
use Rattle.stage_tree.specs.Stage.{Stages, stages_of}
use Rattle.stage_tree.specs.declared.command.BadCommand.{BadCommand}
use Rattle.stage_tree.specs.declared.command.Command.{Command}
use Rattle.stage_read.specs.declared.errors.CommandError.{CommandError}
use Rattle.stage_read.specs.declared.errors.CommandError.TheVariants.{Bad, Memory}

abbrev pub Refuses : {Y : Type 0} → CommandError → Result Y BadCommand → Type 0
Refuses Memory r = Unit {0}
Refuses (Bad b) r = r ≡ Err b

abbrev pub Answers : {X Y : Type 0} → (X → Y) → Result X CommandError → Result Y BadCommand → Type 0
Answers view (Ok x) r = r ≡ Ok (view x)
Answers view (Err e) r = Refuses e r

-- the collection's name and the stages of a command
abbrev pub command_of : Command → List ℕ × Stages
command_of c = (c.collection, stages_of c.pipeline)
