-- What the words ask for.
use Rattle.std.specs.Prelude.{ℕ, Bool, true, false, List, Option, Some, None, Ok, Err, if◌then◌else◌}
use Rattle.command_words.specs.declared.mode.Mode.{Mode}
use Rattle.command_words.specs.declared.mode.Mode.TheVariants.{Run, Explain, Check, Make, Work}
use Rattle.command_words.specs.Words.{mode_of}
use Rattle.aggregate_command.specs.declared.request.Request.{Request}
use Rattle.aggregate_command.specs.declared.status.Status.TheVariants.{NotBuilt, Usage}
use Rattle.aggregate_command.specs.Status.{Step}

abbrev pub request : List ℕ → List ℕ → Bool → Request
request cluster command runs = record { cluster = cluster; command = command; runs = runs }

-- a run without statistics, or a check
abbrev pub request_by : Mode → Step Request
request_by (Run cluster command options) = if options.stats then Err NotBuilt else Ok (request cluster command true)
request_by (Explain cluster command) = Err NotBuilt
request_by (Check cluster command) = Ok (request cluster command false)
request_by (Make part number count) = Err NotBuilt
request_by (Work number count options) = Err NotBuilt

abbrev pub request_in : Option Mode → Step Request
request_in None = Err Usage
request_in (Some mode) = request_by mode

-- the run or the check that the words ask for
unfoldable pub requested : List (List ℕ) → Step Request
requested words = request_in (mode_of words)
