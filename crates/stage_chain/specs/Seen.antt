-- A stage that takes one document, and documents that are moved on.
use Rattle.std.specs.Prelude.{List, [], ◌++◌, Ok, Err}
use Rattle.stage_tree.specs.Outcome.{Fields, Given}
use Rattle.reshape_stage.specs.Work.{after, gives}
use Rattle.stage_chain.specs.Chain.{Step, worse}

abbrev pub out_of : Given → List Fields
out_of (Ok ds) = ds
out_of (Err c) = []

-- behind one document, with what it gives behind what was given
abbrev pub taken : Step → List Fields → Fields → Step × List Fields
taken s given d = (record { work = after s.work; origin = s.origin; failed = worse s.failed (gives s.work d) }, given ++ out_of (gives s.work d))
