use Rattle.stage_tree.specs.Stage.{stages_of}
use Rattle.stage_laws.proofs.Passing.{first_is, is_first, none_is, is_none}
use Rattle.stage_laws.proofs.limits.first_too_deep_is.Goals as goal

pub returns-clause-found : goal.returns-clause-found
returns-clause-found c items n = (first_is items n, is_first items n)

pub returns-clause-none : goal.returns-clause-none
returns-clause-none c items = (none_is (stages_of items), is_none (stages_of items))
