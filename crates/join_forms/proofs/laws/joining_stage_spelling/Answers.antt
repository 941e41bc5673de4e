use Rattle.join_forms.proofs.Stages.{only, spelled}
use Rattle.join_forms.proofs.laws.joining_stage_spelling.Goals as goal

pub returns-clause-found : goal.returns-clause-found
returns-clause-found c name t s e = spelled name t s e

pub returns-clause-only : goal.returns-clause-only
returns-clause-only c name t s h = only s name t h
