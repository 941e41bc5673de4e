use Rattle.stage_tree.specs.Stage.{stages_of}
use Rattle.stage_laws.proofs.Passing.{first_is, is_first, none_is, is_none, deep_refused, refused_deep, many_refused, refused_many, none_refused, refused_none}
use Rattle.stage_laws.proofs.limits.refused_past_limits.Goals as goal

pub returns-clause-deep : goal.returns-clause-deep
returns-clause-deep c items n =
    (λ e. let r = deep_refused (stages_of items) n e in (r.0, first_is items n r.1), λ h. refused_deep (stages_of items) n h.0 (is_first items n h.1))

pub returns-clause-many : goal.returns-clause-many
returns-clause-many c items = (many_refused (stages_of items), refused_many (stages_of items))

pub returns-clause-none : goal.returns-clause-none
returns-clause-none c items =
    (λ e. let r = none_refused (stages_of items) e in (r.0, none_is (stages_of items) r.1), λ h. refused_none (stages_of items) h.0 (is_none (stages_of items) h.1))
