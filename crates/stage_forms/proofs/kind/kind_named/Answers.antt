use Rattle.stage_forms.specs.Kinds.{plain_stages, kind_named}
use Rattle.stage_forms.proofs.kind.kind_named.Goals as goal

pub returns : goal.returns
unfolding plain_stages kind_named
returns c = c.find_kind.ensures
