use Rattle.bson_value.proofs.Replaced.{IsList-set}
use Rattle.bson_value.proofs.value.List.replace.Goals as goal

pub invariant_of-self : goal.invariant_of-self
invariant_of-self c = rw c.replace_member.ensures.rest (IsList-set _ _ _ c.known.ensures c.self.invariant)
