use Rattle.bson_value.proofs.Replaced.{IsDoc-with}
use Rattle.bson_value.proofs.value.Doc.replace.Goals as goal

pub invariant_of-self : goal.invariant_of-self
invariant_of-self c = rw c.replace_pair.ensures.rest (IsDoc-with _ _ _ c.known.ensures c.self.invariant)
