use Rattle.std.proofs.lemmas.List.{map_push}
use Rattle.bson_value.proofs.Replaced.{IsDoc-append}
use Rattle.bson_value.proofs.value.Doc.append.Goals as goal

pub invariant_of-self-2 : goal.invariant_of-self-2
invariant_of-self-2 c = rw (c.in_ok-push.ensures.items, map_push) (IsDoc-append _ _ _ c.bytes-name.ensures.name c.known.ensures (rw c.self.view_is c.requires) c.self.invariant)
