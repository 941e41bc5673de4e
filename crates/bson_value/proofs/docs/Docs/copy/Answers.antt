use Rattle.std.proofs.lemmas.Iterator.Consumers.{YieldsList-from_deque, YieldsList-end}
use Rattle.bson_value.proofs.docs.Docs.copy.Goals as goal

pub returns : goal.returns
returns c =
    let all = YieldsList-end (YieldsList-from_deque c.self.inside.docs.items (cc)) c.loop-doc.yielded _ c.loop-doc.yielded_by _ _ c.in-None.is c.next.ensures.steps in
    cc
