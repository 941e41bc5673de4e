use Rattle.std.proofs.Common.{rules}
use Rattle.std.proofs.lemmas.Fn.{always_returns_same}
use Rattle.chunk_map.specs.Form.{name_before}
use Rattle.chunk_map.proofs.InOrder.{name_order, sorted_by_name}
use Rattle.chunk_map.proofs.shard_form.order_by_name.Goals as goal

pub returns-in-Ok-clause-items : goal.returns-in-Ok-clause-items
returns-in-Ok-clause-items c =
    sorted_by_name _ _ (c.in-Ok.ensures.sorted name_before name_order (always_returns_same _ _ _ (λ a r f k. search rules))) (c.in-Ok.ensures.stable name_before name_order (always_returns_same _ _ _ (λ a r f k. search rules)))

pub returns-in-Ok-clause-order : goal.returns-in-Ok-clause-order
returns-in-Ok-clause-order c = c.in-Ok.ensures.sorted name_before name_order (always_returns_same _ _ _ (λ a r f k. search rules))
