use Rattle.std.proofs.Common.{◌≡◌, drop}
use Rattle.std.specs.List.{list_all}
use Rattle.std.specs.Prelude.{◌==◌}
use Rattle.bson_value.specs.Order.{class}
use Rattle.chunk_map.proofs.ranges.have_class.Given as goal

abbrev pub invariant-loop-i : goal.invariant-loop-i
invariant-loop-i l = list_all (λ t. class t == l.number) l.key ≡ list_all (λ t. class t == l.number) (drop l.i l.key)
