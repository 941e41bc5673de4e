use Rattle.std.proofs.Common.{◌≡◌, ◌++◌, [], length}
use Rattle.std.specs.Prelude.{None}
use Rattle.std.specs.List.{AllByRecursion}
use Rattle.std.specs.Vec.Iter.{into_iter_items}
use Rattle.chunk_map.specs.Sound.{AreGood}
use Rattle.chunk_map.proofs.read.make_collections.Given as goal

abbrev pub invariant-rows : goal.invariant-rows
invariant-rows l = record {
  all : l.collections.items ++ into_iter_items l.left ≡ l.fn.rows.items;
  good : AllByRecursion (λ c. AreGood (length c.shards) None c.chunks []) (into_iter_items l.left);
}

abbrev pub decreases-rows : goal.decreases-rows
decreases-rows l = length (into_iter_items l.left)
