use Rattle.std.proofs.Common.{length, subst, []}
use Rattle.std.specs.Prelude.{None}
use Rattle.std.specs.List.{AllByRecursion}
use Rattle.chunk_map.specs.Sound.{AreGood}
use Rattle.chunk_map.specs.Table.{CollectionRow}
use Rattle.chunk_map.proofs.Faults.{checked_good}
use Rattle.chunk_map.proofs.read.read_cluster_of.Goals as goal

pub make_collections-requires : goal.make_collections-requires
make_collections-requires c =
    subst (AllByRecursion (λ (r : CollectionRow). AreGood (length r.shards) None r.chunks [])) c.as_slice.ensures.value (checked_good 1 [] c.as_slice.result.now c.as_slice.result.now c.in-Ok-check_rows.ensures)
