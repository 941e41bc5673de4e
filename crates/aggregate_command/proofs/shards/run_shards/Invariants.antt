use Rattle.std.proofs.Common.{◌≡◌, ◌≤◌, IfSome}
use Rattle.std.specs.List.{flat_map, range_with_len}
use Rattle.chunk_map.specs.Owned.{part}
use Rattle.orphan_filter.specs.Survey.{files_in}
use Rattle.aggregate_command.specs.Running.{with_documents}
use Rattle.aggregate_command.proofs.shards.run_shards.Given as goal

abbrev pub invariant-loop-shard : goal.invariant-loop-shard
invariant-loop-shard g l = record {
  held : (g.F.Outside.world l.files).held ≡ (g.F.Outside.world l.initial.files).held;
  ran : IfSome (g.F.Outside.world l.files).held (λ held. l.run ≡ with_documents l.initial.run (flat_map (part (files_in held) l.collection) (range_with_len 0 l.shard)));
  later : (g.F.Outside.world l.initial.files).file_faults ≤ (g.F.Outside.world l.files).file_faults;
}
