use Rattle.std.proofs.Common.{◌≡◌, ◌-◌, ◌^◌, ◌≤◌, IfSome, take}
use Rattle.chunk_map.specs.Owned.{part}
use Rattle.orphan_filter.specs.Owned.{GoesOver, given_by}
use Rattle.orphan_filter.specs.Survey.{files_in}
use Rattle.aggregate_command.specs.Running.{with_documents}
use Rattle.aggregate_command.proofs.shards.run_shard.Given as goal

abbrev pub invariant-documents : goal.invariant-documents
invariant-documents g l = record {
  shard : l.reader.shard ≡ l.shard;
  held : (g.F.Outside.world l.files).held ≡ (g.F.Outside.world l.initial.files).held;
  same : IfSome (g.F.Outside.world l.files).held (λ held. GoesOver l.reader l.collection held);
  ran : IfSome (g.F.Outside.world l.files).held (λ held. l.run ≡ with_documents l.initial.run (take (given_by l.reader) (part (files_in held) l.collection l.shard)));
  later : (g.F.Outside.world l.initial.files).file_faults ≤ (g.F.Outside.world l.files).file_faults;
}

abbrev pub decreases-documents : goal.decreases-documents
decreases-documents g l = 2 ^ 32 - given_by l.reader
