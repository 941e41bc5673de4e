use Rattle.std.proofs.Common.{◌≡◌, ◌≤◌, IfSome, drop}
use Rattle.mq_ports.specs.World.{OnlyFileCounts}
use Rattle.orphan_filter.specs.Survey.{files_in, shards_verdict}
use Rattle.orphan_filter.proofs.file_survey.survey.Given as goal

abbrev pub invariant-loop-shard : goal.invariant-loop-shard
invariant-loop-shard g l = record {
  verdict : IfSome (g.F.Outside.world l.files).held (λ held.
      shards_verdict (files_in held) l.collection l.collection.shards ≡ shards_verdict (files_in held) l.collection (drop l.shard-index l.collection.shards));
  alone : OnlyFileCounts (g.F.Outside.world l.initial.files) (g.F.Outside.world l.files);
  later : (g.F.Outside.world l.initial.files).file_faults ≤ (g.F.Outside.world l.files).file_faults;
}
