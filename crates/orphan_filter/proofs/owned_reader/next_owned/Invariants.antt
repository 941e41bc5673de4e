use Rattle.std.proofs.Common.{◌-◌, ◌≤◌, IfSome}
use Rattle.std.specs.Prelude.{slice_get}
use Rattle.mq_ports.specs.World.{OnlyFileCounts}
use Rattle.orphan_filter.specs.Owned.{FollowsShard}
use Rattle.orphan_filter.specs.Reader.{reading_of}
use Rattle.orphan_filter.proofs.owned_reader.next_owned.Given as goal

abbrev pub invariant-records : goal.invariant-records
invariant-records g l = record {
  follows : IfSome (g.F.Outside.world l.files).held (λ held. FollowsShard l.collection l.place l.given (reading_of l.records) (slice_get l.collection.shards l.place) held);
  given : l.initial.records.given ≤ l.records.given;
  alone : OnlyFileCounts (g.F.Outside.world l.initial.files) (g.F.Outside.world l.files);
  later : (g.F.Outside.world l.initial.files).file_faults ≤ (g.F.Outside.world l.files).file_faults;
}

abbrev pub decreases-records : goal.decreases-records
decreases-records g l = l.records.len - l.records.place
