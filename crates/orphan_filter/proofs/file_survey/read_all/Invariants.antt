use Rattle.std.proofs.Common.{◌≡◌, ◌-◌, ◌≤◌, IfSome}
use Rattle.mq_ports.specs.World.{OnlyFileCounts, contents_at}
use Rattle.orphan_filter.specs.Reader.{reading_of}
use Rattle.orphan_filter.specs.Surveying.{HasNoArray}
use Rattle.orphan_filter.proofs.file_survey.read_all.Given as goal

abbrev pub invariant-records : goal.invariant-records
invariant-records g l = record {
  id : l.reader.id ≡ l.initial.reader.id;
  follows : IfSome (g.F.Outside.world l.files).held (λ held. HasNoArray l.collection.key_paths (reading_of l.reader) (contents_at l.reader.id held));
  alone : OnlyFileCounts (g.F.Outside.world l.initial.files) (g.F.Outside.world l.files);
  later : (g.F.Outside.world l.initial.files).file_faults ≤ (g.F.Outside.world l.files).file_faults;
}

abbrev pub decreases-records : goal.decreases-records
decreases-records g l = l.reader.len - l.reader.place
