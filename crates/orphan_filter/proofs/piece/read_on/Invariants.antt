use Rattle.std.proofs.Common.{◌+◌, ◌-◌, ◌<◌, ◌≤◌, IfSome, length, vec_len}
use Rattle.mq_ports.specs.World.{OnlyFileCounts, contents_at}
use Rattle.orphan_filter.specs.Reading.{IsAlong}
use Rattle.orphan_filter.proofs.piece.read_on.Given as goal

abbrev pub invariant-pieces : goal.invariant-pieces
invariant-pieces g l = record {
  room : 0 < length l.piece;
  within : l.place + vec_len l.ahead ≤ l.len;
  along : IfSome (g.F.Outside.world l.files).held (λ held. IsAlong l.len l.place l.ahead.items (contents_at l.id held));
  alone : OnlyFileCounts (g.F.Outside.world l.initial.files) (g.F.Outside.world l.files);
  later : (g.F.Outside.world l.initial.files).file_faults ≤ (g.F.Outside.world l.files).file_faults;
}

abbrev pub decreases-pieces : goal.decreases-pieces
decreases-pieces g l = l.len - (l.place + vec_len l.ahead)
