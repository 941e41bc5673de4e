use Rattle.std.proofs.Common.{◌≡◌, IfSome, vec_len, ◌-◌, ◌≤◌, ◌<◌}
use Rattle.mq_ports.specs.World.{contents_at}
use Rattle.aggregate_command.specs.Reading.{IsFront}
use Rattle.aggregate_command.proofs.read.read_whole.Given as goal

abbrev pub invariant-pieces : goal.invariant-pieces
invariant-pieces g l = record {
  within : vec_len l.bytes ≤ l.len;
  room : 0 < vec_len l.piece;
  held : (g.F.Outside.world l.files).held ≡ (g.F.Outside.world l.initial.files).held;
  front : IfSome (g.F.Outside.world l.files).held (λ held. IsFront l.bytes.items (contents_at l.id held));
  later : (g.F.Outside.world l.initial.files).file_faults ≤ (g.F.Outside.world l.files).file_faults;
}

abbrev pub decreases-pieces : goal.decreases-pieces
decreases-pieces g l = l.len - vec_len l.bytes
