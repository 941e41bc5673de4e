use Rattle.std.proofs.Common.{◌∙◌, sym, ap}
use Rattle.stage_read.proofs.Tops.{ok_same}
use Rattle.stage_read.proofs.Whole.{good_read}
use Rattle.stage_read.proofs.laws.one_command.Goals as goal

pub returns : goal.returns
returns c fields m n ss ts h k = let e = ok_same (m, ss) (n, ts) (sym (good_read fields m ss h) ∙ good_read fields n ts k) in (ap (λ p. p.0) e, ap (λ p. p.1) e)
