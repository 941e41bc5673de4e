use Rattle.std.proofs.Common.{◌∙◌, sym}
use Rattle.expr_read.proofs.Spelled.{only, some_same}
use Rattle.expr_read.proofs.laws.one_tree.Goals as goal

pub returns : goal.returns
returns c names t m n h k = some_same m n (sym (only m names t h) ∙ only n names t k)
