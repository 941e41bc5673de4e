use Rattle.std.proofs.Common.{◌∷◌, []}
use Rattle.expr_eval.specs.Bounds.{bounds_in}
use Rattle.expr_eval.proofs.Bound.{last_of-append}
use Rattle.expr_eval.proofs.bound_scope.+bound_of.Goals as goal

pub returns-in-More : goal.returns-in-More
returns-in-More t c = rw (c.in-More.is, last_of-append c.args.name.now 0 (bounds_in c.in-More.rest.now) ((c.in-More.bound.now, c.in-More.depth) ∷ []), ← c.bound_of.ensures) c.later.ensures
