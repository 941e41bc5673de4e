use Rattle.std.proofs.Common.{◌∷◌, []}
use Rattle.std.specs.Prelude.{None}
use Rattle.std.specs.Option.{option_map}
use Rattle.bson_value.specs.View.{tree_of, founds}
use Rattle.expr_tree.specs.Env.{paired}
use Rattle.expr_eval.specs.Seen.{names_in}
use Rattle.expr_eval.proofs.Bound.{last_of-append}
use Rattle.expr_eval.proofs.scope.+bound_to.Goals as goal

pub returns-in-One : goal.returns-in-One
returns-in-One t c = rw (c.in-One.is, last_of-append c.args.name.now None (names_in c.in-One.rest.now) ((c.in-One.bound.now, option_map (λ w. tree_of w.now) c.in-One.value) ∷ []), ← c.bound_to.ensures) c.later_one.ensures

pub returns-in-Many : goal.returns-in-Many
returns-in-Many t c = rw (c.in-Many.is, last_of-append c.args.name.now None (names_in c.in-Many.rest.now) (paired c.in-Many.names.now (founds c.in-Many.values.now)), ← c.bound_to-in-Many.ensures) c.later_many.ensures
