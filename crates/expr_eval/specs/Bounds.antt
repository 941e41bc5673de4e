-- The bounds of names, as scopes have them.
use Rattle.std.specs.Prelude.{ℕ, List, [], ◌∷◌, ◌++◌}
use Rattle.expr_eval.specs.declared.bound_scope.BoundScope.{BoundScope}
use Rattle.expr_eval.specs.declared.bound_scope.BoundScope.TheVariants.{Outer, More'}

abbrev pub bounds_in : BoundScope → List (List ℕ × ℕ)
bounds_in (Outer ns) = ns.now
bounds_in (More' p s x b) = bounds_in s ++ (x.now, b) ∷ []
