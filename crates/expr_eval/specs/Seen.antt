-- Names, seen with the trees of what they are bound to.
use Rattle.std.specs.Prelude.{◌≡◌, ℕ, List, [], ◌∷◌, ◌++◌, map, Option, is_some, if◌then◌else◌}
use Rattle.std.specs.Option.{option_map}
use Rattle.std.specs.Ordering.{nat_cmp}
use Rattle.std.specs.Cmp.Lexicographic.{slice_cmp}
use Rattle.std.specs.Str.{bytes_eq}
use Rattle.std.specs.BTreeMap.{BTreeMap, get_by}
use denote.Ref.{Bor}
use Rattle.bson_value.specs.Tree.{Tree}
use Rattle.bson_value.specs.Pairs.{find}
use Rattle.bson_value.specs.View.{tree_of, founds}
use Rattle.bson_value.specs.declared.value.Value.{Value}
use Rattle.bson_value.specs.declared.op.Op.{Op}
use Rattle.bson_value.specs.Operands.{Outcome}
use Rattle.bson_value.specs.Operators.{operator}
use Rattle.expr_tree.specs.Env.{Env, Names, paired}
use Rattle.expr_tree.specs.Rows.{Meaning, ◌>>=◌, all}
use Rattle.expr_eval.specs.declared.scope.Scope.{Scope}
use Rattle.expr_eval.specs.declared.scope.Scope.TheVariants.{Outer, One', Many'}

abbrev pub bound_in : List (List ℕ × Option Value) → Names
bound_in bs = map (λ b. (b.0, option_map tree_of b.1)) bs

-- the names of a scope, the inner ones last
abbrev pub names_in : Scope → Names
names_in (Outer ns) = ns.now
names_in (One' p s x v) = names_in s ++ (x.now, option_map (λ w. tree_of w.now) v) ∷ []
names_in (Many' p s xs vs) = names_in s ++ paired xs.now (founds vs.now)

-- what a pair has, where it has the name, or what was found before
abbrev pub later_of : {A : Type 0} → List ℕ → List ℕ × A → A → A
later_of x b found = if bytes_eq b.0 x then b.1 else found

-- the tree has the names of the pairs
pub record HasNames {X : Type 0} (tree : BTreeMap (Bor (List ℕ)) X) (pairs : List (List ℕ × Tree)) : Type 0 where
  pub names : (n : List ℕ) → is_some (get_by (λ k. slice_cmp nat_cmp n k.now) tree) ≡ is_some (find n pairs)

-- an operator on its operands, of which the first code stands
abbrev pub apply_row : Op → List Meaning → Env → Outcome
apply_row o ms env = all ms env >>= operator o
