-- The names that stood before.
use Rattle.std.proofs.Common.{◌≡◌, ℕ, Bool, true, false, cond, List, Bor, refl, ap, ◌∙◌}
use Rattle.std.specs.Prelude.{Option, Some, is_some, ◌||◌}
use Rattle.std.specs.Str.{bytes_eq}
use Rattle.std.specs.Ordering.{nat_cmp}
use Rattle.std.specs.Cmp.Lexicographic.{slice_cmp}
use Rattle.std.specs.BTreeMap.{BTreeMap, get_by, UpdatesBy}
use Rattle.std.proofs.lemmas.Map.Text.{btree_map_updates_str}
use Rattle.chunk_map.specs.Named.{HasMore}

some_update : {X : Type 0} (b : Bool) (x : X) (o : Option X) → is_some (cond b (Some x) o) ≡ (b || is_some o)
some_update true x o = refl
some_update false x o = refl

pub more_names : {X : Type 0} (x : X) (name : List ℕ) (m n : BTreeMap (Bor (List ℕ)) X) → UpdatesBy (λ x y. slice_cmp nat_cmp x.now y.now) (λ k. slice_cmp nat_cmp name k.now) m n (Some x) → HasMore name m n
more_names x name m n u q = ap is_some (btree_map_updates_str name m n (Some x) u q) ∙ some_update (bytes_eq name q) x (get_by (λ k. slice_cmp nat_cmp q k.now) m)
