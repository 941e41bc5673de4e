-- The names of a document that is made, in a search tree.
use Rattle.std.proofs.Common.{◌≡◌, ℕ, Bool, true, false, cond, List, [], ◌∷◌, ◌++◌, Bor, refl, sym, ap, ◌∙◌, arith}
use Rattle.std.specs.Prelude.{Option, Some, None, is_some, ◌||◌}
use Rattle.std.specs.Ordering.{nat_cmp}
use Rattle.std.specs.Str.{bytes_eq}
use Rattle.std.specs.Cmp.Lexicographic.{slice_cmp}
use Rattle.std.specs.BTreeMap.{BTreeMap, UpdatesBy, get_by}
use Rattle.std.proofs.lemmas.Slice.Eq.{bytes_eq-Decides}
use Rattle.std.proofs.lemmas.Map.Text.{btree_map_updates_str}
use Rattle.bson_value.specs.Tree.{Tree}
use Rattle.bson_value.specs.Pairs.{find, put}
use Rattle.expr_eval.specs.Seen.{HasNames}

some_update : {X : Type 0} (b : Bool) (x : X) (o : Option X) → is_some (cond b (Some x) o) ≡ (b || is_some o)
some_update true x o = refl
some_update false x o = refl

-- a name is found after a put where it was put or found before
found_put : (k n : List ℕ) (t : Tree) (ps : List (List ℕ × Tree)) → is_some (find n (put k t ps)) ≡ (bytes_eq k n || is_some (find n ps))
found_put k n t [] = some_update (bytes_eq k n) t None
found_put k n t (p ∷ ps) = grind (arith, found_put k n t ps, (bytes_eq-Decides p.0 k).0)

-- a new name is put at the end
pub put_new : (k : List ℕ) (t : Tree) (ps : List (List ℕ × Tree)) → find k ps ≡ None → put k t ps ≡ ps ++ (k, t) ∷ []
put_new k t [] h = refl
put_new k t (p ∷ ps) h = grind (arith, put_new k t ps)

pub held_put : {X : Type 0} (x : X) (k : List ℕ) (t : Tree) (ps : List (List ℕ × Tree)) (m m' : BTreeMap (Bor (List ℕ)) X) → HasNames m ps
    → UpdatesBy (λ x y. slice_cmp nat_cmp x.now y.now) (λ q. slice_cmp nat_cmp k q.now) m m' (Some x) → HasNames m' (put k t ps)
held_put x k t ps m m' h u = record {
  names = λ q.
      ap is_some (btree_map_updates_str k m m' (Some x) u q)
      ∙ some_update (bytes_eq k q) x (get_by (λ r. slice_cmp nat_cmp q r.now) m)
      ∙ ap (λ b. bytes_eq k q || b) (h.names q)
      ∙ sym (found_put k q t ps);
}
