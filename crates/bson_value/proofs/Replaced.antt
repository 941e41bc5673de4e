-- Fields that are appended, and values that are replaced at their place.
use Rattle.std.proofs.Common.{◌≡◌, ℕ, zero, suc, ◌<◌, List, [], ◌∷◌, ◌++◌, length, refl, ap, subst, get_or, set, arith}
use Rattle.std.specs.Prelude.{None}
use Rattle.bson_value.specs.declared.value.Value.{Value}
use Rattle.bson_value.specs.Tree.{Tree}
use Rattle.bson_value.specs.Pairs.{find, put, with_value}
use Rattle.bson_value.specs.Proper.{IsName, IsProper, IsDoc, IsList}
use Rattle.bson_value.specs.View.{tree_of, trees_in}
use Rattle.bson_value.proofs.Distinct.{find_none, IsDoc-put, IsDoc-cons, IsDoc-parts}

put_new : {A : Type 0} (k : List ℕ) (x : A) (ps : List (List ℕ × A)) → find k ps ≡ None → put k x ps ≡ ps ++ (k, x) ∷ []
put_new k x [] h = refl
put_new k x (p ∷ ps) h =
    let q = find_none k k p ps h in
    rw q.0 (ap (λ l. p ∷ l) (put_new k x ps q.1))

pub IsDoc-append : (k : List ℕ) (t : Tree) (ps : List (List ℕ × Tree)) → IsName k → IsProper t → find k ps ≡ None → IsDoc ps → IsDoc (ps ++ (k, t) ∷ [])
IsDoc-append k t ps name value new h = subst IsDoc (put_new k t ps new) (IsDoc-put k t ps name value h)

pub replaced : (ps : List (List ℕ × Value)) (i : ℕ) (p : List ℕ × Value) (v : Value) → i < length ps → p ≡ get_or ps i p → trees_in (set ps i (p.0, v)) ≡ with_value i (tree_of v) (trees_in ps)
replaced [] i p v lt e = absurd (omega (arith, lt))
replaced (q ∷ qs) zero p v lt e = ap (λ (r : List ℕ × Value). (r.0, tree_of v) ∷ trees_in qs) e
replaced (q ∷ qs) (suc i) p v lt e = ap (λ l. (q.0, tree_of q.1) ∷ l) (replaced qs i p v (omega (arith, lt)) e)

find-with : {A : Type 0} (n : List ℕ) (i : ℕ) (x : A) (ps : List (List ℕ × A)) → find n ps ≡ None → find n (with_value i x ps) ≡ None
find-with n i x [] h = refl
find-with n zero x (p ∷ ps) h = let q = find_none n n p ps h in rw q.0 q.1
find-with n (suc i) x (p ∷ ps) h = let q = find_none n n p ps h in rw q.0 (find-with n i x ps q.1)

pub IsDoc-with : (i : ℕ) (t : Tree) (ps : List (List ℕ × Tree)) → IsProper t → IsDoc ps → IsDoc (with_value i t ps)
IsDoc-with i t [] value h = tt
IsDoc-with zero t (p ∷ ps) value h =
    let q = IsDoc-parts p.0 p.1 ps h in
    IsDoc-cons p.0 t ps (record { name = q.name; new = q.new; value = value; rest = q.rest })
IsDoc-with (suc i) t (p ∷ ps) value h =
    let q = IsDoc-parts p.0 p.1 ps h in
    IsDoc-cons p.0 p.1 (with_value i t ps) (record { name = q.name; new = find-with p.0 i t ps q.new; value = q.value; rest = IsDoc-with i t ps value q.rest })

pub IsList-set : (i : ℕ) (t : Tree) (ts : List Tree) → IsProper t → IsList ts → IsList (set ts i t)
IsList-set i t [] value h = tt
IsList-set zero t (u ∷ ts) value h = (value, h.1)
IsList-set (suc i) t (u ∷ ts) value h = (h.0, IsList-set i t ts value h.1)
