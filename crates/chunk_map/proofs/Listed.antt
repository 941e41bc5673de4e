-- Lists that are gone through item by item.
use Rattle.std.proofs.Common.{◌≡◌, ◌≢◌, ℕ, zero, suc, ◌+◌, ◌<◌, ◌≤◌, Bool, true, false, List, [], ◌∷◌, ◌++◌, map, length, get_or, drop, refl, sym, ap, ◌∙◌, arith, append_assoc, length-drop, add-one, ne_eqb, inl, inr}
use Rattle.std.proofs.lemmas.Bool.Decides.{eqb_tells}
use Rattle.std.specs.Prelude.{Option, Some, None, option_and_then, option_map, slice_get, ◌&&◌, ◌==◌, not, min}
use Rattle.std.specs.List.{list_all}
use Rattle.std.specs.Str.{bytes_eq}
use Rattle.std.specs.Ordering.{nat_cmp, ordering_then}
use Rattle.std.specs.Cmp.Lexicographic.{slice_cmp}
use Rattle.std.specs.declared.cmp.Ordering.{Ordering}
use Rattle.std.specs.declared.cmp.Ordering.TheVariants.{Less, Equal, Greater}
use Rattle.std.proofs.lemmas.List.{nil_from_length, map-id}
use Rattle.bson_value.proofs.Slices.{ended}
use Rattle.bson_value.specs.Tree.{Tree}
use Rattle.bson_codec.specs.Records.{Document}
use Rattle.chunk_map.specs.Form.{all_of, with_first, same_names}

pub some_is : {A : Type 0} (x y : A) → (let some : A → Option A = λ a. Some a in some x ≡ some y) → x ≡ y
some_is x y e = cc

pub drop_get : {A : Type 0} (xs : List A) (i : ℕ) (x : A) → slice_get xs i ≡ Some x → drop i xs ≡ x ∷ drop (i + 1) xs
drop_get [] i x e = absurd cc
drop_get (y ∷ ys) zero x e = ap (λ a. a ∷ ys) (some_is y x e)
drop_get (y ∷ ys) (suc i) x e = rw add-one (rw add-one at (drop_get ys i x e))

pub drop_done : {A : Type 0} (xs : List A) (i : ℕ) → length xs ≤ i → drop i xs ≡ []
drop_done xs i le = nil_from_length (drop i xs) (omega (arith, length-drop i xs))

pub get_some : {A : Type 0} (xs : List A) (i : ℕ) → i < length xs → (x : A) × (slice_get xs i ≡ Some x)
get_some [] i lt = absurd (omega arith)
get_some (x ∷ xs) zero lt = (x, refl)
get_some (x ∷ xs) (suc i) lt = get_some xs i (omega arith)

-- ---- what each item stands for

abbrev pub with_front : {A : Type 0} → List A → Option (List A) → Option (List A)
with_front front o = option_map (λ ys. front ++ ys) o

module _ {A B : Type 0} (f : A → Option B) where
  joined : (front : List B) (y : B) (o : Option (List B)) → with_front front (with_first y o) ≡ with_front (front ++ y ∷ []) o
  joined front y None = refl
  joined front y (Some ys) = ap (λ (l : List B). Some l) (sym (append_assoc front (y ∷ []) ys))

  one_step : (xs : List A) (x : A) (y : B) (front : List B) → f x ≡ Some y → with_front front (all_of f (x ∷ xs)) ≡ with_front (front ++ y ∷ []) (all_of f xs)
  one_step xs x y front e = rw e (joined front y (all_of f xs))

  pub all_step : (xs : List A) (i : ℕ) (y : B) (front : List B) → i < length xs → option_and_then f (slice_get xs i) ≡ Some y → with_front front (all_of f (drop i xs)) ≡ with_front (front ++ y ∷ []) (all_of f (drop (i + 1) xs))
  all_step xs i y front lt e =
      let x = get_some xs i lt in
      let g : f x.0 ≡ Some y = ap (option_and_then f) (sym x.1) ∙ e in
      rw (drop_get xs i x.0 x.1) (one_step (drop (i + 1) xs) x.0 y front g)

  pub all_none : (xs : List A) (i : ℕ) (front : List B) → i < length xs → option_and_then f (slice_get xs i) ≡ None → with_front front (all_of f (drop i xs)) ≡ None
  all_none xs i front lt e =
      let x = get_some xs i lt in
      let g : f x.0 ≡ None = ap (option_and_then f) (sym x.1) ∙ e in
      rw (drop_get xs i x.0 x.1, g) refl

  chosen : (xs : List A) (ys : List B) (o : Option B) (p : Option (List B)) → ((zs : List B) → p ≡ Some zs → length zs ≡ length xs) → option_and_then (λ y. with_first y p) o ≡ Some ys → length ys ≡ suc (length xs)
  chosen xs ys None p all h = absurd cc
  chosen xs ys (Some y) None all h = absurd cc
  chosen xs ys (Some y) (Some zs) all h = let s : y ∷ zs ≡ ys = some_is (y ∷ zs) ys h in sym (ap length s) ∙ ap suc (all zs refl)

  pub all_length : (xs : List A) (ys : List B) → all_of f xs ≡ Some ys → length ys ≡ length xs
  all_length [] ys e = ap length (sym (some_is [] ys e))
  all_length (x ∷ xs) ys e = chosen xs ys (f x) (all_of f xs) (all_length xs) e

-- ---- a test of each item

module _ {A : Type 0} (p : A → Bool) where
  pub test_step : (xs : List A) (i : ℕ) (x : A) → slice_get xs i ≡ Some x → p x ≡ true → list_all p (drop i xs) ≡ list_all p (drop (i + 1) xs)
  test_step xs i x e t = rw (drop_get xs i x e, t) refl

  pub test_fails : (xs : List A) (i : ℕ) (x : A) → slice_get xs i ≡ Some x → p x ≡ false → list_all p (drop i xs) ≡ false
  test_fails xs i x e t = rw (drop_get xs i x e, t) refl

-- ---- two lists compared

module _ {A : Type 0} (R : A → A → Ordering) where
  pub order_step : (xs ys : List A) (i : ℕ) (x y : A) → slice_get xs i ≡ Some x → slice_get ys i ≡ Some y → slice_cmp R (drop i xs) (drop i ys) ≡ ordering_then (R x y) (slice_cmp R (drop (i + 1) xs) (drop (i + 1) ys))
  order_step xs ys i x y e f = rw (drop_get xs i x e, drop_get ys i y f) refl

  pub order_ended : (xs ys : List A) (i : ℕ) → i ≡ min (length xs) (length ys) → nat_cmp (length xs) (length ys) ≡ slice_cmp R (drop i xs) (drop i ys)
  order_ended xs ys i e = ended (λ (x : A). x) R xs ys i e ∙ rw (map-id (drop i xs), map-id (drop i ys)) refl

-- ---- pairs of documents

named_pair : (o : Option (List ℕ × Tree)) (n : List ℕ) → option_map (λ p. p.0) o ≡ Some n → (t : Tree) × (o ≡ Some (n, t))
named_pair None n e = absurd cc
named_pair (Some p) n e = (p.1, let a : p.0 ≡ n = some_is p.0 n e in λ i. Some (a i, p.1))

pub names_step : (ps qs : Document) (i : ℕ) (n m : List ℕ) → option_map (λ p. p.0) (slice_get ps i) ≡ Some n → option_map (λ p. p.0) (slice_get qs i) ≡ Some m → same_names (drop i ps) (drop i qs) ≡ (bytes_eq n m && same_names (drop (i + 1) ps) (drop (i + 1) qs))
names_step ps qs i n m e f =
    let p = named_pair (slice_get ps i) n e in
    let q = named_pair (slice_get qs i) m f in
    rw (drop_get ps i (n, p.0) p.1, drop_get qs i (m, q.0) q.1) refl

pub names_differ : (ps qs : Document) → length ps ≢ length qs → same_names ps qs ≡ false
names_differ [] [] n = absurd (n refl)
names_differ [] (q ∷ qs) n = refl
names_differ (p ∷ ps) [] n = refl
names_differ (p ∷ ps) (q ∷ qs) n =
    let e : same_names ps qs ≡ false = names_differ ps qs (λ h. n (ap suc h)) in
    elim (bytes_eq p.0 q.0) as (λ b. (b && same_names ps qs) ≡ false) [ true ↦ e | false ↦ refl ]

valued_pair : (o : Option (List ℕ × Tree)) (t : Tree) → option_map (λ p. p.1) o ≡ Some t → (n : List ℕ) × (o ≡ Some (n, t))
valued_pair None t e = absurd cc
valued_pair (Some p) t e = (p.0, let a : p.1 ≡ t = some_is p.1 t e in λ i. Some (p.0, a i))

pub values_step : (ps : Document) (i : ℕ) (t : Tree) (front : List Tree) → option_map (λ p. p.1) (slice_get ps i) ≡ Some t → front ++ map (λ p. p.1) (drop i ps) ≡ (front ++ t ∷ []) ++ map (λ p. p.1) (drop (i + 1) ps)
values_step ps i t front e =
    let p = valued_pair (slice_get ps i) t e in
    rw (drop_get ps i (p.0, t) p.1) (sym (append_assoc front (t ∷ []) (map (λ (p : List ℕ × Tree). p.1) (drop (i + 1) ps))))

-- ---- what a comparison said

pub class_is : (m n k : ℕ) → k ≡ m → k ≡ n → (m == n) ≡ true
class_is m n k e f = elim (eqb_tells m n) [ inl h ↦ h.0 | inr h ↦ absurd (h.1 (sym e ∙ f)) ]

pub class_differs : (m n k : ℕ) → k ≡ m → k ≢ n → (m == n) ≡ false
class_differs m n k e f = ne_eqb m n (λ h. f (e ∙ h))

pub unnot : (b r : Bool) → r ≡ not b → r ≡ true → b ≡ false
unnot true r e f = absurd cc
unnot false r e f = refl

pub unnot_false : (b r : Bool) → r ≡ not b → r ≡ false → b ≡ true
unnot_false true r e f = refl
unnot_false false r e f = absurd cc

pub decides : (o p r : Ordering) → r ≡ o → r ≢ Equal → ordering_then o p ≡ o
decides Less p r e n = refl
decides Equal p r e n = absurd (n e)
decides Greater p r e n = refl

pub equal_goes_on : (o p r : Ordering) → r ≡ o → r ≡ Equal → ordering_then o p ≡ p
equal_goes_on o p r e f = let g : o ≡ Equal = sym e ∙ f in rw g refl

pub false_and : (a b : Bool) → a ≡ false → (a && b) ≡ false
false_and a b e = rw e refl

pub true_and : (a b : Bool) → a ≡ true → (a && b) ≡ b
true_and a b e = rw e refl

pub mapped_item : {A B : Type 0} (f : A → B) (xs : List A) (i : ℕ) (x : A) → i < length xs → x ≡ get_or xs i x → slice_get (map f xs) i ≡ Some (f x)
mapped_item f [] i x lt e = absurd (omega arith)
mapped_item f (y ∷ ys) zero x lt e = ap (λ z. Some (f z)) (sym e)
mapped_item f (y ∷ ys) (suc i) x lt e = mapped_item f ys i x (omega arith) e

pub item_at : {A : Type 0} (xs : List A) (i : ℕ) (x : A) → i < length xs → x ≡ get_or xs i x → slice_get xs i ≡ Some x
item_at [] i x lt e = absurd (omega arith)
item_at (y ∷ ys) zero x lt e = ap (λ z. Some z) (sym e)
item_at (y ∷ ys) (suc i) x lt e = item_at ys i x (omega arith) e

-- nothing stands behind the last item
pub no_item : {A : Type 0} (xs : List A) (i : ℕ) (x : A) → length xs ≤ i → slice_get xs i ≡ Some x → ⊥
no_item [] i x le e = cc
no_item (y ∷ ys) zero x le e = absurd (omega arith)
no_item (y ∷ ys) (suc i) x le e = no_item ys i x (omega arith) e
