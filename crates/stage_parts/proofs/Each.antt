-- Every item of a list read, one after another.
use Rattle.std.proofs.Common.{◌≡◌, ℕ, zero, suc, ◌+◌, List, [], ◌∷◌, ◌++◌, drop, refl, sym, ap, ◌∙◌, add-one}
use Rattle.std.specs.Prelude.{Option, Some, None, slice_get}
use Rattle.std.specs.Option.{option_map}
use Rattle.std.proofs.lemmas.List.{append_assoc, append-nil}
use Rattle.bson_value.specs.Tree.{Tree}
use Rattle.expr_read.specs.declared.errors.FormError.{FormError}
use Rattle.expr_read.specs.Reading.{◌>>=◌}
use Rattle.expr_read.specs.Reads.{Refuses}
use Rattle.stage_parts.specs.Each.{each_from, Pairwise}
use Rattle.stage_parts.proofs.Options.{some_same, bind_some, stays}

pub drop_at : {A : Type 0} (xs : List A) (i : ℕ) (x : A) → slice_get xs i ≡ Some x → drop i xs ≡ x ∷ drop (i + 1) xs
drop_at [] i x p = absurd cc
drop_at (y ∷ ys) zero x p = let e : y ≡ x = cc in rw e refl
drop_at (y ∷ ys) (suc i) x p = rw add-one (rw add-one at (drop_at ys i x p))

-- the i-th field of a document, by its name and its value
pub field_at : (ps : List (List ℕ × Tree)) (i : ℕ) (k : List ℕ) (t : Tree) → option_map (λ (p : List ℕ × Tree). p.0) (slice_get ps i) ≡ Some k → option_map (λ (p : List ℕ × Tree). p.1) (slice_get ps i) ≡ Some t → slice_get ps i ≡ Some (k, t)
field_at [] i k t p q = absurd cc
field_at (x ∷ xs) zero k t p q = let d : x.0 ≡ k = cc in let e : x.1 ≡ t = cc in λ j. Some (d j, e j)
field_at (x ∷ xs) (suc i) k t p q = field_at xs i k t p q

-- a turn of a loop over the items: the one at this place is refused, or read
module _ {A B : Type 0} (f : A → Option B) (xs : List A) (i : ℕ) (x : A) (at : slice_get xs i ≡ Some x) (front : List B) (s : Option (List B)) (p : each_from f front (drop i xs) ≡ s) where
  each_step : (f x >>= λ y. each_from f (front ++ y ∷ []) (drop (i + 1) xs)) ≡ s
  each_step = ap (each_from f front) (sym (drop_at xs i x at)) ∙ p

  pub each_fails : (e : FormError) → Refuses e (f x) → Refuses e s
  each_fails e h = stays e (f x) (λ y. each_from f (front ++ y ∷ []) (drop (i + 1) xs)) s each_step h

  pub each_goes : (y : B) → f x ≡ Some y → each_from f (front ++ y ∷ []) (drop (i + 1) xs) ≡ s
  each_goes y h = ap (λ (o : Option B). o >>= λ z. each_from f (front ++ z ∷ []) (drop (i + 1) xs)) (sym h) ∙ each_step

-- a list behind another
pub each_append : {A B : Type 0} (f : A → Option B) (front : List B) (xs ys : List A) → each_from f front (xs ++ ys) ≡ (each_from f front xs >>= λ more. each_from f more ys)
each_append f front [] ys = refl
each_append f front (x ∷ xs) ys = elim (f x) as (λ o. (o >>= λ y. each_from f (front ++ y ∷ []) (xs ++ ys)) ≡ ((o >>= λ y. each_from f (front ++ y ∷ []) xs) >>= λ more. each_from f more ys)) [ None ↦ refl | Some y ↦ each_append f (front ++ y ∷ []) xs ys ]

-- what is read, item by item
module _ {A B : Type 0} (f : A → Option B) (Is : A → B → Type 0) where
  pub each_found : ((x : A) (y : B) → f x ≡ Some y → Is x y) → (front : List B) (xs : List A) (ys : List B) → each_from f front xs ≡ Some ys → (zs : List B) × (front ++ zs ≡ ys) × Pairwise Is xs zs
  each_found h front [] ys e = ([], append-nil front ∙ some_same front ys e, tt)
  each_found h front (x ∷ xs) ys e =
      let p = bind_some (f x) (λ y. each_from f (front ++ y ∷ []) xs) ys e in
      let r = each_found h (front ++ p.0 ∷ []) xs ys p.2 in
      (p.0 ∷ r.0, sym (append_assoc front (p.0 ∷ []) r.0) ∙ r.1, (h x p.0 p.1, r.2))

  pub each_only : ((x : A) (y : B) → Is x y → f x ≡ Some y) → (front : List B) (xs : List A) (ys : List B) → Pairwise Is xs ys → each_from f front xs ≡ Some (front ++ ys)
  each_only h front [] [] p = ap Some (sym (append-nil front))
  each_only h front [] (y ∷ ys) p = absurd p
  each_only h front (x ∷ xs) [] p = absurd p
  each_only h front (x ∷ xs) (y ∷ ys) p =
      ap (λ (o : Option B). o >>= λ z. each_from f (front ++ z ∷ []) xs) (h x y p.0) ∙ each_only h (front ++ y ∷ []) xs ys p.1 ∙ ap Some (append_assoc front (y ∷ []) ys)

  pub each_found_all : ((x : A) (y : B) → f x ≡ Some y → Is x y) → (xs : List A) (ys : List B) → each_from f [] xs ≡ Some ys → Pairwise Is xs ys
  each_found_all h xs ys e = let r = each_found h [] xs ys e in rw r.1 at r.2
