-- Documents of one field or two, and arrays of two items, by their lengths.
use Rattle.std.proofs.Common.{◌≡◌, ◌≢◌, ℕ, List, [], ◌∷◌, length, refl, sym, arith}
use Rattle.std.specs.Prelude.{Option, Some, None, slice_get}
use Rattle.std.specs.Option.{option_map}
use Rattle.bson_value.specs.Tree.{Tree}
use Rattle.expr_tree.specs.Spells.{Fields}
use Rattle.join_forms.specs.Reading.{one_field, two_fields, two_items}

abbrev name_at : Fields → ℕ → Option (List ℕ)
name_at ps i = option_map (λ (p : List ℕ × Tree). p.0) (slice_get ps i)

abbrev tree_at : Fields → ℕ → Option Tree
tree_at ps i = option_map (λ (p : List ℕ × Tree). p.1) (slice_get ps i)

none_of : {P : Type 0} {A : Type 0} (x : A) → None ≡ Some x → P
none_of x e = absurd cc

inside : {A : Type 0} (x y : A) → Some x ≡ Some y → x ≡ y
inside x y e = cc

pub is_one : (ps : Fields) (k : List ℕ) (t : Tree) → length ps ≡ 1 → name_at ps 0 ≡ Some k → tree_at ps 0 ≡ Some t → Some (k, t) ≡ one_field ps
is_one [] k t l p q = none_of k p
is_one (f ∷ []) k t l p q = let d = inside f.0 k p in let e = inside f.1 t q in λ i. Some (sym d i, sym e i)
is_one (f ∷ g ∷ ps) k t l p q = absurd (let z : ⊥ = omega (arith, l) in z)

pub is_not_one : (ps : Fields) → ¬ (length ps ≡ 1) → None ≡ one_field ps
is_not_one [] h = refl
is_not_one (f ∷ []) h = absurd (h refl)
is_not_one (f ∷ g ∷ ps) h = refl

pub are_two : (ps : Fields) (k m : List ℕ) (t u : Tree) → length ps ≡ 2 → name_at ps 0 ≡ Some k → tree_at ps 0 ≡ Some t → name_at ps 1 ≡ Some m → tree_at ps 1 ≡ Some u → Some ((k, t), (m, u)) ≡ two_fields ps
are_two [] k m t u l p q r s = none_of k p
are_two (f ∷ []) k m t u l p q r s = none_of m r
are_two (f ∷ g ∷ []) k m t u l p q r s =
    let a = inside f.0 k p in let b = inside f.1 t q in let c = inside g.0 m r in let d = inside g.1 u s in λ i. Some ((sym a i, sym b i), (sym c i, sym d i))
are_two (f ∷ g ∷ h ∷ ps) k m t u l p q r s = absurd (let z : ⊥ = omega (arith, l) in z)

pub are_not_two : (ps : Fields) → ¬ (length ps ≡ 2) → None ≡ two_fields ps
are_not_two [] h = refl
are_not_two (f ∷ []) h = refl
are_not_two (f ∷ g ∷ []) h = absurd (h refl)
are_not_two (f ∷ g ∷ k ∷ ps) h = refl

pub items_are_two : (ts : List Tree) (t u : Tree) → length ts ≡ 2 → slice_get ts 0 ≡ Some t → slice_get ts 1 ≡ Some u → Some (t, u) ≡ two_items ts
items_are_two [] t u l p q = none_of t p
items_are_two (a ∷ []) t u l p q = none_of u q
items_are_two (a ∷ b ∷ []) t u l p q = let c = inside a t p in let d = inside b u q in λ i. Some (sym c i, sym d i)
items_are_two (a ∷ b ∷ c ∷ ts) t u l p q = absurd (let z : ⊥ = omega (arith, l) in z)

pub items_are_not_two : (ts : List Tree) → ¬ (length ts ≡ 2) → None ≡ two_items ts
items_are_not_two [] h = refl
items_are_not_two (a ∷ []) h = refl
items_are_not_two (a ∷ b ∷ []) h = absurd (h refl)
items_are_not_two (a ∷ b ∷ c ∷ ts) h = refl
