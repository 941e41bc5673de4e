-- Outcomes whose value is nested at most so deep.
use Rattle.std.proofs.Common.{◌≡◌, ℕ, ◌<◌, ◌≤◌, List, [], ◌∷◌, refl, arith}
use Rattle.std.specs.Prelude.{Option, Some, None, Ok, Err}
use Rattle.std.specs.Option.{IfSome}
use Rattle.bson_value.specs.Tree.{Tree, Leaf, null, leaf, doc, list, members, entries}
use Rattle.bson_value.specs.Depth.{depth}
use Rattle.bson_value.specs.Operands.{Outcome, Operand, row, both, all, operand_map, array_in, doc_in, null_or, or_null}
use Rattle.bson_value.specs.declared.eval_code.EvalCode.TheVariants.{NotArray, NotDocument}
use Rattle.expr_tree.specs.Rows.{found_depth}
use Rattle.stage_laws.proofs.Inside.{Each, EachField, IsInside, in_members, in_entries}

abbrev pub Fits : ℕ → Outcome → Type 0
Fits n (Ok v) = found_depth v ≤ n
Fits n (Err c) = Unit {0}

pub fits_more : (n m : ℕ) (o : Outcome) → n ≤ m → Fits n o → Fits m o
fits_more n m (Ok v) le h = omega arith
fits_more n m (Err c) le h = tt

pub null_depth : (n : ℕ) (v : Option Tree) → found_depth v ≤ n → depth (or_null v) ≤ n
null_depth n None h = h
null_depth n (Some t) h = h

pub found_inside : (n : ℕ) (v : Option Tree) → IfSome v (IsInside n) → found_depth v ≤ n
found_inside n None h = omega arith
found_inside n (Some t) h = omega arith

-- ---- rows

module _ {A : Type 0} where
  pub row_fits : (n : ℕ) (a : Operand A) (value : A → Outcome) → ((x : A) → a ≡ Ok (Some x) → Fits n (value x)) → Fits n (row a value)
  row_fits n (Err c) value h = tt
  row_fits n (Ok None) value h = omega arith
  row_fits n (Ok (Some x)) value h = h x refl

  -- what doesn't depend on the operand's value
  pub row_any : (n : ℕ) (a : Operand A) (value : A → Outcome) → ((x : A) → Fits n (value x)) → Fits n (row a value)
  row_any n a value h = row_fits n a value (λ x e. h x)

module _ {A B : Type 0} where
  pub both_given : (a : Operand A) (b : Operand B) (p : A × B) → both a b ≡ Ok (Some p) → (a ≡ Ok (Some p.0)) × (b ≡ Ok (Some p.1))
  both_given (Err c) b p e = absurd (cc)
  both_given (Ok x) (Err c) p e = absurd (cc)
  both_given (Ok None) (Ok y) p e = absurd (cc)
  both_given (Ok (Some x)) (Ok None) p e = absurd (cc)
  both_given (Ok (Some x)) (Ok (Some y)) p e = (cc, cc)

  map_given : (f : A → B) (a : Operand A) (y : B) → operand_map f a ≡ Ok (Some y) → (x : A) × (a ≡ Ok (Some x)) × (y ≡ f x)
  map_given f (Err c) y e = absurd (cc)
  map_given f (Ok None) y e = absurd (cc)
  map_given f (Ok (Some x)) y e = (x, refl, cc)

module _ {A : Type 0} (Q : A → Type 0) where
  abbrev pub Reads : Operand A → Type 0
  Reads a = (x : A) → a ≡ Ok (Some x) → Q x

  pub all_given : (os : List (Operand A)) (xs : List A) → Each Reads os → all os ≡ Ok (Some xs) → Each Q xs
  all_given [] xs h e = let s : xs ≡ [] = cc in rw s tt
  all_given (o ∷ os) xs h e =
      let m = map_given (λ (p : A × List A). p.0 ∷ p.1) (both o (all os)) xs e in
      let b = both_given o (all os) m.0 m.1 in
      rw m.2 (h.0 m.0.0 b.0, all_given os m.0.1 h.1 b.1)

-- ---- operands

no_array : (l : Leaf) (ts : List Tree) (P : Type 0) → null_or NotArray l ≡ Ok (Some ts) → P
no_array null ts P e = absurd (cc)
no_array l ts P e = absurd (cc)

no_document : (l : Leaf) (ps : List (List ℕ × Tree)) (P : Type 0) → null_or NotDocument l ≡ Ok (Some ps) → P
no_document null ps P e = absurd (cc)
no_document l ps P e = absurd (cc)

pub array_given : (n : ℕ) (v : Option Tree) (ts : List Tree) → found_depth v ≤ n → array_in v ≡ Ok (Some ts) → (0 < n) × Each (IsInside n) ts
array_given n None ts h e = absurd (cc)
array_given n (Some (leaf l)) ts h e = no_array l ts ((0 < n) × Each (IsInside n) ts) e
array_given n (Some (doc ps)) ts h e = absurd (cc)
array_given n (Some (list us)) ts h e = let s : ts ≡ members us = cc in (omega arith, rw s (in_members n us h))

pub document_given : (n : ℕ) (v : Option Tree) (ps : List (List ℕ × Tree)) → found_depth v ≤ n → doc_in v ≡ Ok (Some ps) → (0 < n) × EachField (IsInside n) ps
document_given n None ps h e = absurd (cc)
document_given n (Some (leaf l)) ps h e = no_document l ps ((0 < n) × EachField (IsInside n) ps) e
document_given n (Some (doc qs)) ps h e = let s : ps ≡ entries qs = cc in (omega arith, rw s (in_entries n qs h))
document_given n (Some (list us)) ps h e = absurd (cc)
