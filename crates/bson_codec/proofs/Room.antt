-- What is left of a number of bytes.
use Rattle.std.proofs.Common.{◌≡◌, ℕ, ◌+◌, ◌-◌, ◌<◌, ◌≤◌, true, false, refl, sym, ap, ◌∙◌, arith, inl, inr}
use Rattle.std.specs.Prelude.{Option, Some, None, nat_le}
use Rattle.std.proofs.lemmas.Bool.{cases_lt}
use Rattle.std.proofs.lemmas.Bool.Decides.{nat_tests}
use Rattle.bson_codec.specs.Writing.{less}

le_yes : (n room : ℕ) → n ≤ room → nat_le n room ≡ true
le_yes n room h = grind (arith, nat_tests)

le_no : (n room : ℕ) → room < n → nat_le n room ≡ false
le_no n room h = grind (arith, nat_tests)

-- taken, where there is room
pub less_some : (room n : ℕ) → n ≤ room → less room n ≡ Some (room - n)
less_some room n h = rw (le_yes n room h) refl

pub less_none : (room n : ℕ) → room < n → less room n ≡ None
less_none room n h = rw (le_no n room h) refl

some_is : (a b : ℕ) → (let f : ℕ → Option ℕ = λ x. Some x in f a ≡ f b) → a ≡ b
some_is a b e = cc

-- there was room for what was taken
pub taken : (room n left : ℕ) → less room n ≡ Some left → (n ≤ room) × (left ≡ room - n)
taken room n left e =
    elim (cases_lt room n) [
      | inl lt ↦ let f = less_none room n lt in absurd cc
      | inr le ↦ let f = less_some room n le in (le, some_is left (room - n) cc)
    ]

pub refused : (room n : ℕ) → less room n ≡ None → room < n
refused room n e =
    elim (cases_lt room n) [
      | inl lt ↦ lt
      | inr le ↦ let f = less_some room n le in absurd cc
    ]

-- what is taken then is taken of what is left
pub less_less : (room n left m : ℕ) → less room n ≡ Some left → less left m ≡ less room (n + m)
less_less room n left m e =
    let t = taken room n left e in
    elim (cases_lt room (n + m)) [
      | inl lt ↦ less_none left m (omega (arith, t.1)) ∙ sym (less_none room (n + m) lt)
      | inr le ↦ less_some left m (omega (arith, t.1)) ∙ ap (λ (k : ℕ). Some k) (omega (arith, t.1)) ∙ sym (less_some room (n + m) le)
    ]

pub none_more : (room n m : ℕ) → less room n ≡ None → n ≤ m → less room m ≡ None
none_more room n m e le = less_none room m (omega (arith, refused room n e))

-- an element was taken, and what follows it is left to take
pub goes_on : (room n whole rest left : ℕ) (total : Option ℕ) → less room n ≡ Some left → whole ≡ n + rest → less room whole ≡ total → less left rest ≡ total
goes_on room n whole rest left total took size h = less_less room n left rest took ∙ ap (less room) (sym size) ∙ h

pub ends : (room n whole rest : ℕ) (total : Option ℕ) → less room n ≡ None → whole ≡ n + rest → less room whole ≡ total → total ≡ None
ends room n whole rest total none size h = sym h ∙ none_more room n whole none (omega (arith, size))
