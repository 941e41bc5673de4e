-- Elements read one after the other: what is wrong with the first that isn't good.
use Rattle.std.proofs.Common.{◌≡◌, ℕ, zero, suc, ◌+◌, ◌-◌, ◌^◌, ◌<◌, ◌≤◌, List, [], ◌∷◌, ◌++◌, length, Result, Ok, Err, sym, ap, subst, ◌∙◌, append_assoc, append-nil, arith, inl, inr, length-append}
use Rattle.std.specs.Prelude.{◌⊎◌}
use Rattle.bson_value.specs.Proper.{AreBytes}
use Rattle.bson_value.specs.Tree.{Tree}
use Rattle.bson_value.specs.declared.bad.BadBson.{BadBson}
use Rattle.bson_codec.specs.Reading.{◌>>=◌}
use Rattle.bson_codec.specs.declared.kind.Kind.{Kind}
use Rattle.value_laws.specs.Faults.{Fault, elements_of, IsBadElement}

-- by one more at the end
module _ {X : Type 0} (P : List X → Type 0) (more : (before : List X) (x : X) → P before → P (before ++ x ∷ [])) where
  from_front : (before xs : List X) → P before → P (before ++ xs)
  from_front before [] h = subst P (sym (append-nil before)) h
  from_front before (x ∷ xs) h = subst P (append_assoc before (x ∷ []) xs) (from_front (before ++ x ∷ []) xs (more before x h))

  pub one_by_one : P [] → (xs : List X) → P xs
  one_by_one none xs = from_front [] xs none

pub AreBytes-front : (a b : List ℕ) → AreBytes (a ++ b) → AreBytes a
AreBytes-front [] b h i = omega arith
AreBytes-front (x ∷ a) b h zero = h 0
AreBytes-front (x ∷ a) b h (suc i) = AreBytes-front a b (λ j. h (suc j)) i

-- how elements of a document or list are read, behind those before them
pub record IsLoop {X : Type 0} (whole : List X → Tree) (text : List X → X → List ℕ) (step : List X → ℕ → List ℕ → Result (X × List ℕ) BadBson) (run : ℕ → List X → ℕ → List ℕ → Result (List X) BadBson) : Type 0 where
  pub stops : (n : ℕ) (before : List X) (at : ℕ) → run n before at [] ≡ Ok before
  pub goes : (n : ℕ) (before : List X) (at b : ℕ) (bytes : List ℕ) → run (suc n) before at (b ∷ bytes) ≡ (step before at (b ∷ bytes) >>= λ p. run n (before ++ p.0 ∷ []) (at + (length (b ∷ bytes) - length p.1)) p.1)
  pub none : elements_of (whole []) ≡ []
  pub more : (before : List X) (x : X) → elements_of (whole (before ++ x ∷ [])) ≡ elements_of (whole before) ++ text before x
  pub some : (before : List X) (x : X) → 0 < length (text before x)

-- what one that was read is
pub record IsTaken {X : Type 0} (IsGood : List X → Type 0) (text : List X → X → List ℕ) (before : List X) (bytes : List ℕ) (p : X × List ℕ) : Type 0 where
  pub parts : text before p.0 ++ p.1 ≡ bytes
  pub good : IsGood (before ++ p.0 ∷ [])
  pub rest : AreBytes p.1

module _ {X : Type 0} (whole : List X → Tree) (text : List X → X → List ℕ) (step : List X → ℕ → List ℕ → Result (X × List ℕ) BadBson) (run : ℕ → List X → ℕ → List ℕ → Result (List X) BadBson) (loop : IsLoop whole text step run) (IsGood : List X → Type 0) where
  abbrev spelled : List X → List ℕ
  spelled xs = elements_of (whole xs)

  module _ (again : (before : List X) (x : X) (at : ℕ) (rest : List ℕ) → IsGood (before ++ x ∷ []) → length (spelled (before ++ x ∷ [])) < 2 ^ 31 → step before at (text before x ++ rest) ≡ Ok (x, rest)) (front : (before : List X) (x : X) → IsGood (before ++ x ∷ []) → IsGood before) where
    steps : (n : ℕ) (before : List X) (at : ℕ) (x : X) (bytes rest : List ℕ) → 0 < length bytes → length bytes ≤ n → length rest < length bytes → step before at bytes ≡ Ok (x, rest)
        → (m : ℕ) × (length rest ≤ m) × (run n before at bytes ≡ run m (before ++ x ∷ []) (at + (length bytes - length rest)) rest)
    steps n before at x [] rest nonempty le shorter e = absurd (omega arith)
    steps zero before at x (b ∷ bytes) rest nonempty le shorter e = absurd (omega arith)
    steps (suc n) before at x (b ∷ bytes) rest nonempty le shorter e =
        (n, omega (arith, le, shorter), loop.goes n before at b bytes ∙ ap (λ (r : Result (X × List ℕ) BadBson). r >>= λ p. run n (before ++ p.0 ∷ []) (at + (length (b ∷ bytes) - length p.1)) p.1) e)

    abbrev Passes : List X → Type 0
    Passes xs = (n start : ℕ) (next : List ℕ) → IsGood xs → length (spelled xs) < 2 ^ 31 → length (spelled xs ++ next) ≤ n
        → (m : ℕ) × (length next ≤ m) × (run n [] start (spelled xs ++ next) ≡ run m xs (start + length (spelled xs)) next)

    passes_none : Passes []
    passes_none n start next good small le =
        let e : spelled [] ++ next ≡ next = ap (λ (l : List ℕ). l ++ next) loop.none in
        let z : start ≡ start + length (spelled []) = omega (arith, ap length loop.none) in
        (n, omega (arith, le, ap length e), ap (run n [] start) e ∙ ap (λ (k : ℕ). run n [] k next) z)

    pushed : (before : List X) (x : X) (next : List ℕ) → spelled (before ++ x ∷ []) ++ next ≡ spelled before ++ (text before x ++ next)
    pushed before x next = ap (λ (l : List ℕ). l ++ next) (loop.more before x) ∙ append_assoc (spelled before) (text before x) next

    pushed_length : (before : List X) (x : X) → length (spelled (before ++ x ∷ [])) ≡ length (spelled before) + length (text before x)
    pushed_length before x = ap length (loop.more before x) ∙ length-append (spelled before) (text before x)

    passes_step : (m start : ℕ) (before : List X) (x : X) (next : List ℕ) → IsGood (before ++ x ∷ []) → length (spelled (before ++ x ∷ [])) < 2 ^ 31 → length (text before x ++ next) ≤ m
        → (k : ℕ) × (length next ≤ k) × (run m before (start + length (spelled before)) (text before x ++ next) ≡ run k (before ++ x ∷ []) (start + length (spelled (before ++ x ∷ []))) next)
    passes_step m start before x next good small le =
        let lengths : length (text before x ++ next) ≡ length (text before x) + length next = length-append (text before x) next in
        let nonempty : 0 < length (text before x) = loop.some before x in
        let place : start + length (spelled before) + (length (text before x ++ next) - length next) ≡ start + length (spelled (before ++ x ∷ [])) = omega (arith, pushed_length before x, lengths) in
        let s = steps m before (start + length (spelled before)) x (text before x ++ next) next (omega (arith, lengths, nonempty)) le (omega (arith, lengths, nonempty)) (again before x (start + length (spelled before)) next good small) in
        (s.0, s.1, s.2 ∙ ap (λ (p : ℕ). run s.0 (before ++ x ∷ []) p next) place)

    passes_on : (n m start : ℕ) (before : List X) (x : X) (next : List ℕ) → IsGood (before ++ x ∷ []) → length (spelled (before ++ x ∷ [])) < 2 ^ 31 → length (text before x ++ next) ≤ m
        → run n [] start (spelled before ++ (text before x ++ next)) ≡ run m before (start + length (spelled before)) (text before x ++ next)
        → (k : ℕ) × (length next ≤ k) × (run n [] start (spelled (before ++ x ∷ []) ++ next) ≡ run k (before ++ x ∷ []) (start + length (spelled (before ++ x ∷ []))) next)
    passes_on n m start before x next good small le e =
        let s = passes_step m start before x next good small le in
        (s.0, s.1, ap (run n [] start) (pushed before x next) ∙ e ∙ s.2)

    passes_more : (before : List X) (x : X) → Passes before → Passes (before ++ x ∷ [])
    passes_more before x pass n start next good small le =
        let p = pass n start (text before x ++ next) (front before x good) (omega (arith, pushed_length before x, small)) (omega (arith, ap length (pushed before x next), le)) in
        passes_on n p.0 start before x next good small p.1 p.2

    -- good elements are read
    pub passes : (xs : List X) → Passes xs
    passes = one_by_one Passes passes_more passes_none

  module _ (of_value : Kind → ℕ → List ℕ → Fault → Type 0) where
    abbrev IsBad : List X → ℕ → List ℕ → Fault → Type 0
    IsBad before at left f = IsBadElement of_value (whole before) at left f

    pub stops_at : (n : ℕ) (before : List X) (at : ℕ) (left : List ℕ) (b : BadBson) → length left ≤ n → 0 < length left → step before at left ≡ Err b → run n before at left ≡ Err b
    stops_at n before at [] b le nonempty e = absurd (omega arith)
    stops_at zero before at (c ∷ left) b le nonempty e = absurd (omega arith)
    stops_at (suc n) before at (c ∷ left) b le nonempty e = loop.goes n before at c left ∙ ap (λ (r : Result (X × List ℕ) BadBson). r >>= λ p. run n (before ++ p.0 ∷ []) (at + (length (c ∷ left) - length p.1)) p.1) e

    -- the first bad element of all, or all that were read
    pub record IsFound (start : ℕ) (all : List ℕ) (f : Fault) : Type 0 where
      pub done : List X
      pub next : List ℕ
      pub parts : spelled done ++ next ≡ all
      pub good : IsGood done
      pub bad : IsBad done (start + length (spelled done)) next f

    pub record AreRead (all : List ℕ) (r : Result (List X) BadBson) : Type 0 where
      pub done : List X
      pub parts : spelled done ≡ all
      pub good : IsGood done
      pub read : r ≡ Ok done

    module _ (takes : (before : List X) (at : ℕ) (bytes : List ℕ) (p : X × List ℕ) → AreBytes bytes → IsGood before → step before at bytes ≡ Ok p → IsTaken IsGood text before bytes p) (decides : (before : List X) (at : ℕ) (left : List ℕ) → AreBytes left → 0 < length left → ((f : Fault) × IsBad before at left f) ⊎ ((p : X × List ℕ) × (step before at left ≡ Ok p))) (start : ℕ) (all : List ℕ) where
      abbrev Outcome : Result (List X) BadBson → Type 0
      Outcome r = ((f : Fault) × IsFound start all f) ⊎ AreRead all r

      pub run_decided : (n : ℕ) (before : List X) (at : ℕ) (left : List ℕ) → at ≡ start + length (spelled before) → spelled before ++ left ≡ all → length left ≤ n → AreBytes left → IsGood before → Outcome (run n before at left)
      run_decided n before at [] place parts le fits good = inr (record { done = before; parts = sym (append-nil (spelled before)) ∙ parts; good = good; read = loop.stops n before at })
      run_decided zero before at (c ∷ left) place parts le fits good = absurd (omega arith)
      run_decided (suc n) before at (c ∷ left) place parts le fits good =
          elim (decides before at (c ∷ left) fits (omega arith)) [
            | inl h ↦ inl (h.0, record { done = before; next = c ∷ left; parts = parts; good = good; bad = subst (λ (k : ℕ). IsBad before k (c ∷ left) h.0) place h.1 })
            | inr h ↦
                let t = takes before at (c ∷ left) h.0 fits good h.1 in
                let lengths : length (c ∷ left) ≡ length (text before h.0.0) + length h.0.1 = ap length (sym t.parts) ∙ length-append (text before h.0.0) h.0.1 in
                let nonempty : 0 < length (text before h.0.0) = loop.some before h.0.0 in
                let size : length (spelled (before ++ h.0.0 ∷ [])) ≡ length (spelled before) + length (text before h.0.0) = ap length (loop.more before h.0.0) ∙ length-append (spelled before) (text before h.0.0) in
                let e : run (suc n) before at (c ∷ left) ≡ run n (before ++ h.0.0 ∷ []) (at + (length (c ∷ left) - length h.0.1)) h.0.1 = loop.goes n before at c left ∙ ap (λ (r : Result (X × List ℕ) BadBson). r >>= λ p. run n (before ++ p.0 ∷ []) (at + (length (c ∷ left) - length p.1)) p.1) h.1 in
                subst Outcome (sym e) (run_decided n (before ++ h.0.0 ∷ []) (at + (length (c ∷ left) - length h.0.1)) h.0.1
                (omega (arith, place, lengths, size))
                (ap (λ (l : List ℕ). l ++ h.0.1) (loop.more before h.0.0) ∙ append_assoc (spelled before) (text before h.0.0) h.0.1 ∙ ap (λ (l : List ℕ). spelled before ++ l) t.parts ∙ parts)
                (omega (arith, lengths, nonempty, le)) t.rest t.good)
          ]
