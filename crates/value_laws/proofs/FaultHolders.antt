-- What is wrong with a document or list, and what a reader says of it.
use Rattle.std.proofs.Common.{◌≡◌, ◌≢◌, ℕ, ◌+◌, ◌^◌, ◌<◌, ◌≤◌, true, false, List, [], ◌∷◌, ◌++◌, length, Result, Ok, Err, refl, sym, ap, subst, ◌∙◌, append-nil, arith, inl, inr, length-append}
use Rattle.std.specs.Prelude.{◌⊎◌, ◌==◌}
use Rattle.std.proofs.lemmas.Bool.Decides.{nat_tests}
use Rattle.bson_value.specs.Proper.{AreBytes}
use Rattle.bson_value.specs.Tree.{Tree}
use Rattle.bson_value.specs.declared.bad.BadBson.{BadBson}
use Rattle.bson_value.specs.declared.bad.BadWhy.{BadWhy}
use Rattle.bson_value.specs.declared.bad.BadWhy.TheVariants.{BadLength}
use Rattle.bson_codec.specs.Reading.{◌>>=◌, bad, Frame, frame_at, ended}
use Rattle.bson_codec.specs.declared.kind.Kind.{Kind}
use Rattle.bson_codec.proofs.Heads.{AreBytes-behind}
use Rattle.value_laws.specs.Faults.{Fault, elements_of, IsFrame, IsGood as IsGoodTree, IsBadElement, IsBadHolder}
use Rattle.value_laws.specs.Faults.IsBadHolder.{bad_length, bad_element, no_end}
use Rattle.value_laws.proofs.FaultFrames.{length_fails, frame_is, length_decided}
use Rattle.value_laws.proofs.FaultElements.{some_left}
use Rattle.value_laws.proofs.FaultLoops.{IsLoop, IsTaken, passes, stops_at, IsFound, AreRead, run_decided, AreBytes-front}

-- how elements of a kind of document or list are read and spelled
pub record IsHeld {X : Type 0} (whole : List X → Tree) (text : List X → X → List ℕ) (step : List X → ℕ → List ℕ → Result (X × List ℕ) BadBson) (run : ℕ → List X → ℕ → List ℕ → Result (List X) BadBson) (IsGood : List X → Type 0) (of_value : Kind → ℕ → List ℕ → Fault → Type 0) (levels : ℕ) (k : Kind) : Type 0 where
  pub loop : IsLoop whole text step run
  pub none : IsGood []
  pub front : (before : List X) (x : X) → IsGood (before ++ x ∷ []) → IsGood before
  pub again : (before : List X) (x : X) (at : ℕ) (rest : List ℕ) → IsGood (before ++ x ∷ []) → length (elements_of (whole (before ++ x ∷ []))) < 2 ^ 31 → step before at (text before x ++ rest) ≡ Ok (x, rest)
  pub takes : (before : List X) (at : ℕ) (bytes : List ℕ) (p : X × List ℕ) → AreBytes bytes → IsGood before → step before at bytes ≡ Ok p → IsTaken IsGood text before bytes p
  pub fails : (before : List X) (at : ℕ) (left : List ℕ) (f : Fault) → IsBadElement of_value (whole before) at left f → step before at left ≡ Err f.bad
  pub decides : (before : List X) (at : ℕ) (left : List ℕ) → AreBytes left → 0 < length left → ((f : Fault) × IsBadElement of_value (whole before) at left f) ⊎ ((p : X × List ℕ) × (step before at left ≡ Ok p))
  pub parts : (done : Tree) → IsGoodTree levels k done → (xs : List X) × (whole xs ≡ done) × IsGood xs
  pub makes : (xs : List X) → IsGood xs → IsGoodTree levels k (whole xs)

module _ {X : Type 0} (whole : List X → Tree) (text : List X → X → List ℕ) (step : List X → ℕ → List ℕ → Result (X × List ℕ) BadBson) (run : ℕ → List X → ℕ → List ℕ → Result (List X) BadBson) (IsGood : List X → Type 0) (of_value : Kind → ℕ → List ℕ → Fault → Type 0) (levels : ℕ) (k : Kind) (held : IsHeld whole text step run IsGood of_value levels k) (early : BadWhy) (most at : ℕ) (left : List ℕ) where
  abbrev in_frame : Result Frame BadBson → Result (List X × List ℕ) BadBson
  in_frame r = r >>= λ f. run (length f.body) [] (at + 4) f.body >>= λ xs. ended at f xs

  abbrev pub hold : Result (List X × List ℕ) BadBson
  hold = in_frame (frame_at early most at left)

  abbrev in_body : (body : List ℕ) (last : ℕ) (after : List ℕ) → Result (List X) BadBson → Result (List X × List ℕ) BadBson
  in_body body last after r = r >>= λ xs. (let f : Frame = record { body = body; last = last; after = after } in ended at f xs)

  hold_is : (body : List ℕ) (last : ℕ) (h : IsFrame most left body last) (r : Result (List X) BadBson) → run (length body) [] (at + 4) body ≡ r → hold ≡ in_body body last h.told.after r
  hold_is body last h r e = ap in_frame (frame_is early most at left body last h) ∙ ap (in_body body last h.told.after) e

  -- good elements are passed
  passed : (body : List ℕ) (last : ℕ) (xs : List X) (next : List ℕ) → IsFrame most left body last → IsGood xs → elements_of (whole xs) ++ next ≡ body
      → (m : ℕ) × (length next ≤ m) × (run (length body) [] (at + 4) body ≡ run m xs (at + 4 + length (elements_of (whole xs))) next)
  passed body last xs next h good e =
      let size : length body ≡ length (elements_of (whole xs)) + length next = ap length (sym e) ∙ length-append (elements_of (whole xs)) next in
      let p = passes whole text step run held.loop IsGood held.again held.front xs (length body) (at + 4) next good (omega (arith, size, h.not_negative)) (omega (arith, ap length e)) in
      (p.0, p.1, ap (run (length body) [] (at + 4)) (sym e) ∙ p.2)

  element_wrong : (body : List ℕ) (last : ℕ) (xs : List X) (next : List ℕ) (f : Fault) → IsFrame most left body last → IsGood xs → elements_of (whole xs) ++ next ≡ body
      → IsBadElement of_value (whole xs) (at + 4 + length (elements_of (whole xs))) next f → hold ≡ Err f.bad
  element_wrong body last xs next f h good e w =
      let p = passed body last xs next h good e in
      let stop = stops_at whole text step run held.loop IsGood of_value p.0 xs (at + 4 + length (elements_of (whole xs))) next f.bad p.1 (some_left of_value (whole xs) (at + 4 + length (elements_of (whole xs))) next f w) (held.fails xs (at + 4 + length (elements_of (whole xs))) next f w) in
      hold_is body last h (Err f.bad) (p.2 ∙ stop)

  read_whole : (body : List ℕ) (last : ℕ) (xs : List X) → IsFrame most left body last → IsGood xs → elements_of (whole xs) ≡ body → run (length body) [] (at + 4) body ≡ Ok xs
  read_whole body last xs h good e =
      let p = passed body last xs [] h good (append-nil (elements_of (whole xs)) ∙ e) in
      p.2 ∙ held.loop.stops p.0 xs (at + 4 + length (elements_of (whole xs)))

  end_wrong : (body : List ℕ) (last : ℕ) (xs : List X) → IsFrame most left body last → run (length body) [] (at + 4) body ≡ Ok xs → last ≢ 0 → hold ≡ bad (at + 4 + length body) BadLength
  end_wrong body last xs h e ne =
      let t : (last == 0) ≡ false = grind (arith, nat_tests) in
      let place : at + length body + 4 ≡ at + 4 + length body = omega arith in
      hold_is body last h (Ok xs) e ∙ rw t (ap (λ (p : ℕ). bad p BadLength) place)

  -- a document or list with something wrong isn't read
  pub hold_fails : (f : Fault) → IsBadHolder of_value levels k early most at left f → hold ≡ Err f.bad
  hold_fails f (bad_length why seen h w) = ap in_frame (length_fails early most at left why seen h) ∙ ap (λ (g : Fault). Err g.bad) w
  hold_fails f (bad_element body last done next h good e w) =
      let m = held.parts done good in
      element_wrong body last m.0 next f h m.2 (subst (λ (t : Tree). elements_of t ++ next ≡ body) (sym m.1) e)
      (subst (λ (t : Tree). IsBadElement of_value t (at + 4 + length (elements_of t)) next f) (sym m.1) w)
  hold_fails f (no_end body last done h good e ne w) =
      let m = held.parts done good in
      end_wrong body last m.0 h (read_whole body last m.0 h m.2 (subst (λ (t : Tree). elements_of t ≡ body) (sym m.1) e)) ne ∙ ap (λ (g : Fault). Err g.bad) w

  abbrev Outcome : Type 0
  Outcome = ((f : Fault) × IsBadHolder of_value levels k early most at left f) ⊎ ((r : List X × List ℕ) × (hold ≡ Ok r))

  found : (body : List ℕ) (last : ℕ) (f : Fault) → IsFrame most left body last → IsFound whole text step run held.loop IsGood of_value (at + 4) body f → Outcome
  found body last f h w = inl (f, bad_element body last (whole w.done) w.next h (held.makes w.done w.good) w.parts w.bad)

  read_all : (body : List ℕ) (last : ℕ) → IsFrame most left body last → AreRead whole text step run held.loop IsGood of_value body (run (length body) [] (at + 4) body) → Outcome
  read_all body last h r =
      elim (last == 0) as (λ t. (last == 0) ≡ t → Outcome) [
        | true ↦ λ t. inr ((r.done, h.told.after), hold_is body last h (Ok r.done) r.read ∙ rw t refl)
        | false ↦ λ t. inl (_, no_end body last (whole r.done) h (held.makes r.done r.good) r.parts (grind (arith, nat_tests)) refl)
      ] refl

  framed_decided : (body : List ℕ) (last : ℕ) → AreBytes left → IsFrame most left body last → Outcome
  framed_decided body last fits h =
      let all : AreBytes (h.told.field ++ (body ++ last ∷ h.told.after)) = subst AreBytes (sym h.told.parts) fits in
      let within : AreBytes body = AreBytes-front body (last ∷ h.told.after) (AreBytes-behind h.told.field (body ++ last ∷ h.told.after) all) in
      let z : at + 4 ≡ at + 4 + length (elements_of (whole [])) = omega (arith, ap length held.loop.none) in
      elim (run_decided whole text step run held.loop IsGood of_value held.takes held.decides (at + 4) body (length body) [] (at + 4) body z (ap (λ (l : List ℕ). l ++ body) held.loop.none) (omega arith) within held.none) [
        | inl f ↦ found body last f.0 h f.1
        | inr r ↦ read_all body last h r
      ]

  -- of a document or list something is wrong, or it is read
  pub hold_decided : AreBytes left → Outcome
  hold_decided fits =
      elim (length_decided early most at left) [
        | inl w ↦ inl (_, bad_length w.0 w.1 w.2 refl)
        | inr f ↦ framed_decided f.0 f.1 fits f.2
      ]
