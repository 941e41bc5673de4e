-- What is wrong with a length, and what a reader says of it.
use Rattle.std.proofs.Common.{◌≡◌, ℕ, suc, ◌+◌, ◌-◌, ◌^◌, ◌<◌, ◌≤◌, Bool, true, false, cond, ltb, List, [], ◌∷◌, ◌++◌, length, get_or, take, drop, Result, Ok, refl, sym, ap, ◌∙◌, append_assoc, arith, inl, inr, length-append, length-drop, take_at, drop_at, lt-ltb, le-ltb}
use Rattle.std.specs.Prelude.{◌⊎◌}
use Rattle.std.proofs.lemmas.Bool.{cases_lt}
use Rattle.std.proofs.Math.Seq.{get_or-append_seam}
use Rattle.bson_value.specs.declared.bad.BadBson.{BadBson}
use Rattle.bson_value.specs.declared.bad.BadWhy.{BadWhy}
use Rattle.bson_value.specs.declared.bad.BadWhy.TheVariants.{BadLength, TooLong}
use Rattle.bson_codec.specs.Reading.{bad, Frame, framing, frame_at}
use Rattle.value_laws.specs.Faults.{told, IsBadLength, IsFrame}
use Rattle.value_laws.specs.Faults.IsBadLength.{cut_off, too_small, too_great, past_end}
use Rattle.value_laws.proofs.FaultFields.{told_is, behind_is, size_is, tells}

module _ (early : BadWhy) (most at : ℕ) where
  framing_fails : (n : ℕ) (rest : List ℕ) (why : BadWhy) → (n < 5) ⊎ (2 ^ 31 ≤ n) → framing early most at n rest ≡ bad at BadLength
  framing_fails n rest why (inl lt) = rw (lt-ltb n 5 lt) refl
  framing_fails n rest why (inr le) =
      let t : ltb (2 ^ 31 - 1) n ≡ true = lt-ltb (2 ^ 31 - 1) n (omega (arith, le)) in
      let t5 : ltb n 5 ≡ false = le-ltb n 5 (omega (arith, le)) in
      rw (t5, t) refl

  framing_great : (n : ℕ) (rest : List ℕ) → 5 ≤ n → n < 2 ^ 31 → most < n → framing early most at n rest ≡ bad at TooLong
  framing_great n rest five small lt =
      let t5 : ltb n 5 ≡ false = le-ltb n 5 five in
      let t : ltb (2 ^ 31 - 1) n ≡ false = le-ltb (2 ^ 31 - 1) n (omega (arith, small)) in
      let tg : ltb most n ≡ true = lt-ltb most n lt in
      rw (t5, t, tg) refl

  framing_past : (n : ℕ) (rest : List ℕ) → 5 ≤ n → n < 2 ^ 31 → n ≤ most → length rest < n - 4 → framing early most at n rest ≡ bad at early
  framing_past n rest five small le lt =
      let t5 : ltb n 5 ≡ false = le-ltb n 5 five in
      let t : ltb (2 ^ 31 - 1) n ≡ false = le-ltb (2 ^ 31 - 1) n (omega (arith, small)) in
      let tg : ltb most n ≡ false = le-ltb most n le in
      let tp : ltb (length rest) (n - 4) ≡ true = lt-ltb (length rest) (n - 4) lt in
      rw (t5, t, tg, tp) refl

  framing_ok : (body after : List ℕ) (last : ℕ) → length body + 5 < 2 ^ 31 → length body + 5 ≤ most
      → framing early most at (length body + 5) (body ++ last ∷ after) ≡ Ok (record { body = body; last = last; after = after })
  framing_ok body after last small le =
      let t5 : ltb (length body + 5) 5 ≡ false = le-ltb (length body + 5) 5 (omega arith) in
      let t : ltb (2 ^ 31 - 1) (length body + 5) ≡ false = le-ltb (2 ^ 31 - 1) (length body + 5) (omega (arith, small)) in
      let tg : ltb most (length body + 5) ≡ false = le-ltb most (length body + 5) le in
      let k4 : (length body + 5) - 4 ≡ suc (length body) = omega arith in
      let k5 : (length body + 5) - 5 ≡ length body = omega arith in
      let tp : ltb (length (body ++ last ∷ after)) (suc (length body)) ≡ false = le-ltb (length (body ++ last ∷ after)) (suc (length body)) (omega (arith, length-append body (last ∷ after))) in
      let front : take (length body) (body ++ last ∷ after) ≡ body = take_at body (last ∷ after) (length body) refl in
      let seam : get_or (body ++ last ∷ after) (length body) 0 ≡ last = get_or-append_seam body last after 0 in
      let tail : body ++ last ∷ after ≡ (body ++ last ∷ []) ++ after = sym (append_assoc body (last ∷ []) after) in
      let behind : drop (suc (length body)) (body ++ last ∷ after) ≡ after = rw tail (drop_at (body ++ last ∷ []) after (suc (length body)) (omega (arith, length-append body (last ∷ [])))) in
      rw (t5, t, tg, k4, k5, tp, front, seam, behind) refl

  module _ (left : List ℕ) where
    abbrev framed_of : Bool → Result Frame BadBson
    framed_of t = cond t (bad at early) (framing early most at (told left) (drop 4 left))

    frame_few : length left < 4 → frame_at early most at left ≡ bad at early
    unfolding frame_at
    frame_few h = ap framed_of (lt-ltb (length left) 4 h)

    frame_told : 4 ≤ length left → frame_at early most at left ≡ framing early most at (told left) (drop 4 left)
    unfolding frame_at
    frame_told h = ap framed_of (le-ltb (length left) 4 h)

    -- with a wrong length nothing is read
    pub length_fails : (why : BadWhy) (seen : ℕ) → IsBadLength early most left why seen → frame_at early most at left ≡ bad at why
    length_fails why seen (cut_off few w n) = frame_few few ∙ ap (λ (v : BadWhy). bad at v) w
    length_fails why seen (too_small four h w n) = frame_told four ∙ framing_fails (told left) (drop 4 left) why h ∙ ap (λ (v : BadWhy). bad at v) w
    length_fails why seen (too_great four five small lt w n) = frame_told four ∙ framing_great (told left) (drop 4 left) five small lt ∙ ap (λ (v : BadWhy). bad at v) w
    length_fails why seen (past_end four five small le lt w n) =
        frame_told four ∙ framing_past (told left) (drop 4 left) five small le (omega (arith, length-drop 4 left, lt, four, five)) ∙ ap (λ (v : BadWhy). bad at v) w

    -- with a good length the frame is read
    pub frame_is : (body : List ℕ) (last : ℕ) (h : IsFrame most left body last) → frame_at early most at left ≡ Ok (record { body = body; last = last; after = h.told.after })
    frame_is body last h =
        frame_told (omega (arith, size_is 5 left body last h.told))
        ∙ ap (λ (n : ℕ). framing early most at n (drop 4 left)) (told_is 5 left body last h.told)
        ∙ ap (framing early most at (length body + 5)) (behind_is 5 left body last h.told)
        ∙ framing_ok body h.told.after last h.not_negative h.not_too_great

    -- a length is wrong or good
    pub length_decided : ((why : BadWhy) × (seen : ℕ) × IsBadLength early most left why seen) ⊎ ((body : List ℕ) × (last : ℕ) × IsFrame most left body last)
    length_decided =
        elim (cases_lt (length left) 4) [
          | inl few ↦ inl (early, 0, cut_off few refl refl)
          | inr four ↦ elim (cases_lt (told left) 5) [
            | inl least ↦ inl (BadLength, 4, too_small four (inl least) refl refl)
            | inr five ↦ elim (cases_lt (told left) (2 ^ 31)) [
              | inr negative ↦ inl (BadLength, 4, too_small four (inr negative) refl refl)
              | inl small ↦ elim (cases_lt most (told left)) [
                | inl great ↦ inl (TooLong, 4, too_great four five small great refl refl)
                | inr le ↦ elim (cases_lt (length left) (told left)) [
                  | inl past ↦ inl (early, 4, past_end four five small le past refl refl)
                  | inr within ↦
                      let t = tells 5 left four five (omega (arith, within, five)) in
                      let size : told left ≡ length (take (told left - 5) (drop 4 left)) + 5 = told_is 5 left (take (told left - 5) (drop 4 left)) (get_or (drop 4 left) (told left - 5) 0) t in
                      inr (_, _, record { told = t; not_negative = omega (arith, size, small); not_too_great = omega (arith, size, le) })
                ]
              ]
            ]
          ]
        ]
