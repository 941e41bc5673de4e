-- What is wrong with a scalar, and what a reader says of it.
use Rattle.std.proofs.Common.{◌≡◌, ◌≢◌, ℕ, zero, suc, ◌+◌, ◌-◌, ◌<◌, ◌≤◌, Bool, true, false, cond, List, [], ◌∷◌, ◌++◌, length, get_or, take, drop, Result, Ok, Err, refl, sym, ap, subst, ◌∙◌, append_assoc, arith, inl, inr, length-append, length-drop, length-take, take-append-drop, take_at, drop_at, lt-ltb, le-ltb, true≢false}
use Rattle.std.specs.Prelude.{◌==◌, ◌⊎◌}
use Rattle.std.specs.Int.{w32, w64, from_le_bytes, cast_signed}
use Rattle.std.specs.Str.{is_utf8, IsUtf8}
use Rattle.std.proofs.lemmas.Bool.{cases_lt, eqb-true}
use Rattle.std.proofs.lemmas.Bool.Decides.{nat_tests}
use Rattle.std.proofs.Math.Seq.{get_or-append_seam}
use Rattle.std.proofs.lemmas.Str.{IsUtf8-from_is_utf8, is_utf8-from_IsUtf8}
use Rattle.bson_value.specs.Tree as T
use Rattle.bson_value.specs.Tree.{Leaf}
use Rattle.bson_value.specs.declared.bad.BadBson.{BadBson}
use Rattle.bson_value.specs.declared.bad.BadWhy.{BadWhy}
use Rattle.bson_value.specs.declared.bad.BadWhy.TheVariants.{BadLength, NotText, BadFlag}
use Rattle.bson_codec.specs.declared.kind.Kind.{Kind}
use Rattle.bson_codec.specs.declared.kind.Kind.TheVariants as K
use Rattle.bson_codec.specs.Reading.{◌>>=◌, bad, front_at, u32_at, u64_at, byte_at, utf8_text, ended_text, text_at, bin_at, flag_of, flag_at, leaf_at}
use Rattle.bson_codec.proofs.Fields.{front_again}
use Rattle.bson_codec.proofs.Utf8.{utf8_ok, utf8_bad}
use Rattle.value_laws.specs.Faults.{told, IsTold, fixed_bytes, IsBadScalar}
use Rattle.value_laws.specs.Faults.IsBadScalar.{cut_off, string_length, binary_length, string_end, string_text, flag_byte}

pub err_is : {A : Type 0} (b c : BadBson) → (let err : BadBson → Result A BadBson = λ x. Err x in err b ≡ err c) → b ≡ c
err_is b c e = cc

pub ok_not_err : {A : Type 0} (x : A) (b : BadBson) → (let ok : A → Result A BadBson = λ y. Ok y in ok x ≡ Err b) → ⊥
ok_not_err x b e = cc

-- what is wrong was found, or it was read
abbrev pub Decided : {A : Type 0} → (BadWhy → ℕ → Type 0) → Result A BadBson → Type 0
Decided {A} IsBad r = ((why : BadWhy) × (seen : ℕ) × IsBad why seen) ⊎ ((x : A) × (r ≡ Ok x))

-- ---- so many bytes

pub front_few : (at n : ℕ) (left : List ℕ) → length left < n → front_at at n left ≡ bad at BadLength
front_few at n left h = rw (lt-ltb (length left) n h) refl

pub front_ok : (at n : ℕ) (left : List ℕ) → n ≤ length left → front_at at n left ≡ Ok (take n left, drop n left)
front_ok at n left h = rw (le-ltb (length left) n h) refl

pub around : (i : ℕ) (l : List ℕ) → i < length l → take i l ++ get_or l i 0 ∷ drop (suc i) l ≡ l
around i [] lt = absurd (omega arith)
around zero (x ∷ l) lt = refl
around (suc i) (x ∷ l) lt = ap (λ (m : List ℕ). x ∷ m) (around i l (omega arith))

-- ---- what a length tells

pub told_is : (more : ℕ) (left body : List ℕ) (last : ℕ) → IsTold more left body last → told left ≡ length body + more
told_is more left body last h =
    ap (λ (l : List ℕ). from_le_bytes w32 (take 4 l)) (sym h.parts) ∙ ap (from_le_bytes w32) (take_at h.field (body ++ last ∷ h.after) 4 h.four) ∙ h.counts

pub behind_is : (more : ℕ) (left body : List ℕ) (last : ℕ) (h : IsTold more left body last) → drop 4 left ≡ body ++ last ∷ h.after
behind_is more left body last h = ap (drop 4) (sym h.parts) ∙ drop_at h.field (body ++ last ∷ h.after) 4 h.four

pub size_is : (more : ℕ) (left body : List ℕ) (last : ℕ) (h : IsTold more left body last) → length left ≡ length body + length h.after + 5
size_is more left body last h = omega (arith, ap length h.parts, length-append h.field (body ++ last ∷ h.after), length-append body (last ∷ h.after), h.four)

pub tells : (more : ℕ) (left : List ℕ) → 4 ≤ length left → more ≤ told left → (told left - more) + 5 ≤ length left
    → IsTold more left (take (told left - more) (drop 4 left)) (get_or (drop 4 left) (told left - more) 0)
tells more left four enough long =
    let lt : told left - more < length (drop 4 left) = omega (arith, length-drop 4 left, long) in
    record {
      field = take 4 left;
      after = drop (suc (told left - more)) (drop 4 left);
      parts = ap (λ (l : List ℕ). take 4 left ++ l) (around (told left - more) (drop 4 left) lt) ∙ take-append-drop 4 left;
      four = omega (arith, length-take 4 left, four);
      counts = omega (arith, length-take (told left - more) (drop 4 left), lt, enough);
    }

-- ---- texts

pub u32_ok : (at : ℕ) (left : List ℕ) → 4 ≤ length left → u32_at at left ≡ Ok (told left, drop 4 left)
u32_ok at left h = rw (front_ok at 4 left h) refl

pub u32_few : (at : ℕ) (left : List ℕ) → length left < 4 → u32_at at left ≡ bad at BadLength
u32_few at left h = rw (front_few at 4 left h) refl

module _ (at : ℕ) (left : List ℕ) where
  text_few : length left < 4 → text_at at left ≡ bad at BadLength
  unfolding text_at
  text_few h = rw (u32_few at left h) refl

  text_told : 4 ≤ length left → text_at at left ≡ ((cond (told left == 0) (bad at BadLength) (front_at at (told left) (drop 4 left))) >>= λ f. ended_text at f.0 f.1)
  unfolding text_at
  text_told h = rw (u32_ok at left h) refl

  text_length : (told left ≡ 0) ⊎ (length left < told left + 4) → text_at at left ≡ bad at BadLength
  text_length h =
      elim (cases_lt (length left) 4) [
        | inl lt ↦ text_few lt
        | inr le ↦ text_told le ∙ (elim h [
          | inl z ↦ rw z refl
          | inr lt ↦
              let few : front_at at (told left) (drop 4 left) ≡ bad at BadLength = front_few at (told left) (drop 4 left) (omega (arith, length-drop 4 left, lt, le)) in
              elim (told left == 0) as (λ t. ((cond t (bad at BadLength) (front_at at (told left) (drop 4 left))) >>= λ f. ended_text at f.0 f.1) ≡ bad at BadLength) [
                | true ↦ refl
                | false ↦ rw few refl
              ]
        ])
      ]

  text_is : (text : List ℕ) (last : ℕ) (h : IsTold 1 left text last) → text_at at left ≡ ended_text at (text ++ last ∷ []) h.after
  text_is text last h =
      let four : 4 ≤ length left = omega (arith, size_is 1 left text last h) in
      let some : (length text + 1 == 0) ≡ false = grind (arith, nat_tests) in
      let regroup : text ++ last ∷ h.after ≡ (text ++ last ∷ []) ++ h.after = sym (append_assoc text (last ∷ []) h.after) in
      let front : front_at at (length text + 1) ((text ++ last ∷ []) ++ h.after) ≡ Ok (text ++ last ∷ [], h.after) = front_again at (length text + 1) (text ++ last ∷ []) h.after (omega (arith, length-append text (last ∷ []))) in
      text_told four
      ∙ ap (λ (n : ℕ). (cond (n == 0) (bad at BadLength) (front_at at n (drop 4 left))) >>= λ f. ended_text at f.0 f.1) (told_is 1 left text last h)
      ∙ ap (λ (t : Bool). (cond t (bad at BadLength) (front_at at (length text + 1) (drop 4 left))) >>= λ f. ended_text at f.0 f.1) some
      ∙ ap (λ (l : List ℕ). front_at at (length text + 1) l >>= λ f. ended_text at f.0 f.1) (behind_is 1 left text last h ∙ regroup)
      ∙ ap (λ (r : Result (List ℕ × List ℕ) BadBson). r >>= λ f. ended_text at f.0 f.1) front

ended_is : (at last : ℕ) (text rest : List ℕ) → ended_text at (text ++ last ∷ []) rest ≡ cond (last == 0) (utf8_text at text >>= λ t. Ok (t, rest)) (bad at BadLength)
ended_is at last text rest =
    let len : length (text ++ last ∷ []) - 1 ≡ length text = omega (arith, length-append text (last ∷ [])) in
    let end : get_or (text ++ last ∷ []) (length text) 0 ≡ last = get_or-append_seam text last [] 0 in
    rw (len, end, take_at text (last ∷ []) (length text) refl) refl

module _ (at : ℕ) (left : List ℕ) where
  text_end : (text : List ℕ) (last : ℕ) → IsTold 1 left text last → last ≢ 0 → text_at at left ≡ bad at BadLength
  text_end text last h ne =
      let t : (last == 0) ≡ false = grind (arith, nat_tests) in
      text_is at left text last h ∙ ended_is at last text h.after ∙ rw t refl

  text_text : (text : List ℕ) → IsTold 1 left text 0 → ¬ IsUtf8 text → text_at at left ≡ bad at NotText
  text_text text h wrong = text_is at left text 0 h ∙ ended_is at 0 text h.after ∙ rw (utf8_bad at text wrong) refl

  text_ok : (text : List ℕ) (h : IsTold 1 left text 0) → IsUtf8 text → text_at at left ≡ Ok (text, h.after)
  text_ok text h right = text_is at left text 0 h ∙ ended_is at 0 text h.after ∙ rw (utf8_ok at text text right refl) refl

  text_of : (text : List ℕ) (last : ℕ) → IsTold 1 left text last → Decided (IsBadScalar K.Text left) (text_at at left)
  text_of text last h =
      elim (last == 0) as (λ t. (last == 0) ≡ t → Decided (IsBadScalar K.Text left) (text_at at left)) [
        | true ↦ λ e. let whole : IsTold 1 left text 0 = subst (IsTold 1 left text) (eqb-true last 0 e) h in
            elim (is_utf8 text) as (λ t. is_utf8 text ≡ t → Decided (IsBadScalar K.Text left) (text_at at left)) [
              | true ↦ λ u. inr ((text, whole.after), text_ok text whole (IsUtf8-from_is_utf8 text u))
              | false ↦ λ u. inl (NotText, length text + 5, string_text text refl whole (λ right. true≢false (sym (is_utf8-from_IsUtf8 text right) ∙ u)) refl refl)
            ] refl
        | false ↦ λ e. inl (BadLength, length text + 5, string_end text last refl h (grind (arith, nat_tests)) refl refl)
      ] refl

  text_decided : Decided (IsBadScalar K.Text left) (text_at at left)
  text_decided =
      elim (cases_lt (length left) 4) [
        | inl few ↦ inl (BadLength, 0, cut_off few refl refl)
        | inr four ↦ elim (cases_lt 0 (told left)) [
          | inr none ↦ inl (BadLength, 4, string_length refl four (inl (omega (arith, none))) refl refl)
          | inl some ↦ elim (cases_lt (length left) (told left + 4)) [
            | inl past ↦ inl (BadLength, 4, string_length refl four (inr past) refl refl)
            | inr within ↦ text_of _ _ (tells 1 left four some (omega (arith, within, some)))
          ]
        ]
      ]

-- ---- binary data and booleans

byte_few : (at : ℕ) (left : List ℕ) → length left < 1 → byte_at at left ≡ bad at BadLength
byte_few at left h = rw (front_few at 1 left h) refl

byte_ok : (at b : ℕ) (after : List ℕ) → byte_at at (b ∷ after) ≡ Ok (b, after)
byte_ok at b after = rw (front_again at 1 (b ∷ []) after refl) refl

some_byte : (left : List ℕ) → 1 ≤ length left → (b : ℕ) × (after : List ℕ) × (b ∷ after ≡ left)
some_byte [] h = absurd (omega arith)
some_byte (b ∷ after) h = (b, after, refl)

module _ (at : ℕ) (left : List ℕ) where
  bin_few : length left < 4 → bin_at at left ≡ bad at BadLength
  unfolding bin_at
  bin_few h = rw (u32_few at left h) refl

  bin_told : 4 ≤ length left → bin_at at left ≡ (byte_at at (drop 4 left) >>= λ k. front_at at (told left) k.1 >>= λ f. Ok ((k.0, f.0), f.1))
  unfolding bin_at
  bin_told h = rw (u32_ok at left h) refl

  bin_kind : 4 ≤ length left → (k : ℕ) (after : List ℕ) → k ∷ after ≡ drop 4 left → bin_at at left ≡ (front_at at (told left) after >>= λ f. Ok ((k, f.0), f.1))
  bin_kind four k after e =
      bin_told four ∙ ap (λ (l : List ℕ). byte_at at l >>= λ k. front_at at (told left) k.1 >>= λ f. Ok ((k.0, f.0), f.1)) (sym e)
      ∙ ap (λ (r : Result (ℕ × List ℕ) BadBson). r >>= λ k. front_at at (told left) k.1 >>= λ f. Ok ((k.0, f.0), f.1)) (byte_ok at k after)

  bin_ok : 4 ≤ length left → (k : ℕ) (after : List ℕ) → k ∷ after ≡ drop 4 left → told left ≤ length after → bin_at at left ≡ Ok ((k, take (told left) after), drop (told left) after)
  bin_ok four k after e le = bin_kind four k after e ∙ ap (λ (r : Result (List ℕ × List ℕ) BadBson). r >>= λ f. Ok ((k, f.0), f.1)) (front_ok at (told left) after le)

  bin_length : length left < told left + 5 → bin_at at left ≡ bad at BadLength
  bin_length h =
      elim (cases_lt (length left) 4) [
        | inl few ↦ bin_few few
        | inr four ↦ elim (cases_lt (length (drop 4 left)) 1) [
          | inl none ↦ bin_told four ∙ ap (λ (r : Result (ℕ × List ℕ) BadBson). r >>= λ k. front_at at (told left) k.1 >>= λ f. Ok ((k.0, f.0), f.1)) (byte_few at (drop 4 left) none)
          | inr some ↦
              let b = some_byte (drop 4 left) some in
              let few : front_at at (told left) b.1 ≡ bad at BadLength = front_few at (told left) b.1 (omega (arith, ap length b.2, length-drop 4 left, h, four)) in
              bin_kind four b.0 b.1 b.2 ∙ ap (λ (r : Result (List ℕ × List ℕ) BadBson). r >>= λ f. Ok ((b.0, f.0), f.1)) few
        ]
      ]

  bin_decided : Decided (IsBadScalar K.Bin left) (bin_at at left)
  bin_decided =
      elim (cases_lt (length left) 5) [
        | inl few ↦ inl (BadLength, 0, cut_off few refl refl)
        | inr five ↦ elim (cases_lt (length left) (told left + 5)) [
          | inl past ↦ inl (BadLength, 4, binary_length refl five past refl refl)
          | inr within ↦
              let b = some_byte (drop 4 left) (omega (arith, length-drop 4 left, five)) in
              inr (_, bin_ok (omega (arith, five)) b.0 b.1 b.2 (omega (arith, ap length b.2, length-drop 4 left, within, five)))
        ]
      ]

  flag_few : length left < 1 → flag_at at left ≡ bad at BadLength
  flag_few h = rw (byte_few at left h) refl

  flag_is : (b : ℕ) (after : List ℕ) → b ∷ after ≡ left → flag_at at left ≡ flag_of at b after
  flag_is b after e = ap (flag_at at) (sym e) ∙ ap (λ (r : Result (ℕ × List ℕ) BadBson). r >>= λ b. flag_of at b.0 b.1) (byte_ok at b after)

  flag_bad : (b : ℕ) (after : List ℕ) → b ∷ after ≡ left → b ≢ 0 → b ≢ 1 → flag_at at left ≡ bad at BadFlag
  flag_bad b after e n0 n1 =
      let t0 : (b == 0) ≡ false = grind (arith, nat_tests) in
      let t1 : (b == 1) ≡ false = grind (arith, nat_tests) in
      flag_is b after e ∙ rw (t0, t1) refl

  flag_byte_of : (b : ℕ) (after : List ℕ) → b ∷ after ≡ left → Decided (IsBadScalar K.Flag left) (flag_at at left)
  flag_byte_of b after e =
      elim (b == 0) as (λ t. (b == 0) ≡ t → Decided (IsBadScalar K.Flag left) (flag_at at left)) [
        | true ↦ λ t0. inr ((false, after), flag_is b after e ∙ rw t0 refl)
        | false ↦ λ t0. elim (b == 1) as (λ t. (b == 1) ≡ t → Decided (IsBadScalar K.Flag left) (flag_at at left)) [
          | true ↦ λ t1. inr ((true, after), flag_is b after e ∙ rw (t0, t1) refl)
          | false ↦ λ t1. inl (BadFlag, 1, flag_byte b after refl e (grind (arith, nat_tests)) (grind (arith, nat_tests)) refl refl)
        ] refl
      ] refl

  flag_decided : Decided (IsBadScalar K.Flag left) (flag_at at left)
  flag_decided =
      elim (cases_lt (length left) 1) [
        | inl few ↦ inl (BadLength, 0, cut_off few refl refl)
        | inr some ↦ let b = some_byte left some in flag_byte_of b.0 b.1 b.2
      ]

-- ---- scalars

leaf_few : (k : Kind) (at : ℕ) (left : List ℕ) → length left < fixed_bytes k → leaf_at k at left ≡ bad at BadLength
unfolding leaf_at
leaf_few K.Text at left h = rw (text_few at left h) refl
leaf_few K.Doc at left h = absurd (omega arith)
leaf_few K.List at left h = absurd (omega arith)
leaf_few K.Bin at left h = rw (bin_length at left (omega arith)) refl
leaf_few K.Id at left h = rw (front_few at 12 left h) refl
leaf_few K.Flag at left h = rw (flag_few at left h) refl
leaf_few K.Date at left h = rw (front_few at 8 left h) refl
leaf_few K.Null at left h = absurd (omega arith)
leaf_few K.Int at left h = rw (front_few at 4 left h) refl
leaf_few K.Stamp at left h = rw (front_few at 8 left h) refl
leaf_few K.Long at left h = rw (front_few at 8 left h) refl
leaf_few K.Least at left h = absurd (omega arith)
leaf_few K.Greatest at left h = absurd (omega arith)

module _ (k : Kind) (at : ℕ) (left : List ℕ) where
  of_kind : (j : Kind) (w why : BadWhy) → j ≡ k → w ≡ why → leaf_at j at left ≡ bad at w → leaf_at k at left ≡ bad at why
  of_kind j w why e f h = subst (λ (i : Kind). leaf_at i at left ≡ bad at why) e (h ∙ ap (λ (v : BadWhy). bad at v) f)

  -- a scalar with something wrong isn't read
  pub leaf_fails : (why : BadWhy) (seen : ℕ) → IsBadScalar k left why seen → leaf_at k at left ≡ bad at why
  unfolding leaf_at
  leaf_fails why seen (cut_off few w n) = leaf_few k at left few ∙ ap (λ (v : BadWhy). bad at v) w
  leaf_fails why seen (string_length e four h w n) = of_kind K.Text BadLength why e w (rw (text_length at left h) refl)
  leaf_fails why seen (binary_length e five h w n) = of_kind K.Bin BadLength why e w (rw (bin_length at left h) refl)
  leaf_fails why seen (string_end text last e h ne w n) = of_kind K.Text BadLength why e w (rw (text_end at left text last h ne) refl)
  leaf_fails why seen (string_text text e h ne w n) = of_kind K.Text NotText why e w (rw (text_text at left text h ne) refl)
  leaf_fails why seen (flag_byte b after e h n0 n1 w n) = of_kind K.Flag BadFlag why e w (rw (flag_bad at left b after h n0 n1) refl)

of_read : {A B : Type 0} (k : Kind) (left : List ℕ) (r : Result A BadBson) (f : A → B) → Decided (IsBadScalar k left) r → Decided (IsBadScalar k left) (r >>= λ x. Ok (f x))
of_read k left r f (inl h) = inl h
of_read k left r f (inr h) = inr (f h.0, rw h.1 refl)

fixed_decided : (k : Kind) (at : ℕ) (left : List ℕ) → Decided (IsBadScalar k left) (front_at at (fixed_bytes k) left)
fixed_decided k at left =
    elim (cases_lt (length left) (fixed_bytes k)) [
      | inl few ↦ inl (BadLength, 0, cut_off few refl refl)
      | inr long ↦ inr ((take (fixed_bytes k) left, drop (fixed_bytes k) left), front_ok at (fixed_bytes k) left long)
    ]

-- of a scalar something is wrong, or it is read; a document or list is none
pub leaf_decided : (k : Kind) (at : ℕ) (left : List ℕ) → Decided (IsBadScalar k left) (leaf_at k at left) ⊎ (K.Doc ≡ k) ⊎ (K.List ≡ k)
unfolding leaf_at
leaf_decided K.Text at left = inl (of_read K.Text left (text_at at left) (λ f. (T.text f.0, f.1)) (text_decided at left))
leaf_decided K.Doc at left = inr (inl refl)
leaf_decided K.List at left = inr (inr refl)
leaf_decided K.Bin at left = inl (of_read K.Bin left (bin_at at left) (λ f. (T.bin f.0.0 f.0.1, f.1)) (bin_decided at left))
leaf_decided K.Id at left = inl (of_read K.Id left (front_at at 12 left) (λ f. (T.id f.0, f.1)) (fixed_decided K.Id at left))
leaf_decided K.Flag at left = inl (of_read K.Flag left (flag_at at left) (λ f. (T.flag f.0, f.1)) (flag_decided at left))
leaf_decided K.Date at left = inl (of_read K.Date left (u64_at at left) (λ f. (T.date (cast_signed w64 f.0), f.1)) (of_read K.Date left (front_at at 8 left) (λ f. (from_le_bytes w64 f.0, f.1)) (fixed_decided K.Date at left)))
leaf_decided K.Null at left = inl (inr ((T.null, left), refl))
leaf_decided K.Int at left = inl (of_read K.Int left (u32_at at left) (λ f. (T.int (cast_signed w32 f.0), f.1)) (of_read K.Int left (front_at at 4 left) (λ f. (from_le_bytes w32 f.0, f.1)) (fixed_decided K.Int at left)))
leaf_decided K.Stamp at left = inl (of_read K.Stamp left (u64_at at left) (λ f. (T.stamp f.0, f.1)) (of_read K.Stamp left (front_at at 8 left) (λ f. (from_le_bytes w64 f.0, f.1)) (fixed_decided K.Stamp at left)))
leaf_decided K.Long at left = inl (of_read K.Long left (u64_at at left) (λ f. (T.long (cast_signed w64 f.0), f.1)) (of_read K.Long left (front_at at 8 left) (λ f. (from_le_bytes w64 f.0, f.1)) (fixed_decided K.Long at left)))
leaf_decided K.Least at left = inl (inr ((T.least, left), refl))
leaf_decided K.Greatest at left = inl (inr ((T.greatest, left), refl))

pub none_of_doc : (left : List ℕ) (why : BadWhy) (seen : ℕ) → IsBadScalar K.Doc left why seen → ⊥
none_of_doc left why seen (cut_off few w n) = omega arith
none_of_doc left why seen (string_length e four h w n) = cc
none_of_doc left why seen (binary_length e five h w n) = cc
none_of_doc left why seen (string_end text last e h ne w n) = cc
none_of_doc left why seen (string_text text e h ne w n) = cc
none_of_doc left why seen (flag_byte b after e h n0 n1 w n) = cc

pub none_of_list : (left : List ℕ) (why : BadWhy) (seen : ℕ) → IsBadScalar K.List left why seen → ⊥
none_of_list left why seen (cut_off few w n) = omega arith
none_of_list left why seen (string_length e four h w n) = cc
none_of_list left why seen (binary_length e five h w n) = cc
none_of_list left why seen (string_end text last e h ne w n) = cc
none_of_list left why seen (string_text text e h ne w n) = cc
none_of_list left why seen (flag_byte b after e h n0 n1 w n) = cc
