-- What stood there stands yet, behind what was appended.
use Rattle.std.proofs.Common.{◌≡◌, ℕ, ◌+◌, ◌-◌, ◌≤◌, List, [], ◌∷◌, ◌++◌, length, take, drop, refl, sym, ap, ◌∙◌, arith, append_assoc, length-append}
use Rattle.std.specs.Int.{w32, to_le_bytes}
use Rattle.std.proofs.lemmas.List.{take_at, drop_at, take-append-drop, take-append-le, drop-append-le, length-take, length-drop}
use Rattle.bson_codec.specs.Spelling.{framed}
use Rattle.bson_codec.specs.Writing.{Begins}

pub begins_append : (old a : List ℕ) → Begins old (old ++ a)
begins_append old a = take_at old a (length old) refl

pub begins_append2 : (old a b : List ℕ) → Begins old ((old ++ a) ++ b)
begins_append2 old a b = ap (take (length old)) (append_assoc old a b) ∙ begins_append old (a ++ b)

pub begins_trans : (old mid new : List ℕ) → Begins old mid → Begins mid new → Begins old new
begins_trans old mid new h k =
    let le : length old ≤ length mid = omega (arith, ap length h, length-take (length old) mid) in
    ap (take (length old)) (sym (take-append-drop (length mid) new) ∙ ap (λ (l : List ℕ). l ++ drop (length mid) new) k) ∙ take-append-le (length old) mid (drop (length mid) new) le ∙ h

-- a closing 0 behind a body, and the length in its place before it
pub frame_ends : (old : List ℕ) (start n : ℕ) → start + 4 ≤ length old → n ≡ length (old ++ 0 ∷ []) - start
    → take start (old ++ 0 ∷ []) ++ (to_le_bytes w32 n ++ drop (start + 4) (old ++ 0 ∷ [])) ≡ take start old ++ framed (drop (start + 4) old)
frame_ends old start n le e =
    let front : take start (old ++ 0 ∷ []) ≡ take start old = take-append-le start old (0 ∷ []) (omega arith) in
    let back : drop (start + 4) (old ++ 0 ∷ []) ≡ drop (start + 4) old ++ 0 ∷ [] = drop-append-le (start + 4) old (0 ∷ []) le in
    let size : n ≡ length (drop (start + 4) old) + 5 = omega (arith, length-append old (0 ∷ []), length-drop (start + 4) old, le, e) in
    rw (front, back, size) refl

-- four bytes for the length, and a body behind them
pub framed_behind : (old new body : List ℕ) → new ≡ (old ++ 0 ∷ 0 ∷ 0 ∷ 0 ∷ []) ++ body → (take (length old) new ≡ old) × (drop (length old + 4) new ≡ body)
framed_behind old new body e =
    let zeros : List ℕ = 0 ∷ 0 ∷ 0 ∷ 0 ∷ [] in (
      rw e (begins_append2 old (0 ∷ 0 ∷ 0 ∷ 0 ∷ []) body),
      rw e (drop_at (old ++ 0 ∷ 0 ∷ 0 ∷ 0 ∷ []) body (length old + 4) (length-append old (0 ∷ 0 ∷ 0 ∷ 0 ∷ []))),
    )

-- ---- one after the other

-- a head and a value behind what stood there
pub begins_through : (old out out1 out2 a v : List ℕ) → Begins old out → out1 ≡ out ++ a → out2 ≡ out1 ++ v → Begins old out2
begins_through old out out1 out2 a v h b c = begins_trans old out out2 h (rw (c, b) (begins_append2 out a v))

pub begins_until : (old out out1 out2 a : List ℕ) → Begins old out → out1 ≡ out ++ a → Begins out1 out2 → Begins old out2
begins_until old out out1 out2 a h b k = begins_trans old out out2 h (begins_trans out out1 out2 (rw b (begins_append out a)) k)
