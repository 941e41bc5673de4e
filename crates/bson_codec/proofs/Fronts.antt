-- What is read from a front is what is read from the whole.
use Rattle.std.proofs.Common.{◌≡◌, ℕ, ◌+◌, ◌-◌, ◌^◌, ◌≤◌, Bool, true, false, cond, ltb, List, [], ◌++◌, length, get_or, take, drop, refl, sym, ap, subst, ◌∙◌, append_assoc, arith, length-append, length-drop, inl, inr}
use Rattle.std.specs.Prelude.{Result, Ok, Err, ◌⊎◌, ◌==◌}
use Rattle.std.specs.Int.{w32, from_le_bytes}
use Rattle.std.proofs.lemmas.Bool.{cases_lt, le-ltb, lt-ltb}
use Rattle.std.proofs.lemmas.List.{append-nil, nil_from_length, take-append-le, drop-append-le, get_or_append_left}
use Rattle.bson_value.specs.Tree.{Tree, pairs_of}
use Rattle.bson_value.specs.Proper.{AreBytes}
use Rattle.bson_value.specs.declared.bad.BadBson.{BadBson}
use Rattle.bson_value.specs.declared.bad.BadWhy.TheVariants.{Truncated, BadLength}
use Rattle.bson_codec.specs.Spelling.{spelling, pairs_bytes, IsSpelledAt}
use Rattle.bson_codec.specs.declared.error.DecodeError.{DecodeError}
use Rattle.bson_codec.specs.declared.error.DecodeError.TheVariants as errors
use Rattle.bson_codec.specs.Reading.{◌>>=◌, Fails, Frame, Reader, framing, frame_at, pairs_at, ended, doc_at, value_at, read_at}
use Rattle.bson_codec.specs.Fronts.{told_by, needed, IsFrontAt}
use Rattle.bson_codec.proofs.Decoding.{behind}
use Rattle.bson_codec.proofs.Values.{doc_takes, value_takes, length-framed}

longer : List ℕ → Frame → Frame
longer more f = record { body = f.body; last = f.last; after = f.after ++ more }

-- ---- the frame of a longer text

framing_longer : (at n : ℕ) (rest more : List ℕ) → told_by n ≤ 4 + length rest → framing Truncated 16777216 at n (rest ++ more) ≡ (framing Truncated 16777216 at n rest >>= λ f. Ok (longer more f))
unfolding longer
framing_longer at n rest more enough =
    elim (cases_lt n 5) [
      | inl lt ↦ let a : ltb n 5 ≡ true = lt-ltb _ _ lt in rw a refl
      | inr five ↦
          let a : ltb n 5 ≡ false = le-ltb _ _ five in
          elim (cases_lt (2 ^ 31 - 1) n) [
            | inl lt ↦ let b : ltb (2 ^ 31 - 1) n ≡ true = lt-ltb _ _ lt in rw (a, b) refl
            | inr small ↦
                let b : ltb (2 ^ 31 - 1) n ≡ false = le-ltb _ _ small in
                elim (cases_lt 16777216 n) [
                  | inl lt ↦ let d : ltb 16777216 n ≡ true = lt-ltb _ _ lt in rw (a, b, d) refl
                  | inr short ↦
                      let d : ltb 16777216 n ≡ false = le-ltb _ _ short in
                      let room : n ≤ 4 + length rest = rw (a, d) at enough in
                      let e : ltb (length rest) (n - 4) ≡ false = le-ltb _ _ (omega arith) in
                      let f : ltb (length (rest ++ more)) (n - 4) ≡ false = le-ltb _ _ (omega (arith, length-append rest more)) in
                      let body : take (n - 5) (rest ++ more) ≡ take (n - 5) rest = take-append-le (n - 5) rest more (omega arith) in
                      let last : get_or (rest ++ more) (n - 5) 0 ≡ get_or rest (n - 5) 0 = get_or_append_left rest more 0 (n - 5) (omega arith) in
                      let after : drop (n - 4) (rest ++ more) ≡ drop (n - 4) rest ++ more = drop-append-le (n - 4) rest more (omega arith) in
                      rw (a, b, d, e, f, body, last, after) refl
                ]
          ]
    ]

nothing_longer : (r : Result Frame BadBson) → r ≡ (r >>= λ f. Ok (longer [] f))
unfolding longer
nothing_longer (Ok f) = rw append-nil refl
nothing_longer (Err b) = refl

-- a front with fewer than four bytes needs more than it has
four : (front : List ℕ) → needed front ≤ length front → 4 ≤ length front
unfolding needed
four front enough =
    elim (cases_lt (length front) 4) [
      | inl lt ↦ let a : ltb (length front) 4 ≡ true = lt-ltb _ _ lt in let b : 4 ≤ length front = rw a at enough in b
      | inr ge ↦ ge
    ]

told : (front : List ℕ) → needed front ≤ length front → told_by (from_le_bytes w32 (take 4 front)) ≤ 4 + length (drop 4 front)
unfolding needed
told front enough =
    let a : ltb (length front) 4 ≡ false = le-ltb _ _ (four front enough) in
    let b : told_by (from_le_bytes w32 (take 4 front)) ≤ length front = rw a at enough in
    omega (arith, length-drop 4 front, b)

frame_longer : (at : ℕ) (front more : List ℕ) → (needed front ≤ length front) ⊎ (more ≡ []) → frame_at Truncated 16777216 at (front ++ more) ≡ (frame_at Truncated 16777216 at front >>= λ f. Ok (longer more f))
unfolding frame_at
frame_longer at front more (inr none) = subst (λ (m : List ℕ). frame_at Truncated 16777216 at (front ++ m) ≡ (frame_at Truncated 16777216 at front >>= λ f. Ok (longer m f))) (sym none) (rw append-nil (nothing_longer (frame_at Truncated 16777216 at front)))
frame_longer at front more (inl enough) =
    let room : 4 ≤ length front = four front enough in
    let a : ltb (length front) 4 ≡ false = le-ltb _ _ room in
    let b : ltb (length (front ++ more)) 4 ≡ false = le-ltb _ _ (omega (arith, length-append front more)) in
    let c : take 4 (front ++ more) ≡ take 4 front = take-append-le 4 front more room in
    let d : drop 4 (front ++ more) ≡ drop 4 front ++ more = drop-append-le 4 front more room in
    rw (a, b, c, d) (framing_longer at (from_le_bytes w32 (take 4 front)) (drop 4 front) more (told front enough))

-- ---- faults

cut_fault : {A : Type 0} (t : Bool) (x y : A) (d b : BadBson) → cond {A = Result A BadBson} t (Ok x) (Err d) ≡ Err b → cond {A = Result A BadBson} t (Ok y) (Err d) ≡ Err b
cut_fault true x y d b e = absurd cc
cut_fault false x y d b e = e

ended_fault : {A : Type 0} (at : ℕ) (f : Frame) (more : List ℕ) (x : A) (b : BadBson) → ended at f x ≡ Err b → ended at (longer more f) x ≡ Err b
unfolding longer
ended_fault at f more x b e = cut_fault (f.last == 0) (x, f.after) (x, f.after ++ more) (record { at = at + length f.body + 4; why = BadLength }) b e

body_fault : {A : Type 0} (at : ℕ) (f : Frame) (more : List ℕ) (p : Result A BadBson) (b : BadBson) → (p >>= λ ps. ended at f ps) ≡ Err b → (p >>= λ ps. ended at (longer more f) ps) ≡ Err b
body_fault at f more (Ok ps) b e = ended_fault at f more ps b e
body_fault at f more (Err c) b e = e

frame_fault : (read : Reader) (at : ℕ) (more : List ℕ) (r : Result Frame BadBson) (b : BadBson) → (r >>= λ f. pairs_at read (length f.body) [] (at + 4) f.body >>= λ ps. ended at f ps) ≡ Err b
    → ((r >>= λ f. Ok (longer more f)) >>= λ f. pairs_at read (length f.body) [] (at + 4) f.body >>= λ ps. ended at f ps) ≡ Err b
unfolding longer
frame_fault read at more (Ok f) b e = body_fault at f more (pairs_at read (length f.body) [] (at + 4) f.body) b e
frame_fault read at more (Err c) b e = e

doc_fault : (read : Reader) (at : ℕ) (front more : List ℕ) (b : BadBson) → (needed front ≤ length front) ⊎ (more ≡ []) → doc_at read Truncated 16777216 at front ≡ Err b → doc_at read Truncated 16777216 at (front ++ more) ≡ Err b
unfolding doc_at
doc_fault read at front more b enough e = rw (frame_longer at front more enough) (frame_fault read at more (frame_at Truncated 16777216 at front) b e)

left : (file : List ℕ) (at : ℕ) (front : List ℕ) → IsFrontAt file at front → (needed front ≤ length front) ⊎ (drop (at + length front) file ≡ [])
left file at front h = elim h.enough [ inl enough ↦ inl enough | inr all ↦ inr (nil_from_length (drop (at + length front) file) (omega (arith, length-drop (at + length front) file, all))) ]

pub front_fault : (file : List ℕ) (at : ℕ) (front : List ℕ) (b : BadBson) → IsFrontAt file at front → doc_at (value_at 99) Truncated 16777216 at front ≡ Err b → read_at at file ≡ Err b
unfolding read_at
front_fault file at front b h e = rw h.parts (doc_fault (value_at 99) at front (drop (at + length front) file) b (left file at front h) e)

pub fails_so : {Y Z : Type 0} (e : DecodeError) (r : Result Y BadBson) (b : BadBson) → Fails e r → (let error : DecodeError → Result Z DecodeError = λ d. Err d in error e ≡ error (errors.Bad b)) → r ≡ Err b
fails_so errors.Memory r b f e = absurd cc
fails_so (errors.Bad d) r b f e = f ∙ cc

-- ---- records

pub front_size : (at : ℕ) (front : List ℕ) (r : List (List ℕ × Tree) × List ℕ) → AreBytes front → doc_at (value_at 99) Truncated 16777216 at front ≡ Ok r → length (spelling r.0) + length r.1 ≡ length front
front_size at front r fits e = let t = doc_takes 99 (value_at 99) (value_takes 99) Truncated 16777216 at front r fits e in omega (arith, ap length t.parts, length-append (spelling r.0) r.1)

pub front_is : (file : List ℕ) (at : ℕ) (front : List ℕ) (r : List (List ℕ × Tree) × List ℕ) → AreBytes front → IsFrontAt file at front → doc_at (value_at 99) Truncated 16777216 at front ≡ Ok r → IsSpelledAt file at r.0 (at + (length front - length r.1))
front_is file at front r fits h e =
    let t = doc_takes 99 (value_at 99) (value_takes 99) Truncated 16777216 at front r fits e in
    let size = front_size at front r fits e in
    let parts : drop at file ≡ spelling r.0 ++ (r.1 ++ drop (at + length front) file) = h.parts ∙ ap (λ (l : List ℕ). l ++ drop (at + length front) file) t.parts ∙ append_assoc (spelling r.0) r.1 (drop (at + length front) file) in
    let sizes : length (drop at file) ≡ length front + length (drop (at + length front) file) = ap length h.parts ∙ length-append front (drop (at + length front) file) in
    let ends : at + length (spelling r.0) ≡ at + (length front - length r.1) = omega (arith, size) in
    record {
      proper = t.proper;
      short = record { len = omega (arith, length-framed (pairs_bytes (pairs_of r.0)), t.short); deep = t.deep };
      within = omega (arith, sizes, size, length-drop at file, h.within);
      parts = parts ∙ ap (λ (l : List ℕ). spelling r.0 ++ l) (behind file at (at + (length front - length r.1)) (spelling r.0) (r.1 ++ drop (at + length front) file) h.within parts ends);
      len = ends;
    }

pub spelling_some : (d : List (List ℕ × Tree)) → 5 ≤ length (spelling d)
spelling_some d = omega (arith, length-framed (pairs_bytes (pairs_of d)))
