-- Files that agree up to where a fault is shown have the same fault.
use Rattle.std.proofs.Common.{◌≡◌, ◌≢◌, ℕ, zero, suc, ◌+◌, ◌-◌, ◌^◌, ◌<◌, ◌≤◌, List, [], ◌∷◌, ◌++◌, length, get_or, take, drop, refl, sym, ap, subst, ◌∙◌, append_assoc, arith, inl, inr, length-append, length-drop, length-take, take_at, take-append-drop}
use Rattle.std.specs.Int.{w32, from_le_bytes}
use Rattle.std.proofs.lemmas.Bool.{cases_lt}
use Rattle.std.proofs.lemmas.List.{take_all, take-take, drop-take, take-append-le, drop-append-le}
use Rattle.bson_value.specs.Tree.{Tree}
use Rattle.bson_value.specs.declared.bad.BadWhy.{BadWhy}
use Rattle.bson_value.specs.declared.bad.BadWhy.TheVariants.{Truncated, BadLength, TooDeep}
use Rattle.bson_codec.specs.Spelling.{kind_byte, element}
use Rattle.bson_codec.specs.declared.kind.Kind.{Kind}
use Rattle.bson_codec.specs.declared.kind.Kind.TheVariants as K
use Rattle.value_laws.specs.Faults.{Fault, fault, told, IsTold, IsBadScalar, IsBadLength, IsFrame, elements_of, IsBadElement, IsBadHolder, IsBadValue, IsBadInner, IsFirstFault}
use Rattle.value_laws.specs.Faults.IsBadScalar.{cut_off, string_length, binary_length, string_end, string_text, flag_byte}
use Rattle.value_laws.specs.Faults.IsBadLength.{cut_off as length_cut_off, too_small, too_great, past_end}
use Rattle.value_laws.specs.Faults.IsBadElement.{ended_early, unknown_type, endless_name, name_text, wrong_name, bad_value}
use Rattle.value_laws.specs.Faults.IsBadHolder.{bad_length, bad_element, no_end}
use Rattle.value_laws.specs.Faults.IsBadValue.{bad_scalar, bad_holder}
use Rattle.value_laws.proofs.FaultFields.{around, size_is}

-- ---- what agrees up to a place

record Agree (n : ℕ) (left other : List ℕ) : Type 0 where
  pub size : length left ≡ length other
  pub front : take n left ≡ take n other

agrees : (x y l : List ℕ) (m n : ℕ) → m ≡ length x + n → take m (x ++ y) ≡ take m l → (x ++ drop (length x) l ≡ l) × (take n y ≡ take n (drop (length x) l))
agrees [] y l m n e h = let s : m ≡ n = omega (arith, e) in (refl, subst (λ (k : ℕ). take k y ≡ take k l) s h)
agrees (c ∷ x) y l zero n e h = absurd (omega arith)
agrees (c ∷ x) y [] (suc m) n e h = absurd cc
agrees (c ∷ x) y (d ∷ l) (suc m) n e h =
    let same : c ≡ d = cc in
    let rest : take m (x ++ y) ≡ take m l = cc in
    let r = agrees x y l m n (omega (arith, e)) rest in
    ((λ i. same i ∷ r.0 i), r.1)

record IsAfter (x y other : List ℕ) (n : ℕ) : Type 0 where
  pub rest : List ℕ
  pub parts : x ++ rest ≡ other
  pub agree : Agree n y rest

after_of : (x y left other : List ℕ) (m n : ℕ) → x ++ y ≡ left → m ≡ length x + n → Agree m left other → IsAfter x y other n
after_of x y left other m n e k a =
    let r = agrees x y other m n k (ap (take m) e ∙ a.front) in
    record {
      rest = drop (length x) other;
      parts = r.0;
      agree = record { size = omega (arith, ap length r.0, length-append x (drop (length x) other), ap length e, length-append x y, a.size); front = r.1 };
    }

cut_short : (n k : ℕ) (xs ys : List ℕ) → take n xs ≡ take n ys → take n (take k xs) ≡ take n (take k ys)
cut_short n k xs ys e =
    elim (cases_lt n k) [
      | inl lt ↦ take-take n k xs (omega (arith, lt)) ∙ e ∙ sym (take-take n k ys (omega (arith, lt)))
      | inr le ↦
          take_all n (take k xs) (omega (arith, length-take k xs, le)) ∙ sym (take-take k n xs le) ∙ ap (take k) e ∙ take-take k n ys le ∙ sym (take_all n (take k ys) (omega (arith, length-take k ys, le)))
    ]

-- ---- lengths and scalars

told_same : (left other : List ℕ) → take 4 left ≡ take 4 other → told left ≡ told other
told_same left other e = ap (from_le_bytes w32) e

up_to : (n seen : ℕ) (left other : List ℕ) → n ≡ seen → Agree seen left other → take n left ≡ take n other
up_to n seen left other e a = subst (λ (k : ℕ). take k left ≡ take k other) (sym e) a.front

regrouped : (field body rest : List ℕ) (last : ℕ) → (field ++ (body ++ last ∷ [])) ++ rest ≡ field ++ (body ++ last ∷ rest)
regrouped field body rest last = append_assoc field (body ++ last ∷ []) rest ∙ ap (λ (l : List ℕ). field ++ l) (append_assoc body (last ∷ []) rest)

told_front : (field body : List ℕ) (last : ℕ) → length field ≡ 4 → length (field ++ (body ++ last ∷ [])) ≡ length body + 5
told_front field body last four = omega (arith, length-append field (body ++ last ∷ []), length-append body (last ∷ []), four)

told_with : (more : ℕ) (left other body rest : List ℕ) (last : ℕ) (h : IsTold more left body last) → (h.field ++ (body ++ last ∷ [])) ++ rest ≡ other → IsTold more other body last
told_with more left other body rest last h e = record { field = h.field; after = rest; parts = sym (regrouped h.field body rest last) ∙ e; four = h.four; counts = h.counts }

told_steady : (more : ℕ) (left other body : List ℕ) (last seen : ℕ) → length body + 5 ≡ seen → IsTold more left body last → Agree seen left other → IsTold more other body last
told_steady more left other body last seen e h a =
    let r = after_of (h.field ++ (body ++ last ∷ [])) h.after left other seen 0 (regrouped h.field body h.after last ∙ h.parts) (omega (arith, told_front h.field body last h.four, e)) a in
    told_with more left other body r.rest last h r.parts

scalar_steady : (k : Kind) (left other : List ℕ) (why : BadWhy) (seen : ℕ) → IsBadScalar k left why seen → Agree seen left other → IsBadScalar k other why seen
scalar_steady k left other why seen (cut_off few w n) a = cut_off (omega (arith, few, a.size)) w n
scalar_steady k left other why seen (string_length e four (inl z) w n) a = string_length e (omega (arith, four, a.size)) (inl (sym (told_same left other (up_to 4 seen left other n a)) ∙ z)) w n
scalar_steady k left other why seen (string_length e four (inr lt) w n) a = string_length e (omega (arith, four, a.size)) (inr (omega (arith, told_same left other (up_to 4 seen left other n a), a.size, lt))) w n
scalar_steady k left other why seen (binary_length e five lt w n) a = binary_length e (omega (arith, five, a.size)) (omega (arith, told_same left other (up_to 4 seen left other n a), a.size, lt)) w n
scalar_steady k left other why seen (string_end text last e h ne w n) a = string_end text last e (told_steady 1 left other text last seen n h a) ne w n
scalar_steady k left other why seen (string_text text e h wrong w n) a = string_text text e (told_steady 1 left other text 0 seen n h a) wrong w n
scalar_steady k left other why seen (flag_byte b after e h n0 n1 w n) a =
    let r = after_of (b ∷ []) after left other seen 0 h (omega (arith, n)) a in
    flag_byte b r.rest e r.parts n0 n1 w n

length_steady : (early : BadWhy) (most : ℕ) (left other : List ℕ) (why : BadWhy) (seen : ℕ) → IsBadLength early most left why seen → Agree seen left other → IsBadLength early most other why seen
length_steady early most left other why seen (length_cut_off few w n) a = length_cut_off (omega (arith, few, a.size)) w n
length_steady early most left other why seen (too_small four (inl lt) w n) a = too_small (omega (arith, four, a.size)) (inl (omega (arith, told_same left other (up_to 4 seen left other n a), lt))) w n
length_steady early most left other why seen (too_small four (inr le) w n) a = too_small (omega (arith, four, a.size)) (inr (omega (arith, told_same left other (up_to 4 seen left other n a), le))) w n
length_steady early most left other why seen (too_great four five small lt w n) a =
    let t = told_same left other (up_to 4 seen left other n a) in
    too_great (omega (arith, four, a.size)) (omega (arith, t, five)) (omega (arith, t, small)) (omega (arith, t, lt)) w n
length_steady early most left other why seen (past_end four five small le lt w n) a =
    let t = told_same left other (up_to 4 seen left other n a) in
    past_end (omega (arith, four, a.size)) (omega (arith, t, five)) (omega (arith, t, small)) (omega (arith, t, le)) (omega (arith, t, lt, a.size)) w n

-- ---- elements

-- a fault lies where it is shown, within what is left
record IsWithin (at : ℕ) (left : List ℕ) (f : Fault) : Type 0 where
  pub low : at ≤ f.bad.at
  pub high : f.bad.at ≤ f.shown
  pub whole : f.shown ≤ at + length left
  pub shown : at ≤ f.shown

within : (at place seen : ℕ) (why : BadWhy) (left : List ℕ) (f : Fault) → fault place why seen ≡ f → at ≤ place → place ≤ seen → seen ≤ at + length left → IsWithin at left f
within at place seen why left f e a b c = subst (IsWithin at left) e (record { low = a; high = b; whole = c; shown = omega (arith, a, b) })

within_all : (at place : ℕ) (left next : List ℕ) (f : Fault) → IsWithin place next f → at ≤ place → place + length next ≤ at + length left → IsWithin at left f
within_all at place left next f h a b = record { low = omega (arith, a, h.low); high = h.high; whole = omega (arith, b, h.whole); shown = omega (arith, a, h.shown) }

scalar_seen : (k : Kind) (left : List ℕ) (why : BadWhy) (seen : ℕ) → IsBadScalar k left why seen → seen ≤ length left
scalar_seen k left why seen (cut_off few w n) = omega (arith, n)
scalar_seen k left why seen (string_length e four h w n) = omega (arith, n, four)
scalar_seen k left why seen (binary_length e five lt w n) = omega (arith, n, five)
scalar_seen k left why seen (string_end text last e h ne w n) = omega (arith, n, size_is 1 left text last h)
scalar_seen k left why seen (string_text text e h wrong w n) = omega (arith, n, size_is 1 left text 0 h)
scalar_seen k left why seen (flag_byte b after e h n0 n1 w n) = omega (arith, n, ap length h)

length_seen : (early : BadWhy) (most : ℕ) (left : List ℕ) (why : BadWhy) (seen : ℕ) → IsBadLength early most left why seen → seen ≤ length left
length_seen early most left why seen (length_cut_off few w n) = omega (arith, n)
length_seen early most left why seen (too_small four h w n) = omega (arith, n, four)
length_seen early most left why seen (too_great four five small lt w n) = omega (arith, n, four)
length_seen early most left why seen (past_end four five small le lt w n) = omega (arith, n, four)

-- what is wrong with values is the same where all agrees up to where it is shown, which is nowhere before the value
record IsSteady (of_value : Kind → ℕ → List ℕ → Fault → Type 0) : Type 0 where
  pub reach : (k : Kind) (at : ℕ) (left : List ℕ) (f : Fault) → of_value k at left f → IsWithin at left f
  pub same : (k : Kind) (at : ℕ) (left other : List ℕ) (f : Fault) → of_value k at left f → Agree (f.shown - at) left other → of_value k at other f

shown_is : (f g : Fault) → f ≡ g → f.shown ≡ g.shown
shown_is f g e = ap (λ (h : Fault). h.shown) e

module _ (of_value : Kind → ℕ → List ℕ → Fault → Type 0) (steady : IsSteady of_value) (done : Tree) (at : ℕ) where
  abbrev IsBad : List ℕ → Fault → Type 0
  IsBad left f = IsBadElement of_value done at left f

  head_parts : (k : Kind) (name after : List ℕ) → element k name [] ++ after ≡ element k name after
  head_parts k name after = ap (λ (l : List ℕ). kind_byte k ∷ l) (append_assoc name (0 ∷ []) after)

  after_head : (k : Kind) (name after left other : List ℕ) (m n : ℕ) → element k name after ≡ left → m ≡ length (element k name []) + n → Agree m left other → IsAfter (element k name []) after other n
  after_head k name after left other m n e d a = after_of (element k name []) after left other m n (head_parts k name after ∙ e) d a

  head_again : (k : Kind) (name rest other : List ℕ) → element k name [] ++ rest ≡ other → element k name rest ≡ other
  head_again k name rest other e = sym (head_parts k name rest) ∙ e

  head_size : (k : Kind) (name after left : List ℕ) → element k name after ≡ left → length left ≡ length (element k name []) + length after
  head_size k name after left e = ap length (sym e) ∙ ap length (sym (head_parts k name after)) ∙ length-append (element k name []) after

  element_reach : (left : List ℕ) (f : Fault) → IsBad left f → IsWithin at left f
  element_reach left f (ended_early after e w) = within at at (at + 1) _ left f w (omega arith) (omega arith) (omega (arith, ap length e))
  element_reach left f (unknown_type byte after e ne h w) = within at at (at + 1) _ left f w (omega arith) (omega arith) (omega (arith, ap length e))
  element_reach left f (endless_name k after e h w) = within at (at + 1) (at + length left) _ left f w (omega arith) (omega (arith, ap length e)) (omega arith)
  element_reach left f (name_text k name after e h wrong w) = within at (at + 1) (at + length (element k name [])) _ left f w (omega arith) (omega arith) (omega (arith, head_size k name after left e))
  element_reach left f (wrong_name k name after why e h wrong w) = within at (at + 1) (at + length (element k name [])) _ left f w (omega arith) (omega arith) (omega (arith, head_size k name after left e))
  element_reach left f (bad_value k name after e h good v) =
      within_all at (at + length (element k name [])) left after f (steady.reach k (at + length (element k name [])) after f v) (omega arith) (omega (arith, head_size k name after left e))

  element_steady : (left other : List ℕ) (f : Fault) → IsBad left f → Agree (f.shown - at) left other → IsBad other f
  element_steady left other f (ended_early after e w) a =
      let r = after_of (0 ∷ []) after left other (f.shown - at) 0 e (omega (arith, shown_is _ f w)) a in
      ended_early r.rest r.parts w
  element_steady left other f (unknown_type byte after e ne h w) a =
      let r = after_of (byte ∷ []) after left other (f.shown - at) 0 e (omega (arith, shown_is _ f w)) a in
      unknown_type byte r.rest r.parts ne h w
  element_steady left other f (endless_name k after e h w) a =
      let n : f.shown - at ≡ length left = omega (arith, shown_is _ f w) in
      let same : left ≡ other = sym (take_all (f.shown - at) left (omega (arith, n))) ∙ a.front ∙ take_all (f.shown - at) other (omega (arith, n, a.size)) in
      subst (λ (l : List ℕ). IsBad l f) same (endless_name k after e h w)
  element_steady left other f (name_text k name after e h wrong w) a =
      let r = after_head k name after left other (f.shown - at) 0 e (omega (arith, shown_is _ f w)) a in
      name_text k name r.rest (head_again k name r.rest other r.parts) h wrong w
  element_steady left other f (wrong_name k name after why e h wrong w) a =
      let r = after_head k name after left other (f.shown - at) 0 e (omega (arith, shown_is _ f w)) a in
      wrong_name k name r.rest why (head_again k name r.rest other r.parts) h wrong w
  element_steady left other f (bad_value k name after e h good v) a =
      let reach : at + length (element k name []) ≤ f.shown = (steady.reach k (at + length (element k name [])) after f v).shown in
      let r = after_head k name after left other (f.shown - at) (f.shown - (at + length (element k name []))) e (omega (arith, reach)) a in
      bad_value k name r.rest (head_again k name r.rest other r.parts) h good (steady.same k (at + length (element k name [])) after r.rest f v r.agree)

-- ---- documents and lists

-- the bytes of the elements of a frame from a place within them on, where all agrees up to a later place
record IsInFrame (most : ℕ) (other front next : List ℕ) (n : ℕ) : Type 0 where
  pub next2 : List ℕ
  pub last2 : ℕ
  pub frame : IsFrame most other (front ++ next2) last2
  pub agree : Agree n next next2

moved : (field front rest other : List ℕ) → (field ++ front) ++ rest ≡ other → field ++ (front ++ rest) ≡ other
moved field front rest other e = sym (append_assoc field front rest) ∙ e

frame_split : (left body front next : List ℕ) (last : ℕ) (h : IsTold 5 left body last) → front ++ next ≡ body → (h.field ++ front) ++ (next ++ last ∷ h.after) ≡ left
frame_split left body front next last h e =
    append_assoc h.field front (next ++ last ∷ h.after) ∙ ap (λ (l : List ℕ). h.field ++ l) (sym (append_assoc front next (last ∷ h.after))) ∙ ap (λ (l : List ℕ). h.field ++ (l ++ last ∷ h.after)) e ∙ h.parts

frame_parts : (field front next after rest other : List ℕ) (last : ℕ) → next ++ last ∷ after ≡ rest → (field ++ front) ++ rest ≡ other → field ++ ((front ++ next) ++ last ∷ after) ≡ other
frame_parts field front next after rest other last cut e =
    ap (λ (l : List ℕ). field ++ l) (append_assoc front next (last ∷ after)) ∙ ap (λ (l : List ℕ). field ++ (front ++ l)) cut ∙ moved field front rest other e

-- a frame whose elements from a place on are others, as many bytes
frame_with : (most : ℕ) (left other body front next next2 after2 : List ℕ) (last last2 : ℕ) (h : IsFrame most left body last) → front ++ next ≡ body → length next2 ≡ length next
    → h.told.field ++ ((front ++ next2) ++ last2 ∷ after2) ≡ other → IsFrame most other (front ++ next2) last2
frame_with most left other body front next next2 after2 last last2 h e size parts =
    let same : length (front ++ next2) ≡ length body = omega (arith, length-append front next2, size, ap length e, length-append front next) in
    record {
      told = record { field = h.told.field; after = after2; parts = parts; four = h.told.four; counts = omega (arith, h.told.counts, same) };
      not_negative = omega (arith, h.not_negative, same);
      not_too_great = omega (arith, h.not_too_great, same);
    }

next_agrees : (n : ℕ) (next after rest : List ℕ) (last : ℕ) → Agree n (next ++ last ∷ after) rest → Agree n next (take (length next) rest)
next_agrees n next after rest last a = record {
  size = omega (arith, length-take (length next) rest, a.size, length-append next (last ∷ after));
  front = ap (take n) (sym (take_at next (last ∷ after) (length next) refl)) ∙ cut_short n (length next) (next ++ last ∷ after) rest a.front;
}

in_frame : (most : ℕ) (left other body front next rest : List ℕ) (last n : ℕ) (h : IsFrame most left body last) → front ++ next ≡ body → (h.told.field ++ front) ++ rest ≡ other → Agree n (next ++ last ∷ h.told.after) rest → IsInFrame most other front next n
in_frame most left other body front next rest last n h e parts a =
    let agree = next_agrees n next h.told.after rest last a in
    let lt : length next < length rest = omega (arith, a.size, length-append next (last ∷ h.told.after)) in
    record {
      next2 = take (length next) rest;
      last2 = get_or rest (length next) 0;
      frame = frame_with most left other body front next (take (length next) rest) (drop (suc (length next)) rest) last (get_or rest (length next) 0) h e (sym agree.size)
          (frame_parts h.told.field front (take (length next) rest) (drop (suc (length next)) rest) rest other (get_or rest (length next) 0) (around (length next) rest lt) parts);
      agree = agree;
    }

frame_steady : (most : ℕ) (left other body front next : List ℕ) (last m n : ℕ) → IsFrame most left body last → front ++ next ≡ body → m ≡ 4 + length front + n → Agree m left other → IsInFrame most other front next n
frame_steady most left other body front next last m n h e k a =
    let r = after_of (h.told.field ++ front) (next ++ last ∷ h.told.after) left other m n (frame_split left body front next last h.told e) (omega (arith, k, length-append h.told.field front, h.told.four)) a in
    in_frame most left other body front next r.rest last n h e r.parts r.agree

module _ (of_value : Kind → ℕ → List ℕ → Fault → Type 0) (steady : IsSteady of_value) (levels : ℕ) (k : Kind) (early : BadWhy) (most at : ℕ) where
  abbrev IsBadHere : List ℕ → Fault → Type 0
  IsBadHere left f = IsBadHolder of_value levels k early most at left f

  holder_reach : (left : List ℕ) (f : Fault) → IsBadHere left f → IsWithin at left f
  holder_reach left f (bad_length why seen h w) = within at at (at + seen) why left f w (omega arith) (omega arith) (omega (arith, length_seen early most left why seen h))
  holder_reach left f (bad_element body last done next h good e b) =
      within_all at (at + 4 + length (elements_of done)) left next f (element_reach of_value steady done (at + 4 + length (elements_of done)) next f b) (omega arith)
      (omega (arith, size_is 5 left body last h.told, ap length e, length-append (elements_of done) next))
  holder_reach left f (no_end body last done h good e ne w) =
      within at (at + 4 + length body) (at + 5 + length body) BadLength left f w (omega arith) (omega arith) (omega (arith, size_is 5 left body last h.told))

  holder_steady : (left other : List ℕ) (f : Fault) → IsBadHere left f → Agree (f.shown - at) left other → IsBadHere other f
  holder_steady left other f (bad_length why seen h w) a =
      let n : f.shown - at ≡ seen = omega (arith, shown_is _ f w) in
      bad_length why seen (length_steady early most left other why seen h (subst (λ (m : ℕ). Agree m left other) n a)) w
  holder_steady left other f (bad_element body last done next h good e b) a =
      let reach : at + 4 + length (elements_of done) ≤ f.shown = (element_reach of_value steady done (at + 4 + length (elements_of done)) next f b).shown in
      let r = frame_steady most left other body (elements_of done) next last (f.shown - at) (f.shown - (at + 4 + length (elements_of done))) h e (omega (arith, reach)) a in
      bad_element (elements_of done ++ r.next2) r.last2 done r.next2 r.frame good refl (element_steady of_value steady done (at + 4 + length (elements_of done)) next r.next2 f b r.agree)
  holder_steady left other f (no_end body last done h good e ne w) a =
      let n : length body + 5 ≡ f.shown - at = omega (arith, shown_is _ f w) in
      no_end body last done (record { told = told_steady 5 left other body last (f.shown - at) n h.told a; not_negative = h.not_negative; not_too_great = h.not_too_great }) good e ne w

-- ---- level by level

value_steady : (of_holder : Kind → ℕ → List ℕ → Fault → Type 0) → IsSteady of_holder → IsSteady (IsBadValue of_holder)
value_steady of_holder steady = record { reach = reach; same = same }
  where
    reach : (k : Kind) (at : ℕ) (left : List ℕ) (f : Fault) → IsBadValue of_holder k at left f → IsWithin at left f
    reach k at left f (bad_scalar why seen h w) = within at at (at + seen) why left f w (omega arith) (omega arith) (omega (arith, scalar_seen k left why seen h))
    reach k at left f (bad_holder e h) = steady.reach k at left f h

    same : (k : Kind) (at : ℕ) (left other : List ℕ) (f : Fault) → IsBadValue of_holder k at left f → Agree (f.shown - at) left other → IsBadValue of_holder k at other f
    same k at left other f (bad_scalar why seen h w) a =
        let n : f.shown - at ≡ seen = omega (arith, shown_is _ f w) in
        bad_scalar why seen (scalar_steady k left other why seen h (subst (λ (m : ℕ). Agree m left other) n a)) w
    same k at left other f (bad_holder e h) a = bad_holder e (steady.same k at left other f h a)

inner_steady : (levels : ℕ) → IsSteady (IsBadInner levels)
inner_steady zero = record { reach = λ k at left f w. within at at at TooDeep left f w (omega arith) (omega arith) (omega arith); same = λ k at left other f w a. w }
inner_steady (suc levels) =
    let v = value_steady (IsBadInner levels) (inner_steady levels) in
    record {
      reach = λ k at left f h. holder_reach (IsBadValue (IsBadInner levels)) v levels k BadLength (2 ^ 31) at left f h;
      same = λ k at left other f h a. holder_steady (IsBadValue (IsBadInner levels)) v levels k BadLength (2 ^ 31) at left other f h a;
    }

first_reach : (start : ℕ) (bytes : List ℕ) (f : Fault) → IsFirstFault start bytes f → IsWithin start (drop start bytes) f
first_reach start bytes f h = holder_reach (IsBadValue (IsBadInner 99)) (value_steady (IsBadInner 99) (inner_steady 99)) 99 K.Doc Truncated 16777216 start (drop start bytes) f h

pub first_within : (start : ℕ) (bytes : List ℕ) (f : Fault) → start ≤ length bytes → IsFirstFault start bytes f → (start ≤ f.bad.at) × (f.bad.at ≤ f.shown) × (f.shown ≤ length bytes)
first_within start bytes f le h = let w = first_reach start bytes f h in (w.low, w.high, omega (arith, w.whole, length-drop start bytes, le))

pub first_steady : (start : ℕ) (bytes other : List ℕ) (f : Fault) → IsFirstFault start bytes f → length other ≡ length bytes → take f.shown other ≡ take f.shown bytes → IsFirstFault start other f
first_steady start bytes other f h size e =
    let v = value_steady (IsBadInner 99) (inner_steady 99) in
    let reach : start ≤ f.shown = (first_reach start bytes f h).shown in
    let n : start + (f.shown - start) ≡ f.shown = omega (arith, reach) in
    let front : take (f.shown - start) (drop start bytes) ≡ take (f.shown - start) (drop start other) =
    sym (drop-take start (f.shown - start) bytes) ∙ ap (λ (k : ℕ). drop start (take k bytes)) n ∙ ap (drop start) (sym e) ∙ ap (λ (k : ℕ). drop start (take k other)) (sym n) ∙ drop-take start (f.shown - start) other in
    holder_steady (IsBadValue (IsBadInner 99)) v 99 K.Doc Truncated 16777216 start (drop start bytes) (drop start other) f h
    (record { size = omega (arith, length-drop start bytes, length-drop start other, size); front = front })

-- ---- more bytes behind

told_longer : (left more : List ℕ) → 4 ≤ length left → told left ≡ told (left ++ more)
told_longer left more four = ap (from_le_bytes w32) (sym (take-append-le 4 left more four))

length_stays : (early : BadWhy) (most : ℕ) (left more : List ℕ) (why : BadWhy) (seen : ℕ) → why ≢ early → IsBadLength early most left why seen → IsBadLength early most (left ++ more) why seen
length_stays early most left more why seen ne (length_cut_off few w n) = absurd (ne (sym w))
length_stays early most left more why seen ne (too_small four (inl lt) w n) = too_small (omega (arith, four, length-append left more)) (inl (omega (arith, told_longer left more four, lt))) w n
length_stays early most left more why seen ne (too_small four (inr le) w n) = too_small (omega (arith, four, length-append left more)) (inr (omega (arith, told_longer left more four, le))) w n
length_stays early most left more why seen ne (too_great four five small lt w n) =
    let t = told_longer left more four in
    too_great (omega (arith, four, length-append left more)) (omega (arith, t, five)) (omega (arith, t, small)) (omega (arith, t, lt)) w n
length_stays early most left more why seen ne (past_end four five small le lt w n) = absurd (ne (sym w))

frame_stays : (most : ℕ) (left more body : List ℕ) (last : ℕ) → IsFrame most left body last → IsFrame most (left ++ more) body last
frame_stays most left more body last h = record {
  told = record {
    field = h.told.field;
    after = h.told.after ++ more;
    parts = ap (λ (l : List ℕ). h.told.field ++ l) (sym (append_assoc body (last ∷ h.told.after) more)) ∙ sym (append_assoc h.told.field (body ++ last ∷ h.told.after) more) ∙ ap (λ (l : List ℕ). l ++ more) h.told.parts;
    four = h.told.four;
    counts = h.told.counts;
  };
  not_negative = h.not_negative;
  not_too_great = h.not_too_great;
}

holder_stays : (of_value : Kind → ℕ → List ℕ → Fault → Type 0) (levels : ℕ) (k : Kind) (early : BadWhy) (most at : ℕ) (left more : List ℕ) (f : Fault) → f.bad.why ≢ early → IsBadHolder of_value levels k early most at left f → IsBadHolder of_value levels k early most at (left ++ more) f
holder_stays of_value levels k early most at left more f ne (bad_length why seen h w) = bad_length why seen (length_stays early most left more why seen (λ e. ne (sym (ap (λ (g : Fault). g.bad.why) w) ∙ e)) h) w
holder_stays of_value levels k early most at left more f ne (bad_element body last done next h good e b) = bad_element body last done next (frame_stays most left more body last h) good e b
holder_stays of_value levels k early most at left more f ne (no_end body last done h good e last_ne w) = no_end body last done (frame_stays most left more body last h) good e last_ne w

first_stays : (start : ℕ) (bytes more : List ℕ) (f : Fault) → start ≤ length bytes → IsFirstFault start bytes f → f.bad.why ≢ Truncated → IsFirstFault start (bytes ++ more) f
first_stays start bytes more f le h ne =
    let g = holder_stays (IsBadValue (IsBadInner 99)) 99 K.Doc Truncated 16777216 start (drop start bytes) more f ne h in
    subst (λ (l : List ℕ). IsBadHolder (IsBadValue (IsBadInner 99)) 99 K.Doc Truncated 16777216 start l f) (sym (drop-append-le start bytes more le)) g

-- a file as long or longer, that agrees up to where the fault is shown
pub first_longer : (start : ℕ) (bytes other : List ℕ) (f : Fault) → start ≤ length bytes → IsFirstFault start bytes f → f.bad.why ≢ Truncated → length bytes ≤ length other → take f.shown other ≡ take f.shown bytes → IsFirstFault start other f
first_longer start bytes other f le h ne long e =
    let w = first_within start bytes f le h in
    let size : length (take (length bytes) other) ≡ length bytes = omega (arith, length-take (length bytes) other, long) in
    let front = first_steady start bytes (take (length bytes) other) f h size (take-take f.shown (length bytes) other w.2 ∙ e) in
    subst (λ (l : List ℕ). IsFirstFault start l f) (take-append-drop (length bytes) other) (first_stays start (take (length bytes) other) (drop (length bytes) other) f (omega (arith, size, le)) front ne)
