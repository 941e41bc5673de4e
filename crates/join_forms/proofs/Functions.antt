-- Window functions, read and written.
use Rattle.std.proofs.Common.{◌≡◌, ℕ, ℤ, suc, Bool, true, false, cond, List, [], ◌∷◌, length, refl, sym, ap, ◌∙◌, arith, inl, inr, subst}
use Rattle.std.specs.Prelude.{Option, Some, None, ◌⊎◌, ◌&&◌, codes}
use Rattle.std.specs.Str.{bytes_eq}
use Rattle.bson_value.specs.Operands.{or_null}
use Rattle.bson_value.specs.Pairs.{find}
use Rattle.bson_value.specs.Paths.{Steps}
use Rattle.bson_value.specs.Tree.{Tree}
use Rattle.bson_value.specs.declared.acc_kind.AccKind.{AccKind}
use Rattle.expr_read.proofs.PathTexts.{path_is, path_read}
use Rattle.expr_read.specs.Reading.{only_if, path_in, ◌>>=◌}
use Rattle.expr_tree.specs.Node.{Node}
use Rattle.expr_tree.specs.Spells.{Fields, At, Spells}
use Rattle.join_forms.specs.Reading.{form_in, read_at, expr_value, is_empty_doc, one_field, two_fields, accumulator, accumulated, frame, framed, shift_in, shift_value, bare_function, alone, with_window, function_by, function_in, function, output}
use Rattle.join_forms.specs.Words.{accumulators, kind_named, has_window}
use Rattle.join_forms.specs.Written.{IsAccumulator, IsFrame, HasFrame, IsOnly, IsBare, IsFunction, IsOutput}
use Rattle.join_forms.proofs.Pieces.{same_name, equal_name, other_name, unlike, only_if_so, form_only, form_found, at_only, at_found, expr_only, expr_found, empty_only, empty_found, one_found, accumulator_only, accumulator_found, not_accumulator}
use Rattle.join_forms.proofs.Frames.{frame_only, frame_found}
use Rattle.stage_parts.proofs.Options.{some_same, bind_some, only_some, both, decided}
use Rattle.stage_parts.specs.Values.{as_fields, as_whole}
use Rattle.stage_tree.specs.Stage.{WindowHead, accumulates, rank, dense_rank, place, shift}

-- ---- what is written is read so

-- words that name no accumulator
abbrev Unknown : List ℕ → Type 0
Unknown x = (kind_named x ≡ None) × (bytes_eq x (codes "$count") ≡ false)

rank_unknown : Unknown (codes "$rank")
unfolding kind_named accumulators
rank_unknown = (refl, refl)

dense_unknown : Unknown (codes "$denseRank")
unfolding kind_named accumulators
dense_unknown = (refl, refl)

number_unknown : Unknown (codes "$documentNumber")
unfolding kind_named accumulators
number_unknown = (refl, refl)

shift_unknown : Unknown (codes "$shift")
unfolding kind_named accumulators
shift_unknown = (refl, refl)

window_unknown : Unknown (codes "window")
unfolding kind_named accumulators
window_unknown = (refl, refl)

not_word : (x n : List ℕ) (v : Tree) (k : AccKind) (e : Node) → Unknown x → IsAccumulator n v k e → bytes_eq n x ≡ false
not_word x n v k e u a = other_name n x (not_accumulator x n v k e u.0 u.1 a)

accumulated_only : (n : List ℕ) (v : Tree) (k : AccKind) (e : Node) (low high : Option ℤ) → IsAccumulator n v k e → has_window k ≡ true → accumulated n v (low, high) ≡ Some (accumulates k e low high)
accumulated_only n v k e low high a w =
    ap (λ (o : Option (AccKind × Node)). o >>= λ b. only_if (has_window b.0) (Some (accumulates b.0 b.1 low high))) (accumulator_only n v k e a) ∙ only_if_so (has_window k) (Some (accumulates k e low high)) w

alone_accumulated : (sorted : Bool) (n : List ℕ) (v : Tree) (k : AccKind) (e : Node) → IsAccumulator n v k e → alone sorted n v ≡ accumulated n v (None, None)
alone_accumulated sorted n v k e a =
    rw (not_word (codes "$rank") n v k e rank_unknown a, not_word (codes "$denseRank") n v k e dense_unknown a, not_word (codes "$documentNumber") n v k e number_unknown a, not_word (codes "$shift") n v k e shift_unknown a) refl

-- the first field has the name, or a later one
at_first : (n : List ℕ) (p : List ℕ × Tree) (ps : Fields) (v : Tree) → find n (p ∷ ps) ≡ Some v → ((bytes_eq p.0 n ≡ true) × (p.1 ≡ v)) ⊎ ((bytes_eq p.0 n ≡ false) × (find n ps ≡ Some v))
at_first n p ps v e = elim (decided (bytes_eq p.0 n)) [
  | inl c ↦ inl (c, some_same p.1 v (rw c at e))
  | inr c ↦ inr (c, rw c at e)
]

at_only_one : (n : List ℕ) (p : List ℕ × Tree) (v : Tree) → find n (p ∷ []) ≡ Some v → (p.0 ≡ n) × (p.1 ≡ v)
at_only_one n p v e = elim (at_first n p [] v e) [
  | inl h ↦ (same_name p.0 n h.0, h.1)
  | inr h ↦ absurd (no_some h.1)
]
  where
    no_some : None ≡ Some v → ⊥
    no_some q = absurd cc

-- an accumulator among one field or two
module _ (sorted : Bool) (n : List ℕ) (v : Tree) (k : AccKind) (e : Node) (a : IsAccumulator n v k e) (w : has_window k ≡ true) where
  no_window : (p : List ℕ × Tree) → p.0 ≡ n → bytes_eq p.0 (codes "window") ≡ false
  no_window p s = rw s (not_word (codes "window") n v k e window_unknown a)

  whole_only : (p : List ℕ × Tree) → find n (p ∷ []) ≡ Some v → function_in sorted (p ∷ []) ≡ Some (accumulates k e None None)
  whole_only p f =
      let s = at_only_one n p v f in
      (λ i. alone sorted (s.0 i) (s.1 i)) ∙ alone_accumulated sorted n v k e a ∙ accumulated_only n v k e None None a w

  framed_only : (low high : Option ℤ) (m : List ℕ) (u x : Tree) → m ≡ n → u ≡ v → IsFrame low high x → framed m u x ≡ Some (accumulates k e low high)
  framed_only low high m u x p q f =
      ap (λ o. o >>= accumulated m u) (frame_only low high x f) ∙ (λ i. accumulated (p i) (q i) (low, high)) ∙ accumulated_only n v k e low high a w

  first_window : (p q : List ℕ × Tree) (low high : Option ℤ) (x : Tree) → find n (p ∷ q ∷ []) ≡ Some v → bytes_eq p.0 (codes "window") ≡ true → p.1 ≡ x → IsFrame low high x → function_in sorted (p ∷ q ∷ []) ≡ Some (accumulates k e low high)
  first_window p q low high x f c s h = elim (at_first n p (q ∷ []) v f) [
    | inl g ↦ unlike (bytes_eq p.0 (codes "window")) c (no_window p (same_name p.0 n g.0))
    | inr g ↦ let r = at_only_one n q v g.1 in rw c (framed_only low high q.0 q.1 p.1 r.0 r.1 (rw s h))
  ]

  second_window : (p q : List ℕ × Tree) (low high : Option ℤ) (x : Tree) → find n (p ∷ q ∷ []) ≡ Some v → bytes_eq p.0 (codes "window") ≡ false → q.0 ≡ codes "window" → q.1 ≡ x → IsFrame low high x → function_in sorted (p ∷ q ∷ []) ≡ Some (accumulates k e low high)
  second_window p q low high x f c d s h = elim (at_first n p (q ∷ []) v f) [
    | inl g ↦ rw (c, equal_name q.0 (codes "window") d) (framed_only low high p.0 p.1 q.1 (same_name p.0 n g.0) g.1 (rw s h))
    | inr g ↦ unlike (bytes_eq q.0 (codes "window")) (equal_name q.0 (codes "window") d) (no_window q (at_only_one n q v g.1).0)
  ]

  either_window : (p q : List ℕ × Tree) (low high : Option ℤ) → find n (p ∷ q ∷ []) ≡ Some v → At (codes "window") (p ∷ q ∷ []) (IsFrame low high) → function_in sorted (p ∷ q ∷ []) ≡ Some (accumulates k e low high)
  either_window p q low high f h = elim (at_first (codes "window") p (q ∷ []) h.0 h.1) [
    | inl g ↦ first_window p q low high h.0 f g.0 g.1 h.2
    | inr g ↦ let r = at_only_one (codes "window") q h.0 g.1 in second_window p q low high h.0 f g.0 r.0 r.1 h.2
  ]

  accumulates_only : (ps : Fields) (low high : Option ℤ) → find n ps ≡ Some v → HasFrame ps low high → function_in sorted ps ≡ Some (accumulates k e low high)
  accumulates_only [] low high f h = absurd cc
  accumulates_only (p ∷ []) low high f (inl h) = whole_only p f ∙ (λ i. Some (accumulates k e (sym h.1 i) (sym h.2 i)))
  accumulates_only (p ∷ []) low high f (inr h) = absurd (let g : ⊥ = omega (arith, h.0) in g)
  accumulates_only (p ∷ q ∷ []) low high f (inl h) = absurd (let g : ⊥ = omega (arith, h.0) in g)
  accumulates_only (p ∷ q ∷ []) low high f (inr h) = either_window p q low high f h.1
  accumulates_only (p ∷ q ∷ r ∷ ps) low high f (inl h) = absurd (let g : ⊥ = omega (arith, h.0) in g)
  accumulates_only (p ∷ q ∷ r ∷ ps) low high f (inr h) = absurd (let g : ⊥ = omega (arith, h.0) in g)

shift_in_only : (ps : Fields) (e : Node) (by : ℤ) (d : Tree) → At (codes "output") ps (λ y. Spells [] y e) → At (codes "by") ps (λ y. as_whole y ≡ Some by) → or_null (find (codes "default") ps) ≡ d → shift_in ps ≡ Some (shift e by d)
shift_in_only ps e by d o b n =
    ap (λ (w : Option ℤ). w >>= λ m. read_at expr_value (codes "output") ps >>= λ x. Some (shift x m (or_null (find (codes "default") ps)))) (at_only as_whole (λ m y. as_whole y ≡ Some m) (codes "by") ps by (λ y h. h) b)
    ∙ ap (λ (x : Option Node). x >>= λ y. Some (shift y by (or_null (find (codes "default") ps)))) (at_only expr_value (λ x y. Spells [] y x) (codes "output") ps e (expr_only e) o)
    ∙ ap (λ y. Some (shift e by y)) n

bare_only : (allowed : Bool) (v : Tree) (h : WindowHead) → allowed ≡ true → as_fields v ≡ Some [] → bare_function allowed v h ≡ Some h
bare_only allowed v h a e = only_if_so (allowed && is_empty_doc v) (Some h) (rw (a, empty_only v e) refl)

pub function_only : (sorted : Bool) (t : Tree) (h : WindowHead) → IsFunction sorted t h → function sorted t ≡ Some h
function_only sorted t (accumulates k e low high) h =
    ap (λ o. o >>= function_in sorted) h.2 ∙ accumulates_only sorted h.1 h.3.0 k e h.3.2 h.4 h.0 low high h.3.1 h.5
function_only sorted t rank h = ap (λ o. o >>= function_in sorted) h.0.1 ∙ bare_only sorted h.0.0 rank h.1 h.0.2
function_only sorted t dense_rank h = ap (λ o. o >>= function_in sorted) h.0.1 ∙ bare_only sorted h.0.0 dense_rank h.1 h.0.2
function_only sorted t place h = ap (λ o. o >>= function_in sorted) h.1 ∙ bare_only true h.0 place refl h.2
function_only sorted t (shift e by d) h =
    ap (λ o. o >>= function_in sorted) h.2 ∙ ap (λ o. o >>= shift_in) (form_only (codes "output" ∷ codes "by" ∷ []) (codes "default" ∷ []) h.0 h.1 h.3) ∙ shift_in_only h.1 e by d h.4 h.5 h.6

pub output_only : (sorted : Bool) (f : List ℕ × Tree) (o : Steps × WindowHead) → IsOutput sorted f o → output sorted f ≡ Some o
output_only sorted f o h =
    ap (λ (p : Option Steps). p >>= λ q. function sorted f.1 >>= λ x. Some (q, x)) (path_read f.0 o.0 h.0.0 h.0.1) ∙ ap (λ (x : Option WindowHead). x >>= λ y. Some (o.0, y)) (function_only sorted f.1 o.1 h.1)

-- ---- what is read is written so

module _ (sorted : Bool) (t : Tree) (h : WindowHead) where
  accumulated_found : (n : List ℕ) (v : Tree) (ps : Fields) (f : Option ℤ × Option ℤ) → as_fields t ≡ Some ps → find n ps ≡ Some v → HasFrame ps f.0 f.1 → accumulated n v f ≡ Some h → IsFunction sorted t h
  accumulated_found n v ps f p q r e =
      let b = bind_some (accumulator n v) (λ a. only_if (has_window a.0) (Some (accumulates a.0 a.1 f.0 f.1))) h e in
      let o = only_some (has_window b.0.0) (Some (accumulates b.0.0 b.0.1 f.0 f.1)) h b.2 in
      subst (IsFunction sorted t) (some_same (accumulates b.0.0 b.0.1 f.0 f.1) h o.1) (ps, n, p, (v, q, accumulator_found n v b.0 b.1), o.0, r)

  framed_found : (n : List ℕ) (v w : Tree) (ps : Fields) → as_fields t ≡ Some ps → find n ps ≡ Some v → length ps ≡ 2 → find (codes "window") ps ≡ Some w → framed n v w ≡ Some h → IsFunction sorted t h
  framed_found n v w ps p q r s e =
      let b = bind_some (frame w) (accumulated n v) h e in
      accumulated_found n v ps b.0 p q (inr (r, (w, s, frame_found b.0 w b.1))) b.2

  bare_found : (allowed : Bool) (n : List ℕ) (v : Tree) (x : WindowHead) → as_fields t ≡ Some ((n, v) ∷ []) → (IsBare n t → allowed ≡ true → IsFunction sorted t x) → bare_function allowed v x ≡ Some h → IsFunction sorted t h
  bare_found allowed n v x p law e =
      let o = only_some (allowed && is_empty_doc v) (Some x) h e in
      let b = both allowed (is_empty_doc v) o.0 in
      subst (IsFunction sorted t) (some_same x h o.1) (law (v, p, empty_found v b.1) b.0)

  shift_found : (v : Tree) → as_fields t ≡ Some ((codes "$shift", v) ∷ []) → shift_value v ≡ Some h → IsFunction sorted t h
  shift_found v p e =
      let f = bind_some (form_in (codes "output" ∷ codes "by" ∷ []) (codes "default" ∷ []) v) shift_in h e in
      let b = bind_some (read_at as_whole (codes "by") f.0) (λ by. read_at expr_value (codes "output") f.0 >>= λ x. Some (shift x by (or_null (find (codes "default") f.0)))) h f.2 in
      let x = bind_some (read_at expr_value (codes "output") f.0) (λ y. Some (shift y b.0 (or_null (find (codes "default") f.0)))) h b.2 in
      subst (IsFunction sorted t) (some_same (shift x.0 b.0 (or_null (find (codes "default") f.0))) h x.2) (
        v,
        f.0,
        p,
        form_found (codes "output" ∷ codes "by" ∷ []) (codes "default" ∷ []) v f.0 f.1,
        at_found expr_value (λ z y. Spells [] y z) (codes "output") f.0 x.0 (expr_found x.0) x.1,
        at_found as_whole (λ m y. as_whole y ≡ Some m) (codes "by") f.0 b.0 (λ y q. q) b.1,
        refl,
      )

  -- a document of one field
  named : (p : List ℕ × Tree) (x : List ℕ) → as_fields t ≡ Some (p ∷ []) → bytes_eq p.0 x ≡ true → as_fields t ≡ Some ((x, p.1) ∷ [])
  named p x f c = f ∙ ap (λ n. Some ((n, p.1) ∷ [])) (same_name p.0 x c)

  alone_found : (p : List ℕ × Tree) → as_fields t ≡ Some (p ∷ []) → alone sorted p.0 p.1 ≡ Some h → IsFunction sorted t h
  alone_found p f e = elim (decided (bytes_eq p.0 (codes "$rank"))) [
    | inl c ↦ bare_found sorted (codes "$rank") p.1 rank (named p (codes "$rank") f c) (λ b s. (b, s)) (rw c at e)
    | inr a ↦ elim (decided (bytes_eq p.0 (codes "$denseRank"))) [
      | inl c ↦ bare_found sorted (codes "$denseRank") p.1 dense_rank (named p (codes "$denseRank") f c) (λ b s. (b, s)) (rw (a, c) at e)
      | inr b ↦ elim (decided (bytes_eq p.0 (codes "$documentNumber"))) [
        | inl c ↦ bare_found true (codes "$documentNumber") p.1 place (named p (codes "$documentNumber") f c) (λ x s. x) (rw (a, b, c) at e)
        | inr c ↦ elim (decided (bytes_eq p.0 (codes "$shift"))) [
          | inl d ↦ shift_found p.1 (named p (codes "$shift") f d) (rw (a, b, c, d) at e)
          | inr d ↦ accumulated_found p.0 p.1 (p ∷ []) (None, None) f (rw (equal_name p.0 p.0 refl) refl) (inl (refl, refl, refl)) (rw (a, b, c, d) at e)
        ]
      ]
    ]
  ]

  second_found : (p q : List ℕ × Tree) → as_fields t ≡ Some (p ∷ q ∷ []) → bytes_eq p.0 (codes "window") ≡ false → bytes_eq q.0 (codes "window") ≡ true → framed p.0 p.1 q.1 ≡ Some h → IsFunction sorted t h
  second_found p q f c d e = framed_found p.0 p.1 q.1 (p ∷ q ∷ []) f (rw (equal_name p.0 p.0 refl) refl) refl (rw (c, d) refl) e

  first_found : (p q : List ℕ × Tree) → as_fields t ≡ Some (p ∷ q ∷ []) → bytes_eq p.0 (codes "window") ≡ true → framed q.0 q.1 p.1 ≡ Some h → IsFunction sorted t h
  first_found p q f c e = framed_found q.0 q.1 p.1 (p ∷ q ∷ []) f (rw (other_name p.0 q.0 different, equal_name q.0 q.0 refl) refl) refl (rw c refl) e
    where
      not_window : bytes_eq q.0 (codes "window") ≡ false
      not_window =
          let b = bind_some (frame p.1) (accumulated q.0 q.1) h e in
          let a = bind_some (accumulator q.0 q.1) (λ x. only_if (has_window x.0) (Some (accumulates x.0 x.1 b.0.0 b.0.1))) h b.2 in
          not_word (codes "window") q.0 q.1 a.0.0 a.0.1 window_unknown (accumulator_found q.0 q.1 a.0 a.1)

      different : ¬ (p.0 ≡ q.0)
      different d = unlike (bytes_eq q.0 (codes "window")) (equal_name q.0 (codes "window") (sym d ∙ same_name p.0 (codes "window") c)) not_window

  function_in_found : (ps : Fields) → as_fields t ≡ Some ps → function_in sorted ps ≡ Some h → IsFunction sorted t h
  function_in_found [] f e = absurd cc
  function_in_found (p ∷ []) f e = alone_found p f e
  function_in_found (p ∷ q ∷ []) f e = elim (decided (bytes_eq p.0 (codes "window"))) [
    | inl c ↦ first_found p q f c (rw c at e)
    | inr c ↦ let o = only_some (bytes_eq q.0 (codes "window")) (framed p.0 p.1 q.1) h (rw c at e) in second_found p q f c o.0 o.1
  ]
  function_in_found (p ∷ q ∷ r ∷ ps) f e = absurd cc

pub function_found : (sorted : Bool) (t : Tree) (h : WindowHead) → function sorted t ≡ Some h → IsFunction sorted t h
function_found sorted t h e = let b = bind_some (as_fields t) (function_in sorted) h e in function_in_found sorted t h b.0 b.1 b.2

pub output_found : (sorted : Bool) (f : List ℕ × Tree) (o : Steps × WindowHead) → output sorted f ≡ Some o → IsOutput sorted f o
output_found sorted f o e =
    let b = bind_some (path_in f.0) (λ q. function sorted f.1 >>= λ x. Some (q, x)) o e in
    let x = bind_some (function sorted f.1) (λ y. Some (b.0, y)) o b.2 in
    subst (IsOutput sorted f) (some_same (b.0, x.0) o x.2) (path_is f.0 b.0 b.1, function_found sorted f.1 x.0 x.1)
