-- One stage takes documents one after another, and the stages of a list take them one after another.
use Rattle.std.proofs.Common.{◌≡◌, ℕ, zero, suc, ◌+◌, ◌<◌, ◌≤◌, Bool, true, false, List, [], ◌∷◌, ◌++◌, length, take, drop, set, get_or, refl, sym, ap, ◌∙◌, arith, append_assoc, append-nil, add-one}
use Rattle.std.specs.Prelude.{Option, Some, None, Ok, Err, slice_get}
use Rattle.bson_value.specs.declared.eval_code.EvalCode.{EvalCode}
use Rattle.stage_tree.specs.Outcome.{Fields, Given, both, lesser}
use Rattle.reshape_stage.specs.Work.{Work, each, limiting, skipping, counting, after, gives, after_all, fed as given_by, added}
use Rattle.reshape_stage.specs.Seen.{noted}
use Rattle.reshape_stage.proofs.Joined.{noted-noted}
use Rattle.stage_chain.specs.Chain.{Step, worse, let_on, step_behind, fed_step, ended_step, behind, fed, drained}
use Rattle.stage_chain.specs.Seen.{out_of, taken}

-- ---- one stage

-- the stage and what it lets on, behind what it gave already
abbrev pub gone : Step → List Fields → List Fields → Step × List Fields
gone s given ds = (step_behind s ds, let_on s.failed (added given (given_by s.work ds)))

let_on_none : (f : Option EvalCode) (g : Given) → let_on f (added [] g) ≡ let_on f g
let_on_none None (Ok ds) = refl
let_on_none None (Err c) = refl
let_on_none (Some b) (Ok ds) = refl
let_on_none (Some b) (Err c) = refl

pub gone_begins : (s : Step) (ds : List Fields) → gone s [] ds ≡ fed_step s ds
gone_begins s ds = let second : List Fields → Step × List Fields = λ l. (step_behind s ds, l) in ap second (let_on_none s.failed (given_by s.work ds))

worse_both : (f : Option EvalCode) (g r : Given) → worse f (both (λ xs ys. xs ++ ys) g r) ≡ worse (worse f g) r
worse_both f (Ok more) (Ok new) = refl
worse_both f (Ok more) (Err e) = refl
worse_both f (Err c) (Ok new) = refl
worse_both f (Err c) (Err e) = ap Some (sym (noted-noted f c e))

let_on_both : (f : Option EvalCode) (given : List Fields) (g r : Given) → let_on f (added given (both (λ xs ys. xs ++ ys) g r)) ≡ let_on (worse f g) (added (given ++ out_of g) r)
let_on_both None given (Ok more) (Ok new) = sym (append_assoc given more new)
let_on_both None given (Ok more) (Err e) = refl
let_on_both None given (Err c) (Ok new) = refl
let_on_both None given (Err c) (Err e) = refl
let_on_both (Some b) given (Ok more) (Ok new) = refl
let_on_both (Some b) given (Ok more) (Err e) = refl
let_on_both (Some b) given (Err c) (Ok new) = refl
let_on_both (Some b) given (Err c) (Err e) = refl

abbrev behind_failing : Step → List Fields → Option EvalCode → Step
behind_failing s ds f = record { work = after_all s.work ds; origin = s.origin; failed = f }

pub gone_more : (s : Step) (given : List Fields) (d : Fields) (ds : List Fields) → gone s given (d ∷ ds) ≡ gone (taken s given d).0 (taken s given d).1 ds
gone_more s given d ds =
    let first : Option EvalCode → Step × List Fields = λ f. (behind_failing s (d ∷ ds) f, let_on s.failed (added given (given_by s.work (d ∷ ds)))) in
    let second : List Fields → Step × List Fields = λ l. (step_behind (taken s given d).0 ds, l) in
    ap first (worse_both s.failed (gives s.work d) (given_by (after s.work) ds)) ∙ ap second (let_on_both s.failed given (gives s.work d) (given_by (after s.work) ds))

pub gone_step : (s t : Step) (given new : List Fields) (d : Fields) (ds es : List Fields) (r : Step × List Fields) → ds ≡ d ∷ es → (t, new) ≡ taken s given d → gone s given ds ≡ r → gone t new es ≡ r
gone_step s t given new d ds es r e took inv =
    let next : Step × List Fields → Step × List Fields = λ q. gone q.0 q.1 es in
    ap next took ∙ sym (gone_more s given d es) ∙ ap (gone s given) (sym e) ∙ inv

-- at the end
pub gone_ends : (s : Step) (given ds : List Fields) (r : Step × List Fields) → ds ≡ [] → gone s given ds ≡ r → (s, let_on s.failed (Ok given)) ≡ r
gone_ends s given ds r e inv =
    let last : List Fields → Step × List Fields = λ l. (s, let_on s.failed (Ok l)) in
    sym (ap last (append-nil given)) ∙ ap (gone s given) (sym e) ∙ inv

-- ---- one document

module _ (f : Option EvalCode) (ds : List Fields) where
  pub ok_failed : (g : Given) (new : List Fields) → added ds g ≡ Ok new → worse f g ≡ f
  ok_failed (Ok more) new e = refl
  ok_failed (Err c) new e = absurd cc

  pub ok_given : (g : Given) (new : List Fields) → added ds g ≡ Ok new → ds ++ out_of g ≡ new
  ok_given (Ok more) new e = cc
  ok_given (Err c) new e = absurd cc

  pub err_failed : (g : Given) (c : EvalCode) → added ds g ≡ Err c → worse f g ≡ Some (noted f c)
  err_failed (Ok more) c e = absurd cc
  err_failed (Err d) c e = ap (λ (x : EvalCode). Some (noted f x)) (let p : d ≡ c = cc in p)

  pub err_given : (g : Given) (c : EvalCode) → added ds g ≡ Err c → ds ++ out_of g ≡ ds
  err_given (Ok more) c e = absurd cc
  err_given (Err d) c e = append-nil ds

-- what fails stays as it is
pub err_stays : (w : Work) (d : Fields) (ds : List Fields) (c : EvalCode) → added ds (gives w d) ≡ Err c → after w ≡ w
err_stays (each s) d ds c e = refl
err_stays (limiting n) d ds c e = absurd cc
err_stays (skipping n) d ds c e = absurd cc
err_stays (counting name n) d ds c e = absurd cc

abbrev made : Work → ℕ → Option EvalCode → Step
made w n f = record { work = w; origin = n; failed = f }

pub took_ok : (s : Step) (given new : List Fields) (d : Fields) (w : Work) → added given (gives s.work d) ≡ Ok new → w ≡ after s.work → (made w s.origin s.failed, new) ≡ taken s given d
took_ok s given new d w e next =
    let first : Work → Step × List Fields = λ x. (made x s.origin s.failed, new) in
    let second : Option EvalCode → Step × List Fields = λ f. (made (after s.work) s.origin f, new) in
    let third : List Fields → Step × List Fields = λ l. (made (after s.work) s.origin (worse s.failed (gives s.work d)), l) in
    ap first next ∙ ap second (sym (ok_failed s.failed given (gives s.work d) new e)) ∙ ap third (sym (ok_given s.failed given (gives s.work d) new e))

pub took_err : (s : Step) (given new : List Fields) (d : Fields) (w : Work) (c : EvalCode) → added given (gives s.work d) ≡ Err c → w ≡ s.work → new ≡ given →
    (made w s.origin (Some (noted s.failed c)), new) ≡ taken s given d
took_err s given new d w c e same stays =
    let first : Work → Step × List Fields = λ x. (made x s.origin (Some (noted s.failed c)), new) in
    let second : Option EvalCode → Step × List Fields = λ f. (made (after s.work) s.origin f, new) in
    let third : List Fields → Step × List Fields = λ l. (made (after s.work) s.origin (worse s.failed (gives s.work d)), l) in
    ap first (same ∙ sym (err_stays s.work d given c e)) ∙ ap second (sym (err_failed s.failed given (gives s.work d) c e))
    ∙ ap third (stays ∙ sym (err_given s.failed given (gives s.work d) c e))

-- ---- the stages of a list

none_got : (i : ℕ) (s : Step) → slice_get [] i ≡ Some s → ⊥
none_got i s e = cc

got_there : (i : ℕ) (ss : List Step) (s : Step) → i < length ss → s ≡ get_or ss i s → slice_get ss i ≡ Some s
got_there i [] s lt is = absurd (omega (arith, lt))
got_there zero (x ∷ ss) s lt is = ap Some (sym is)
got_there (suc i) (x ∷ ss) s lt is = got_there i ss s (omega (arith, lt)) is

-- of the stages the first i have taken the documents, and the others take what these let on
abbrev pub fed_from : ℕ → List Step → List Fields → List Step × List Fields
fed_from i ss ds = (take i ss ++ (fed (drop i ss) ds).0, (fed (drop i ss) ds).1)

abbrev pub drained_from : ℕ → List Step → List Fields → List Step × List Fields
drained_from i ss ds = (take i ss ++ (drained (drop i ss) ds).0, (drained (drop i ss) ds).1)

fed_behind : (i : ℕ) (ss : List Step) (ds : List Fields) (s t : Step) (es : List Fields) → slice_get ss i ≡ Some s → (t, es) ≡ fed_step s ds → fed_from (suc i) (set ss i t) es ≡ fed_from i ss ds
fed_behind i [] ds s t es got e = absurd (none_got i s got)
fed_behind zero (x ∷ ss) ds s t es got e =
    let p : x ≡ s = cc in
    ap (λ (q : Step × List Fields). (let r : List Step × List Fields = ((q.0 ∷ []) ++ (fed ss q.1).0, (fed ss q.1).1) in r)) (e ∙ ap (λ (y : Step). fed_step y ds) (sym p))
fed_behind (suc i) (x ∷ ss) ds s t es got e = ap (behind x) (fed_behind i ss ds s t es got e)

drained_behind : (i : ℕ) (ss : List Step) (ds : List Fields) (s t : Step) (es : List Fields) → slice_get ss i ≡ Some s → (t, es) ≡ ended_step s ds → drained_from (suc i) (set ss i t) es ≡ drained_from i ss ds
drained_behind i [] ds s t es got e = absurd (none_got i s got)
drained_behind zero (x ∷ ss) ds s t es got e =
    let p : x ≡ s = cc in
    ap (λ (q : Step × List Fields). (let r : List Step × List Fields = ((q.0 ∷ []) ++ (drained ss q.1).0, (drained ss q.1).1) in r)) (e ∙ ap (λ (y : Step). ended_step y ds) (sym p))
drained_behind (suc i) (x ∷ ss) ds s t es got e = ap (behind x) (drained_behind i ss ds s t es got e)

pub fed_ends : (ss : List Step) (ds : List Fields) (i : ℕ) → length ss ≤ i → fed_from i ss ds ≡ (ss, ds)
fed_ends [] ds zero h = refl
fed_ends [] ds (suc i) h = refl
fed_ends (s ∷ ss) ds zero h = absurd (omega (arith, h))
fed_ends (s ∷ ss) ds (suc i) h = ap (behind s) (fed_ends ss ds i (omega (arith, h)))

pub drained_ends : (ss : List Step) (ds : List Fields) (i : ℕ) → length ss ≤ i → drained_from i ss ds ≡ (ss, ds)
drained_ends [] ds zero h = refl
drained_ends [] ds (suc i) h = refl
drained_ends (s ∷ ss) ds zero h = absurd (omega (arith, h))
drained_ends (s ∷ ss) ds (suc i) h = ap (behind s) (drained_ends ss ds i (omega (arith, h)))

pub fed_next : (i : ℕ) (ss : List Step) (ds : List Fields) (s t : Step) (es : List Fields) (r : List Step × List Fields) → slice_get ss i ≡ Some s → (t, es) ≡ fed_step s ds → fed_from i ss ds ≡ r → fed_from (i + 1) (set ss i t) es ≡ r
fed_next i ss ds s t es r got e inv =
    let more : i + 1 ≡ suc i = omega arith in
    ap (λ (k : ℕ). fed_from k (set ss i t) es) more ∙ fed_behind i ss ds s t es got e ∙ inv

-- an element by its place
pub fed_at : (i : ℕ) (ss : List Step) (ds : List Fields) (s t : Step) (es : List Fields) (r : List Step × List Fields) → i < length ss → s ≡ get_or ss i s → (t, es) ≡ fed_step s ds → fed_from i ss ds ≡ r → fed_from (i + 1) (set ss i t) es ≡ r
fed_at i ss ds s t es r lt is e inv = fed_next i ss ds s t es r (got_there i ss s lt is) e inv

pub drained_next : (i : ℕ) (ss : List Step) (ds : List Fields) (s t : Step) (es : List Fields) (r : List Step × List Fields) → slice_get ss i ≡ Some s → (t, es) ≡ ended_step s ds → drained_from i ss ds ≡ r → drained_from (i + 1) (set ss i t) es ≡ r
drained_next i ss ds s t es r got e inv =
    let more : i + 1 ≡ suc i = omega arith in
    ap (λ (k : ℕ). drained_from k (set ss i t) es) more ∙ drained_behind i ss ds s t es got e ∙ inv

-- an element by its place
pub drained_at : (i : ℕ) (ss : List Step) (ds : List Fields) (s t : Step) (es : List Fields) (r : List Step × List Fields) → i < length ss → s ≡ get_or ss i s → (t, es) ≡ ended_step s ds → drained_from i ss ds ≡ r → drained_from (i + 1) (set ss i t) es ≡ r
drained_at i ss ds s t es r lt is e inv = drained_next i ss ds s t es r (got_there i ss s lt is) e inv
