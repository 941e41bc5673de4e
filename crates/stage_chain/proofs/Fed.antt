-- Documents that were pushed one after another, and what every stage has done with them.
use Rattle.std.proofs.Common.{◌≡◌, ℕ, Bool, true, false, List, [], ◌∷◌, ◌++◌, refl, sym, ap, ◌∙◌, append_assoc, append-nil, subst}
use Rattle.std.specs.Prelude.{Option, Some, None, Ok, Err}
use Rattle.bson_value.specs.declared.eval_code.EvalCode.{EvalCode}
use Rattle.stage_tree.specs.Outcome.{Fields, Given, Ran, both, at_stage, lesser, ◌>>=◌}
use Rattle.reshape_stage.specs.Work.{Work, after, gives, after_all, fed as given_by, ends, in_all}
use Rattle.reshape_stage.proofs.Joined.{both-assoc, both-none}
use Rattle.stage_chain.specs.Chain.{Step, worse, let_on, step_behind, fed_step, behind, fed, pushed, ended_step, drained, finished, failure_or, failure_of, pushed_each, outcome, ended}

-- ---- one stage behind two lists

pub after_append : (w : Work) (ds es : List Fields) → after_all w (ds ++ es) ≡ after_all (after_all w ds) es
after_append w [] es = refl
after_append w (d ∷ ds) es = after_append (after w) ds es

none_first : (g : Given) → g ≡ both (λ xs ys. xs ++ ys) (Ok []) g
none_first (Ok ds) = refl
none_first (Err c) = refl

pub given_append : (w : Work) (ds es : List Fields) → given_by w (ds ++ es) ≡ both (λ xs ys. xs ++ ys) (given_by w ds) (given_by (after_all w ds) es)
given_append w [] es = none_first (given_by w es)
given_append w (d ∷ ds) es =
    ap (both (λ xs ys. xs ++ ys) (gives w d)) (given_append (after w) ds es) ∙ sym (both-assoc (gives w d) (given_by (after w) ds) (given_by (after_all (after w) ds) es))

-- ---- all stages

-- what a stage gave is there for the next one, or its code is noted and nothing is said of the next
abbrev Met : Given → Option EvalCode → (List Fields → Type 0) → Type 0
Met (Ok more) f K = (f ≡ None) × K more
Met (Err c) f K = f ≡ Some c

-- stages that have taken some documents and have given others
abbrev pub Have : List Step → List Fields → List Step → List Fields → Type 0
Have [] ds [] given = given ≡ ds
Have [] ds (t ∷ ts) given = ⊥
Have (s ∷ ss) ds [] given = ⊥
Have (s ∷ ss) ds (t ∷ ts) given = (t.work ≡ after_all s.work ds) × ((t.origin ≡ s.origin) × Met (given_by s.work ds) t.failed (λ more. Have ss more ts given))

met_more : (K : List Fields → Type 0) (L : List Fields → List Fields → Type 0) (g h : Given) (f : Option EvalCode) → ((more new : List Fields) → K more → L (more ++ new) new) →
    Met g f K → Met (both (λ xs ys. xs ++ ys) g h) (worse f h) (λ x. L x (let_on f h))
met_more K L (Ok more) (Ok new) None go m = (refl, go more new m.1)
met_more K L (Ok more) (Ok new) (Some b) go m = absurd (let e : Some b ≡ None = m.0 in cc)
met_more K L (Ok more) (Err c) None go m = refl
met_more K L (Ok more) (Err c) (Some b) go m = absurd (let e : Some b ≡ None = m.0 in cc)
met_more K L (Err c) (Ok new) f go m = m
met_more K L (Err c) (Err d) None go m = absurd cc
met_more K L (Err c) (Err d) (Some b) go m = ap (λ (x : EvalCode). Some (lesser x d)) (let e : b ≡ c = cc in e)

-- more documents
pub have_more : (ss : List Step) (ds : List Fields) (ts : List Step) (given es : List Fields) → Have ss ds ts given → Have ss (ds ++ es) (fed ts es).0 (given ++ (fed ts es).1)
have_more [] ds [] given es h = ap (λ l. l ++ es) h
have_more [] ds (t ∷ ts) given es h = absurd h
have_more (s ∷ ss) ds [] given es h = absurd h
have_more (s ∷ ss) ds (t ∷ ts) given es h =
    let same : given_by t.work es ≡ given_by (after_all s.work ds) es = ap (λ (w : Work). given_by w es) h.0 in
    let met : Met (both (λ xs ys. xs ++ ys) (given_by s.work ds) (given_by t.work es)) (worse t.failed (given_by t.work es)) (λ x. Have ss x (fed ts (let_on t.failed (given_by t.work es))).0 (given ++ (fed ts (let_on t.failed (given_by t.work es))).1)) =
    met_more (λ more. Have ss more ts given) (λ x new. Have ss x (fed ts new).0 (given ++ (fed ts new).1)) (given_by s.work ds) (given_by t.work es) t.failed (λ more new k. have_more ss more ts given new k) h.1.1 in
    let there = subst (λ (g : Given). Met g (worse t.failed (given_by t.work es)) (λ x. Have ss x (fed ts (let_on t.failed (given_by t.work es))).0 (given ++ (fed ts (let_on t.failed (given_by t.work es))).1)))
    (ap (both (λ xs ys. xs ++ ys) (given_by s.work ds)) same ∙ sym (given_append s.work ds es)) met in
    (ap (λ (w : Work). after_all w es) h.0 ∙ sym (after_append s.work ds es), (h.1.0, there))

-- documents pushed one after another
pub have_each : (ss : List Step) (ds : List Fields) (ts : List Step) (given es : List Fields) → Have ss ds ts given → Have ss (ds ++ es) (pushed_each ts es).0 (given ++ (pushed_each ts es).1)
have_each ss ds ts given [] h = rw (append-nil ds, append-nil given) h
have_each ss ds ts given (e ∷ es) h =
    let next = have_each ss (ds ++ e ∷ []) (pushed ts e).0 (given ++ (pushed ts e).1) es (have_more ss ds ts given (e ∷ []) h) in
    subst (λ (l : List Fields). Have ss l (pushed_each ts (e ∷ es)).0 (given ++ (pushed_each ts (e ∷ es)).1)) (append_assoc ds (e ∷ []) es)
    (subst (λ (l : List Fields). Have ss ((ds ++ e ∷ []) ++ es) (pushed_each ts (e ∷ es)).0 l) (append_assoc given (pushed ts e).1 (pushed_each (pushed ts e).0 es).1) next)

-- a list pushed in two parts
pub pushed_each-append : (ts : List Step) (ds es : List Fields) →
    pushed_each ts (ds ++ es) ≡ ((pushed_each (pushed_each ts ds).0 es).0, (pushed_each ts ds).1 ++ (pushed_each (pushed_each ts ds).0 es).1)
pushed_each-append ts [] es = refl
pushed_each-append ts (d ∷ ds) es =
    let more = pushed_each-append (pushed ts d).0 ds es in
    ap (λ (q : List Step × List Fields). (let r : List Step × List Fields = (q.0, (pushed ts d).1 ++ q.1) in r)) more
    ∙ ap (λ (l : List Fields). (let r : List Step × List Fields = ((pushed_each (pushed_each (pushed ts d).0 ds).0 es).0, l) in r)) (sym (append_assoc (pushed ts d).1 (pushed_each (pushed ts d).0 ds).1 (pushed_each (pushed_each (pushed ts d).0 ds).0 es).1))

-- ---- the end

-- what stages give one after another, each over the list of the one before
abbrev pub meaning : List Step → List Fields → Ran
meaning [] ds = Ok ds
meaning (s ∷ ss) ds = at_stage s.origin (in_all s.work ds) >>= meaning ss

-- a stage that has taken documents takes the last ones
module _ (ss ts : List Step) (given : List Fields) (n : ℕ) (last : List Fields)
    (rest : (more es : List Fields) → Have ss more ts given → outcome (failure_of (drained ts es).0) (given ++ (drained ts es).1) ≡ meaning ss (more ++ es)) where
  ended_met : (g h : Given) (f : Option EvalCode) → Met g f (λ more. Have ss more ts given) →
      outcome (failure_or (worse f h) n (failure_of (drained ts (let_on f h ++ last)).0)) (given ++ (drained ts (let_on f h ++ last)).1)
      ≡ (at_stage n (both (λ xs ys. xs ++ ys) (both (λ xs ys. xs ++ ys) g h) (Ok last)) >>= meaning ss)
  ended_met (Ok more) (Ok new) None m = rest more (new ++ last) m.1 ∙ ap (meaning ss) (sym (append_assoc more new last))
  ended_met (Ok more) (Ok new) (Some b) m = absurd (let e : Some b ≡ None = m.0 in cc)
  ended_met (Ok more) (Err c) None m = refl
  ended_met (Ok more) (Err c) (Some b) m = absurd (let e : Some b ≡ None = m.0 in cc)
  ended_met (Err c) (Ok new) None m = absurd cc
  ended_met (Err c) (Ok new) (Some b) m = ap (λ (x : EvalCode). Err (record { stage = n; code = x })) (let e : b ≡ c = cc in e)
  ended_met (Err c) (Err d) None m = absurd cc
  ended_met (Err c) (Err d) (Some b) m = ap (λ (x : EvalCode). Err (record { stage = n; code = lesser x d })) (let e : b ≡ c = cc in e)

whole_is : (s : Step) (ss : List Step) (ds : List Fields) (w : Work) (es : List Fields) (n : ℕ) → w ≡ after_all s.work ds → n ≡ s.origin →
    (at_stage n (both (λ xs ys. xs ++ ys) (both (λ xs ys. xs ++ ys) (given_by s.work ds) (given_by w es)) (Ok (ends (after_all w es)))) >>= meaning ss) ≡ meaning (s ∷ ss) (ds ++ es)
whole_is s ss ds w es n e o = rw (e, o, ← given_append s.work ds es, ← after_append s.work ds es) refl

pub ended_is : (ss : List Step) (ds : List Fields) (ts : List Step) (given es : List Fields) → Have ss ds ts given →
    outcome (failure_of (drained ts es).0) (given ++ (drained ts es).1) ≡ meaning ss (ds ++ es)
ended_is [] ds [] given es h = ap (λ (l : List Fields). Ok (l ++ es)) h
ended_is [] ds (t ∷ ts) given es h = absurd h
ended_is (s ∷ ss) ds [] given es h = absurd h
ended_is (s ∷ ss) ds (t ∷ ts) given es h =
    let last = ends (after_all t.work es) in
    let one = ended_met ss ts given t.origin last (λ more fs k. ended_is ss more ts given fs k) (given_by s.work ds) (given_by t.work es) t.failed h.1.1 in
    one ∙ whole_is s ss ds t.work es t.origin h.0 h.1.0
