-- The stages of a command: read where each is one, else refused at the least that is none.
use Rattle.std.proofs.Common.{◌≡◌, ℕ, zero, suc, ◌+◌, ◌≤◌, Bool, true, false, List, [], ◌∷◌, ◌++◌, drop, refl, sym, ap, ◌∙◌, arith, inl, inr, subst}
use Rattle.std.specs.Prelude.{Option, Some, None, Result, Ok, Err, ◌⊎◌, slice_get}
use Rattle.std.proofs.lemmas.List.{append_assoc, append-nil}
use Rattle.bson_value.specs.Tree.{Tree, Trees, no_trees, tree, trees_of}
use Rattle.stage_tree.specs.Outcome.{◌>>=◌}
use Rattle.stage_tree.specs.Stage.{StageNode, Stages, no_stages, placed, stages_of}
use Rattle.stage_tree.specs.declared.command.BadCommand.{BadCommand}
use Rattle.stage_read.specs.declared.errors.CommandError.{CommandError}
use Rattle.stage_read.specs.declared.errors.CommandError.TheVariants.{Bad, Memory}
use Rattle.stage_read.specs.Answers.{Refuses}
use Rattle.stage_read.specs.Commands.{form_at, numbered, top_from}
use Rattle.stage_read.specs.Faults.{HasNoStage}
use Rattle.stage_read.specs.Reading.{Placings, stage_reading}
use Rattle.stage_read.specs.Written.{SpellsStage, SpellsTop, place_before}
use Rattle.stage_read.proofs.Bits.{no_some}
use Rattle.stage_read.proofs.Sound.{stage_spelled}
use Rattle.stage_read.proofs.Spelled.{stage_read}
use Rattle.stage_read.proofs.Steps.{items_at}

pub ok_same : {A E : Type 0} (x y : A) → ◌≡◌ {A = Result A E} (Ok x) (Ok y) → x ≡ y
ok_same x y e = cc

pub err_same : {A E : Type 0} (x y : E) → ◌≡◌ {A = Result A E} (Err x) (Err y) → x ≡ y
err_same x y e = cc

no_ok : {A E : Type 0} {x : E} (y : A) → Err x ≡ Ok y → ⊥
no_ok y e = absurd cc

-- where no stage is read none is spelled
none_spelled : (t : Tree) (ts : Trees) (n : ℕ) → stage_reading (place_before ts) n t ≡ None → (s : StageNode) → ¬ SpellsStage (place_before ts) n t s
none_spelled t ts n e = λ s h. no_some s (sym e ∙ stage_read s (place_before ts) n t h)

from_on : (n k : ℕ) (ts : Trees) → HasNoStage n ts k → n ≤ k
from_on n k no_trees h = absurd h
from_on n k (tree t ts) (inl h) = omega (arith, h.0)
from_on n k (tree t ts) (inr h) = omega (arith, from_on (n + 1) k ts h)

pub all_spelled : (n k : ℕ) (ts : Trees) (ss : Stages) → SpellsTop n ts ss → ¬ HasNoStage n ts k
all_spelled n k no_trees no_stages s = λ h. h
all_spelled n k no_trees (placed s os ss) h = absurd h
all_spelled n k (tree t ts) no_stages h = absurd h
all_spelled n k (tree t ts) (placed s os ss) h = λ b. elim b [ inl c ↦ c.1 s h.0 | inr c ↦ all_spelled (n + 1) k ts ss h.2 c ]

abbrev IsRest : Placings → ℕ → Trees → Placings → Type 0
IsRest front n ts ss = (us : Placings) × (front ++ us ≡ ss) × SpellsTop n ts (stages_of us)

rest_of : (front : Placings) (n : ℕ) (t : Tree) (ts : Trees) (ss : Placings) (o : Option StageNode) → stage_reading (place_before ts) n t ≡ o → top_from front n (tree t ts) ≡ Ok ss
    → ((s : StageNode) → top_from (front ++ (s, n ∷ []) ∷ []) (n + 1) ts ≡ Ok ss → IsRest (front ++ (s, n ∷ []) ∷ []) (n + 1) ts ss) → IsRest front n (tree t ts) ss
rest_of front n t ts ss None h e go = absurd (no_ok ss (rw h at e))
rest_of front n t ts ss (Some s) h e go =
    let r = go s (rw h at e) in
    ((s, n ∷ []) ∷ r.0, sym (append_assoc front ((s, n ∷ []) ∷ []) r.0) ∙ r.1, (stage_spelled (place_before ts) n t s h, refl, r.2))

pub top_spelled : (front : Placings) (n : ℕ) (ts : Trees) (ss : Placings) → top_from front n ts ≡ Ok ss → IsRest front n ts ss
top_spelled front n no_trees ss e = ([], append-nil front ∙ ok_same front ss e, tt)
top_spelled front n (tree t ts) ss e = rest_of front n t ts ss (stage_reading (place_before ts) n t) refl e (λ s h. top_spelled (front ++ (s, n ∷ []) ∷ []) (n + 1) ts ss h)

pub top_read : (ss : Stages) (front : Placings) (n : ℕ) (ts : Trees) → SpellsTop n ts ss → (us : Placings) × (top_from front n ts ≡ Ok (front ++ us)) × (stages_of us ≡ ss)
top_read no_stages front n no_trees h = ([], ap Ok (sym (append-nil front)), refl)
top_read no_stages front n (tree t ts) h = absurd h
top_read (placed s os ss) front n no_trees h = absurd h
top_read (placed s os ss) front n (tree t ts) h =
    let e = stage_read s (place_before ts) n t h.0 in
    let r = top_read ss (front ++ (s, n ∷ []) ∷ []) (n + 1) ts h.2 in
    ((s, n ∷ []) ∷ r.0, rw e (r.1 ∙ ap Ok (append_assoc front ((s, n ∷ []) ∷ []) r.0)), (λ i. placed s (sym h.1 i) (r.2 i)))

-- the refusal is at the least stage that is none
abbrev pub IsLeastFrom : ℕ → Trees → BadCommand → Type 0
IsLeastFrom n ts b = (k : ℕ) × (b ≡ form_at k) × HasNoStage n ts k × ((m : ℕ) → HasNoStage n ts m → k ≤ m)

least_of : (front : Placings) (n : ℕ) (t : Tree) (ts : Trees) (b : BadCommand) (o : Option StageNode) → stage_reading (place_before ts) n t ≡ o → top_from front n (tree t ts) ≡ Err b
    → ((s : StageNode) → top_from (front ++ (s, n ∷ []) ∷ []) (n + 1) ts ≡ Err b → IsLeastFrom (n + 1) ts b) → IsLeastFrom n (tree t ts) b
least_of front n t ts b None h e go = (n, sym (err_same (form_at n) b (rw h at e)), inl (refl, none_spelled t ts n h), λ m g. from_on n m (tree t ts) g)
least_of front n t ts b (Some s) h e go =
    let r = go s (rw h at e) in
    (r.0, r.1, inr r.2, λ m g. elim g [ inl c ↦ absurd (c.1 s (stage_spelled (place_before ts) n t s h)) | inr c ↦ r.3 m c ])

pub top_bad : (front : Placings) (n : ℕ) (ts : Trees) (b : BadCommand) → top_from front n ts ≡ Err b → IsLeastFrom n ts b
top_bad front n no_trees b e = absurd cc
top_bad front n (tree t ts) b e = least_of front n t ts b (stage_reading (place_before ts) n t) refl e (λ s h. top_bad (front ++ (s, n ∷ []) ∷ []) (n + 1) ts b h)

-- one stage after another
stays : {A B : Type 0} (e : CommandError) (o : Result A BadCommand) (f : A → Result B BadCommand) (s : Result B BadCommand) → (o >>= f) ≡ s → Refuses e o → Refuses e s
stays Memory o f s p h = tt
stays (Bad b) o f s p h = sym p ∙ rw h refl

module _ (ts : List Tree) (i : ℕ) (t : Tree) (at : slice_get ts i ≡ Some t) (front : Placings) (s : Result Placings BadCommand) (p : top_from front (i + 1) (trees_of (drop i ts)) ≡ s) where
  top_at : (numbered (i + 1) (stage_reading (place_before (trees_of (drop (i + 1) ts))) (i + 1) t) >>= λ x. top_from (front ++ (x, (i + 1) ∷ []) ∷ []) (i + 1 + 1) (trees_of (drop (i + 1) ts))) ≡ s
  top_at = ap (λ us. top_from front (i + 1) us) (sym (items_at ts i t at)) ∙ p

  pub top_fails : (e : CommandError) → Refuses e (numbered (i + 1) (stage_reading (place_before (trees_of (drop (i + 1) ts))) (i + 1) t)) → Refuses e s
  top_fails e h = stays e (numbered (i + 1) (stage_reading (place_before (trees_of (drop (i + 1) ts))) (i + 1) t)) (λ x. top_from (front ++ (x, (i + 1) ∷ []) ∷ []) (i + 1 + 1) (trees_of (drop (i + 1) ts))) s top_at h

  pub top_goes : (x : StageNode) → numbered (i + 1) (stage_reading (place_before (trees_of (drop (i + 1) ts))) (i + 1) t) ≡ Ok x → top_from (front ++ (x, (i + 1) ∷ []) ∷ []) (i + 1 + 1) (trees_of (drop (i + 1) ts)) ≡ s
  top_goes x h = ap (λ (o : Result StageNode BadCommand). o >>= λ y. top_from (front ++ (y, (i + 1) ∷ []) ∷ []) (i + 1 + 1) (trees_of (drop (i + 1) ts))) (sym h) ∙ top_at
