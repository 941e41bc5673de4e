-- The loop over the paths that a stage sets.
use Rattle.std.proofs.Common.{◌≡◌, ℕ, zero, suc, ◌+◌, ◌<◌, ◌≤◌, List, [], ◌∷◌, ◌++◌, length, drop, get_or, refl, sym, ap, ◌∙◌, arith, add-one, append-nil, subst}
use Rattle.std.specs.Prelude.{Option, Some, None, Result, Ok, Err}
use Rattle.std.proofs.Math.Seq.{drop-cons}
use Rattle.bson_value.specs.Tree.{Tree}
use Rattle.std.specs.Option.{option_map}
use denote.Ref.{Bor}
use Rattle.bson_value.specs.View.{tree_of}
use Rattle.bson_value.specs.Gives.{Fails}
use Rattle.bson_value.specs.declared.errors.EvalError.{EvalError}
use Rattle.bson_value.specs.declared.errors.EvalError.TheVariants.{Code}
use Rattle.bson_value.specs.declared.value.Value.{Value}
use Rattle.bson_value.specs.Paths.{Steps}
use Rattle.bson_value.specs.declared.eval_code.EvalCode.{EvalCode}
use Rattle.expr_tree.specs.declared.expr.Expr.{Expr}
use Rattle.expr_tree.specs.View.{node_of}
use Rattle.stage_tree.specs.Stage.{Made}
use Rattle.stage_tree.specs.StageView.{made_in}
use Rattle.stage_tree.specs.Outcome.{Fields, both}
use Rattle.stage_tree.specs.Rows.{value_for, values_for}
use Rattle.reshape_stage.specs.Seen.{noted, set_in}
use Rattle.reshape_stage.proofs.Joined.{so_far, so_far-ok, so_far-err}

made_at : (ms : List (Steps × Expr)) (i : ℕ) (m : Steps × Expr) → i < length ms → m ≡ get_or ms i m → made_in (drop i ms) ≡ (m.0, node_of m.1) ∷ made_in (drop (i + 1) ms)
made_at ms i m lt e =
    ap made_in (drop-cons ms i m lt ∙ ap (λ (x : Steps × Expr). x ∷ drop (suc i) ms) (sym e)) ∙ rw add-one refl

module _ (d : Fields) (ms : List (Steps × Expr)) (i : ℕ) (m : Steps × Expr) (lt : i < length ms) (e : m ≡ get_or ms i m) (l : Option EvalCode) (vs : List (Steps × Option Tree)) (r : Result (List (Steps × Option Tree)) EvalCode)
    (inv : so_far l vs (values_for d (made_in (drop i ms))) ≡ r) where
  here : so_far l vs (both (λ v ws. (m.0, v) ∷ ws) (value_for d (node_of m.1)) (values_for d (made_in (drop (i + 1) ms)))) ≡ r
  here = ap (λ (ns : Made). so_far l vs (values_for d ns)) (sym (made_at ms i m lt e)) ∙ inv

  pub made_given : (v : Option Tree) → value_for d (node_of m.1) ≡ Ok v → so_far l (vs ++ (m.0, v) ∷ []) (values_for d (made_in (drop (i + 1) ms))) ≡ r
  made_given v h =
      sym (so_far-ok (λ w. (m.0, w)) l vs v (values_for d (made_in (drop (i + 1) ms))))
      ∙ ap (λ (o : Result (Option Tree) EvalCode). so_far l vs (both (λ v ws. (m.0, v) ∷ ws) o (values_for d (made_in (drop (i + 1) ms))))) (sym h) ∙ here

  pub made_failed : (c : EvalCode) → value_for d (node_of m.1) ≡ Err c → so_far (Some (noted l c)) vs (values_for d (made_in (drop (i + 1) ms))) ≡ r
  made_failed c h =
      sym (so_far-err (λ v ws. (m.0, v) ∷ ws) l vs c (values_for d (made_in (drop (i + 1) ms))))
      ∙ ap (λ (o : Result (Option Tree) EvalCode). so_far l vs (both (λ v ws. (m.0, v) ∷ ws) o (values_for d (made_in (drop (i + 1) ms))))) (sym h) ∙ here

-- ---- the turns of the loop and its end

set_in-append : (vs ws : List (Bor Steps × Option Value)) → set_in (vs ++ ws) ≡ set_in vs ++ set_in ws
set_in-append [] ws = refl
set_in-append (v ∷ vs) ws = ap (λ (l : List (Steps × Option Tree)). (v.0.now, option_map tree_of v.1) ∷ l) (set_in-append vs ws)

module _ (d : Fields) (ms : List (Steps × Expr)) (i : ℕ) (m : Steps × Expr) (lt : i < length ms) (e : m ≡ get_or ms i m) (l new : Option EvalCode) (vs ws : List (Bor Steps × Option Value)) (r : Result (List (Steps × Option Tree)) EvalCode)
    (inv : so_far l (set_in vs) (values_for d (made_in (drop i ms))) ≡ r) where
  pub turn_given : (p : Bor Steps) (v : Option Value) → value_for d (node_of m.1) ≡ Ok (option_map tree_of v) → new ≡ l → ws ≡ vs ++ (p, v) ∷ [] → p.now ≡ m.0 → so_far new (set_in ws) (values_for d (made_in (drop (i + 1) ms))) ≡ r
  turn_given p v h same more is =
      ap (λ (o : Option EvalCode). so_far o (set_in ws) (values_for d (made_in (drop (i + 1) ms)))) same
      ∙ ap (λ (ps : List (Steps × Option Tree)). so_far l ps (values_for d (made_in (drop (i + 1) ms)))) (ap set_in more ∙ set_in-append vs ((p, v) ∷ []) ∙ ap (λ (q : Steps). set_in vs ++ (q, option_map tree_of v) ∷ []) is)
      ∙ made_given d ms i m lt e l (set_in vs) r inv (option_map tree_of v) h

  pub turn_failed : (c : EvalCode) (x : EvalError) → x ≡ Code c → Fails x (value_for d (node_of m.1)) → new ≡ Some (noted l c) → ws ≡ vs → so_far new (set_in ws) (values_for d (made_in (drop (i + 1) ms))) ≡ r
  turn_failed c x is h least same =
      ap (λ (o : Option EvalCode). so_far o (set_in ws) (values_for d (made_in (drop (i + 1) ms)))) least
      ∙ ap (λ (us : List (Bor Steps × Option Value)). so_far (Some (noted l c)) (set_in us) (values_for d (made_in (drop (i + 1) ms)))) same
      ∙ made_failed d ms i m lt e l (set_in vs) r inv c (subst (λ (y : EvalError). Fails y (value_for d (node_of m.1))) is h)

drop_past : (ms : List (Steps × Expr)) (i : ℕ) → length ms ≤ i → drop i ms ≡ []
drop_past [] zero h = refl
drop_past [] (suc i) h = refl
drop_past (m ∷ ms) zero h = absurd (omega (arith, h))
drop_past (m ∷ ms) (suc i) h = drop_past ms i (omega (arith, h))

pub made_ends : (d : Fields) (ms : List (Steps × Expr)) (i : ℕ) (l : Option EvalCode) (vs : List (Steps × Option Tree)) (r : Result (List (Steps × Option Tree)) EvalCode) → length ms ≤ i → l ≡ None →
    so_far l vs (values_for d (made_in (drop i ms))) ≡ r → r ≡ Ok vs
made_ends d ms i l vs r h none inv =
    sym inv ∙ ap (λ (o : Option EvalCode). so_far o vs (values_for d (made_in (drop i ms)))) none
    ∙ ap (λ (ns : List (Steps × Expr)). so_far None vs (values_for d (made_in ns))) (drop_past ms i h) ∙ ap Ok (append-nil vs)
