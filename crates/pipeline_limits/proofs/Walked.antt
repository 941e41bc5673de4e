-- The walk finds the bounds behind the stages, until one passes.
use Rattle.std.proofs.Common.{◌≡◌, ℕ, suc, ◌+◌, ◌<◌, max, Bool, true, false, cond, ◌||◌, List, ◌∷◌, length, get_or, drop, refl, sym, ap, ◌∙◌, add-one, drop-cons, arith}
use Rattle.std.proofs.lemmas.Option.{none-some, same_Some}
use Rattle.std.specs.Prelude.{Option, Some, None, nat_lt, if◌then◌else◌}
use Rattle.std.specs.Option.{option_and_then}
use Rattle.stage_tree.specs.Stage.{StageNode, stage, Stages, no_stages, placed, Pipes, no_pipes, pipe, stages_of}
use Rattle.pipeline_limits.specs.Limits.{begins, behind_row, bound_behind, bound_after, deepest_end, passes, passes_at, passes_within, first_passing, stages_in, stages_at}
use Rattle.pipeline_limits.specs.Walk.{unless_past, walk_stage, walk, walk_pipes}

-- found, where nothing passes
abbrev pub unless : Bool → ℕ → Option ℕ
unless passed n = if passed then None else Some n

then-unless : (a b : Bool) (n m : ℕ) (f : ℕ → Option ℕ) → f n ≡ unless b m → option_and_then f (unless a n) ≡ unless (a || b) m
then-unless true b n m f h = refl
then-unless false b n m f h = h

mutual
  pub walked-stage : (s : StageNode) (b : ℕ) → walk_stage s b ≡ unless (passes_at s b) (bound_behind s b)
  walked-stage (stage h ps) b =
      let e : max (deepest_end ps (begins h b)) 0 ≡ deepest_end ps (begins h b) = omega arith in
      rw (walked-pipes ps 0 (begins h b), e) (then-unless (passes_within ps (begins h b)) (nat_lt 1000 (bound_behind (stage h ps) b)) (deepest_end ps (begins h b)) (bound_behind (stage h ps) b) (λ (n : ℕ). unless_past (behind_row h n b)) refl)

  pub walked : (ss : Stages) (b : ℕ) → walk ss b ≡ unless (passes ss b) (bound_after ss b)
  walked no_stages b = refl
  walked (placed s os ss) b = rw (walked-stage s b) (then-unless (passes_at s b) (passes ss (bound_behind s b)) (bound_behind s b) (bound_after ss (bound_behind s b)) (walk ss) (walked ss (bound_behind s b)))

  pub walked-pipes : (ps : Pipes) (n b : ℕ) → walk_pipes n ps b ≡ unless (passes_within ps b) (max (deepest_end ps b) n)
  walked-pipes no_pipes n b = ap Some (let e : n ≡ max 0 n = omega arith in e)
  walked-pipes (pipe ss ps) n b =
      let e : max (deepest_end ps b) (max (bound_after ss b) n) ≡ max (max (bound_after ss b) (deepest_end ps b)) n = omega arith in
      rw (walked ss b) (then-unless (passes ss b) (passes_within ps b) (bound_after ss b) (max (max (bound_after ss b) (deepest_end ps b)) n) (λ (m : ℕ). walk_pipes (max m n) ps b) (walked-pipes ps (max (bound_after ss b) n) b ∙ ap (unless (passes_within ps b)) e))

-- a stage is one at least
some-stages : (s : StageNode) → 0 < stages_at s
some-stages (stage h ps) = omega arith

-- a place that is found lies among the stages
pub place-within : (ss : Stages) (n b p : ℕ) → first_passing n b ss ≡ Some p → p < n + stages_in ss
place-within no_stages n b p h = absurd (none-some p h)
place-within (placed s os ss) n b p h =
    elim (passes_at s b) as (λ c. cond c (Some n) (first_passing (suc n) (bound_behind s b) ss) ≡ Some p → p < n + (stages_at s + stages_in ss)) [
      | true ↦ λ e. omega (arith, same_Some n p e, some-stages s)
      | false ↦ λ e. omega (arith, place-within ss (suc n) (bound_behind s b) p e, some-stages s)
    ] h

-- the next step of the search
pub goes-on : (s : StageNode) (os : List ℕ) (ss : Stages) (n b c : ℕ) → walk_stage s b ≡ Some c → first_passing n b (placed s os ss) ≡ first_passing (n + 1) c ss
goes-on s os ss n b c h =
    elim (passes_at s b) as (λ q. unless q (bound_behind s b) ≡ Some c → cond q (Some n) (first_passing (suc n) (bound_behind s b) ss) ≡ first_passing (n + 1) c ss) [
      | true ↦ λ e. absurd (none-some c e)
      | false ↦ λ e. rw add-one (ap (λ (x : ℕ). first_passing (suc n) x ss) (same_Some (bound_behind s b) c e))
    ] (sym (walked-stage s b) ∙ h)

pub stops : (s : StageNode) (os : List ℕ) (ss : Stages) (n b : ℕ) → walk_stage s b ≡ None → first_passing n b (placed s os ss) ≡ Some n
stops s os ss n b h =
    elim (passes_at s b) as (λ q. unless q (bound_behind s b) ≡ None → cond q (Some n) (first_passing (suc n) (bound_behind s b) ss) ≡ Some n) [
      | true ↦ λ e. refl
      | false ↦ λ e. absurd (none-some (bound_behind s b) (sym e))
    ] (sym (walked-stage s b) ∙ h)

-- the stages from the i-th on
pub from-place : (items : List (StageNode × List ℕ)) (i : ℕ) (s : StageNode × List ℕ) (n b : ℕ) → i < length items → s ≡ get_or items i s → first_passing n b (stages_of (drop i items)) ≡ first_passing n b (placed s.0 s.1 (stages_of (drop (i + 1) items)))
from-place items i s n b lt p =
    ap (λ (l : List (StageNode × List ℕ)). first_passing n b (stages_of l)) (drop-cons items i s lt ∙ ap (λ (x : StageNode × List ℕ). x ∷ drop (suc i) items) (sym p)) ∙ rw add-one refl
