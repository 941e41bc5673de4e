-- The first stage that passes a limit is the first with a bound past it.
use Rattle.std.proofs.Common.{◌≡◌, ℕ, suc, ◌+◌, ◌<◌, ◌≤◌, Bool, true, false, cond, List, [], ◌∷◌, ◌++◌, length, get_or, refl, sym, ap, ◌∙◌, arith}
use Rattle.std.specs.Prelude.{◌||◌, Option, Some, None, option_map, nat_lt}
use Rattle.std.specs.List.{All, Any, list_any}
use Rattle.std.proofs.lemmas.Bool.{ltb-true, ltb-false, lt-ltb, le-ltb}
use Rattle.std.proofs.lemmas.List.Folds.{list_any-append, Any-from_list_any, list_any-from_Any, list_any_none, list_any_at}
use Rattle.std.proofs.lemmas.Option.{none-some, same_Some}
use Rattle.stage_tree.specs.Stage.{StageNode, stage, Stages, no_stages, placed, Pipes, no_pipes, pipe, stages_of}
use Rattle.stage_tree.specs.declared.command.BadCommand.{BadCommand}
use Rattle.stage_tree.specs.declared.command.CommandWhy.TheVariants as W
use Rattle.pipeline_limits.specs.Limits.{begins, bound_behind, bound_after, passes, passes_at, passes_within, first_passing, stages_in, refused_at, past_limits}
use Rattle.stage_laws.specs.Bounds.{bounds, bounds_at, bounds_within, IsFirstTooDeep}

or_false : (b : Bool) → (b || false) ≡ b
or_false true = refl
or_false false = refl

abbrev past : ℕ → Bool
past n = nat_lt 1000 n

abbrev some_past : List ℕ → Bool
some_past ns = list_any past ns

mutual
  at_past : (s : StageNode) (b : ℕ) → passes_at s b ≡ some_past (bounds_at s b)
  at_past (stage h ps) b =
      let m = bound_behind (stage h ps) b in
      ap (λ (q : Bool). q || past m) (within_past ps (begins h b)) ∙ ap (λ (q : Bool). some_past (bounds_within ps (begins h b)) || q) (sym (or_false (past m))) ∙ sym (list_any-append past (bounds_within ps (begins h b)) (m ∷ []))

  stages_past : (ss : Stages) (b : ℕ) → passes ss b ≡ some_past (bounds ss b)
  stages_past no_stages b = refl
  stages_past (placed s os ss) b = (λ i. at_past s b i || stages_past ss (bound_behind s b) i) ∙ sym (list_any-append past (bounds_at s b) (bounds ss (bound_behind s b)))

  within_past : (ps : Pipes) (b : ℕ) → passes_within ps b ≡ some_past (bounds_within ps b)
  within_past no_pipes b = refl
  within_past (pipe ss ps) b = (λ i. stages_past ss b i || within_past ps b i) ∙ sym (list_any-append past (bounds ss b) (bounds_within ps b))

any_past : (ns : List ℕ) → some_past ns ≡ true → Any (λ n. 1000 < n) ns
any_past ns e = let a = Any-from_list_any past ns e in (a.0, a.1, a.2, a.3, ltb-true 1000 a.1 a.4)

past_any : (ns : List ℕ) → Any (λ n. 1000 < n) ns → some_past ns ≡ true
past_any ns a = list_any-from_Any past ns (a.0, a.1, a.2, a.3, lt-ltb 1000 a.1 a.4)

true_false : (b : Bool) → b ≡ true → b ≡ false → ⊥
true_false b e f = cc

none_past : (ns : List ℕ) → some_past ns ≡ false → All (λ n. n ≤ 1000) ns
none_past ns e k d low =
    elim (past (get_or ns k d)) as (λ q. past (get_or ns k d) ≡ q → get_or ns k d ≤ 1000) [
      | true ↦ λ g. absurd (true_false (some_past ns) (list_any_at past ns k d low g) e)
      | false ↦ λ g. ltb-false 1000 (get_or ns k d) g
    ] refl

past_none : (ns : List ℕ) → All (λ n. n ≤ 1000) ns → some_past ns ≡ false
past_none ns h = list_any_none past ns (λ k d low. le-ltb 1000 (get_or ns k d) (h k d low))

neither : (a b : Bool) → (a || b) ≡ false → (a ≡ false) × (b ≡ false)
neither true b e = absurd cc
neither false b e = (refl, e)

-- ---- the first that passes

abbrev Items : Type 0
Items = List (StageNode × List ℕ)

found_at : (items : Items) (n b p : ℕ) → first_passing n b (stages_of items) ≡ Some p → (front : Items) × (s : StageNode × List ℕ) × (back : Items) × (front ++ s ∷ back ≡ items) × (n + length front ≡ p) × (passes_at s.0 (bound_after (stages_of front) b) ≡ true) × (passes (stages_of front) b ≡ false)
found_at [] n b p e = absurd (none-some p e)
found_at (s ∷ ss) n b p e =
    elim (passes_at s.0 b) as (λ q. passes_at s.0 b ≡ q → cond q (Some n) (first_passing (suc n) (bound_behind s.0 b) (stages_of ss)) ≡ Some p → (front : Items) × (t : StageNode × List ℕ) × (back : Items) × (front ++ t ∷ back ≡ s ∷ ss) × (n + length front ≡ p) × (passes_at t.0 (bound_after (stages_of front) b) ≡ true) × (passes (stages_of front) b ≡ false)) [
      | true ↦ λ q f. ([], s, ss, refl, omega (arith, same_Some n p f), q, refl)
      | false ↦ λ q f.
          let r = found_at ss (suc n) (bound_behind s.0 b) p f in
          (s ∷ r.0, r.1, r.2, ap (λ (l : Items). s ∷ l) r.3, omega (arith, r.4), r.5, ap (λ (x : Bool). x || passes (stages_of r.0) (bound_behind s.0 b)) q ∙ r.6)
    ] refl e

at_found : (front : Items) (s : StageNode × List ℕ) (back : Items) (n b : ℕ) → passes_at s.0 (bound_after (stages_of front) b) ≡ true → passes (stages_of front) b ≡ false → first_passing n b (stages_of (front ++ s ∷ back)) ≡ Some (n + length front)
at_found [] s back n b e f = ap (λ (q : Bool). cond q (Some n) (first_passing (suc n) (bound_behind s.0 b) (stages_of back))) e ∙ ap Some (let z : n ≡ n + 0 = omega arith in z)
at_found (t ∷ front) s back n b e f =
    let h = neither (passes_at t.0 b) (passes (stages_of front) (bound_behind t.0 b)) f in
    ap (λ (q : Bool). cond q (Some n) (first_passing (suc n) (bound_behind t.0 b) (stages_of (front ++ s ∷ back)))) h.0 ∙ at_found front s back (suc n) (bound_behind t.0 b) e h.1 ∙ ap Some (let z : suc n + length front ≡ n + suc (length front) = omega arith in z)

none_found : (ss : Stages) (n b : ℕ) → first_passing n b ss ≡ None → passes ss b ≡ false
none_found no_stages n b e = refl
none_found (placed s os ss) n b e =
    elim (passes_at s b) as (λ q. cond q (Some n) (first_passing (suc n) (bound_behind s b) ss) ≡ None → (q || passes ss (bound_behind s b)) ≡ false) [
      | true ↦ λ f. absurd (none-some n (sym f))
      | false ↦ λ f. none_found ss (suc n) (bound_behind s b) f
    ] e

found_none : (ss : Stages) (n b : ℕ) → passes ss b ≡ false → first_passing n b ss ≡ None
found_none no_stages n b e = refl
found_none (placed s os ss) n b e =
    let h = neither (passes_at s b) (passes ss (bound_behind s b)) e in
    ap (λ (q : Bool). cond q (Some n) (first_passing (suc n) (bound_behind s b) ss)) h.0 ∙ found_none ss (suc n) (bound_behind s b) h.1

pub first_is : (items : Items) (n : ℕ) → first_passing 1 100 (stages_of items) ≡ Some n → IsFirstTooDeep items n
first_is items n e =
    let r = found_at items 1 100 n e in
    record {
      front = r.0;
      at = r.1;
      back = r.2;
      split = r.3;
      place = omega (arith, r.4);
      passes = any_past (bounds_at r.1.0 (bound_after (stages_of r.0) 100)) (sym (at_past r.1.0 (bound_after (stages_of r.0) 100)) ∙ r.5);
      keeps = none_past (bounds (stages_of r.0) 100) (sym (stages_past (stages_of r.0) 100) ∙ r.6);
    }

pub is_first : (items : Items) (n : ℕ) → IsFirstTooDeep items n → first_passing 1 100 (stages_of items) ≡ Some n
is_first items n h =
    ap (λ (l : Items). first_passing 1 100 (stages_of l)) (sym h.split)
    ∙ at_found h.front h.at h.back 1 100 (at_past h.at.0 (bound_after (stages_of h.front) 100) ∙ past_any (bounds_at h.at.0 (bound_after (stages_of h.front) 100)) h.passes) (stages_past (stages_of h.front) 100 ∙ past_none (bounds (stages_of h.front) 100) h.keeps)
    ∙ ap Some (let z : 1 + length h.front ≡ n = omega (arith, h.place) in z)

pub none_is : (ss : Stages) → first_passing 1 100 ss ≡ None → All (λ n. n ≤ 1000) (bounds ss 100)
none_is ss e = none_past (bounds ss 100) (sym (stages_past ss 100) ∙ none_found ss 1 100 e)

pub is_none : (ss : Stages) → All (λ n. n ≤ 1000) (bounds ss 100) → first_passing 1 100 ss ≡ None
is_none ss h = found_none ss 1 100 (stages_past ss 100 ∙ past_none (bounds ss 100) h)

-- ---- the limits together

abbrev deep : Option ℕ → Option BadCommand
deep o = option_map (λ n. refused_at n W.StaticDepth) o

deep_is : (o : Option ℕ) (n : ℕ) → deep o ≡ Some (refused_at n W.StaticDepth) → o ≡ Some n
deep_is None n e = absurd (none-some (refused_at n W.StaticDepth) e)
deep_is (Some m) n e = ap (λ (b : BadCommand). Some b.stage) (same_Some (refused_at m W.StaticDepth) (refused_at n W.StaticDepth) e)

differ : W.Stages ≡ W.StaticDepth → ⊥
differ e = cc

deep_not_many : (o : Option ℕ) → deep o ≡ Some (refused_at 0 W.Stages) → ⊥
deep_not_many None e = none-some (refused_at 0 W.Stages) e
deep_not_many (Some m) e = differ (sym (ap (λ (b : BadCommand). b.why) (same_Some (refused_at m W.StaticDepth) (refused_at 0 W.Stages) e)))

deep_none : (o : Option ℕ) → deep o ≡ None → o ≡ None
deep_none None e = refl
deep_none (Some m) e = absurd (none-some (refused_at m W.StaticDepth) (sym e))

module _ (ss : Stages) where
  abbrev many : Bool
  many = nat_lt 100 (stages_in ss)

  abbrev first : Option ℕ
  first = first_passing 1 100 ss

  abbrev answer : Bool → Option BadCommand
  answer q = cond q (Some (refused_at 0 W.Stages)) (deep first)

  few : many ≡ false → past_limits ss ≡ deep first
  few e = ap answer e

  pub deep_refused : (n : ℕ) → past_limits ss ≡ Some (refused_at n W.StaticDepth) → (stages_in ss ≤ 100) × (first ≡ Some n)
  deep_refused n e =
      elim many as (λ q. many ≡ q → answer q ≡ Some (refused_at n W.StaticDepth) → (stages_in ss ≤ 100) × (first ≡ Some n)) [
        | true ↦ λ q f. absurd (differ (ap (λ (b : BadCommand). b.why) (same_Some (refused_at 0 W.Stages) (refused_at n W.StaticDepth) f)))
        | false ↦ λ q f. (ltb-false 100 (stages_in ss) q, deep_is first n f)
      ] refl e

  pub refused_deep : (n : ℕ) → stages_in ss ≤ 100 → first ≡ Some n → past_limits ss ≡ Some (refused_at n W.StaticDepth)
  refused_deep n le e = few (le-ltb 100 (stages_in ss) le) ∙ ap deep e

  pub many_refused : past_limits ss ≡ Some (refused_at 0 W.Stages) → 100 < stages_in ss
  many_refused e =
      elim many as (λ q. many ≡ q → answer q ≡ Some (refused_at 0 W.Stages) → 100 < stages_in ss) [
        | true ↦ λ q f. ltb-true 100 (stages_in ss) q
        | false ↦ λ q f. absurd (deep_not_many first f)
      ] refl e

  pub refused_many : 100 < stages_in ss → past_limits ss ≡ Some (refused_at 0 W.Stages)
  refused_many lt = ap answer (lt-ltb 100 (stages_in ss) lt)

  pub none_refused : past_limits ss ≡ None → (stages_in ss ≤ 100) × (first ≡ None)
  none_refused e =
      elim many as (λ q. many ≡ q → answer q ≡ None → (stages_in ss ≤ 100) × (first ≡ None)) [
        | true ↦ λ q f. absurd (none-some (refused_at 0 W.Stages) (sym f))
        | false ↦ λ q f. (ltb-false 100 (stages_in ss) q, deep_none first f)
      ] refl e

  pub refused_none : stages_in ss ≤ 100 → first ≡ None → past_limits ss ≡ None
  refused_none le e = few (le-ltb 100 (stages_in ss) le) ∙ ap deep e
