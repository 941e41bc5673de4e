-- Parts that are gone through from left to right give all values or the first code.
use Rattle.std.proofs.Common.{◌≡◌, Bool, true, false, cond, List, [], ◌∷◌, ◌++◌, map, refl, sym, ap, subst, ◌∙◌, inl, inr, append_assoc}
use Rattle.std.specs.Prelude.{◌⊎◌, Option, Result, Ok, Err, filter, if◌then◌else◌}
use Rattle.std.proofs.lemmas.List.{append-nil}
use Rattle.bson_value.specs.Operands.{Outcome, or_null, counts}
use Rattle.bson_value.specs.Tree.{Tree}
use Rattle.bson_value.specs.declared.eval_code.EvalCode.{EvalCode}
use Rattle.expr_tree.specs.Env.{Env}
use Rattle.expr_tree.specs.Rows.{Meaning, all_from, mapped, kept_if, filtered}
use Rattle.stage_laws.specs.Outcomes.{AllGive, IsFirstCode, keeps}

abbrev Parts : Type 0 → Type 0
Parts V = List (Result V EvalCode)

module _ {V : Type 0} where
  pub same_ok : (x y : V) → (let ok : V → Result V EvalCode = λ a. Ok a in ok x ≡ ok y) → x ≡ y
  same_ok x y e = cc

  same_err : (c d : EvalCode) → (let err : EvalCode → Result V EvalCode = λ a. Err a in err c ≡ err d) → c ≡ d
  same_err c d e = cc

  ok_not_err : (x : V) (c : EvalCode) → (let ok : V → Result V EvalCode = λ a. Ok a in ok x ≡ Err c) → ⊥
  ok_not_err x c e = cc

  -- all give values, or one has the first code
  pub decided : (rs : Parts V) → ((vs : List V) × AllGive rs vs) ⊎ ((c : EvalCode) × IsFirstCode rs c)
  decided [] = inl ([], refl)
  decided (Err c ∷ rs) = inr (c, ([], rs, refl))
  decided (Ok v ∷ rs) =
      elim (decided rs) [
        | inl h ↦ inl (v ∷ h.0, ap (λ (l : Parts V). Ok v ∷ l) h.1)
        | inr h ↦ inr (h.0, (v ∷ h.1.0, h.1.1, ap (λ (l : Parts V). Ok v ∷ l) h.1.2))
      ]

module _ {V B : Type 0} (rs : List (Result V EvalCode)) (r : Result (List B) EvalCode) (w : List V → List B) (good : (vs : List V) → AllGive rs vs → r ≡ Ok (w vs)) (bad : (c : EvalCode) → IsFirstCode rs c → r ≡ Err c) where
  pub values_are : (us : List B) → r ≡ Ok us → (vs : List V) × AllGive rs vs × (w vs ≡ us)
  values_are us e =
      elim (decided rs) [
        | inl h ↦ (h.0, h.1, same_ok (w h.0) us (sym (good h.0 h.1) ∙ e))
        | inr h ↦ absurd (ok_not_err us h.0 (sym e ∙ bad h.0 h.1))
      ]

  pub are_values : (us : List B) → (vs : List V) × AllGive rs vs × (w vs ≡ us) → r ≡ Ok us
  are_values us h = good h.0 h.1 ∙ ap Ok h.2

  pub code_is : (c : EvalCode) → r ≡ Err c → IsFirstCode rs c
  code_is c e =
      elim (decided rs) [
        | inl h ↦ absurd (ok_not_err (w h.0) c (sym (good h.0 h.1) ∙ e))
        | inr h ↦ let same : h.0 ≡ c = same_err {V = List B} h.0 c (sym (bad h.0 h.1) ∙ e) in subst (IsFirstCode rs) same h.1
      ]

-- the first part and the others
give_first : {V : Type 0} (r : Result V EvalCode) (rs : List (Result V EvalCode)) (v : V) (vs : List V) → AllGive (r ∷ rs) (v ∷ vs) → (r ≡ Ok v) × AllGive rs vs
give_first r rs v vs e = (cc, cc)

code_first : {V : Type 0} (r : Result V EvalCode) (rs : List (Result V EvalCode)) (c : EvalCode) (back : List (Result V EvalCode)) → Err c ∷ back ≡ r ∷ rs → r ≡ Err c
code_first r rs c back e = cc

code_later : {V : Type 0} (r : Result V EvalCode) (rs : List (Result V EvalCode)) (c : EvalCode) (v : V) (vs : List V) (back : List (Result V EvalCode)) → map Ok (v ∷ vs) ++ Err c ∷ back ≡ r ∷ rs → (r ≡ Ok v) × (map Ok vs ++ Err c ∷ back ≡ rs)
code_later r rs c v vs back e = (cc, cc)

no_parts : {V : Type 0} (v : V) (vs : List V) → (let none : List (Result V EvalCode) = [] in map Ok (v ∷ vs) ≡ none) → ⊥
no_parts v vs e = cc

some_parts : {V : Type 0} (r : Result V EvalCode) (rs : List (Result V EvalCode)) → AllGive (r ∷ rs) [] → ⊥
some_parts r rs e = cc

no_code : {V : Type 0} (vs : List V) (c : EvalCode) (back : List (Result V EvalCode)) → (let none : List (Result V EvalCode) = [] in map Ok vs ++ Err c ∷ back ≡ none) → ⊥
no_code [] c back e = cc
no_code (v ∷ vs) c back e = cc

-- a walk that puts what each part gives behind what there is
module _ {A V B : Type 0} (go : A → Result V EvalCode) (out : A → V → List B) (run : List B → List A → Result (List B) EvalCode) (ended : (front : List B) → run front [] ≡ Ok front) (given : (front : List B) (x : A) (xs : List A) (v : V) → go x ≡ Ok v → run front (x ∷ xs) ≡ run (front ++ out x v) xs) (failed : (front : List B) (x : A) (xs : List A) (c : EvalCode) → go x ≡ Err c → run front (x ∷ xs) ≡ Err c) (outs : List A → List V → List B) (no_outs : outs [] [] ≡ []) (more_outs : (x : A) (xs : List A) (v : V) (vs : List V) → go x ≡ Ok v → outs (x ∷ xs) (v ∷ vs) ≡ out x v ++ outs xs vs) where
  pub walk_good : (xs : List A) (front : List B) (vs : List V) → AllGive (map go xs) vs → run front xs ≡ Ok (front ++ outs xs vs)
  walk_good [] front [] e = ended front ∙ ap Ok (sym (ap (λ (l : List B). front ++ l) no_outs ∙ append-nil front))
  walk_good [] front (v ∷ vs) e = absurd (no_parts v vs e)
  walk_good (x ∷ xs) front [] e = absurd (some_parts (go x) (map go xs) e)
  walk_good (x ∷ xs) front (v ∷ vs) e =
      let h = give_first (go x) (map go xs) v vs e in
      given front x xs v h.0 ∙ walk_good xs (front ++ out x v) vs h.1 ∙ ap Ok (append_assoc front (out x v) (outs xs vs) ∙ ap (λ (l : List B). front ++ l) (sym (more_outs x xs v vs h.0)))

  walk_code : (xs : List A) (front : List B) (c : EvalCode) (vs : List V) (back : List (Result V EvalCode)) → map Ok vs ++ Err c ∷ back ≡ map go xs → run front xs ≡ Err c
  walk_code [] front c vs back e = absurd (no_code vs c back e)
  walk_code (x ∷ xs) front c [] back e = failed front x xs c (code_first (go x) (map go xs) c back e)
  walk_code (x ∷ xs) front c (v ∷ vs) back e =
      let h = code_later (go x) (map go xs) c v vs back e in
      given front x xs v h.0 ∙ walk_code xs (front ++ out x v) c vs back h.1

  pub walk_bad : (xs : List A) (front : List B) (c : EvalCode) → IsFirstCode (map go xs) c → run front xs ≡ Err c
  walk_bad xs front c h = walk_code xs front c h.0 h.1 h.2

module _ (env : Env) where
  abbrev give : Meaning → Outcome
  give m = m env

  abbrev one : Meaning → Option Tree → List (Option Tree)
  one m v = v ∷ []

  abbrev run : List (Option Tree) → List Meaning → Result (List (Option Tree)) EvalCode
  run front ms = all_from front ms env

  all_given : (front : List (Option Tree)) (m : Meaning) (ms : List Meaning) (v : Option Tree) → m env ≡ Ok v → all_from front (m ∷ ms) env ≡ all_from (front ++ v ∷ []) ms env
  all_given front m ms v e = rw e refl

  all_failed : (front : List (Option Tree)) (m : Meaning) (ms : List Meaning) (c : EvalCode) → m env ≡ Err c → all_from front (m ∷ ms) env ≡ Err c
  all_failed front m ms c e = rw e refl

  pub all_good : (ms : List Meaning) (vs : List (Option Tree)) → AllGive (map give ms) vs → all_from [] ms env ≡ Ok vs
  all_good ms vs e = walk_good give one run (λ front. refl) all_given all_failed (λ ms vs. vs) refl (λ m ms v vs h. refl) ms [] vs e

  pub all_bad : (ms : List Meaning) (c : EvalCode) → IsFirstCode (map give ms) c → all_from [] ms env ≡ Err c
  all_bad ms c e = walk_bad give one run (λ front. refl) all_given all_failed (λ ms vs. vs) refl (λ m ms v vs h. refl) ms [] c e

module _ (go : Tree → Outcome) where
  abbrev null_out : Tree → Option Tree → List Tree
  null_out t v = or_null v ∷ []

  map_given : (front : List Tree) (t : Tree) (ts : List Tree) (v : Option Tree) → go t ≡ Ok v → mapped go front (t ∷ ts) ≡ mapped go (front ++ or_null v ∷ []) ts
  map_given front t ts v e = rw e refl

  map_failed : (front : List Tree) (t : Tree) (ts : List Tree) (c : EvalCode) → go t ≡ Err c → mapped go front (t ∷ ts) ≡ Err c
  map_failed front t ts c e = rw e refl

  pub map_good : (ts : List Tree) (vs : List (Option Tree)) → AllGive (map go ts) vs → mapped go [] ts ≡ Ok (map or_null vs)
  map_good ts vs e = walk_good go null_out (mapped go) (λ front. refl) map_given map_failed (λ ts vs. map or_null vs) refl (λ t ts v vs h. refl) ts [] vs e

  pub map_bad : (ts : List Tree) (c : EvalCode) → IsFirstCode (map go ts) c → mapped go [] ts ≡ Err c
  map_bad ts c e = walk_bad go null_out (mapped go) (λ front. refl) map_given map_failed (λ ts vs. map or_null vs) refl (λ t ts v vs h. refl) ts [] c e

  abbrev kept_out : Tree → Option Tree → List Tree
  kept_out t v = if counts v then t ∷ [] else []

  abbrev kept : List Tree → List Tree
  kept ts = filter (λ t. keeps (go t)) ts

  kept_behind : (b : Bool) (front : List Tree) (t : Tree) → kept_if b front t ≡ front ++ cond b (t ∷ []) []
  kept_behind true front t = refl
  kept_behind false front t = sym (append-nil front)

  filter_given : (front : List Tree) (t : Tree) (ts : List Tree) (v : Option Tree) → go t ≡ Ok v → filtered go front (t ∷ ts) ≡ filtered go (front ++ kept_out t v) ts
  filter_given front t ts v e = rw e (ap (λ (l : List Tree). filtered go l ts) (kept_behind (counts v) front t))

  filter_failed : (front : List Tree) (t : Tree) (ts : List Tree) (c : EvalCode) → go t ≡ Err c → filtered go front (t ∷ ts) ≡ Err c
  filter_failed front t ts c e = rw e refl

  cond_front : (b : Bool) (t : Tree) (ts : List Tree) → cond b (t ∷ ts) ts ≡ cond b (t ∷ []) [] ++ ts
  cond_front true t ts = refl
  cond_front false t ts = refl

  kept_more : (t : Tree) (ts : List Tree) (v : Option Tree) (vs : List (Option Tree)) → go t ≡ Ok v → kept (t ∷ ts) ≡ kept_out t v ++ kept ts
  kept_more t ts v vs e = ap (λ (r : Outcome). cond (keeps r) (t ∷ kept ts) (kept ts)) e ∙ cond_front (counts v) t (kept ts)

  pub filter_good : (ts : List Tree) (vs : List (Option Tree)) → AllGive (map go ts) vs → filtered go [] ts ≡ Ok (kept ts)
  filter_good ts vs e = walk_good go kept_out (filtered go) (λ front. refl) filter_given filter_failed (λ ts vs. kept ts) refl kept_more ts [] vs e

  pub filter_bad : (ts : List Tree) (c : EvalCode) → IsFirstCode (map go ts) c → filtered go [] ts ≡ Err c
  filter_bad ts c e = walk_bad go kept_out (filtered go) (λ front. refl) filter_given filter_failed (λ ts vs. kept ts) refl kept_more ts [] c e
