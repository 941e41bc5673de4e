-- Codes of several documents or expressions, the least of which stands.
use Rattle.std.proofs.Common.{◌≡◌, ℕ, ◌<◌, Bool, true, false, cond, List, [], ◌∷◌, ◌++◌, refl, sym, ap, ◌∙◌, arith, append_assoc, append-nil}
use Rattle.std.specs.Prelude.{Option, Some, None, Result, Ok, Err, nat_lt}
use Rattle.std.proofs.lemmas.Bool.Decides.{nat_tests}
use Rattle.bson_value.specs.Codes.{code_number}
use Rattle.bson_value.specs.declared.eval_code.EvalCode.{EvalCode}
use Rattle.stage_tree.specs.Outcome.{lesser, both}
use Rattle.reshape_stage.specs.Seen.{noted}

-- the lesser of three numbers, from either side
lesser_by : (a b c : EvalCode) (ab bc ac : Bool) → nat_lt (code_number b) (code_number a) ≡ ab → nat_lt (code_number c) (code_number b) ≡ bc → nat_lt (code_number c) (code_number a) ≡ ac →
    lesser (cond ab b a) c ≡ lesser a (cond bc c b)
lesser_by a b c true true true p q r = rw (q, r) refl
lesser_by a b c true false ac p q r = rw (q, p) refl
lesser_by a b c false true ac p q r = refl
lesser_by a b c false false false p q r = rw (p, r) refl
lesser_by a b c true true false p q r = absurd (let x : nat_lt (code_number c) (code_number a) ≡ true = grind (arith, nat_tests) in let y : true ≡ false = sym x ∙ r in cc)
lesser_by a b c false false true p q r = absurd (let x : nat_lt (code_number c) (code_number a) ≡ false = grind (arith, nat_tests) in let y : true ≡ false = sym r ∙ x in cc)

pub lesser-assoc : (a b c : EvalCode) → lesser (lesser a b) c ≡ lesser a (lesser b c)
lesser-assoc a b c = lesser_by a b c _ _ _ refl refl refl

pub noted-noted : (f : Option EvalCode) (c d : EvalCode) → noted (Some (noted f c)) d ≡ noted f (lesser c d)
noted-noted None c d = refl
noted-noted (Some b) c d = lesser-assoc b c d

-- what stands behind some that were given or failed, and the rest
abbrev pub so_far : {A : Type 0} → Option EvalCode → List A → Result (List A) EvalCode → Result (List A) EvalCode
so_far None vs (Ok ws) = Ok (vs ++ ws)
so_far None vs (Err c) = Err c
so_far (Some b) vs (Ok ws) = Err b
so_far (Some b) vs (Err c) = Err (lesser b c)

pub so_far-none : {A : Type 0} (r : Result (List A) EvalCode) → so_far None [] r ≡ r
so_far-none (Ok ws) = refl
so_far-none (Err c) = refl

module _ {A : Type 0} where
  -- one more that failed
  pub so_far-err : {B : Type 0} (f : B → List A → List A) (l : Option EvalCode) (vs : List A) (c : EvalCode) (r : Result (List A) EvalCode) → so_far l vs (both f (Err c) r) ≡ so_far (Some (noted l c)) vs r
  so_far-err f None vs c (Ok ws) = refl
  so_far-err f None vs c (Err d) = refl
  so_far-err f (Some b) vs c (Ok ws) = refl
  so_far-err f (Some b) vs c (Err d) = ap Err (sym (lesser-assoc b c d))

  -- one more that was given
  pub so_far-ok : {B : Type 0} (p : B → A) (l : Option EvalCode) (vs : List A) (v : B) (r : Result (List A) EvalCode) → so_far l vs (both (λ x xs. p x ∷ xs) (Ok v) r) ≡ so_far l (vs ++ p v ∷ []) r
  so_far-ok p None vs v (Ok ws) = ap Ok (sym (append_assoc vs (p v ∷ []) ws))
  so_far-ok p None vs v (Err d) = refl
  so_far-ok p (Some b) vs v (Ok ws) = refl
  so_far-ok p (Some b) vs v (Err d) = refl

  -- both sides failing or not, in either order
  pub both-assoc : (a b c : Result (List A) EvalCode) → both (λ xs ys. xs ++ ys) (both (λ xs ys. xs ++ ys) a b) c ≡ both (λ xs ys. xs ++ ys) a (both (λ xs ys. xs ++ ys) b c)
  both-assoc (Ok x) (Ok y) (Ok z) = ap Ok (append_assoc x y z)
  both-assoc (Ok x) (Ok y) (Err e) = refl
  both-assoc (Ok x) (Err d) (Ok z) = refl
  both-assoc (Ok x) (Err d) (Err e) = refl
  both-assoc (Err c) (Ok y) (Ok z) = refl
  both-assoc (Err c) (Ok y) (Err e) = refl
  both-assoc (Err c) (Err d) (Ok z) = refl
  both-assoc (Err c) (Err d) (Err e) = ap Err (lesser-assoc c d e)

  pub both-none : (a : Result (List A) EvalCode) → both (λ xs ys. xs ++ ys) a (Ok []) ≡ a
  both-none (Ok x) = ap Ok (append-nil x)
  both-none (Err c) = refl
