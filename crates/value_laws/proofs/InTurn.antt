-- Operands from left to right.
use Rattle.std.proofs.Common.{◌≡◌, List, [], ◌∷◌, ◌++◌, map, refl, ap}
use Rattle.std.specs.Prelude.{Option, Some, None, Ok, Err}
use Rattle.bson_value.specs.declared.eval_code.EvalCode.{EvalCode}
use Rattle.bson_value.specs.Operands.{Operand, operand_map, both, all}

pub first_code : {A : Type 0} (before : List (Option A)) (c : EvalCode) (after : List (Operand A)) → all (map Ok before ++ Err c ∷ after) ≡ Err c
first_code [] c after = refl
first_code {A} (o ∷ before) c after = ap (λ (r : Operand (List A)). operand_map (λ (p : A × List A). p.0 ∷ p.1) (both (Ok o) r)) (first_code before c after)

no_code : {A : Type 0} (os : List (Option A)) → (held : Option (List A)) × (all (map Ok os) ≡ Ok held)
no_code [] = (Some [], refl)
no_code {A} (o ∷ os) =
    let rest = no_code os in
    (_, ap (λ (r : Operand (List A)). operand_map (λ (p : A × List A). p.0 ∷ p.1) (both (Ok o) r)) rest.1)

none_behind : {A : Type 0} (o : Option A) (r : Operand (List A)) → r ≡ Ok None → operand_map (λ (p : A × List A). p.0 ∷ p.1) (both (Ok o) r) ≡ Ok None
none_behind None r e = rw e refl
none_behind (Some x) r e = rw e refl

pub none : {A : Type 0} (before after : List (Option A)) → all (map Ok (before ++ None ∷ after)) ≡ Ok None
none {A} [] after = ap (λ (r : Operand (List A)). operand_map (λ (p : A × List A). p.0 ∷ p.1) (both (Ok None) r)) (no_code after).1
none (o ∷ before) after = none_behind o (all (map Ok (before ++ None ∷ after))) (none before after)

pub held : {A : Type 0} (xs : List A) → all (map (λ (x : A). Ok (Some x)) xs) ≡ Ok (Some xs)
held [] = refl
held {A} (x ∷ xs) = ap (λ (r : Operand (List A)). operand_map (λ (p : A × List A). p.0 ∷ p.1) (both (Ok (Some x)) r)) (held xs)
