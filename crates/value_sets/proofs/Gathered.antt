-- Operands read from the left: those read so far, and the rest.
use Rattle.std.proofs.Common.{◌≡◌, List, [], ◌∷◌, ◌++◌, refl, ap, append_assoc}
use Rattle.std.specs.Prelude.{Option, Some, None, Ok, Err}
use Rattle.std.specs.Option.{option_map, option_zip}
use Rattle.std.proofs.lemmas.List.{append-nil}
use Rattle.bson_value.specs.Operands.{Operand, operand_map, both}

abbrev pub gathered : {A : Type 0} → Option (List A) → Operand (List A) → Operand (List A)
gathered so_far rest = operand_map (λ p. p.0 ++ p.1) (both (Ok so_far) rest)

pub gathered_more : {A : Type 0} (so_far : Option (List A)) (x : Option A) (rest : Operand (List A))
    → gathered (option_map (λ p. p.0 ++ p.1 ∷ []) (option_zip so_far x)) rest ≡ gathered so_far (operand_map (λ p. p.0 ∷ p.1) (both (Ok x) rest))
gathered_more so_far x (Err c) = refl
gathered_more None None (Ok None) = refl
gathered_more None None (Ok (Some ys)) = refl
gathered_more None (Some x) (Ok None) = refl
gathered_more None (Some x) (Ok (Some ys)) = refl
gathered_more (Some xs) None (Ok None) = refl
gathered_more (Some xs) None (Ok (Some ys)) = refl
gathered_more (Some xs) (Some x) (Ok None) = refl
gathered_more (Some xs) (Some x) (Ok (Some ys)) = ap (λ zs. Ok (Some zs)) (append_assoc xs (x ∷ []) ys)

pub gathered_all : {A : Type 0} (so_far : Option (List A)) → gathered so_far (Ok (Some [])) ≡ Ok so_far
gathered_all None = refl
gathered_all (Some xs) = ap (λ zs. Ok (Some zs)) (append-nil xs)
