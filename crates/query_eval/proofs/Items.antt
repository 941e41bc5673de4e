-- Items of lists, from one of them on.
use Rattle.std.proofs.Common.{◌≡◌, ℕ, zero, suc, ◌+◌, ◌-◌, ◌<◌, List, [], ◌∷◌, length, drop, map, refl, sym, ap, ◌∙◌, arith, add-one}
use Rattle.std.specs.Prelude.{Option, Some, slice_get}
use Rattle.std.proofs.Math.Seq.{drop-cons}
use Rattle.std.proofs.lemmas.Option.{get_or_from_slice_get}
use Rattle.bson_value.specs.Tree.{Tree}

pub item_at : {A : Type 0} (xs : List A) (i : ℕ) (x : A) → i < length xs → slice_get xs i ≡ Some x → drop i xs ≡ x ∷ drop (i + 1) xs
item_at {A} xs i x lt p = drop-cons xs i x lt ∙ ap (λ (y : A). y ∷ drop (suc i) xs) (get_or_from_slice_get xs i x x p) ∙ rw add-one refl

-- behind an array its elements
pub member_at : (o : Option Tree) (ts : List Tree) (i : ℕ) (t : Tree) → i < length ts → slice_get ts i ≡ Some t → drop (suc i) (o ∷ map Some ts) ≡ Some t ∷ drop (suc (suc i)) (o ∷ map Some ts)
member_at o [] i t lt p = absurd (omega arith)
member_at o (x ∷ ts) zero t lt p = ap (λ (y : Option Tree). y ∷ map Some ts) p
member_at o (x ∷ ts) (suc i) t lt p = member_at o ts i t (omega arith) p
