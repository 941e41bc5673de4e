-- Shards put in the order of their names: a permutation in order.
use Rattle.std.proofs.Common.{true, false, cond, List, [], ◌∷◌}
use Rattle.std.specs.List.Sorted.{IsPermutation}
use Rattle.std.proofs.lemmas.List.Sorted.{IsPermutation-refl, IsPermutation-cons, IsPermutation-trans}
use Rattle.chunk_map.proofs.InOrder.{name_order, by_name_rising}
use Rattle.chunk_map.specs.Form.{name_before, put_by_name, by_name}
use Rattle.chunk_map.specs.Sound.{AreInOrder}
use Rattle.chunk_map.specs.Table.{ShardRow}
use Rattle.stage_laws.proofs.InOrder.{sorted_from, swapped}

put_permuted : (s : ShardRow) (ts : List ShardRow) → IsPermutation (s ∷ ts) (put_by_name s ts)
put_permuted s [] = IsPermutation-refl (s ∷ [])
put_permuted s (t ∷ ts) =
    elim (name_before t s) as (λ b. IsPermutation (s ∷ t ∷ ts) (cond b (t ∷ put_by_name s ts) (s ∷ t ∷ ts))) [
      | true ↦ IsPermutation-trans (s ∷ t ∷ ts) (t ∷ s ∷ ts) (t ∷ put_by_name s ts) (swapped s t ts) (IsPermutation-cons t (s ∷ ts) (put_by_name s ts) (put_permuted s ts))
      | false ↦ IsPermutation-refl (s ∷ t ∷ ts)
    ]

pub named_permuted : (ss : List ShardRow) → IsPermutation ss (by_name ss)
named_permuted [] = IsPermutation-refl []
named_permuted (s ∷ ss) = IsPermutation-trans (s ∷ ss) (s ∷ by_name ss) (by_name (s ∷ ss)) (IsPermutation-cons s ss (by_name ss) (named_permuted ss)) (put_permuted s (by_name ss))

pub named_in_order : (ss : List ShardRow) → AreInOrder (by_name ss)
named_in_order ss = sorted_from name_before name_order (by_name ss) (by_name_rising ss)
