-- A run over documents from the left.
use Rattle.std.proofs.Common.{◌≡◌, ◌+◌, ℕ, zero, suc, List, [], ◌∷◌, ◌++◌, take, refl, sym, ap, subst, ◌∙◌, append-nil, arith}
use Rattle.std.specs.Prelude.{Option, Some, None, slice_get, IfSome}
use Rattle.std.specs.List.{flat_map, range_with_len}
use Rattle.std.proofs.lemmas.List.Concat.{flat_map-append}
use Rattle.bson_codec.specs.Records.{Document}
use Rattle.chunk_map.specs.Table.{CollectionRow}
use Rattle.chunk_map.specs.Owned.{part}
use Rattle.mq_ports.specs.World.{Held}
use Rattle.orphan_filter.specs.Survey.{files_in}
use Rattle.aggregate_command.specs.declared.run.Run.{Run}
use Rattle.aggregate_command.specs.Running.{with_document, with_documents}

with_documents-append : (r : Run) (xs ys : List Document) → with_documents r (xs ++ ys) ≡ with_documents (with_documents r xs) ys
with_documents-append r [] ys = refl
with_documents-append r (x ∷ xs) ys = with_documents-append (with_document r x) xs ys

-- ---- the documents of a shard

take_next : (ds : List Document) (n : ℕ) (d : Document) → slice_get ds n ≡ Some d → take (suc n) ds ≡ take n ds ++ d ∷ []
take_next [] n d e = absurd cc
take_next (x ∷ ds) zero d e = let same : x ≡ d = cc in ap (λ y. y ∷ []) same
take_next (x ∷ ds) (suc n) d e = ap (λ l. x ∷ l) (take_next ds n d e)

take_all : (ds : List Document) (n : ℕ) → slice_get ds n ≡ None → take n ds ≡ ds
take_all [] zero e = refl
take_all [] (suc n) e = refl
take_all (x ∷ ds) zero e = absurd cc
take_all (x ∷ ds) (suc n) e = ap (λ l. x ∷ l) (take_all ds n e)

-- the documents before a place were pushed, and then the one there
ran_more : (r : Run) (ds : List Document) (n m : ℕ) (d : Document) (old new : Run) → Some d ≡ slice_get ds n → m ≡ n + 1 → old ≡ with_documents r (take n ds) → new ≡ with_document old d → new ≡ with_documents r (take m ds)
ran_more r ds n m d old new at next ran runs =
    let place : m ≡ suc n = omega (arith, next) in
    runs ∙ ap (λ o. with_document o d) ran ∙ sym (with_documents-append r (take n ds) (d ∷ [])) ∙ ap (with_documents r) (sym (take_next ds n d (sym at)) ∙ ap (λ k. take k ds) (sym place))

-- and none is left
ran_all : (r : Run) (ds : List Document) (n : ℕ) (new : Run) → None ≡ slice_get ds n → new ≡ with_documents r (take n ds) → new ≡ with_documents r ds
ran_all r ds n new end ran = ran ∙ ap (with_documents r) (take_all ds n (sym end))

-- ---- shard after shard

range_more : (i n : ℕ) → range_with_len i (suc n) ≡ range_with_len i n ++ (i + n) ∷ []
range_more i zero = ap (λ k. k ∷ []) (let same : i ≡ i + 0 = omega arith in same)
range_more i (suc n) = ap (λ l. i ∷ l) (range_more (i + 1) n ∙ ap (λ k. range_with_len (i + 1) n ++ k ∷ []) (let same : (i + 1) + n ≡ i + suc n = omega arith in same))

-- the documents of the first shards were pushed, and then those of the next one
ran_shard : (r : Run) (documents : ℕ → List Document) (i : ℕ) (old new : Run) → old ≡ with_documents r (flat_map documents (range_with_len 0 i)) → new ≡ with_documents old (documents i) → new ≡ with_documents r (flat_map documents (range_with_len 0 (i + 1)))
ran_shard r documents i old new ran runs =
    let last : 0 + i ≡ i = omega arith in
    let next : suc i ≡ i + 1 = omega arith in
    let range : range_with_len 0 (i + 1) ≡ range_with_len 0 i ++ i ∷ [] = ap (range_with_len 0) (sym next) ∙ range_more 0 i ∙ ap (λ k. range_with_len 0 i ++ k ∷ []) last in
    let lists : flat_map documents (range_with_len 0 (i + 1)) ≡ flat_map documents (range_with_len 0 i) ++ documents i =
    ap (flat_map documents) range ∙ flat_map-append documents (range_with_len 0 i) (i ∷ []) ∙ ap (λ l. flat_map documents (range_with_len 0 i) ++ l) (append-nil (documents i)) in
    runs ∙ ap (λ o. with_documents o (documents i)) ran ∙ sym (with_documents-append r (flat_map documents (range_with_len 0 i)) (documents i)) ∙ ap (with_documents r) (sym lists)

-- ---- where files tell

-- the next document of a shard is pushed
pub ran_next : (h0 h1 : Option Held) (collection : CollectionRow) (r : Run) (shard at n m : ℕ) (o : Option Document) (d : Document) (old new : Run) → h1 ≡ h0 → at ≡ shard → o ≡ Some d → IfSome h0 (λ held. o ≡ slice_get (part (files_in held) collection at) n) → m ≡ n + 1 → IfSome h0 (λ held. old ≡ with_documents r (take n (part (files_in held) collection shard))) → new ≡ with_document old d → IfSome h1 (λ held. new ≡ with_documents r (take m (part (files_in held) collection shard)))
ran_next None h1 collection r shard at n m o d old new same place is at_place next ran runs = subst (λ (h : Option Held). IfSome h (λ held. new ≡ with_documents r (take m (part (files_in held) collection shard)))) (sym same) tt
ran_next (Some held) h1 collection r shard at n m o d old new same place is at_place next ran runs =
    let here : Some d ≡ slice_get (part (files_in held) collection shard) n = sym is ∙ at_place ∙ ap (λ k. slice_get (part (files_in held) collection k) n) place in
    subst (λ (h : Option Held). IfSome h (λ held. new ≡ with_documents r (take m (part (files_in held) collection shard)))) (sym same)
    (ran_more r (part (files_in held) collection shard) n m d old new here next ran runs)

-- a shard has no next document
pub ran_end : (h h0 : Option Held) (collection : CollectionRow) (r : Run) (shard at n : ℕ) (o : Option Document) (new : Run) → h0 ≡ h → at ≡ shard → o ≡ None → IfSome h0 (λ held. o ≡ slice_get (part (files_in held) collection at) n) → IfSome h0 (λ held. new ≡ with_documents r (take n (part (files_in held) collection shard))) → IfSome h (λ held. new ≡ with_documents r (part (files_in held) collection shard))
ran_end h None collection r shard at n o new same place is at_place ran = subst (λ (h : Option Held). IfSome h (λ held. new ≡ with_documents r (part (files_in held) collection shard))) same tt
ran_end h (Some held) collection r shard at n o new same place is at_place ran =
    let none : None ≡ slice_get (part (files_in held) collection shard) n = sym is ∙ at_place ∙ ap (λ k. slice_get (part (files_in held) collection k) n) place in
    subst (λ (h : Option Held). IfSome h (λ held. new ≡ with_documents r (part (files_in held) collection shard))) same
    (ran_all r (part (files_in held) collection shard) n new none ran)

-- the next shard
pub ran_place : (h0 h1 : Option Held) (collection : CollectionRow) (r : Run) (shard : ℕ) (old new : Run) → h1 ≡ h0 → IfSome h0 (λ held. old ≡ with_documents r (flat_map (part (files_in held) collection) (range_with_len 0 shard))) → IfSome h0 (λ held. new ≡ with_documents old (part (files_in held) collection shard)) → IfSome h1 (λ held. new ≡ with_documents r (flat_map (part (files_in held) collection) (range_with_len 0 (shard + 1))))
ran_place None h1 collection r shard old new same ran runs = subst (λ (h : Option Held). IfSome h (λ held. new ≡ with_documents r (flat_map (part (files_in held) collection) (range_with_len 0 (shard + 1))))) (sym same) tt
ran_place (Some held) h1 collection r shard old new same ran runs =
    subst (λ (h : Option Held). IfSome h (λ held. new ≡ with_documents r (flat_map (part (files_in held) collection) (range_with_len 0 (shard + 1))))) (sym same)
    (ran_shard r (part (files_in held) collection) shard old new ran runs)
