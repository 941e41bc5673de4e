-- A tree is read as a chunk or a collection exactly where it spells one.
use Rattle.std.proofs.Common.{◌≡◌, ℕ, true, false, cond, List, [], ◌∷◌, length, refl, sym, ap, subst, ◌∙◌, arith, inl, inr}
use Rattle.std.specs.Prelude.{Option, Some, None, option_and_then, ◌==◌, ◌⊎◌, codes}
use Rattle.std.proofs.lemmas.Bool.{eqb-true}
use Rattle.bson_value.specs.Tree.{Tree, leaf, doc, list, text, pairs_of, trees_of}
use Rattle.bson_value.proofs.Distinct.{entries_pairs, members_trees}
use Rattle.bson_codec.specs.Records.{Document}
use Rattle.chunk_map.specs.Table.{ShardRow, ChunkRow, chunk_row, CollectionRow, unsharded, sharded}
use Rattle.chunk_map.specs.Form.{text_of, doc_of, list_of, field_at, text_at, doc_at, list_at, is_shard_name, is_collection_name, shard_of, only_shard, shards_in, by_name, place_of, path_in, paths_in, values_in, chunk_if, chunk_in, chunk_fields, chunk_of, chunks_in, unsharded_if, unsharded_in, sharded_if, sharded_in, collection_in, collection_of}
use Rattle.chunk_map.specs.Spelled.{SpellsShard, SpellsUnsharded, SpellsPath, SpellsChunk, SpellsSharded, SpellsCollection}
use Rattle.chunk_map.proofs.Listed.{some_is}
use Rattle.chunk_map.proofs.Sizes.{bind_some, if_some}
use Rattle.chunk_map.proofs.Shapes.{is_true, one_if, doc_is, list_is, text_is, pair_if, two_fields, one_item, shard_spells, spells_shard, few_each, each_few, path_spells, spells_path, values_spell, spell_values}

-- ---- documents of three and of four fields

three_fields : (d : Document) (n m k : List ℕ) (t u v : Tree) → (length d == 3) ≡ true → field_at 0 n d ≡ Some t → field_at 1 m d ≡ Some u → field_at 2 k d ≡ Some v → d ≡ (n, t) ∷ (m, u) ∷ (k, v) ∷ []
three_fields [] n m k t u v three e f g = absurd cc
three_fields (p ∷ []) n m k t u v three e f g = absurd cc
three_fields (p ∷ q ∷ []) n m k t u v three e f g = absurd cc
three_fields (p ∷ q ∷ r ∷ []) n m k t u v three e f g =
    let a = pair_if n p t e in let b = pair_if m q u f in let c = pair_if k r v g in λ i. a i ∷ b i ∷ c i ∷ []
three_fields (p ∷ q ∷ r ∷ s ∷ d) n m k t u v three e f g = let a : length (p ∷ q ∷ r ∷ s ∷ d) ≡ 3 = eqb-true _ _ three in absurd (omega (arith, a))

four_fields : (d : Document) (n m k j : List ℕ) (t u v w : Tree) → (length d == 4) ≡ true → field_at 0 n d ≡ Some t → field_at 1 m d ≡ Some u → field_at 2 k d ≡ Some v → field_at 3 j d ≡ Some w → d ≡ (n, t) ∷ (m, u) ∷ (k, v) ∷ (j, w) ∷ []
four_fields [] n m k j t u v w four e f g h = absurd cc
four_fields (p ∷ []) n m k j t u v w four e f g h = absurd cc
four_fields (p ∷ q ∷ []) n m k j t u v w four e f g h = absurd cc
four_fields (p ∷ q ∷ r ∷ []) n m k j t u v w four e f g h = absurd cc
four_fields (p ∷ q ∷ r ∷ s ∷ []) n m k j t u v w four e f g h =
    let a = pair_if n p t e in let b = pair_if m q u f in let c = pair_if k r v g in let d = pair_if j s w h in λ i. a i ∷ b i ∷ c i ∷ d i ∷ []
four_fields (p ∷ q ∷ r ∷ s ∷ x ∷ d) n m k j t u v w four e f g h = let a : length (p ∷ q ∷ r ∷ s ∷ x ∷ d) ≡ 4 = eqb-true _ _ four in absurd (omega (arith, a))

-- a field of a kind is there, with its tree
text_there : (i : ℕ) (n : List ℕ) (d : Document) (s : List ℕ) → text_at i n d ≡ Some s → field_at i n d ≡ Some (leaf (text s))
text_there i n d s e = let a = bind_some text_of (field_at i n d) s e in a.1 ∙ ap (λ (t : Tree). Some t) (text_is a.0 s a.2)

doc_there : (i : ℕ) (n : List ℕ) (d c : Document) → doc_at i n d ≡ Some c → field_at i n d ≡ Some (doc (pairs_of c))
doc_there i n d c e = let a = bind_some doc_of (field_at i n d) c e in a.1 ∙ ap (λ (t : Tree). Some t) (doc_is a.0 c a.2)

list_there : (i : ℕ) (n : List ℕ) (d : Document) (ts : List Tree) → list_at i n d ≡ Some ts → field_at i n d ≡ Some (list (trees_of ts))
list_there i n d ts e = let a = bind_some list_of (field_at i n d) ts e in a.1 ∙ ap (λ (t : Tree). Some t) (list_is a.0 ts a.2)

-- ---- chunks

chunk_spells : (key : Document) (shards : List ShardRow) (t : Tree) (c : ChunkRow) → chunk_of key shards t ≡ Some c → SpellsChunk key shards t c
unfolding chunk_of
chunk_spells key shards t c e =
    let d = bind_some (chunk_in key shards) (doc_of t) c e in
    let three = if_some (length d.0 == 3) (chunk_fields key shards d.0) c d.2 in
    let lowest = bind_some (λ lowest. option_and_then (λ bound. option_and_then (λ name. chunk_if shards lowest bound name) (text_at 2 (codes "shard") d.0)) (option_and_then (values_in key) (doc_at 1 (codes "max") d.0))) (option_and_then (values_in key) (doc_at 0 (codes "min") d.0)) c three.1 in
    let bound = bind_some (λ bound. option_and_then (λ name. chunk_if shards lowest.0 bound name) (text_at 2 (codes "shard") d.0)) (option_and_then (values_in key) (doc_at 1 (codes "max") d.0)) c lowest.2 in
    let name = bind_some (λ name. chunk_if shards lowest.0 bound.0 name) (text_at 2 (codes "shard") d.0) c bound.2 in
    let made = if_some (is_shard_name name.0) (Some (chunk_row lowest.0 bound.0 (place_of name.0 shards))) c name.2 in
    let row : chunk_row lowest.0 bound.0 (place_of name.0 shards) ≡ c = some_is _ c made.1 in
    let low = bind_some (values_in key) (doc_at 0 (codes "min") d.0) lowest.0 lowest.1 in
    let high = bind_some (values_in key) (doc_at 1 (codes "max") d.0) bound.0 bound.1 in
    let fields = three_fields d.0 (codes "min") (codes "max") (codes "shard") _ _ _ three.0 (doc_there 0 (codes "min") d.0 low.0 low.1) (doc_there 1 (codes "max") d.0 high.0 high.1) (text_there 2 (codes "shard") d.0 name.0 name.1) in
    subst (SpellsChunk key shards t) row (record {
      lowest = low.0;
      bound = high.0;
      shard = name.0;
      fields = doc_is t d.0 d.1 ∙ ap (λ (x : Document). doc (pairs_of x)) fields;
      lowest_is = values_spell key low.0 lowest.0 low.2;
      bound_is = values_spell key high.0 bound.0 high.2;
      name = is_true (is_shard_name name.0) made.0;
      place = refl;
    })

spells_chunk : (key : Document) (shards : List ShardRow) (t : Tree) (c : ChunkRow) → SpellsChunk key shards t c → chunk_of key shards t ≡ Some c
unfolding chunk_of
spells_chunk key shards t c h =
    rw (h.fields, entries_pairs h.lowest, entries_pairs h.bound, spell_values key h.lowest c.lowest h.lowest_is, spell_values key h.bound c.bound h.bound_is)
    (one_if (is_shard_name h.shard) (Some (chunk_row c.lowest c.bound (place_of h.shard shards))) h.name ∙ ap (λ (n : ℕ). Some (chunk_row c.lowest c.bound n)) h.place)

-- ---- collections

unsharded_spells : (d : Document) (c : CollectionRow) → (length d == 2) ≡ true → unsharded_in d ≡ Some c → SpellsUnsharded (doc (pairs_of d)) c
unfolding unsharded_in
unsharded_spells d c two e =
    let name = bind_some (λ name. option_and_then (λ shard. unsharded_if name shard) (option_and_then only_shard (list_at 1 (codes "shards") d))) (text_at 0 (codes "name") d) c e in
    let shard = bind_some (λ shard. unsharded_if name.0 shard) (option_and_then only_shard (list_at 1 (codes "shards") d)) c name.2 in
    let only = bind_some only_shard (list_at 1 (codes "shards") d) shard.0 shard.1 in
    let one = one_item only.0 shard.0 only.2 in
    let made = if_some (is_collection_name name.0) (Some (unsharded name.0 shard.0)) c shard.2 in
    let row : unsharded name.0 shard.0 ≡ c = some_is _ c made.1 in
    let fields = two_fields d (codes "name") (codes "shards") _ _ two (text_there 0 (codes "name") d name.0 name.1) (list_there 1 (codes "shards") d only.0 only.1) in
    subst (SpellsUnsharded (doc (pairs_of d))) row (record {
      shard = shard.0;
      shard_tree = one.0;
      spelled = shard_spells one.0 shard.0 one.2;
      fields = ap (λ (x : Document). doc (pairs_of x)) fields ∙ ap (λ (x : List Tree). doc (pairs_of ((codes "name", leaf (text name.0)) ∷ (codes "shards", list (trees_of x)) ∷ []))) one.1;
      name = is_true (is_collection_name name.0) made.0;
      row = refl;
    })

spells_unsharded : (t : Tree) (c : CollectionRow) → SpellsUnsharded t c → collection_of t ≡ Some c
unfolding collection_of unsharded_in
spells_unsharded t c h =
    rw (h.fields, spells_shard h.shard_tree h.shard h.spelled) (one_if (is_collection_name c.name) (Some (unsharded c.name h.shard)) h.name ∙ ap (λ (x : CollectionRow). Some x) h.row)

sharded_spells : (d : Document) (c : CollectionRow) → (length d == 4) ≡ true → sharded_in d ≡ Some c → SpellsSharded (doc (pairs_of d)) c
unfolding sharded_in paths_in shards_in chunks_in
sharded_spells d c four e =
    let name = bind_some (λ name. option_and_then (λ key. option_and_then (λ paths. option_and_then (λ shards. option_and_then (λ chunks. sharded_if name paths (by_name shards) chunks) (option_and_then (chunks_in key (by_name shards)) (list_at 3 (codes "chunks") d))) (option_and_then shards_in (list_at 2 (codes "shards") d))) (paths_in key)) (doc_at 1 (codes "key") d)) (text_at 0 (codes "name") d) c e in
    let key = bind_some (λ key. option_and_then (λ paths. option_and_then (λ shards. option_and_then (λ chunks. sharded_if name.0 paths (by_name shards) chunks) (option_and_then (chunks_in key (by_name shards)) (list_at 3 (codes "chunks") d))) (option_and_then shards_in (list_at 2 (codes "shards") d))) (paths_in key)) (doc_at 1 (codes "key") d) c name.2 in
    let paths = bind_some (λ paths. option_and_then (λ shards. option_and_then (λ chunks. sharded_if name.0 paths (by_name shards) chunks) (option_and_then (chunks_in key.0 (by_name shards)) (list_at 3 (codes "chunks") d))) (option_and_then shards_in (list_at 2 (codes "shards") d))) (paths_in key.0) c key.2 in
    let shards = bind_some (λ shards. option_and_then (λ chunks. sharded_if name.0 paths.0 (by_name shards) chunks) (option_and_then (chunks_in key.0 (by_name shards)) (list_at 3 (codes "chunks") d))) (option_and_then shards_in (list_at 2 (codes "shards") d)) c paths.2 in
    let chunks = bind_some (λ chunks. sharded_if name.0 paths.0 (by_name shards.0) chunks) (option_and_then (chunks_in key.0 (by_name shards.0)) (list_at 3 (codes "chunks") d)) c shards.2 in
    let made = if_some (is_collection_name name.0) (Some (sharded name.0 paths.0 (by_name shards.0) chunks.0)) c chunks.2 in
    let row : sharded name.0 paths.0 (by_name shards.0) chunks.0 ≡ c = some_is _ c made.1 in
    let ss = bind_some shards_in (list_at 2 (codes "shards") d) shards.0 shards.1 in
    let cs = bind_some (chunks_in key.0 (by_name shards.0)) (list_at 3 (codes "chunks") d) chunks.0 chunks.1 in
    let p = few_each path_in SpellsPath 4 path_spells key.0 paths.0 paths.1 in
    let s = few_each shard_of SpellsShard 64 shard_spells ss.0 shards.0 ss.2 in
    let k = few_each (chunk_of key.0 (by_name shards.0)) (SpellsChunk key.0 (by_name shards.0)) 10000 (chunk_spells key.0 (by_name shards.0)) cs.0 chunks.0 cs.2 in
    let fields = four_fields d (codes "name") (codes "key") (codes "shards") (codes "chunks") _ _ _ _ four (text_there 0 (codes "name") d name.0 name.1) (doc_there 1 (codes "key") d key.0 key.1) (list_there 2 (codes "shards") d ss.0 ss.1) (list_there 3 (codes "chunks") d cs.0 cs.1) in
    subst (SpellsSharded (doc (pairs_of d))) row (record {
      key = key.0;
      shard_trees = ss.0;
      listed = shards.0;
      chunk_trees = cs.0;
      fields = ap (λ (x : Document). doc (pairs_of x)) fields;
      name = is_true (is_collection_name name.0) made.0;
      few_paths = p.0;
      paths = p.1;
      few_shards = s.0;
      shards = s.1;
      in_order = refl;
      few_chunks = k.0;
      chunks = k.1;
    })

spells_sharded : (t : Tree) (c : CollectionRow) → SpellsSharded t c → collection_of t ≡ Some c
unfolding collection_of sharded_in paths_in shards_in chunks_in
spells_sharded t c h =
    rw (
      h.fields,
      entries_pairs h.key,
      members_trees h.shard_trees,
      members_trees h.chunk_trees,
      each_few path_in SpellsPath 4 spells_path h.key c.key_paths h.few_paths h.paths,
      each_few shard_of SpellsShard 64 spells_shard h.shard_trees h.listed h.few_shards h.shards,
      h.in_order,
      each_few (chunk_of h.key c.shards) (SpellsChunk h.key c.shards) 10000 (spells_chunk h.key c.shards) h.chunk_trees c.chunks h.few_chunks h.chunks,
    ) (one_if (is_collection_name c.name) (Some c) h.name)

which : (d : Document) (c : CollectionRow) → collection_in d ≡ Some c → ((length d == 2) ≡ true × (unsharded_in d ≡ Some c)) ⊎ ((length d == 4) ≡ true × (sharded_in d ≡ Some c))
which d c e =
    elim (length d == 2) as (λ b. (length d == 2) ≡ b → cond b (unsharded_in d) (cond (length d == 4) (sharded_in d) None) ≡ Some c → ((length d == 2) ≡ true × (unsharded_in d ≡ Some c)) ⊎ ((length d == 4) ≡ true × (sharded_in d ≡ Some c))) [
      | true ↦ λ two f. inl (two, f)
      | false ↦ λ two f. inr (if_some (length d == 4) (sharded_in d) c f)
    ] refl e

pub collection_spells : (t : Tree) (c : CollectionRow) → collection_of t ≡ Some c → SpellsCollection t c
unfolding collection_of
collection_spells t c e =
    let a = bind_some collection_in (doc_of t) c e in
    subst (λ (x : Tree). SpellsCollection x c) (sym (doc_is t a.0 a.1)) (elim (which a.0 c a.2) [ inl h ↦ inl (unsharded_spells a.0 c h.0 h.1) | inr h ↦ inr (sharded_spells a.0 c h.0 h.1) ])

pub spells_collection : (t : Tree) (c : CollectionRow) → SpellsCollection t c → collection_of t ≡ Some c
spells_collection t c (inl h) = spells_unsharded t c h
spells_collection t c (inr h) = spells_sharded t c h

pub decided : {A : Type 0} (o : Option A) → (o ≡ None) ⊎ ((x : A) × (o ≡ Some x))
decided None = inl refl
decided (Some x) = inr (x, refl)

pub formless : (t : Tree) → ((c : CollectionRow) → ¬ SpellsCollection t c) → collection_of t ≡ None
formless t none = elim (decided (collection_of t)) [ inl e ↦ e | inr h ↦ absurd (none h.0 (collection_spells t h.0 h.1)) ]

pub none_spelled : (t : Tree) → collection_of t ≡ None → (c : CollectionRow) → ¬ SpellsCollection t c
none_spelled t e c h = let f = spells_collection t c h in absurd cc
