-- The sizes of a collection of the right shape.
use Rattle.std.proofs.Common.{◌≡◌, ℕ, suc, ◌≤◌, Bool, true, false, cond, List, [], ◌∷◌, map, length, refl, sym, ap, subst, ◌∙◌, arith}
use Rattle.std.specs.Prelude.{Option, Some, None, option_map, option_and_then, nat_le, ◌&&◌, ◌==◌, codes}
use Rattle.std.specs.List.{AllByRecursion}
use Rattle.std.specs.Str.{bytes_eq}
use Rattle.std.proofs.lemmas.Bool.{leb-true}
use Rattle.std.proofs.lemmas.List.{length-map}
use Rattle.bson_value.specs.Paths.{Steps}
use Rattle.bson_value.specs.Tree.{Tree}
use Rattle.bson_codec.specs.Records.{Document}
use Rattle.chunk_map.specs.Table.{ShardRow, ChunkRow, chunk_row, sharded}
use Rattle.chunk_map.specs.Form.{some_few, all_of, with_first, shard_of, shards_in, name_before, put_by_name, by_name, place_of, path_in, paths_in, same_names, values_in, chunk_if, chunk_in, chunk_fields, chunk_of, chunks_in, doc_of, doc_at, text_at, is_shard_name}
use Rattle.chunk_map.specs.Sound.{AreInOrder, HasParts, IsSharded}
use Rattle.chunk_map.proofs.Listed.{some_is, all_length}

pub bind_some : {A B : Type 0} (f : A → Option B) (o : Option A) (y : B) → option_and_then f o ≡ Some y → (x : A) × (o ≡ Some x) × (f x ≡ Some y)
bind_some f (Some x) y e = (x, refl, e)
bind_some f None y e = absurd cc

pub if_some : {A : Type 0} (b : Bool) (o : Option A) (y : A) → cond b o None ≡ Some y → (b ≡ true) × (o ≡ Some y)
if_some true o y e = (refl, e)
if_some false o y e = absurd cc

pub both : (a b : Bool) → (a && b) ≡ true → (a ≡ true) × (b ≡ true)
both true b e = (refl, e)
both false b e = absurd cc

pub few_are : {A : Type 0} (most : ℕ) (xs ys : List A) → some_few most xs ≡ Some ys → (1 ≤ length xs) × (length xs ≤ most) × (xs ≡ ys)
few_are most xs ys e =
    let a = if_some (nat_le 1 (length xs) && nat_le (length xs) most) (Some xs) ys e in
    let b = both (nat_le 1 (length xs)) (nat_le (length xs) most) a.0 in
    (leb-true _ _ b.0, leb-true _ _ b.1, some_is xs ys a.1)

-- a list of a few, each of which stands for something
pub few_of : {A B : Type 0} (f : A → Option B) (most : ℕ) (xs : List A) (ys : List B) → option_and_then (all_of f) (some_few most xs) ≡ Some ys → (1 ≤ length xs) × (length xs ≤ most) × (all_of f xs ≡ Some ys)
few_of f most xs ys e =
    let a = bind_some (all_of f) (some_few most xs) ys e in
    let b = few_are most xs a.0 a.1 in
    (b.0, b.1, ap (all_of f) b.2 ∙ a.2)

put_length : (s : ShardRow) (ss : List ShardRow) → length (put_by_name s ss) ≡ suc (length ss)
put_length s [] = refl
put_length s (t ∷ ss) = elim (name_before t s) as (λ b. length (cond b (t ∷ put_by_name s ss) (s ∷ t ∷ ss)) ≡ suc (suc (length ss))) [ true ↦ ap suc (put_length s ss) | false ↦ refl ]

pub by_name_length : (ss : List ShardRow) → length (by_name ss) ≡ length ss
by_name_length [] = refl
by_name_length (s ∷ ss) = put_length s (by_name ss) ∙ ap suc (by_name_length ss)

same_length : (ps qs : Document) → same_names ps qs ≡ true → length qs ≡ length ps
same_length [] [] e = refl
same_length [] (q ∷ qs) e = absurd cc
same_length (p ∷ ps) [] e = absurd cc
same_length (p ∷ ps) (q ∷ qs) e = let h = both (bytes_eq p.0 q.0) (same_names ps qs) e in ap suc (same_length ps qs h.1)

pub values_length : (key d : Document) (vs : List Tree) → values_in key d ≡ Some vs → length vs ≡ length key
unfolding values_in
values_length key d vs e =
    let a = if_some (same_names key d) (Some (map (λ (p : List ℕ × Tree). p.1) d)) vs e in
    let f : map (λ (p : List ℕ × Tree). p.1) d ≡ vs = some_is _ vs a.1 in
    ap length (sym f) ∙ length-map d (λ (p : List ℕ × Tree). p.1) ∙ same_length key d a.0

chunk_parts : (key : Document) (shards : List ShardRow) (t : Tree) (c : ChunkRow) → chunk_of key shards t ≡ Some c → HasParts (length key) c
unfolding chunk_of
chunk_parts key shards t c e =
    let d = bind_some (chunk_in key shards) (doc_of t) c e in
    let three = if_some (length d.0 == 3) (chunk_fields key shards d.0) c d.2 in
    let lowest = bind_some (λ lowest. option_and_then (λ bound. option_and_then (λ name. chunk_if shards lowest bound name) (text_at 2 (codes "shard") d.0)) (option_and_then (values_in key) (doc_at 1 (codes "max") d.0))) (option_and_then (values_in key) (doc_at 0 (codes "min") d.0)) c three.1 in
    let bound = bind_some (λ bound. option_and_then (λ name. chunk_if shards lowest.0 bound name) (text_at 2 (codes "shard") d.0)) (option_and_then (values_in key) (doc_at 1 (codes "max") d.0)) c lowest.2 in
    let name = bind_some (λ name. chunk_if shards lowest.0 bound.0 name) (text_at 2 (codes "shard") d.0) c bound.2 in
    let made = if_some (is_shard_name name.0) (Some (chunk_row lowest.0 bound.0 (place_of name.0 shards))) c name.2 in
    let row : chunk_row lowest.0 bound.0 (place_of name.0 shards) ≡ c = some_is _ c made.1 in
    let low = bind_some (values_in key) (doc_at 0 (codes "min") d.0) lowest.0 lowest.1 in
    let high = bind_some (values_in key) (doc_at 1 (codes "max") d.0) bound.0 bound.1 in
    (ap (λ (x : ChunkRow). length x.lowest) (sym row) ∙ values_length key low.0 lowest.0 low.2, ap (λ (x : ChunkRow). length x.bound) (sym row) ∙ values_length key high.0 bound.0 high.2)

pub first_of_all : {B : Type 0} (y : B) (o : Option (List B)) (zs : List B) → with_first y o ≡ Some zs → (ws : List B) × (o ≡ Some ws) × (y ∷ ws ≡ zs)
first_of_all y None zs e = absurd cc
first_of_all y (Some ws) zs e = (ws, refl, some_is (y ∷ ws) zs e)

all_hold : {A B : Type 0} (f : A → Option B) (P : B → Type 0) → ((x : A) (y : B) → f x ≡ Some y → P y) → (xs : List A) (ys : List B) → all_of f xs ≡ Some ys → AllByRecursion P ys
all_hold f P h [] ys e = subst (AllByRecursion P) (some_is [] ys e) tt
all_hold f P h (x ∷ xs) ys e =
    let a = bind_some (λ y. with_first y (all_of f xs)) (f x) ys e in
    let b = first_of_all a.0 (all_of f xs) ys a.2 in
    subst (AllByRecursion P) b.2 (h x a.0 a.1, all_hold f P h xs b.0 b.1)

-- ---- a sharded collection

pub paths_few : (key : Document) (ps : List Steps) → paths_in key ≡ Some ps → (1 ≤ length ps) × (length ps ≤ 4) × (length ps ≡ length key)
unfolding paths_in
paths_few key ps e =
    let a = few_of path_in 4 key ps e in
    let n = all_length path_in key ps a.2 in
    (omega (arith, a.0, n), omega (arith, a.1, n), n)

pub shards_few : (o : Option (List Tree)) (ss : List ShardRow) → option_map by_name (option_and_then shards_in o) ≡ Some ss → (1 ≤ length ss) × (length ss ≤ 64)
unfolding shards_in
shards_few None ss e = absurd cc
shards_few (Some ts) ss e = elim_few (option_and_then (all_of shard_of) (some_few 64 ts)) refl e
  where
    elim_few : (p : Option (List ShardRow)) → option_and_then (all_of shard_of) (some_few 64 ts) ≡ p → option_map by_name p ≡ Some ss → (1 ≤ length ss) × (length ss ≤ 64)
    elim_few None q e = absurd cc
    elim_few (Some rs) q e =
        let a = few_of shard_of 64 ts rs q in
        let n = all_length shard_of ts rs a.2 in
        let m = ap length (sym (some_is (by_name rs) ss e)) ∙ by_name_length rs in
        (omega (arith, a.0, n, m), omega (arith, a.1, n, m))

pub chunks_few : (key : Document) (shards : List ShardRow) (o : Option (List Tree)) (cs : List ChunkRow) → option_and_then (chunks_in key shards) o ≡ Some cs → (1 ≤ length cs) × (length cs ≤ 10000) × AllByRecursion (HasParts (length key)) cs
unfolding chunks_in
chunks_few key shards o cs e =
    let b = bind_some (chunks_in key shards) o cs e in
    let a = few_of (chunk_of key shards) 10000 b.0 cs b.2 in
    let n = all_length (chunk_of key shards) b.0 cs a.2 in
    (omega (arith, a.0, n), omega (arith, a.1, n), all_hold (chunk_of key shards) (HasParts (length key)) (chunk_parts key shards) b.0 cs a.2)

pub sharded_shape : (name : List ℕ) (key : Document) (ps : List Steps) (o p : Option (List Tree)) (ss : List ShardRow) (cs : List ChunkRow) → paths_in key ≡ Some ps → option_map by_name (option_and_then shards_in o) ≡ Some ss → option_and_then (chunks_in key ss) p ≡ Some cs → AreInOrder ss → IsSharded (sharded name ps ss cs)
sharded_shape name key ps o p ss cs e f g order =
    let a = paths_few key ps e in
    let b = shards_few o ss f in
    let c = chunks_few key ss p cs g in
    record {
      some_parts = a.0;
      few_parts = a.1;
      some_shards = b.0;
      few_shards = b.1;
      order = order;
      some_chunks = c.0;
      few_chunks = c.1;
      parts = subst (λ (n : ℕ). AllByRecursion (HasParts n) cs) (sym a.2) c.2;
    }
