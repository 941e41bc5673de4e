-- Keys among the ranges of chunks: each lies in one chunk.
use Rattle.std.proofs.Common.{◌≡◌, ℕ, zero, suc, ◌-◌, ◌<◌, ◌≤◌, Bool, true, false, List, [], ◌∷◌, ◌++◌, length, get_or, refl, sym, ap, subst, ◌∙◌, arith, inl, inr}
use Rattle.std.specs.Prelude.{Option, Some, None, slice_get, ◌&&◌, ◌||◌, ◌==◌, not, min}
use Rattle.std.specs.List.{AllByRecursion, list_all}
use Rattle.std.specs.List.Sorted.{IsPartitionedBy}
use Rattle.std.specs.Cmp.{IsTotalOrder}
use Rattle.std.specs.Ordering.{is_lt, is_le, is_eq, ordering_then}
use Rattle.std.specs.declared.cmp.Ordering.{Ordering}
use Rattle.std.specs.declared.cmp.Ordering.TheVariants.{Less, Equal, Greater}
use Rattle.std.proofs.lemmas.Cmp.{lists_total}
use Rattle.bson_value.specs.Tree as T
use Rattle.bson_value.specs.Tree.{Tree, leaf, doc, list}
use Rattle.bson_value.specs.Order.{class, order}
use Rattle.bson_value.proofs.Total.{order_total}
use Rattle.chunk_map.specs.Table.{ChunkRow, CollectionRow}
use Rattle.chunk_map.specs.Keys.{key_order, is_lowest, is_highest, none_left, begins, follows, has, has_at, shard_of_key}
use Rattle.chunk_map.specs.Sound.{AreInOrder, HasParts, AreGood, IsInOneChunk, IsSound, IsSharded, HaveOneChunk}
use Rattle.chunk_map.proofs.Listed.{some_is}
use Rattle.chunk_map.proofs.Orders.{le_trans, not_lt, lt_not_le, lt_le, eq_le, lt_trans, IsCut}

keys_total : IsTotalOrder key_order
keys_total = lists_total order_total

both : (a b : Bool) → (a && b) ≡ true → (a ≡ true) × (b ≡ true)
both true b e = (refl, e)
both false b e = absurd cc

-- ---- MinKey and MaxKey

least_le : (t : Tree) → is_le (order (leaf T.least) t) ≡ true
least_le (leaf T.least) = refl
least_le (leaf T.null) = refl
least_le (leaf (T.int n)) = refl
least_le (leaf (T.long n)) = refl
least_le (leaf (T.text s)) = refl
least_le (leaf (T.bin k s)) = refl
least_le (leaf (T.id s)) = refl
least_le (leaf (T.flag b)) = refl
least_le (leaf (T.date n)) = refl
least_le (leaf (T.stamp n)) = refl
least_le (leaf T.greatest) = refl
least_le (doc ps) = refl
least_le (list ts) = refl

is_least : (t : Tree) → (class t == 1) ≡ true → t ≡ leaf T.least
is_least (leaf T.least) e = refl
is_least (leaf T.null) e = absurd cc
is_least (leaf (T.int n)) e = absurd cc
is_least (leaf (T.long n)) e = absurd cc
is_least (leaf (T.text s)) e = absurd cc
is_least (leaf (T.bin k s)) e = absurd cc
is_least (leaf (T.id s)) e = absurd cc
is_least (leaf (T.flag b)) e = absurd cc
is_least (leaf (T.date n)) e = absurd cc
is_least (leaf (T.stamp n)) e = absurd cc
is_least (leaf T.greatest) e = absurd cc
is_least (doc ps) e = absurd cc
is_least (list ts) e = absurd cc

is_greatest : (t : Tree) → (class t == 12) ≡ true → t ≡ leaf T.greatest
is_greatest (leaf T.greatest) e = refl
is_greatest (leaf T.least) e = absurd cc
is_greatest (leaf T.null) e = absurd cc
is_greatest (leaf (T.int n)) e = absurd cc
is_greatest (leaf (T.long n)) e = absurd cc
is_greatest (leaf (T.text s)) e = absurd cc
is_greatest (leaf (T.bin k s)) e = absurd cc
is_greatest (leaf (T.id s)) e = absurd cc
is_greatest (leaf (T.flag b)) e = absurd cc
is_greatest (leaf (T.date n)) e = absurd cc
is_greatest (leaf (T.stamp n)) e = absurd cc
is_greatest (doc ps) e = absurd cc
is_greatest (list ts) e = absurd cc

le_then : (o p : Ordering) → is_le o ≡ true → is_le p ≡ true → is_le (ordering_then o p) ≡ true
le_then Less p e f = refl
le_then Equal p e f = f
le_then Greater p e f = absurd cc

lowest_le : (a b : List Tree) → is_lowest a ≡ true → length a ≡ length b → is_le (key_order a b) ≡ true
lowest_le [] [] e n = refl
lowest_le [] (y ∷ ys) e n = absurd (omega arith)
lowest_le (x ∷ xs) [] e n = absurd (omega arith)
lowest_le (x ∷ xs) (y ∷ ys) e n =
    let h = both (class x == 1) (list_all (λ t. class t == 1) xs) e in
    let l : x ≡ leaf T.least = is_least x h.0 in
    le_then (order x y) (key_order xs ys) (ap (λ (t : Tree). is_le (order t y)) l ∙ least_le y) (lowest_le xs ys h.1 (omega arith))

-- what isn't below MaxKey is MaxKey
above_greatest : (t : Tree) (p : Ordering) → is_le (ordering_then (order (leaf T.greatest) t) p) ≡ true → (class t == 12) ≡ true × (is_le p ≡ true)
above_greatest (leaf T.greatest) p e = (refl, e)
above_greatest (leaf T.least) p e = absurd cc
above_greatest (leaf T.null) p e = absurd cc
above_greatest (leaf (T.int n)) p e = absurd cc
above_greatest (leaf (T.long n)) p e = absurd cc
above_greatest (leaf (T.text s)) p e = absurd cc
above_greatest (leaf (T.bin k s)) p e = absurd cc
above_greatest (leaf (T.id s)) p e = absurd cc
above_greatest (leaf (T.flag b)) p e = absurd cc
above_greatest (leaf (T.date n)) p e = absurd cc
above_greatest (leaf (T.stamp n)) p e = absurd cc
above_greatest (doc ps) p e = absurd cc
above_greatest (list ts) p e = absurd cc

above_highest : (a b : List Tree) → is_highest a ≡ true → length a ≡ length b → is_le (key_order a b) ≡ true → is_highest b ≡ true
above_highest [] [] e n le = refl
above_highest [] (y ∷ ys) e n le = absurd (omega arith)
above_highest (x ∷ xs) [] e n le = absurd (omega arith)
above_highest (x ∷ xs) (y ∷ ys) e n le =
    let h = both (class x == 12) (list_all (λ t. class t == 12) xs) e in
    let l : x ≡ leaf T.greatest = is_greatest x h.0 in
    let f : is_le (ordering_then (order (leaf T.greatest) y) (key_order xs ys)) ≡ true = subst (λ (t : Tree). is_le (ordering_then (order t y) (key_order xs ys)) ≡ true) l le in
    let g = above_greatest y (key_order xs ys) f in
    let r : is_highest ys ≡ true = above_highest xs ys h.1 (omega arith) g.1 in
    rw (g.0, r) refl

-- ---- one chunk after another

-- what a chunk's range says
record Parts (ended : Option (List Tree)) (last : Bool) (c : ChunkRow) : Type 0 where
  pub begins : begins ended c.lowest ≡ true
  pub rises : is_lt (key_order c.lowest c.bound) ≡ true
  pub last_one : (not last || is_highest c.bound) ≡ true

parts_of : (ended : Option (List Tree)) (last : Bool) (c : ChunkRow) → follows ended last c ≡ true → Parts ended last c
parts_of ended last c e =
    let h = both (begins ended c.lowest) _ e in
    let k = both (is_lt (key_order c.lowest c.bound)) _ h.1 in
    record { begins = h.0; rises = k.0; last_one = k.1 }

equal_is : (o : Ordering) → is_eq o ≡ true → o ≡ Equal
equal_is Less e = absurd cc
equal_is Equal e = refl
equal_is Greater e = absurd cc

-- the key isn't below the place where the next range begins
abbrev IsFrom : Option (List Tree) → List Tree → Type 0
IsFrom None key = Unit {0}
IsFrom (Some ended) key = is_le (key_order ended key) ≡ true

lowest_from : (ended : Option (List Tree)) (lowest key : List Tree) → begins ended lowest ≡ true → length lowest ≡ length key → IsFrom ended key → is_le (key_order lowest key) ≡ true
lowest_from None lowest key e n low = lowest_le lowest key e n
lowest_from (Some ended) lowest key e n low = ap is_le (sym (keys_total.congr ended lowest key (equal_is (key_order ended lowest) e))) ∙ low

below_lowest : (ended key : List Tree) (last : Bool) (c : ChunkRow) → follows (Some ended) last c ≡ true → is_lt (key_order key ended) ≡ true → is_lt (key_order key c.lowest) ≡ true
below_lowest ended key last c f lt = lt_trans keys_total key ended c.lowest lt (eq_le keys_total ended c.lowest (parts_of (Some ended) last c f).begins)

below_bound : (ended key : List Tree) (last : Bool) (c : ChunkRow) → follows (Some ended) last c ≡ true → is_lt (key_order key ended) ≡ true → is_lt (key_order key c.bound) ≡ true
below_bound ended key last c f lt = lt_trans keys_total key c.lowest c.bound (below_lowest ended key last c f lt) (lt_le keys_total c.lowest c.bound (parts_of (Some ended) last c f).rises)

to_bound : (ended : List Tree) (last : Bool) (c : ChunkRow) → follows (Some ended) last c ≡ true → is_le (key_order ended c.bound) ≡ true
to_bound ended last c f =
    let p = parts_of (Some ended) last c f in
    le_trans keys_total ended c.lowest c.bound (eq_le keys_total ended c.lowest p.begins) (lt_le keys_total c.lowest c.bound p.rises)

-- no later chunk has a key below the place where they begin
none_later : (shards : ℕ) (ended key : List Tree) (cs : List ChunkRow) → AreGood shards (Some ended) cs [] → is_lt (key_order key ended) ≡ true → (i : ℕ) → has_at key cs i ≡ false
none_later shards ended key [] g lt i = refl
none_later shards ended key (c ∷ cs) g lt zero = rw (lt_not_le keys_total key c.lowest (below_lowest ended key (none_left (cs ++ [])) c g.0 lt)) refl
none_later shards ended key (c ∷ cs) g lt (suc i) = none_later shards c.bound key cs g.2 (below_bound ended key (none_left (cs ++ [])) c g.0 lt) i

flipped : (b : Bool) → not b ≡ true → b ≡ false
flipped true e = absurd cc
flipped false e = refl

unflipped : (b : Bool) → not b ≡ false → b ≡ true
unflipped true e = refl
unflipped false e = absurd cc

-- the key isn't below the bound
abbrev pub is_past : List Tree → ChunkRow → Bool
is_past key c = not (is_lt (key_order key c.bound))

module _ (shards n : ℕ) (key : List Tree) (size : length key ≡ n) where
  from_lowest : (ended : Option (List Tree)) (last : Bool) (c : ChunkRow) → follows ended last c ≡ true → HasParts n c → IsFrom ended key → is_le (key_order c.lowest key) ≡ true
  from_lowest ended last c f p low = lowest_from ended c.lowest key (parts_of ended last c f).begins (p.0 ∙ sym size) low

  -- behind the last range there is the key of MaxKeys alone
  is_last : (ended : Option (List Tree)) (c : ChunkRow) → follows ended true c ≡ true → HasParts n c → is_lt (key_order key c.bound) ≡ false → is_highest key ≡ true
  is_last ended c f p e = above_highest c.bound key (parts_of ended true c f).last_one (p.1 ∙ sym size) (not_lt keys_total key c.bound e)

  first_only : (c : ChunkRow) (cs : List ChunkRow) → AreGood shards (Some c.bound) cs [] → is_lt (key_order key c.bound) ≡ true → (i : ℕ) → has_at key (c ∷ cs) i ≡ true → i ≡ 0
  first_only c cs g e zero h = refl
  first_only c cs g e (suc i) h = absurd (let f = none_later shards c.bound key cs g e i in cc)

  first_chunk : (c : ChunkRow) (cs : List ChunkRow) → AreGood shards (Some c.bound) cs [] → is_le (key_order c.lowest key) ≡ true → is_lt (key_order key c.bound) ≡ true → IsInOneChunk key (c ∷ cs)
  first_chunk c cs g le e = record {
    place = 0;
    has = rw (le, e) refl;
    only = first_only c cs g e;
    front = [];
    chunk = c;
    back = cs;
    split = refl;
    at = refl;
    shard = rw (le, e) refl;
  }

  last_only : (c : ChunkRow) (i : ℕ) → has_at key (c ∷ []) i ≡ true → i ≡ 0
  last_only c zero h = refl
  last_only c (suc i) h = absurd cc

  last_chunk : (c : ChunkRow) → is_le (key_order c.lowest key) ≡ true → is_lt (key_order key c.bound) ≡ false → is_highest key ≡ true → IsInOneChunk key (c ∷ [])
  last_chunk c le e h = record {
    place = 0;
    has = rw (le, e, h) refl;
    only = last_only c;
    front = [];
    chunk = c;
    back = [];
    split = refl;
    at = refl;
    shard = rw (le, e, h) refl;
  }

  next_only : (c d : ChunkRow) (ds : List ChunkRow) (place : ℕ) → is_le (key_order c.lowest key) ≡ true → is_lt (key_order key c.bound) ≡ false → ((i : ℕ) → has_at key (d ∷ ds) i ≡ true → i ≡ place) → (i : ℕ) → has_at key (c ∷ d ∷ ds) i ≡ true → i ≡ suc place
  next_only c d ds place le e only zero h = absurd (let f : has key false c ≡ false = rw (le, e) refl in cc)
  next_only c d ds place le e only (suc i) h = ap suc (only i h)

  next_chunk : (c d : ChunkRow) (ds : List ChunkRow) → is_le (key_order c.lowest key) ≡ true → is_lt (key_order key c.bound) ≡ false → IsInOneChunk key (d ∷ ds) → IsInOneChunk key (c ∷ d ∷ ds)
  next_chunk c d ds le e r = record {
    place = suc r.place;
    has = r.has;
    only = next_only c d ds r.place le e r.only;
    front = c ∷ r.front;
    chunk = r.chunk;
    back = r.back;
    split = ap (λ (l : List ChunkRow). c ∷ l) r.split;
    at = ap suc r.at;
    shard = rw (le, e) r.shard;
  }

  later_chunk : (ended : Option (List Tree)) (c : ChunkRow) (cs : List ChunkRow) → follows ended (none_left (cs ++ [])) c ≡ true → HasParts n c → is_le (key_order c.lowest key) ≡ true → is_lt (key_order key c.bound) ≡ false → (1 ≤ length cs → IsInOneChunk key cs) → IsInOneChunk key (c ∷ cs)
  later_chunk ended c [] f p le e r = last_chunk c le e (is_last ended c f p e)
  later_chunk ended c (d ∷ ds) f p le e r = next_chunk c d ds le e (r (omega arith))

  pub one_chunk : (ended : Option (List Tree)) (cs : List ChunkRow) → AreGood shards ended cs [] → AllByRecursion (HasParts n) cs → 1 ≤ length cs → IsFrom ended key → IsInOneChunk key cs
  one_chunk ended [] g p some low = absurd (omega arith)
  one_chunk ended (c ∷ cs) g p some low =
      let le = from_lowest ended (none_left (cs ++ [])) c g.0 p.0 low in
      elim (is_lt (key_order key c.bound)) as (λ b. is_lt (key_order key c.bound) ≡ b → IsInOneChunk key (c ∷ cs)) [
        | true ↦ λ e. first_chunk c cs g.2 le e
        | false ↦ λ e. later_chunk ended c cs g.0 p.0 le e (λ more. one_chunk (Some c.bound) cs g.2 p.1 more (not_lt keys_total key c.bound e))
      ] refl

  -- the chunk at the place where a search ends has the key
  pub has_here : (ended : Option (List Tree)) (cs : List ChunkRow) (i place : ℕ) → AreGood shards ended cs [] → AllByRecursion (HasParts n) cs → 1 ≤ length cs → IsFrom ended key → IsCut (is_past key) cs i → place ≡ min i (length cs - 1) → has_at key cs place ≡ true
  has_here ended [] i place g p some low cut e = absurd (omega arith)
  has_here ended (c ∷ cs) zero zero g p some low cut e = rw (from_lowest ended (none_left (cs ++ [])) c g.0 p.0 low, unflipped _ cut.0) refl
  has_here ended (c ∷ cs) zero (suc m) g p some low cut e = absurd (omega arith)
  has_here ended (c ∷ []) (suc i) zero g p some low cut e =
      let f = flipped _ cut.0 in
      rw (from_lowest ended true c g.0 p.0 low, f, is_last ended c g.0 p.0 f) refl
  has_here ended (c ∷ []) (suc i) (suc m) g p some low cut e = absurd (omega arith)
  has_here ended (c ∷ d ∷ ds) (suc i) zero g p some low cut e = absurd (omega arith)
  has_here ended (c ∷ d ∷ ds) (suc i) (suc m) g p some low cut e =
      has_here (Some c.bound) (d ∷ ds) i m g.2 p.1 (omega arith) (not_lt keys_total key c.bound (flipped _ cut.0)) cut.1 (omega arith)

-- ---- what a search asks

rises : (shards : ℕ) (ended : List Tree) (cs : List ChunkRow) (i : ℕ) (d : ChunkRow) → AreGood shards (Some ended) cs [] → i < length cs → is_le (key_order ended (get_or cs i d).bound) ≡ true
rises shards ended [] i d g lt = absurd (omega arith)
rises shards ended (c ∷ cs) zero d g lt = to_bound ended (none_left (cs ++ [])) c g.0
rises shards ended (c ∷ cs) (suc i) d g lt = le_trans keys_total ended c.bound (get_or cs i d).bound (to_bound ended (none_left (cs ++ [])) c g.0) (rises shards c.bound cs i d g.2 (omega arith))

past_earlier : (key : List Tree) (c d : ChunkRow) → is_le (key_order c.bound d.bound) ≡ true → is_past key d ≡ true → is_past key c ≡ true
past_earlier key c d le e =
    elim (is_lt (key_order key c.bound)) as (λ b. is_lt (key_order key c.bound) ≡ b → not b ≡ true) [
      | true ↦ λ f. absurd (let g = lt_trans keys_total key c.bound d.bound f le in let h = flipped _ e in cc)
      | false ↦ λ f. refl
    ] refl

pub ranges_parted : (shards : ℕ) (key : List Tree) (ended : Option (List Tree)) (cs : List ChunkRow) → AreGood shards ended cs [] → IsPartitionedBy (is_past key) cs
ranges_parted shards key ended [] g i j d le high e = absurd (omega arith)
ranges_parted shards key ended (c ∷ cs) g zero zero d le high e = e
ranges_parted shards key ended (c ∷ cs) g zero (suc j) d le high e = past_earlier key c (get_or cs j d) (rises shards c.bound cs j d g.2 (omega arith)) e
ranges_parted shards key ended (c ∷ cs) g (suc i) zero d le high e = absurd (omega arith)
ranges_parted shards key ended (c ∷ cs) g (suc i) (suc j) d le high e = ranges_parted shards key (Some c.bound) cs g.2 i j d (omega arith) (omega arith) e

-- ---- collections

pub sharded_of : (c : CollectionRow) → IsSound c → 1 ≤ length c.key_paths → IsSharded c
sharded_of c s some = elim s.shaped [ inl u ↦ absurd (omega (arith, ap length u.no_key)) | inr h ↦ h ]

pub in_order : (c : CollectionRow) → IsSound c → AreInOrder c.shards
in_order c s = elim s.shaped [ inl u ↦ λ k d low high. absurd (omega (arith, high, u.one)) | inr h ↦ h.order ]

pub have_one_chunk : (c : CollectionRow) → IsSound c → HaveOneChunk c
have_one_chunk c s some key size = let h = sharded_of c s some in one_chunk (length c.shards) (length c.key_paths) key size None c.chunks s.good h.parts h.some_chunks tt

listed_shard : (shards : ℕ) (ended : Option (List Tree)) (cs : List ChunkRow) (i : ℕ) (c : ChunkRow) → AreGood shards ended cs [] → slice_get cs i ≡ Some c → c.shard < shards
listed_shard shards ended [] i c g e = absurd cc
listed_shard shards ended (d ∷ cs) zero c g e = subst (λ (x : ChunkRow). x.shard < shards) (some_is d c e) g.1
listed_shard shards ended (d ∷ cs) (suc i) c g e = listed_shard shards (Some d.bound) cs i c g.2 e

split_at : (front : List ChunkRow) (c : ChunkRow) (back : List ChunkRow) → slice_get (front ++ c ∷ back) (length front) ≡ Some c
split_at [] c back = refl
split_at (d ∷ front) c back = split_at front c back

-- what a search found tells the shard of the key
pub found_shard : (c : CollectionRow) (key : List Tree) (i place : ℕ) (chunk : ChunkRow) → IsSound c → 1 ≤ length c.key_paths → length key ≡ length c.key_paths → IsCut (is_past key) c.chunks i → place ≡ min i (length c.chunks - 1) → slice_get c.chunks place ≡ Some chunk
    → (shard_of_key key c.chunks ≡ Some chunk.shard) × (chunk.shard < length c.shards)
found_shard c key i place chunk s some size cut e g =
    let h = sharded_of c s some in
    let one = have_one_chunk c s some key size in
    let here = has_here (length c.shards) (length c.key_paths) key size None c.chunks i place s.good h.parts h.some_chunks tt cut e in
    let at : slice_get c.chunks place ≡ Some one.chunk = ap (slice_get c.chunks) (one.only place here ∙ sym one.at) ∙ ap (λ (l : List ChunkRow). slice_get l (length one.front)) (sym one.split) ∙ split_at one.front one.chunk one.back in
    let same : one.chunk ≡ chunk = some_is one.chunk chunk (sym at ∙ g) in
    (one.shard ∙ ap (λ (x : ChunkRow). Some x.shard) same, listed_shard (length c.shards) None c.chunks place chunk s.good g)

pub found_shards : (c : CollectionRow) (key : List Tree) (cs : List ChunkRow) (i place : ℕ) (chunk : ChunkRow) → IsSound c → 1 ≤ length c.key_paths → length key ≡ length c.key_paths → c.chunks ≡ cs → (IsPartitionedBy (is_past key) cs → IsCut (is_past key) cs i) → place ≡ min i (length cs - 1) → slice_get cs place ≡ Some chunk
    → (shard_of_key key c.chunks ≡ Some chunk.shard) × (chunk.shard < length c.shards)
found_shards c key cs i place chunk s some size same =
    subst (λ (l : List ChunkRow). (IsPartitionedBy (is_past key) l → IsCut (is_past key) l i) → place ≡ min i (length l - 1) → slice_get l place ≡ Some chunk → (shard_of_key key c.chunks ≡ Some chunk.shard) × (chunk.shard < length c.shards)) same
    (λ cut e g. found_shard c key i place chunk s some size (cut (ranges_parted (length c.shards) key None c.chunks s.good)) e g)
