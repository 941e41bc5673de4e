-- What is wrong with a collection of the right shape.
use Rattle.std.proofs.Common.{◌≡◌, ℕ, zero, suc, ◌+◌, ◌<◌, ◌≤◌, Bool, true, false, cond, List, [], ◌∷◌, ◌++◌, length, get_or, drop, refl, sym, ap, subst, ◌∙◌, arith, add-one, ne_eqb, inl, inr}
use Rattle.std.specs.Prelude.{Option, Some, None, Ok, nat_lt, ◌==◌}
use Rattle.std.specs.List.{AllByRecursion}
use Rattle.std.proofs.lemmas.Bool.{ltb-true, ltb-false, lt-ltb}
use Rattle.std.proofs.lemmas.Bool.Decides.{eqb_tells}
use Rattle.bson_value.specs.Tree.{Tree}
use Rattle.chunk_map.specs.Table.{ChunkRow, CollectionRow, Table}
use Rattle.chunk_map.specs.Keys.{none_left, follows}
use Rattle.chunk_map.specs.Form.{Answer, Fault, chunks_fault, collection_fault, is_twice_named, unless, checked}
use Rattle.chunk_map.specs.Sound.{AreGood}
use Rattle.chunk_map.specs.Spelled.{ended_by, IsChunkFault, IsFaulty}
use Rattle.chunk_map.specs.declared.errors.ClusterWhy.{ClusterWhy}
use Rattle.chunk_map.specs.declared.errors.ClusterWhy.TheVariants as W
use Rattle.chunk_map.proofs.Listed.{drop_get, drop_done, item_at}

-- no chunk stands behind the last one
last_at : (cs : List ChunkRow) (i : ℕ) → i < length cs → none_left (drop (i + 1) cs) ≡ (i + 1 == length cs)
last_at [] i lt = absurd (omega arith)
last_at (c ∷ []) zero lt = refl
last_at (c ∷ d ∷ cs) zero lt = sym (ne_eqb 1 (length (c ∷ d ∷ cs)) (λ h. omega arith))
last_at (c ∷ cs) (suc i) lt =
    let e : none_left (drop (i + 1) cs) ≡ (i + 1 == length cs) = last_at cs i (omega arith) in
    rw add-one (rw add-one at e ∙ same_test (suc i) (length cs))
  where
    same_test : (m n : ℕ) → (m == n) ≡ (suc m == suc n)
    same_test m n = elim (eqb_tells m n) [
      | inl h ↦ h.0 ∙ sym (elim (eqb_tells (suc m) (suc n)) [ inl g ↦ g.0 | inr g ↦ absurd (g.1 (ap suc h.1)) ])
      | inr h ↦ h.0 ∙ sym (ne_eqb (suc m) (suc n) (λ g. h.1 (omega (arith, g))))
    ]

not_below : (a b : ℕ) → b ≤ a → nat_lt a b ≡ false
not_below a b le =
    elim (nat_lt a b) as (λ t. nat_lt a b ≡ t → t ≡ false) [
      | true ↦ λ e. absurd (let lt = ltb-true a b e in omega arith)
      | false ↦ λ e. refl
    ] refl

module _ (shards number : ℕ) (ended : Option (List Tree)) (cs : List ChunkRow) (i : ℕ) (c : ChunkRow) (lt : i < length cs) (at : c ≡ get_or cs i c) where
  follows_at : (b : Bool) → follows ended (i + 1 == length cs) c ≡ b → follows ended (none_left (drop (i + 1) cs)) c ≡ b
  follows_at b e = ap (λ (l : Bool). follows ended l c) (last_at cs i lt) ∙ e

  pub range_fault : follows ended (i + 1 == length cs) c ≡ false → chunks_fault shards number ended (drop i cs) ≡ Some (number, W.Range)
  range_fault e = rw (drop_get cs i c (item_at cs i c lt at), follows_at false e) refl

  pub shard_fault : follows ended (i + 1 == length cs) c ≡ true → shards ≤ c.shard → chunks_fault shards number ended (drop i cs) ≡ Some (number, W.Shard)
  shard_fault e le = rw (drop_get cs i c (item_at cs i c lt at), follows_at true e, not_below c.shard shards le) refl

  pub no_fault : follows ended (i + 1 == length cs) c ≡ true → c.shard < shards → chunks_fault shards number ended (drop i cs) ≡ chunks_fault shards (number + 1) (Some c.bound) (drop (i + 1) cs)
  no_fault e le = rw (drop_get cs i c (item_at cs i c lt at), follows_at true e, lt-ltb c.shard shards le, add-one number) refl

pub all_checked : (shards number : ℕ) (ended : Option (List Tree)) (cs : List ChunkRow) (i : ℕ) → length cs ≤ i → chunks_fault shards number ended (drop i cs) ≡ None
all_checked shards number ended cs i le = rw (drop_done cs i le) refl

-- ---- chunks without a fault

tests : (shards number : ℕ) (ended : Option (List Tree)) (c : ChunkRow) (f g : Bool) (later : Option Fault) → cond f (cond g later (Some (number, W.Shard))) (Some (number, W.Range)) ≡ None → (f ≡ true) × (g ≡ true) × (later ≡ None)
tests shards number ended c true true later e = (refl, refl, e)
tests shards number ended c true false later e = absurd cc
tests shards number ended c false g later e = absurd cc

pub none_left_nil : (cs : List ChunkRow) → none_left (cs ++ []) ≡ none_left cs
none_left_nil [] = refl
none_left_nil (c ∷ cs) = refl

pub good_from : (shards number : ℕ) (ended : Option (List Tree)) (cs : List ChunkRow) → chunks_fault shards number ended cs ≡ None → AreGood shards ended cs []
good_from shards number ended [] e = tt
good_from shards number ended (c ∷ cs) e =
    let t = tests shards number ended c (follows ended (none_left cs) c) (nat_lt c.shard shards) (chunks_fault shards (suc number) (Some c.bound) cs) e in
    (ap (λ (b : Bool). follows ended b c) (none_left_nil cs) ∙ t.0, ltb-true _ _ t.1, good_from shards (suc number) (Some c.bound) cs t.2)

pub from_good : (shards number : ℕ) (ended : Option (List Tree)) (cs : List ChunkRow) → AreGood shards ended cs [] → chunks_fault shards number ended cs ≡ None
from_good shards number ended [] g = refl
from_good shards number ended (c ∷ cs) g =
    let f : follows ended (none_left cs) c ≡ true = ap (λ (b : Bool). follows ended b c) (sym (none_left_nil cs)) ∙ g.0 in
    rw (f, lt-ltb c.shard shards g.1) (from_good shards (suc number) (Some c.bound) cs g.2)

-- ---- collections without a fault

pub fault_none : (t : Bool) (x f : Option Fault) → cond t x f ≡ None → (x ≡ None → ⊥) → (t ≡ false) × (f ≡ None)
fault_none true x f e n = absurd (n e)
fault_none false x f e n = (refl, e)

named_fault : (let some : Fault → Option Fault = λ f. Some f in some (0, W.TwiceNamed) ≡ None) → ⊥
named_fault e = cc

pub apart_good : (before : Table) (c : CollectionRow) → collection_fault before c ≡ None → (is_twice_named before c ≡ false) × AreGood (length c.shards) None c.chunks []
unfolding collection_fault
apart_good before c e =
    let f = fault_none (is_twice_named before c) (Some (0, W.TwiceNamed)) (chunks_fault (length c.shards) 1 None c.chunks) e named_fault in
    (f.0, good_from (length c.shards) 1 None c.chunks f.1)

pub good_apart : (before : Table) (c : CollectionRow) → is_twice_named before c ≡ false → AreGood (length c.shards) None c.chunks [] → collection_fault before c ≡ None
unfolding collection_fault
good_apart before c e g = rw e (from_good (length c.shards) 1 None c.chunks g)

pub unless_ok : (number : ℕ) (o : Option Fault) (next : Answer) (ds : Table) → unless number o next ≡ Ok ds → (o ≡ None) × (next ≡ Ok ds)
unless_ok number None next ds e = (refl, e)
unless_ok number (Some f) next ds e = absurd cc

pub checked_good : (n : ℕ) (before cs ds : Table) → checked n before cs ≡ Ok ds → AllByRecursion (λ c. AreGood (length c.shards) None c.chunks []) cs
unfolding checked
checked_good n before [] ds e = tt
checked_good n before (c ∷ cs) ds e =
    let u = unless_ok n (collection_fault before c) (checked (suc n) (before ++ c ∷ []) cs) ds e in
    ((apart_good before c u.0).1, checked_good (suc n) (before ++ c ∷ []) cs ds u.1)

-- ---- the first fault

chunk_faults : (shards number : ℕ) (ended : Option (List Tree)) (front : List ChunkRow) (c : ChunkRow) (back : List ChunkRow) (why : ClusterWhy) → AreGood shards ended front (c ∷ back) → IsChunkFault shards (ended_by ended front) c back why → chunks_fault shards number ended (front ++ c ∷ back) ≡ Some (number + length front, why)
chunk_faults shards number ended [] c back W.Range g h = let k : number ≡ number + 0 = omega arith in rw h (ap (λ (n : ℕ). Some (n, W.Range)) k)
chunk_faults shards number ended [] c back W.Shard g h = let k : number ≡ number + 0 = omega arith in rw (h.0, not_below c.shard shards h.1) (ap (λ (n : ℕ). Some (n, W.Shard)) k)
chunk_faults shards number ended [] c back (W.Bytes b) g h = absurd h
chunk_faults shards number ended [] c back (W.Trailing at) g h = absurd h
chunk_faults shards number ended [] c back W.Form g h = absurd h
chunk_faults shards number ended [] c back W.TwiceNamed g h = absurd h
chunk_faults shards number ended (d ∷ front) c back why g h =
    let k : suc number + length front ≡ number + length (d ∷ front) = omega arith in
    rw (g.0, lt-ltb d.shard shards g.1) (chunk_faults shards (suc number) (Some d.bound) front c back why g.2 h ∙ ap (λ (n : ℕ). Some (n, why)) k)

record BadChunk (shards number : ℕ) (ended : Option (List Tree)) (cs : List ChunkRow) (f : Fault) : Type 0 where
  pub front : List ChunkRow
  pub chunk : ChunkRow
  pub back : List ChunkRow
  pub split : front ++ chunk ∷ back ≡ cs
  pub good : AreGood shards ended front (chunk ∷ back)
  pub fault : IsChunkFault shards (ended_by ended front) chunk back f.1
  pub place : number + length front ≡ f.0

fault_is : (a b : Fault) → (let some : Fault → Option Fault = λ f. Some f in some a ≡ some b) → a ≡ b
fault_is a b e = cc

first_bad : (shards number : ℕ) (ended : Option (List Tree)) (cs : List ChunkRow) (f : Fault) → chunks_fault shards number ended cs ≡ Some f → BadChunk shards number ended cs f
first_bad shards number ended [] f e = absurd cc
first_bad shards number ended (c ∷ cs) f e =
    elim (follows ended (none_left cs) c) as (λ t. follows ended (none_left cs) c ≡ t → cond t (cond (nat_lt c.shard shards) (chunks_fault shards (suc number) (Some c.bound) cs) (Some (number, W.Shard))) (Some (number, W.Range)) ≡ Some f → BadChunk shards number ended (c ∷ cs) f) [
      | true ↦ λ a g.
          elim (nat_lt c.shard shards) as (λ u. nat_lt c.shard shards ≡ u → cond u (chunks_fault shards (suc number) (Some c.bound) cs) (Some (number, W.Shard)) ≡ Some f → BadChunk shards number ended (c ∷ cs) f) [
            | true ↦ λ b h.
                let r = first_bad shards (suc number) (Some c.bound) cs f h in
                record {
                  front = c ∷ r.front;
                  chunk = r.chunk;
                  back = r.back;
                  split = ap (λ (l : List ChunkRow). c ∷ l) r.split;
                  good = (ap (λ (l : List ChunkRow). follows ended (none_left l) c) r.split ∙ a, ltb-true _ _ b, r.good);
                  fault = r.fault;
                  place = omega (arith, r.place);
                }
            | false ↦ λ b h.
                let same : (number, W.Shard) ≡ f = fault_is _ f h in
                subst (BadChunk shards number ended (c ∷ cs)) same (record { front = []; chunk = c; back = cs; split = refl; good = tt; fault = (a, ltb-false _ _ b); place = omega arith })
          ] refl g
      | false ↦ λ a g.
          let same : (number, W.Range) ≡ f = fault_is _ f g in
          subst (BadChunk shards number ended (c ∷ cs)) same (record { front = []; chunk = c; back = cs; split = refl; good = tt; fault = a; place = omega arith })
    ] refl e

pub fault_says : (before : Table) (c : CollectionRow) (f : Fault) → collection_fault before c ≡ Some f → IsFaulty before c f.0 f.1
unfolding collection_fault
fault_says before c f e =
    elim (is_twice_named before c) as (λ t. is_twice_named before c ≡ t → cond t (Some (0, W.TwiceNamed)) (chunks_fault (length c.shards) 1 None c.chunks) ≡ Some f → IsFaulty before c f.0 f.1) [
      | true ↦ λ a g. let same : (0, W.TwiceNamed) ≡ f = fault_is _ f g in inl (a, sym (ap (λ (x : Fault). x.0) same), sym (ap (λ (x : Fault). x.1) same))
      | false ↦ λ a g.
          let r = first_bad (length c.shards) 1 None c.chunks f g in
          inr (a, record { front = r.front; chunk = r.chunk; back = r.back; split = r.split; good = r.good; fault = r.fault; place = omega (arith, r.place) })
    ] refl e

pub says_fault : (before : Table) (c : CollectionRow) (chunk : ℕ) (why : ClusterWhy) → IsFaulty before c chunk why → collection_fault before c ≡ Some (chunk, why)
unfolding collection_fault
says_fault before c chunk why (inl h) = rw h.0 (λ i. Some (sym h.1 i, sym h.2 i))
says_fault before c chunk why (inr h) =
    let b = h.1 in
    let k : 1 + length b.front ≡ chunk = omega (arith, b.place) in
    rw h.0 (ap (chunks_fault (length c.shards) 1 None) (sym b.split) ∙ chunk_faults (length c.shards) 1 None b.front b.chunk b.back why b.good b.fault ∙ ap (λ (n : ℕ). Some (n, why)) k)
