-- The documents that a shard owns, one after another.
use Rattle.std.proofs.Common.{◌≡◌, ℕ, ◌+◌, ◌<◌, ◌≤◌, Bool, true, false, cond, List, [], ◌∷◌, ◌++◌, length, refl, sym, ap, subst, ◌∙◌, append_assoc, append-nil, arith, length-append}
use Rattle.std.specs.Prelude.{Option, Some, None, Result, Ok, Err, IfOk, IfSome, IsNone, is_some, slice_get, filter}
use Rattle.std.proofs.lemmas.List.{nil_from_length}
use Rattle.bson_value.specs.declared.bad.BadBson.{BadBson}
use Rattle.bson_codec.specs.Reading.{read_at}
use Rattle.bson_codec.specs.Records.{Document, records}
use Rattle.bson_codec.proofs.Joined.{read_all, read_front}
use Rattle.chunk_map.specs.Owned.{documents_of, owns, part, shard_records}
use Rattle.chunk_map.specs.Table.{ShardRow, CollectionRow}
use Rattle.mq_ports.specs.World.{Held, contents_at, id_of}
use Rattle.orphan_filter.specs.Owned.{OpensShard, HasGiven, FollowsShard, IsOver, IsOwned, IsNextOwned}
use Rattle.orphan_filter.specs.Reading.{Reading, IsNext}
use Rattle.orphan_filter.specs.Survey.{files_in, IsGoodFile, surveyed}
use Rattle.chunk_map.proofs.Listed.{get_some}
use Rattle.orphan_filter.proofs.Steps.{one_more, still, bad_record, good_shard, get_seam, get_end, ok_same}

-- ---- filters

module _ {X : Type 0} (p : X → Bool) where
  pub filter-append : (xs ys : List X) → filter p (xs ++ ys) ≡ filter p xs ++ filter p ys
  filter-append [] ys = refl
  filter-append (x ∷ xs) ys = elim (p x) as (λ b. cond b (x ∷ filter p (xs ++ ys)) (filter p (xs ++ ys)) ≡ cond b (x ∷ filter p xs) (filter p xs) ++ filter p ys) [
    | true ↦ ap (λ (l : List X). x ∷ l) (filter-append xs ys)
    | false ↦ filter-append xs ys
  ]

  kept_one : (xs : List X) (x : X) → p x ≡ true → length (filter p (xs ++ x ∷ [])) ≡ length (filter p xs) + 1
  kept_one xs x e = let f : filter p (xs ++ x ∷ []) ≡ filter p xs ++ x ∷ [] = filter-append xs (x ∷ []) ∙ rw e refl in omega (arith, ap length f, length-append (filter p xs) (x ∷ []))

  dropped_one : (xs : List X) (x : X) → p x ≡ false → length (filter p (xs ++ x ∷ [])) ≡ length (filter p xs)
  dropped_one xs x e = let f : filter p (xs ++ x ∷ []) ≡ filter p xs = filter-append xs (x ∷ []) ∙ rw e (append-nil (filter p xs)) in ap length f

  next_kept : (xs : List X) (x : X) (ys : List X) → p x ≡ true → slice_get (filter p (xs ++ x ∷ ys)) (length (filter p xs)) ≡ Some x
  next_kept xs x ys e =
      let f : filter p (xs ++ x ∷ ys) ≡ filter p xs ++ x ∷ filter p ys = filter-append xs (x ∷ ys) ∙ rw e refl in
      ap (λ (l : List X). slice_get l (length (filter p xs))) f ∙ get_seam (filter p xs) x (filter p ys)

whole_list : {X : Type 0} (xs rest ys : List X) → xs ++ rest ≡ ys → length xs ≡ length ys → xs ≡ ys
whole_list xs rest ys e n =
    let none : rest ≡ [] = nil_from_length rest (omega (arith, ap length e, length-append xs rest, n)) in
    sym (append-nil xs) ∙ ap (λ l. xs ++ l) (sym none) ∙ e

-- ---- the documents of a good file

docs_of : (o : Option (List ℕ)) (bytes : List ℕ) (ds : List Document) → o ≡ Some bytes → records bytes ≡ Ok ds → documents_of o ≡ ds
docs_of o bytes ds e r = rw (e, r) refl

good_docs : (o : Option (List ℕ)) (bytes : List ℕ) → o ≡ Some bytes → IsGoodFile o → (ds : List Document) × (records bytes ≡ Ok ds) × (documents_of o ≡ ds)
good_docs o bytes e g =
    let h : IsGoodFile (Some bytes) = subst IsGoodFile e g in
    (h.1.0, h.1.1, docs_of o bytes h.1.0 e h.1.1)

told_file : (held : Held) (name : List ℕ) (id : ℕ) → id_of name held ≡ Some id → files_in held name ≡ Some (contents_at id held)
told_file held name id e = rw e refl

module _ (c : CollectionRow) (shard : ℕ) (s : ShardRow) (held : Held) (is : slice_get c.shards shard ≡ Some s) (good : IsGoodFile (files_in held s.file)) where
  part_is : (r : Reading) → id_of s.file held ≡ Some r.id → (ds : List Document) × (records (contents_at r.id held) ≡ Ok ds) × (part (files_in held) c shard ≡ filter (owns c shard) ds)
  part_is r e =
      let d = good_docs (files_in held s.file) (contents_at r.id held) (told_file held s.file r.id e) good in
      (d.0, d.1, ap (λ (o : Option ShardRow). filter (owns c shard) (shard_records (files_in held) o)) is ∙ ap (filter (owns c shard)) d.2)

  has_more : (given : ℕ) (old new : Reading) (d : Document) → new.id ≡ old.id → new.given ≡ old.given + 1 → FollowsShard c shard given old (Some s) held → IsNext (Some d) old new (contents_at old.id held) → (b : Bool) → owns c shard d ≡ b → IsOwned c shard given d new held b
  has_more given old new d id g f n true b =
      let h = f.1 in
      let m = one_more old new (contents_at old.id held) d h.follows n.0 n.1.along g in
      let p = part_is old f.0 in
      let r = read_front (contents_at old.id held) m.before new.place p.0 m.read p.1 in
      let whole : h.follows.before ++ d ∷ r.0 ≡ p.0 = sym (append_assoc h.follows.before (d ∷ []) r.0) ∙ r.1 in
      let at = next_kept (owns c shard) h.follows.before d r.0 b in (
        ap (λ (k : ℕ). slice_get (part (files_in held) c shard) k) (sym h.owned) ∙ ap (λ (l : List Document). slice_get l (length (filter (owns c shard) h.follows.before))) (p.2 ∙ ap (filter (owns c shard)) (sym whole)) ∙ at,
        subst (λ (o : Option ShardRow). FollowsShard c shard (given + 1) new o held) (sym is) (
          f.0 ∙ ap (λ (k : ℕ). Some k) (sym id),
          subst (λ (k : ℕ). HasGiven c shard (given + 1) new (contents_at k held)) (sym id) (record { follows = m; owned = kept_one (owns c shard) h.follows.before d b ∙ ap (λ (k : ℕ). k + 1) h.owned }),
        ),
      )
  has_more given old new d id g f n false b =
      let h = f.1 in
      let m = one_more old new (contents_at old.id held) d h.follows n.0 n.1.along g in
      subst (λ (o : Option ShardRow). FollowsShard c shard given new o held) (sym is) (
        f.0 ∙ ap (λ (k : ℕ). Some k) (sym id),
        subst (λ (k : ℕ). HasGiven c shard given new (contents_at k held)) (sym id) (record { follows = m; owned = dropped_one (owns c shard) h.follows.before d b ∙ h.owned }),
      )

  has_all : (given : ℕ) (old new : Reading) → new.id ≡ old.id → new.given ≡ old.given → FollowsShard c shard given old (Some s) held → IsNext None old new (contents_at old.id held) → IsNextOwned c shard given None new held
  has_all given old new id g f n =
      let h = f.1 in
      let p = part_is old f.0 in
      let le : length (contents_at old.id held) ≤ old.place = omega (arith, n.0) in
      let all = read_all (contents_at old.id held) h.follows.before old.place h.follows.read le in
      let same : h.follows.before ≡ p.0 = ok_same h.follows.before p.0 (sym all ∙ p.1) in
      let r = read_front (contents_at old.id held) n.1.before new.place p.0 n.1.read p.1 in
      let again : n.1.before ≡ p.0 = whole_list n.1.before r.0 p.0 r.1 (omega (arith, n.1.count, h.follows.count, ap length same)) in
      let owned : length (filter (owns c shard) n.1.before) ≡ given = ap (λ (l : List Document). length (filter (owns c shard) l)) (again ∙ sym same) ∙ h.owned in (
        ap (λ (l : List Document). slice_get l given) (p.2 ∙ ap (filter (owns c shard)) (sym same)) ∙ ap (λ (k : ℕ). slice_get (filter (owns c shard) h.follows.before) k) (sym h.owned) ∙ get_end (filter (owns c shard) h.follows.before),
        subst (λ (o : Option ShardRow). FollowsShard c shard given new o held) (sym is) (
          f.0 ∙ ap (λ (k : ℕ). Some k) (sym id),
          subst (λ (k : ℕ). HasGiven c shard given new (contents_at k held)) (sym id) (record { follows = n.1; owned = owned }),
        ),
      )

  no_bad : (given : ℕ) (old : Reading) (b : BadBson) → FollowsShard c shard given old (Some s) held → (old.place < length (contents_at old.id held)) × (read_at old.place (contents_at old.id held) ≡ Err b) → ⊥
  no_bad given old b f bad =
      let p = part_is old f.0 in
      let r = bad_record old (contents_at old.id held) b f.1.follows bad.0 bad.1 in
      let q = p.1 in
      cc

-- a reader that was opened has given nothing
pub opened : (c : CollectionRow) (shard : ℕ) (s : ShardRow) (r : Reading) (held : Held) → r.given ≡ 0 → OpensShard r s held → FollowsShard c shard 0 r (Some s) held
opened c shard s r held e h =
    let none : h.1.before ≡ [] = nil_from_length h.1.before (h.1.count ∙ e) in
    (h.0, record { follows = h.1; owned = ap (λ (l : List Document). length (filter (owns c shard) l)) none })

-- ---- the shard of a place, over files that tell

there : (c : CollectionRow) (shard : ℕ) → shard < length c.shards → (s : ShardRow) × (slice_get c.shards shard ≡ Some s)
there c shard lt = get_some c.shards shard lt

shard_is_good : (held : Held) (c : CollectionRow) (i : ℕ) (s : ShardRow) → surveyed (files_in held) c ≡ Ok tt → slice_get c.shards i ≡ Some s → IsGoodFile (files_in held s.file)
unfolding surveyed
shard_is_good held c i s good e = good_shard (files_in held) c c.shards i s good e

followed : (c : CollectionRow) (shard given : ℕ) (r : Reading) (held : Held) → FollowsShard c shard given r (slice_get c.shards shard) held → (s : ShardRow) × (slice_get c.shards shard ≡ Some s) × FollowsShard c shard given r (Some s) held
followed c shard given r held f = at (slice_get c.shards shard) refl f
  where
    at : (o : Option ShardRow) → slice_get c.shards shard ≡ o → FollowsShard c shard given r o held → (s : ShardRow) × (slice_get c.shards shard ≡ Some s) × FollowsShard c shard given r (Some s) held
    at None e h = absurd h
    at (Some s) e h = (s, e, h)

pub next_owned : (h0 h1 : Option Held) (c : CollectionRow) (shard given : ℕ) (old new : Reading) (o : Option Document) → h1 ≡ h0 → new.id ≡ old.id → new.given ≡ old.given + (cond (is_some o) 1 0)
    → IfSome h0 (λ held. surveyed (files_in held) c ≡ Ok tt) → IfSome h0 (λ held. FollowsShard c shard given old (slice_get c.shards shard) held) → IfSome h1 (λ held. IsNext o old new (contents_at old.id held)) → IfSome h1 (λ held. IsNextOwned c shard given o new held)
next_owned h0 None c shard given old new o e id g good f n = tt
next_owned h0 (Some held) c shard given old new (Some d) e id g good f n =
    let good' : surveyed (files_in held) c ≡ Ok tt = still h0 (Some held) (λ (held : Held). surveyed (files_in held) c ≡ Ok tt) e good in
    let f' : FollowsShard c shard given old (slice_get c.shards shard) held = still h0 (Some held) (λ (held : Held). FollowsShard c shard given old (slice_get c.shards shard) held) e f in
    let s = followed c shard given old held f' in
    has_more c shard s.0 held s.1 (shard_is_good held c shard s.0 good' s.1) given old new d id g s.2 n (owns c shard d) refl
next_owned h0 (Some held) c shard given old new None e id g good f n =
    let good' : surveyed (files_in held) c ≡ Ok tt = still h0 (Some held) (λ (held : Held). surveyed (files_in held) c ≡ Ok tt) e good in
    let f' : FollowsShard c shard given old (slice_get c.shards shard) held = still h0 (Some held) (λ (held : Held). FollowsShard c shard given old (slice_get c.shards shard) held) e f in
    let s = followed c shard given old held f' in
    has_all c shard s.0 held s.1 (shard_is_good held c shard s.0 good' s.1) given old new id (omega (arith, g)) s.2 n

pub no_bad_record : (h0 : Option Held) (c : CollectionRow) (shard given : ℕ) (old : Reading) (b : BadBson) → IfSome h0 (λ held. surveyed (files_in held) c ≡ Ok tt) → IfSome h0 (λ held. FollowsShard c shard given old (slice_get c.shards shard) held)
    → IfSome h0 (λ held. (old.place < length (contents_at old.id held)) × (read_at old.place (contents_at old.id held) ≡ Err b)) → IsNone h0
no_bad_record None c shard given old b good f bad = refl
no_bad_record (Some held) c shard given old b good f bad =
    let s = followed c shard given old held f in
    absurd (no_bad c shard s.0 held s.1 (shard_is_good held c shard s.0 good s.1) given old b s.2 bad)

pub shard_file_good : (h0 : Option Held) (c : CollectionRow) (i : ℕ) (s : ShardRow) → IfSome h0 (λ held. surveyed (files_in held) c ≡ Ok tt) → slice_get c.shards i ≡ Some s → IfSome h0 (λ held. IsGoodFile (files_in held s.file))
shard_file_good None c i s good e = tt
shard_file_good (Some held) c i s good e = shard_is_good held c i s good e

pub opened_over : (h1 : Option Held) (c : CollectionRow) (i given : ℕ) (s : ShardRow) (r : Reading) → slice_get c.shards i ≡ Some s → r.given ≡ 0 → given ≡ 0 → IfSome h1 (λ held. OpensShard r s held) → IfSome h1 (λ held. FollowsShard c i given r (slice_get c.shards i) held)
opened_over None c i given s r e g z h = tt
opened_over (Some held) c i given s r e g z h =
    subst (λ (o : Option ShardRow). FollowsShard c i given r o held) (sym e) (subst (λ (k : ℕ). FollowsShard c i k r (Some s) held) (sym z) (opened c i s r held g h))

given_zero : (c : CollectionRow) (i given : ℕ) (o : Option Reading) (held : Held) → o ≡ None → IsOver c i given o held → given ≡ 0
given_zero c i given o held e h = subst (λ (p : Option Reading). IsOver c i given p held) e h

pub opened_all : {A E : Type 0} (view : A → Reading) (r : Result A E) (h0 h1 : Option Held) (c : CollectionRow) (i given : ℕ) (s : ShardRow) (o : Option Reading) → h1 ≡ h0 → o ≡ None → slice_get c.shards i ≡ Some s → IfSome h0 (λ held. IsOver c i given o held)
    → IfOk r (λ a. IfSome h1 (λ held. OpensShard (view a) s held)) → IfOk r (λ a. (view a).given ≡ 0) → IfOk r (λ a. IfSome h1 (λ held. FollowsShard c i given (view a) (slice_get c.shards i) held))
opened_all view (Err e) h0 h1 c i given s o same none at over opens begun = tt
opened_all view (Ok a) h0 None c i given s o same none at over opens begun = tt
opened_all view (Ok a) h0 (Some held) c i given s o same none at over opens begun =
    let z : given ≡ 0 = given_zero c i given o held none (still h0 (Some held) (λ (held : Held). IsOver c i given o held) same over) in
    opened_over (Some held) c i given s (view a) at begun z opens
