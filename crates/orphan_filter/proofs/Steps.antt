-- Steps of reading a file's records.
use Rattle.std.proofs.Common.{◌≡◌, append-nil, ℕ, zero, suc, ◌+◌, ◌-◌, ◌<◌, ◌≤◌, List, [], ◌∷◌, ◌++◌, length, get_or, take, drop, refl, sym, ap, subst, ◌∙◌, append_assoc, arith, ◌^◌, length-append, length-drop, inl, inr, Bool, true, false, cond, ltb}
use Rattle.std.specs.Prelude.{Option, Some, None, Result, Ok, Err, ◌⊎◌, slice_get, IfSome}
use Rattle.std.specs.Prelude.{replicate}
use Rattle.std.proofs.Math.ListN.{drop_of_length-le}
use Rattle.std.proofs.Math.Seq.{drop-append_seam}
use Rattle.std.proofs.lemmas.List.{drop-drop, drop-append-le, length-take, length-replicate}
use Rattle.std.proofs.lemmas.Bool.{ltb-false}
use Rattle.bson_value.specs.declared.bad.BadBson.{BadBson}
use Rattle.bson_codec.specs.Spelling.{IsSpelledAt}
use Rattle.bson_codec.specs.Reading.{read_at}
use Rattle.bson_codec.specs.Records.{Document, BadRecord, records}
use Rattle.bson_codec.specs.Fronts.{needed, IsFrontAt}
use Rattle.bson_codec.proofs.Joined.{read_none, read_more, read_bad}
use Rattle.chunk_map.specs.Table.{ShardRow, CollectionRow}
use Rattle.chunk_map.proofs.Listed.{drop_get, item_at}
use Rattle.mq_ports.specs.Reads.{GivesFront}
use Rattle.mq_ports.specs.World.{Held, contents_at, id_of, OnlyFileCounts, World}
use Rattle.orphan_filter.specs.Reading.{Reading, IsAlong, Follows, IsNext}
use Rattle.orphan_filter.specs.Survey.{Verdict, ArrayRecord, unless_bad, files_in, records_verdict, file_verdict, verdict_then, shards_verdict, IsGoodFile}

-- ---- windows

-- a piece behind what was read
pub along_more : (len place n : ℕ) (ahead buf file : List ℕ) → IsAlong len place ahead file → GivesFront (drop (place + length ahead) file) n buf → n ≤ length buf → IsAlong len place (ahead ++ take n buf) file
along_more len place n ahead buf file h g le =
    let size : length (ahead ++ take n buf) ≡ length ahead + n = omega (arith, length-append ahead (take n buf), length-take n buf) in
    let at : (place + length ahead) + n ≡ place + length (ahead ++ take n buf) = omega (arith, size) in
    let rest : drop n (drop (place + length ahead) file) ≡ drop (place + length (ahead ++ take n buf)) file = drop-drop n (place + length ahead) file ∙ ap (λ (k : ℕ). drop k file) at in
    record {
      size = h.size;
      front = h.front ∙ ap (λ (l : List ℕ). ahead ++ l) (g.front ∙ ap (λ (l : List ℕ). take n buf ++ l) rest) ∙ sym (append_assoc ahead (take n buf) (drop (place + length (ahead ++ take n buf)) file));
    }

-- a window without its first bytes
pub along_later : (len place n : ℕ) (ahead file : List ℕ) → n ≤ length ahead → IsAlong len place ahead file → IsAlong len (place + n) (drop n ahead) file
along_later len place n ahead file le h =
    let size : place + length ahead ≡ (place + n) + length (drop n ahead) = omega (arith, length-drop n ahead) in
    record {
      size = h.size;
      front = sym (drop-drop n place file) ∙ ap (drop n) h.front ∙ drop-append-le n ahead (drop (place + length ahead) file) le ∙ ap (λ (k : ℕ). drop n ahead ++ drop k file) size;
    }

-- a window that has the record whole, or the file's end
pub front_at : (len place : ℕ) (ahead file : List ℕ) → IsAlong len place ahead file → place + length ahead ≤ len → (needed ahead ≤ length ahead) ⊎ (place + length ahead ≡ len) → IsFrontAt file place ahead
front_at len place ahead file h le (inl enough) = record { within = omega (arith, h.size); parts = h.front; enough = inl enough }
front_at len place ahead file h le (inr all) = record { within = omega (arith, h.size); parts = h.front; enough = inr (omega (arith, h.size)) }

-- a file that has these bytes at a place, and nothing behind them
pub front_of_some : (place : ℕ) (ahead : List ℕ) → IsFrontAt (replicate place 0 ++ ahead) place ahead
front_of_some place ahead =
    let zeros : List ℕ = replicate place 0 in
    let before : length zeros ≡ place = length-replicate place 0 in
    let all : length (zeros ++ ahead) ≡ place + length ahead = length-append zeros ahead ∙ ap (λ (k : ℕ). k + length ahead) before in
    let there : drop place (zeros ++ ahead) ≡ ahead = subst (λ (k : ℕ). drop k (zeros ++ ahead) ≡ ahead) before (drop-append_seam zeros ahead) in
    let behind : drop (place + length ahead) (zeros ++ ahead) ≡ [] = drop_of_length-le (zeros ++ ahead) (omega (arith, all)) in
    record {
      within = omega (arith, all);
      parts = there ∙ sym (append-nil ahead) ∙ ap (λ (l : List ℕ). ahead ++ l) (sym behind);
      enough = inr (sym all);
    }

-- ---- what a call leaves

pub alone_none : {R : Type 0} (a : World R) → OnlyFileCounts a a
alone_none a = record { held = refl; runs = refl; spill_faults = refl; begun = refl; rest = refl; loans = refl }

pub alone_more : {R : Type 0} (a b c : World R) → OnlyFileCounts a b → OnlyFileCounts b c → OnlyFileCounts a c
alone_more a b c p q = record {
  held = q.held ∙ p.held;
  runs = q.runs ∙ p.runs;
  spill_faults = q.spill_faults ∙ p.spill_faults;
  begun = q.begun ∙ p.begun;
  rest = q.rest ∙ p.rest;
  loans = q.loans ∙ p.loans;
}

-- ---- records

abbrev pub follows_none : (id len : ℕ) (file : List ℕ) → len ≡ length file → Follows (record { id = id; len = len; place = 0; given = 0; ahead = [] }) file
follows_none id len file e = record { along = record { size = e; front = refl }; before = []; count = refl; read = read_none file }

pub count_more : (before : List Document) (d : Document) (old new : Reading) → length before ≡ old.given → new.given ≡ old.given + 1 → length (before ++ d ∷ []) ≡ new.given
count_more before d old new e g = omega (arith, length-append before (d ∷ []), e, g)

-- a record more was read
abbrev pub one_more : (old new : Reading) (file : List ℕ) (d : Document) → Follows old file → IsSpelledAt file old.place d new.place → IsAlong new.len new.place new.ahead file → new.given ≡ old.given + 1 → Follows new file
one_more old new file d h s a g = record {
  along = a;
  before = h.before ++ d ∷ [];
  count = count_more h.before d old new h.count g;
  read = read_more file h.before old.place d new.place h.read s;
}

some_same : (a b : ShardRow) → (let some : ShardRow → Option ShardRow = λ x. Some x in some a ≡ some b) → a ≡ b
some_same a b e = cc

pub get_seam : {A : Type 0} (xs : List A) (y : A) (ys : List A) → slice_get (xs ++ y ∷ ys) (length xs) ≡ Some y
get_seam [] y ys = refl
get_seam (x ∷ xs) y ys = get_seam xs y ys

pub get_end : {A : Type 0} (xs : List A) → slice_get xs (length xs) ≡ None
get_end [] = refl
get_end (x ∷ xs) = get_end xs

pub ok_same : (a b : List Document) → (let done : List Document → Result (List Document) BadRecord = λ l. Ok l in done a ≡ done b) → a ≡ b
ok_same a b e = cc

pub bad_record : (old : Reading) (file : List ℕ) (b : BadBson) → Follows old file → old.place < length file → read_at old.place file ≡ Err b → records file ≡ Err (record { number = old.given + 1; start = old.place; fault = b })
bad_record old file b h lt e = read_bad file h.before old.place b h.read lt e ∙ ap (λ (k : ℕ). Err (record { number = k + 1; start = old.place; fault = b })) h.count

-- ---- what a survey found good

ok_file : (c : CollectionRow) (s : ShardRow) (r : Result (List Document) BadRecord) → records_verdict c s r ≡ Ok tt → (ds : List Document) × (r ≡ Ok ds)
ok_file c s (Ok ds) e = (ds, refl)
ok_file c s (Err b) e = absurd cc

ok_arrays : (c : CollectionRow) (s : ShardRow) (o : Option ArrayRecord) (later : Verdict) → unless_bad c s o later ≡ Ok tt → later ≡ Ok tt
ok_arrays c s None later e = e
ok_arrays c s (Some a) later e = absurd cc

cut_ok : (t : Bool) (a b : Verdict) → cond t a b ≡ Ok tt → ((t ≡ true) × (a ≡ Ok tt)) ⊎ ((t ≡ false) × (b ≡ Ok tt))
cut_ok true a b e = inl (refl, e)
cut_ok false a b e = inr (refl, e)

good_file : (c : CollectionRow) (s : ShardRow) (o : Option (List ℕ)) → file_verdict c s o ≡ Ok tt → IsGoodFile o
good_file c s None e = absurd cc
good_file c s (Some bytes) e =
    elim (cut_ok (ltb (2 ^ 32 - 1) (length bytes)) _ _ e) [
      | inl h ↦ absurd (let f = h.1 in cc)
      | inr h ↦ let le : length bytes ≤ 2 ^ 32 - 1 = ltb-false _ _ h.0 in (omega (arith, le), ok_file c s (records bytes) (ok_arrays c s _ _ h.1))
    ]

then_ok : (a b : Verdict) → verdict_then a b ≡ Ok tt → (a ≡ Ok tt) × (b ≡ Ok tt)
then_ok (Ok x) b e = (refl, e)
then_ok (Err d) b e = absurd cc

pub good_shard : (files : List ℕ → Option (List ℕ)) (c : CollectionRow) (ss : List ShardRow) (i : ℕ) (s : ShardRow) → shards_verdict files c ss ≡ Ok tt → slice_get ss i ≡ Some s → IsGoodFile (files s.file)
good_shard files c [] i s e g = absurd cc
good_shard files c (x ∷ xs) zero s e g =
    let f = then_ok (file_verdict c x (files x.file)) (shards_verdict files c xs) e in
    let same : x ≡ s = some_same x s g in
    subst (λ (y : ShardRow). IsGoodFile (files y.file)) same (good_file c x (files x.file) f.0)
good_shard files c (x ∷ xs) (suc i) s e g =
    let f = then_ok (file_verdict c x (files x.file)) (shards_verdict files c xs) e in
    good_shard files c xs i s f.1 g

pub same_error : {A E : Type 0} (a b : E) → (let fails : E → Result A E = λ e. Err e in fails a ≡ fails b) → a ≡ b
same_error a b e = cc

-- ---- one call after another, over files that tell

-- what holds of told files holds of the same files later
pub still : (h0 h1 : Option Held) (P : Held → Type 0) → h1 ≡ h0 → IfSome h0 P → IfSome h1 P
still h0 h1 P e p = subst (λ (h : Option Held). IfSome h P) (sym e) p

along_at : (held : Held) (a b len place : ℕ) (ahead : List ℕ) → a ≡ b → IsAlong len place ahead (contents_at a held) → IsAlong len place ahead (contents_at b held)
along_at held a b len place ahead e h = subst (λ (id : ℕ). IsAlong len place ahead (contents_at id held)) e h

along_as : (len len' place place' : ℕ) (ahead ahead' file : List ℕ) → len' ≡ len → place ≡ place' → ahead' ≡ ahead → IsAlong len place ahead file → IsAlong len' place' ahead' file
along_as len len' place place' ahead ahead' file a b c h = rw (a, ← b, c) h

-- a record is decoded of what was read ahead
pub step_next : (h0 h1 : Option Held) (old mid new : Reading) (d : Document) → h1 ≡ h0
    → mid.id ≡ old.id → mid.place ≡ old.place → mid.given ≡ old.given → new.len ≡ mid.len
    → IfSome h0 (λ held. Follows old (contents_at old.id held)) → IfSome h1 (λ held. IsAlong mid.len mid.place mid.ahead (contents_at mid.id held))
    → mid.place + length mid.ahead ≤ mid.len → (needed mid.ahead ≤ length mid.ahead) ⊎ (mid.place + length mid.ahead ≡ mid.len)
    → ((file : List ℕ) → IsFrontAt file mid.place mid.ahead → IsSpelledAt file mid.place d new.place)
    → new.ahead ≡ drop (new.place - mid.place) mid.ahead → new.place - mid.place ≤ length mid.ahead → mid.place < new.place → new.given ≡ mid.given + 1
    → IfSome h1 (λ held. IsNext (Some d) old new (contents_at old.id held))
step_next h0 None old mid new d e id place given len follows along within enough found window size moves more = tt
step_next h0 (Some held) old mid new d e id place given len follows along within enough found window size moves more =
    let f : Follows old (contents_at old.id held) = still h0 (Some held) (λ held. Follows old (contents_at old.id held)) e follows in
    let a : IsAlong mid.len mid.place mid.ahead (contents_at old.id held) = along_at held mid.id old.id mid.len mid.place mid.ahead id along in
    let s : IsSpelledAt (contents_at old.id held) mid.place d new.place = found (contents_at old.id held) (front_at mid.len mid.place mid.ahead (contents_at old.id held) a within enough) in
    let s' : IsSpelledAt (contents_at old.id held) old.place d new.place = subst (λ (k : ℕ). IsSpelledAt (contents_at old.id held) k d new.place) place s in
    let later = along_later mid.len mid.place (new.place - mid.place) mid.ahead (contents_at old.id held) size a in
    let a' = along_as mid.len new.len (mid.place + (new.place - mid.place)) new.place (drop (new.place - mid.place) mid.ahead) new.ahead (contents_at old.id held) len (omega arith) window later in
    (s', one_more old new (contents_at old.id held) d f s' a' (omega arith))

-- the contents of a shard's file, by its name
told_file : (held : Held) (name : List ℕ) (id : ℕ) → id_of name held ≡ Some id → files_in held name ≡ Some (contents_at id held)
told_file held name id e = rw e refl

-- ---- the shards of a collection

-- the first shards are good
pub verdict_step : (files : List ℕ → Option (List ℕ)) (c : CollectionRow) (ss : List ShardRow) (i : ℕ) (s : ShardRow) → i < length ss → s ≡ get_or ss i s
    → shards_verdict files c (drop i ss) ≡ verdict_then (file_verdict c s (files s.file)) (shards_verdict files c (drop (i + 1) ss))
verdict_step files c ss i s lt e = rw (drop_get ss i s (item_at ss i s lt e)) refl
