-- The survey of a file, record by record.
use Rattle.std.proofs.Common.{◌≡◌, ℕ, zero, suc, ◌+◌, ◌-◌, ◌<◌, ◌≤◌, true, false, cond, ltb, List, [], ◌∷◌, ◌++◌, length, drop, refl, sym, ap, subst, ◌∙◌, append_assoc, append-nil, arith, length-append, length-drop}
use Rattle.std.specs.Prelude.{Option, Some, None, Result, Ok, Err, IfSome}
use Rattle.std.proofs.lemmas.Bool.{lt-ltb, le-ltb}
use Rattle.bson_value.specs.Paths.{Steps}
use Rattle.bson_value.specs.Tree.{Tree, pairs_of}
use Rattle.bson_value.specs.declared.bad.BadBson.{BadBson}
use Rattle.bson_codec.specs.Begun.{IsReadTo}
use Rattle.bson_codec.specs.Reading.{read_at}
use Rattle.bson_codec.specs.Records.{Document, joined, AreShort}
use Rattle.bson_codec.specs.Spelling.{spelling, pairs_bytes, IsSpelledAt}
use Rattle.bson_codec.proofs.Values.{length-framed}
use Rattle.bson_codec.proofs.Decoding.{behind, read_again}
use Rattle.bson_codec.proofs.Joined.{read_all}
use Rattle.chunk_map.specs.Keys.{key_of}
use Rattle.mq_ports.specs.World.{Held, contents_at}
use Rattle.orphan_filter.specs.Reading.{Reading, IsNext}
use Rattle.orphan_filter.specs.Survey.{ArrayRecord, unless_array, array_from, first_array, record_before, whole_from, whole_records, IsFileVerdict}
use Rattle.orphan_filter.specs.Surveying.{IsArrayPart, HasNoArray}
use Rattle.orphan_filter.proofs.Steps.{one_more, still, bad_record, follows_none}
use Rattle.orphan_filter.specs.declared.errors.FileError.TheVariants as F

spelling_some : (d : Document) → 5 ≤ length (spelling d)
spelling_some d = omega (arith, length-framed (pairs_bytes (pairs_of d)))

count_joined : (ds : List Document) → length ds ≤ length (joined ds)
count_joined [] = omega arith
count_joined (d ∷ ds) = omega (arith, count_joined ds, spelling_some d, length-append (spelling d) (joined ds))

-- ---- the records before the first bad one

whole_behind : (n k start stop : ℕ) (bytes : List ℕ) (ds : List Document) → AreShort ds → n ≡ length ds + k → start + length (joined ds) ≡ stop → stop ≤ length bytes → drop start bytes ≡ joined ds ++ drop stop bytes → whole_from n start bytes ≡ ds ++ whole_from k stop bytes
whole_behind n k start stop bytes [] short count ends within parts =
    let a : n ≡ k = omega arith in
    let c : start ≡ stop = omega arith in
    rw (a, c) refl
whole_behind zero k start stop bytes (d ∷ ds) short count ends within parts = absurd (omega arith)
whole_behind (suc n) k start stop bytes (d ∷ ds) short count ends within parts =
    let sizes : length (spelling d ++ joined ds) ≡ length (spelling d) + length (joined ds) = length-append (spelling d) (joined ds) in
    let some : 5 ≤ length (spelling d) = spelling_some d in
    let front : drop start bytes ≡ spelling d ++ (joined ds ++ drop stop bytes) = parts ∙ append_assoc (spelling d) (joined ds) (drop stop bytes) in
    let rest : joined ds ++ drop stop bytes ≡ drop (start + length (spelling d)) bytes = behind bytes start (start + length (spelling d)) (spelling d) (joined ds ++ drop stop bytes) (omega arith) front refl in
    let spelled : IsSpelledAt bytes start d (start + length (spelling d)) = record {
      proper = short.0;
      short = short.1;
      within = omega arith;
      parts = front ∙ ap (λ (l : List ℕ). spelling d ++ l) rest;
      len = refl;
    } in
    let lt : ltb start (length bytes) ≡ true = lt-ltb _ _ (omega arith) in
    let len : length bytes - length (drop (start + length (spelling d)) bytes) ≡ start + length (spelling d) = omega (arith, length-drop (start + length (spelling d)) bytes) in
    rw (lt, read_again start bytes d (start + length (spelling d)) spelled, len)
    (ap (λ (l : List Document). d ∷ l) (whole_behind n k (start + length (spelling d)) stop bytes ds short.2 (omega arith) (omega arith) within (sym rest)))

-- what was read stands in front
whole_front : (file : List ℕ) (before : List Document) (at : ℕ) → IsReadTo file before at → whole_records file ≡ before ++ whole_from (length file - length before) at file
unfolding whole_records
whole_front file before at h =
    let sizes : length (joined before) + length (drop at file) ≡ length file = sym (length-append (joined before) (drop at file)) ∙ ap length h.parts in
    let le : length before ≤ at = omega (arith, count_joined before, h.place) in
    whole_behind (length file) (length file - length before) 0 at file before h.short (omega arith) (omega (arith, h.place)) (omega (arith, sizes, h.place)) (sym h.parts)

none_behind : (n at : ℕ) (file : List ℕ) → length file ≤ at → whole_from n at file ≡ []
none_behind zero at file le = refl
none_behind (suc n) at file le = rw (le-ltb _ _ le) refl

bad_behind : (n at : ℕ) (file : List ℕ) (b : BadBson) → read_at at file ≡ Err b → whole_from n at file ≡ []
bad_behind zero at file b e = refl
bad_behind (suc n) at file b e =
    elim (ltb at (length file)) as (λ t. cond t (record_before (length file) (read_at at file) (λ end. whole_from n end file)) [] ≡ []) [
      | true ↦ rw e refl
      | false ↦ refl
    ]

whole_all : (file : List ℕ) (before : List Document) (at : ℕ) → IsReadTo file before at → length file ≤ at → whole_records file ≡ before
whole_all file before at h le = whole_front file before at h ∙ ap (λ (l : List Document). before ++ l) (none_behind (length file - length before) at file le) ∙ append-nil before

whole_bad : (file : List ℕ) (before : List Document) (at : ℕ) (b : BadBson) → IsReadTo file before at → read_at at file ≡ Err b → whole_records file ≡ before
whole_bad file before at b h e = whole_front file before at h ∙ ap (λ (l : List Document). before ++ l) (bad_behind (length file - length before) at file b e) ∙ append-nil before

-- ---- arrays at the key

module _ (paths : List Steps) where
  unless_none : (n at : ℕ) (r : Result (List Tree) ℕ) (later : Option ArrayRecord) → unless_array n at r later ≡ None → (key : List Tree) × (r ≡ Ok key) × (later ≡ None)
  unless_none n at (Ok key) later e = (key, refl, e)
  unless_none n at (Err part) later e = absurd cc

  array_none : (n at : ℕ) (ds : List Document) (d : Document) (key : List Tree) → array_from paths n at ds ≡ None → key_of paths d ≡ Ok key → array_from paths n at (ds ++ d ∷ []) ≡ None
  array_none n at [] d key e f = rw f refl
  array_none n at (x ∷ ds) d key e f =
      let u = unless_none n at (key_of paths x) (array_from paths (suc n) (at + length (spelling x)) ds) e in
      rw u.1 (array_none (suc n) (at + length (spelling x)) ds d key u.2 f)

  array_found : (n at number start part : ℕ) (ds : List Document) (d : Document) (rest : List Document) → array_from paths n at ds ≡ None → key_of paths d ≡ Err part → n + length ds ≡ number → at + length (joined ds) ≡ start → array_from paths n at (ds ++ d ∷ rest) ≡ Some (record { number = number; start = start; part = part })
  array_found n at number start part [] d rest e f a b =
      let a' : n ≡ number = omega arith in
      let b' : at ≡ start = omega arith in
      rw f (λ i. Some (record { number = a' i; start = b' i; part = part }))
  array_found n at number start part (x ∷ ds) d rest e f a b =
      let u = unless_none n at (key_of paths x) (array_from paths (suc n) (at + length (spelling x)) ds) e in
      let sizes = length-append (spelling x) (joined ds) in
      rw u.1 (array_found (suc n) (at + length (spelling x)) number start part ds d rest u.2 f (omega (arith, a)) (omega (arith, b, sizes)))

pub no_array : (r : Result (List Tree) ℕ) → IsArrayPart r None → (key : List Tree) × (r ≡ Ok key)
no_array (Ok key) h = (key, refl)
no_array (Err part) h = absurd cc

pub array_is : (r : Result (List Tree) ℕ) (n : ℕ) → IsArrayPart r (Some n) → r ≡ Err n
array_is (Ok key) n h = absurd cc
array_is (Err part) n h = let e : part ≡ n = cc in ap (λ (k : ℕ). Err k) e

-- ---- one record after another, over files that tell

module _ (paths : List Steps) (old new : Reading) where
  more_in : (file : List ℕ) (d : Document) (key : List Tree) → key_of paths d ≡ Ok key → HasNoArray paths old file → IsNext (Some d) old new file → new.given ≡ old.given + 1 → HasNoArray paths new file
  more_in file d key k h n g = record {
    follows = one_more old new file d h.follows n.0 n.1.along g;
    none = array_none paths 1 0 h.follows.before d key h.none k;
  }

  pub survey_more : (h0 h1 : Option Held) (d : Document) → h1 ≡ h0 → IsArrayPart (key_of paths d) None → new.given ≡ old.given + 1 → IfSome h0 (λ held. HasNoArray paths old (contents_at old.id held)) → IfSome h1 (λ held. IsNext (Some d) old new (contents_at old.id held)) → IfSome h0 (λ held. HasNoArray paths new (contents_at old.id held))
  survey_more None h1 d e k g h n = tt
  survey_more (Some held) h1 d e k g h n =
      let key = no_array (key_of paths d) k in
      let m : IsNext (Some d) old new (contents_at old.id held) = still h1 (Some held) (λ (held : Held). IsNext (Some d) old new (contents_at old.id held)) (sym e) n in
      more_in (contents_at old.id held) d key.0 key.1 h m g

  array_in : (file : List ℕ) (d : Document) (part : ℕ) → key_of paths d ≡ Err part → HasNoArray paths old file → IsNext (Some d) old new file → new.given ≡ old.given + 1 → first_array paths (whole_records file) ≡ Some (record { number = new.given; start = old.place; part = part })
  array_in file d part k h n g =
      let f = one_more old new file d h.follows n.0 n.1.along g in
      let w = whole_front file f.before new.place f.read in
      let rest = whole_from (length file - length f.before) new.place file in
      ap (first_array paths) (w ∙ append_assoc h.follows.before (d ∷ []) rest)
      ∙ array_found paths 1 0 new.given old.place part h.follows.before d rest h.none k (omega (arith, h.follows.count, g)) (omega (arith, h.follows.read.place))

  pub survey_array : (h0 h1 : Option Held) (d : Document) (number at part : ℕ) → h1 ≡ h0 → number ≡ new.given → at ≡ old.place → IsArrayPart (key_of paths d) (Some part) → new.given ≡ old.given + 1 → IfSome h0 (λ held. HasNoArray paths old (contents_at old.id held)) → IfSome h1 (λ held. IsNext (Some d) old new (contents_at old.id held)) → IfSome h0 (λ held. IsFileVerdict paths (Err (F.Array number at part)) (contents_at old.id held))
  survey_array None h1 d number at part e a b k g h n = tt
  survey_array (Some held) h1 d number at part e a b k g h n =
      let m : IsNext (Some d) old new (contents_at old.id held) = still h1 (Some held) (λ (held : Held). IsNext (Some d) old new (contents_at old.id held)) (sym e) n in
      array_in (contents_at old.id held) d part (array_is (key_of paths d) part k) h m g ∙ (λ i. Some (record { number = sym a i; start = sym b i; part = part }))

  pub survey_ends : (h0 h1 : Option Held) → h1 ≡ h0 → IfSome h0 (λ held. HasNoArray paths old (contents_at old.id held)) → IfSome h1 (λ held. IsNext None old new (contents_at old.id held)) → IfSome h0 (λ held. IsFileVerdict paths (Ok tt) (contents_at old.id held))
  survey_ends None h1 e h n = tt
  survey_ends (Some held) h1 e h n =
      let m : IsNext None old new (contents_at old.id held) = still h1 (Some held) (λ (held : Held). IsNext None old new (contents_at old.id held)) (sym e) n in
      let le : length (contents_at old.id held) ≤ old.place = omega (arith, m.0) in
      (h.follows.before, read_all (contents_at old.id held) h.follows.before old.place h.follows.read le, ap (first_array paths) (whole_all (contents_at old.id held) h.follows.before old.place h.follows.read le) ∙ h.none)

  pub survey_bad : (h0 : Option Held) (number : ℕ) (b : BadBson) → number ≡ old.given + 1 → IfSome h0 (λ held. HasNoArray paths old (contents_at old.id held)) → IfSome h0 (λ held. (old.place < length (contents_at old.id held)) × (read_at old.place (contents_at old.id held) ≡ Err b)) → IfSome h0 (λ held. IsFileVerdict paths (Err (F.Bad number b)) (contents_at old.id held))
  survey_bad None number b e h n = tt
  survey_bad (Some held) number b e h n = (
    old.place,
    bad_record old (contents_at old.id held) b h.follows n.0 n.1 ∙ ap (λ (k : ℕ). Err (record { number = k; start = old.place; fault = b })) (sym e),
    ap (first_array paths) (whole_bad (contents_at old.id held) h.follows.before old.place b h.follows.read n.1) ∙ h.none,
  )

pub survey_begins : (paths : List Steps) (h0 : Option Held) (id len : ℕ) (r : Reading) → r ≡ record { id = id; len = len; place = 0; given = 0; ahead = [] } → IfSome h0 (λ held. len ≡ length (contents_at id held)) → IfSome h0 (λ held. HasNoArray paths r (contents_at r.id held))
survey_begins paths None id len r e h = tt
survey_begins paths (Some held) id len r e h =
    subst (λ (x : Reading). HasNoArray paths x (contents_at x.id held)) (sym e) (record { follows = follows_none id len (contents_at id held) h; none = refl })
