-- The records of a file before the first bad one, as documents that are spelled from its begin on.
use Rattle.std.proofs.Common.{◌≡◌, ℕ, zero, suc, ◌+◌, ◌-◌, ◌≤◌, true, false, cond, ltb, List, [], ◌∷◌, ◌++◌, length, drop, refl, sym, ap, subst, ◌∙◌, append_assoc, append-nil, arith, length-append, length-drop}
use Rattle.std.specs.Prelude.{Result, Ok, Err}
use Rattle.std.proofs.lemmas.Bool.{lt-ltb}
use Rattle.std.proofs.lemmas.List.{drop_all}
use Rattle.bson_value.specs.Proper.{AreBytes, IsDoc}
use Rattle.bson_value.specs.Tree.{pairs_of}
use Rattle.bson_value.specs.declared.bad.BadBson.{BadBson}
use Rattle.bson_codec.specs.Begun.{IsReadTo}
use Rattle.bson_codec.specs.Reading.{read_at}
use Rattle.bson_codec.specs.Records.{Document, BadRecord, records, joined, AreShort, AreRecords, IsFirstBad}
use Rattle.bson_codec.specs.Spelling.{spelling, pairs_bytes, IsShort, IsSpelledAt}
use Rattle.bson_codec.proofs.Decoding.{behind, read_takes, read_again}
use Rattle.bson_codec.proofs.Joined.{records_good, records_bad}
use Rattle.bson_codec.proofs.Values.{length-framed}
use Rattle.orphan_filter.specs.Survey.{record_before, whole_from, whole_records}
use Rattle.stage_laws.specs.Surveys.{AreWholeRecords}

spelling_some : (d : Document) → 5 ≤ length (spelling d)
spelling_some d = omega (arith, length-framed (pairs_bytes (pairs_of d)))

count_joined : (ds : List Document) → length ds ≤ length (joined ds)
count_joined [] = omega arith
count_joined (d ∷ ds) = omega (arith, count_joined ds, spelling_some d, length-append (spelling d) (joined ds))

joined-append : (ds es : List Document) → joined (ds ++ es) ≡ joined ds ++ joined es
joined-append [] es = refl
joined-append (d ∷ ds) es = ap (λ (l : List ℕ). spelling d ++ l) (joined-append ds es) ∙ sym (append_assoc (spelling d) (joined ds) (joined es))

read_within : (bytes : List ℕ) (ds : List Document) (end : ℕ) → IsReadTo bytes ds end → end ≤ length bytes
read_within bytes ds end h = omega (arith, length-append (joined ds) (drop end bytes), ap length h.parts, h.place)

-- ---- documents that are spelled are read

-- a document that stands in front of bytes at a place
spelled_front : (bytes : List ℕ) (at : ℕ) (d : Document) (rest : List ℕ) → IsDoc d → IsShort d → at ≤ length bytes → drop at bytes ≡ spelling d ++ rest → IsSpelledAt bytes at d (at + length (spelling d))
spelled_front bytes at d rest proper short within parts = record {
  proper = proper;
  short = short;
  within = omega (arith, ap length parts, length-append (spelling d) rest, length-drop at bytes);
  parts = parts ∙ ap (λ (l : List ℕ). spelling d ++ l) (behind bytes at (at + length (spelling d)) (spelling d) rest within parts refl);
  len = refl;
}

whole_behind : (n k start stop : ℕ) (bytes : List ℕ) (ds : List Document) → AreShort ds → n ≡ length ds + k → start + length (joined ds) ≡ stop → stop ≤ length bytes → drop start bytes ≡ joined ds ++ drop stop bytes → whole_from n start bytes ≡ ds ++ whole_from k stop bytes
whole_behind n k start stop bytes [] short count ends within parts =
    let a : n ≡ k = omega arith in
    let b : start ≡ stop = omega arith in
    rw (a, b) refl
whole_behind zero k start stop bytes (d ∷ ds) short count ends within parts = absurd (omega arith)
whole_behind (suc n) k start stop bytes (d ∷ ds) short count ends within parts =
    let sizes : length (spelling d ++ joined ds) ≡ length (spelling d) + length (joined ds) = length-append (spelling d) (joined ds) in
    let some : 5 ≤ length (spelling d) = spelling_some d in
    let front : drop start bytes ≡ spelling d ++ (joined ds ++ drop stop bytes) = parts ∙ append_assoc (spelling d) (joined ds) (drop stop bytes) in
    let rest : joined ds ++ drop stop bytes ≡ drop (start + length (spelling d)) bytes = behind bytes start (start + length (spelling d)) (spelling d) (joined ds ++ drop stop bytes) (omega arith) front refl in
    let spelled = spelled_front bytes start d (joined ds ++ drop stop bytes) short.0 short.1 (omega arith) front in
    let lt : ltb start (length bytes) ≡ true = lt-ltb start (length bytes) (omega arith) in
    let len : length bytes - length (drop (start + length (spelling d)) bytes) ≡ start + length (spelling d) = omega (arith, length-drop (start + length (spelling d)) bytes) in
    rw (lt, read_again start bytes d (start + length (spelling d)) spelled, len)
    (ap (λ (l : List Document). d ∷ l) (whole_behind n k (start + length (spelling d)) stop bytes ds short.2 (omega arith) (omega arith) within (sym rest)))

pub whole_front : (bytes : List ℕ) (ds : List Document) (end : ℕ) → IsReadTo bytes ds end → whole_records bytes ≡ ds ++ whole_from (length bytes - length ds) end bytes
unfolding whole_records
whole_front bytes ds end h =
    let within : end ≤ length bytes = read_within bytes ds end h in
    let few : length ds ≤ end = omega (arith, count_joined ds, h.place) in
    whole_behind (length bytes) (length bytes - length ds) 0 end bytes ds h.short (omega arith) (omega (arith, h.place)) within (sym h.parts)

-- ---- where none is spelled, none is read

none_read : (n at : ℕ) (bytes : List ℕ) → AreBytes bytes → at ≤ length bytes → ((d : Document) (next : ℕ) → ¬ IsSpelledAt bytes at d next) → (r : Result (Document × List ℕ) BadBson) → read_at at bytes ≡ r → record_before (length bytes) r (λ end. whole_from n end bytes) ≡ []
none_read n at bytes fits le none (Ok x) e = absurd (none x.0 (length bytes - length x.1) (read_takes at bytes x fits le e))
none_read n at bytes fits le none (Err b) e = refl

none_from : (n at : ℕ) (bytes : List ℕ) → AreBytes bytes → at ≤ length bytes → ((d : Document) (next : ℕ) → ¬ IsSpelledAt bytes at d next) → whole_from n at bytes ≡ []
none_from zero at bytes fits le none = refl
none_from (suc n) at bytes fits le none =
    elim (ltb at (length bytes)) as (λ t. cond t (record_before (length bytes) (read_at at bytes) (λ end. whole_from n end bytes)) [] ≡ []) [
      | true ↦ none_read n at bytes fits le none (read_at at bytes) refl
      | false ↦ refl
    ]

pub whole_is : (bytes : List ℕ) (ds : List Document) → AreBytes bytes → AreWholeRecords bytes ds → whole_records bytes ≡ ds
whole_is bytes ds fits h =
    whole_front bytes ds h.end h.read ∙ ap (λ (l : List Document). ds ++ l) (none_from (length bytes - length ds) h.end bytes fits (read_within bytes ds h.end h.read) h.none) ∙ append-nil ds

-- ---- all records, or those before the first bad one

pub good_whole : (bytes : List ℕ) (ds : List Document) → AreRecords bytes ds → AreWholeRecords bytes ds
good_whole bytes ds h =
    let none : drop (length bytes) bytes ≡ [] = drop_all (length bytes) bytes (omega arith) in
    record {
      end = length bytes;
      read = record { short = h.short; place = ap length h.parts; parts = ap (λ (l : List ℕ). joined ds ++ l) none ∙ append-nil (joined ds) ∙ h.parts };
      none = λ d next s. absurd (omega (arith, s.within, s.len, spelling_some d));
    }

pub bad_whole : (bytes : List ℕ) (b : BadRecord) (h : IsFirstBad bytes b) → AreWholeRecords bytes h.before
bad_whole bytes b h = record { end = b.start; read = record { short = h.short; place = h.start; parts = h.parts }; none = h.none }

are_whole : (bytes : List ℕ) → AreBytes bytes → (r : Result (List Document) BadRecord) → records bytes ≡ r → AreWholeRecords bytes (whole_records bytes)
are_whole bytes fits (Ok ds) e =
    let w = good_whole bytes ds ((records_good bytes ds fits).0 e) in
    subst (AreWholeRecords bytes) (sym (whole_is bytes ds fits w)) w
are_whole bytes fits (Err b) e =
    let h = (records_bad bytes b fits).0 e in
    let w = bad_whole bytes b h in
    subst (AreWholeRecords bytes) (sym (whole_is bytes h.before fits w)) w

pub is_whole : (bytes : List ℕ) (ds : List Document) → AreBytes bytes → whole_records bytes ≡ ds → AreWholeRecords bytes ds
is_whole bytes ds fits e = subst (AreWholeRecords bytes) e (are_whole bytes fits (records bytes) refl)

-- ---- one record behind others

short_parts : (before : List Document) (d : Document) (back : List Document) → AreShort (before ++ d ∷ back) → AreShort before × IsDoc d × IsShort d
short_parts [] d back h = (tt, h.0, h.1)
short_parts (x ∷ before) d back h = let r = short_parts before d back h.2 in ((h.0, h.1, r.0), r.1, r.2)

pub read_parts : (bytes : List ℕ) (before : List Document) (d : Document) (back : List Document) (end : ℕ) → IsReadTo bytes (before ++ d ∷ back) end
    → IsReadTo bytes before (length (joined before)) × IsSpelledAt bytes (length (joined before)) d (length (joined before) + length (spelling d))
read_parts bytes before d back end h =
    let short = short_parts before d back h.short in
    let all : bytes ≡ joined before ++ (spelling d ++ (joined back ++ drop end bytes)) =
    sym h.parts
    ∙ ap (λ (l : List ℕ). l ++ drop end bytes) (joined-append before (d ∷ back))
    ∙ append_assoc (joined before) (spelling d ++ joined back) (drop end bytes)
    ∙ ap (λ (l : List ℕ). joined before ++ l) (append_assoc (spelling d) (joined back) (drop end bytes)) in
    let there : spelling d ++ (joined back ++ drop end bytes) ≡ drop (length (joined before)) bytes = behind bytes 0 (length (joined before)) (joined before) (spelling d ++ (joined back ++ drop end bytes)) (omega arith) all (omega arith) in
    let within : length (joined before) ≤ length bytes = omega (arith, ap length all, length-append (joined before) (spelling d ++ (joined back ++ drop end bytes))) in (
      record { short = short.0; place = refl; parts = ap (λ (l : List ℕ). joined before ++ l) (sym there) ∙ sym all },
      spelled_front bytes (length (joined before)) d (joined back ++ drop end bytes) short.1 short.2 within (sym there),
    )
