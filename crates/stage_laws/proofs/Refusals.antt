-- The verdict on a shard's file: good, or one refusal.
use Rattle.std.proofs.Common.{◌≡◌, ℕ, ◌+◌, ◌-◌, ◌^◌, ◌<◌, ◌≤◌, Bool, true, false, cond, ltb, List, [], ◌∷◌, ◌++◌, length, refl, sym, ap, subst, ◌∙◌, append_assoc, inl, inr}
use Rattle.std.specs.Prelude.{◌⊎◌, Option, Some, None, Result, Ok, Err, IfSome}
use Rattle.std.specs.List.{All}
use Rattle.std.proofs.lemmas.Bool.{cases_lt, lt-ltb, le-ltb, ltb-true}
use Rattle.bson_value.specs.Paths.{Steps}
use Rattle.bson_value.specs.Proper.{AreBytes}
use Rattle.bson_value.specs.declared.bad.BadWhy.{BadWhy}
use Rattle.bson_codec.specs.Begun.{IsReadTo}
use Rattle.bson_codec.specs.Records.{Document, BadRecord, records}
use Rattle.bson_codec.specs.Spelling.{spelling}
use Rattle.bson_codec.proofs.Joined.{records_good, records_bad, read_more}
use Rattle.chunk_map.specs.Table.{ShardRow, CollectionRow}
use Rattle.orphan_filter.specs.Survey.{Verdict, ArrayRecord, first_array, whole_from, whole_records, bad_shard, unless_bad, records_verdict, file_verdict}
use Rattle.orphan_filter.specs.declared.errors.BadShard.{BadShard}
use Rattle.orphan_filter.specs.declared.errors.ShardWhy.{ShardWhy}
use Rattle.orphan_filter.specs.declared.errors.ShardWhy.TheVariants as W
use Rattle.orphan_filter.specs.declared.errors.SurveyError.{SurveyError}
use Rattle.orphan_filter.specs.declared.errors.SurveyError.TheVariants as S
use Rattle.stage_laws.specs.Surveys.{MeetsNone, IsFirstArray, AreWholeRecords, BeginWithArray, BeginWithBad, BeginWith, IsGood, IsRefused}
use Rattle.stage_laws.proofs.Arrays.{array_none, none_array, array_at, found_array}
use Rattle.stage_laws.proofs.Begun.{whole_front, whole_is, good_whole, bad_whole, read_parts}

-- the record that is found among the records of a file
array_begun : (bytes : List ℕ) (ds : List Document) (paths : List Steps) (a : ArrayRecord) → AreWholeRecords bytes ds → IsFirstArray paths ds a → BeginWithArray paths bytes a.number a.start a.part
array_begun bytes ds paths a w h =
    let r = read_parts bytes h.before h.document h.back w.end (subst (λ (l : List Document). IsReadTo bytes l w.end) (sym h.split) w.read) in
    record {
      before = h.before;
      document = h.document;
      end = a.start + length (spelling h.document);
      read = rw h.place at r.0;
      spelled = rw h.place at r.1;
      keys = h.keys;
      array = h.array;
      counted = h.counted;
    }

module _ (c : CollectionRow) (s : ShardRow) where
  abbrev verdict : List ℕ → Bool → Verdict
  verdict bytes b = cond b (Err (S.FileTooLong s.file (length bytes))) (unless_bad c s (first_array c.key_paths (whole_records bytes)) (records_verdict c s (records bytes)))

  too_long : (bytes : List ℕ) → 2 ^ 32 - 1 < length bytes → file_verdict c s (Some bytes) ≡ Err (S.FileTooLong s.file (length bytes))
  too_long bytes lt = ap (verdict bytes) (lt-ltb (2 ^ 32 - 1) (length bytes) lt)

  -- what is found in a file that isn't too long
  found : (bytes : List ℕ) (o : Option ArrayRecord) (r : Result (List Document) BadRecord) → length bytes ≤ 2 ^ 32 - 1 → first_array c.key_paths (whole_records bytes) ≡ o → records bytes ≡ r → file_verdict c s (Some bytes) ≡ unless_bad c s o (records_verdict c s r)
  found bytes o r le e f = ap (verdict bytes) (le-ltb (2 ^ 32 - 1) (length bytes) le) ∙ (λ i. unless_bad c s (e i) (records_verdict c s (f i)))

  -- ---- what is so gives the verdict

  pub good_gives : (held : Option (List ℕ)) → IfSome held AreBytes → IsGood c.key_paths held → file_verdict c s held ≡ Ok tt
  good_gives held fits h =
      let fits' : AreBytes h.bytes = subst (λ (o : Option (List ℕ)). IfSome o AreBytes) h.is fits in
      let whole = whole_is h.bytes h.documents fits' (good_whole h.bytes h.documents h.records) in
      ap (file_verdict c s) h.is ∙ found h.bytes None (Ok h.documents) h.size (ap (first_array c.key_paths) whole ∙ array_none c.key_paths h.documents h.keys) ((records_good h.bytes h.documents fits').1 h.records)

  array_gives : (bytes : List ℕ) (number at part : ℕ) → length bytes ≤ 2 ^ 32 - 1 → BeginWithArray c.key_paths bytes number at part → file_verdict c s (Some bytes) ≡ Err (S.Bad (bad_shard c s number at (W.ArrayInKey part)))
  array_gives bytes number at part le h =
      let whole = whole_front bytes (h.before ++ h.document ∷ []) h.end (read_more bytes h.before at h.document h.end h.read h.spelled) ∙ append_assoc h.before (h.document ∷ []) (whole_from (length bytes - length (h.before ++ h.document ∷ [])) h.end bytes) in
      found bytes (Some (record { number = number; start = at; part = part })) (records bytes) le
      (ap (first_array c.key_paths) whole ∙ array_at c.key_paths (record { number = number; start = at; part = part }) h.before h.document (whole_from (length bytes - length (h.before ++ h.document ∷ [])) h.end bytes) h.keys h.array h.counted h.read.place) refl

  bad_gives : (bytes : List ℕ) (number at : ℕ) (why : BadWhy) → AreBytes bytes → length bytes ≤ 2 ^ 32 - 1 → BeginWithBad c.key_paths bytes number at why → file_verdict c s (Some bytes) ≡ Err (S.Bad (bad_shard c s number at (W.Bson why)))
  bad_gives bytes number at why fits le h =
      let whole = whole_is bytes h.first.before fits (bad_whole bytes h.bad h.first) in
      found bytes None (Err h.bad) le (ap (first_array c.key_paths) whole ∙ array_none c.key_paths h.first.before h.keys) ((records_bad bytes h.bad fits).1 h.first)
      ∙ (λ i. Err (S.Bad (bad_shard c s (h.counted i) (h.fault i).at (W.Bson (h.fault i).why))))

  why_gives : (bytes : List ℕ) (number at : ℕ) (why : ShardWhy) → AreBytes bytes → length bytes ≤ 2 ^ 32 - 1 → BeginWith c.key_paths bytes number at why → file_verdict c s (Some bytes) ≡ Err (S.Bad (bad_shard c s number at why))
  why_gives bytes number at (W.Bson why) fits le h = bad_gives bytes number at why fits le h
  why_gives bytes number at (W.ArrayInKey part) fits le h = array_gives bytes number at part le h

  pub absent_gives : (held : Option (List ℕ)) (name : List ℕ) → IsRefused c s held (S.NoFile name) → file_verdict c s held ≡ Err (S.NoFile name)
  absent_gives held name h = ap (file_verdict c s) h.0 ∙ ap (λ (n : List ℕ). Err (S.NoFile n)) h.1

  pub long_gives : (held : Option (List ℕ)) (name : List ℕ) (len : ℕ) → IsRefused c s held (S.FileTooLong name len) → file_verdict c s held ≡ Err (S.FileTooLong name len)
  long_gives None name len h = absurd h
  long_gives (Some bytes) name len h = too_long bytes h.0 ∙ (λ i. Err (S.FileTooLong (h.1 i) (h.2 i)))

  pub refused_gives : (held : Option (List ℕ)) (e : SurveyError) → IfSome held AreBytes → IsRefused c s held e → file_verdict c s held ≡ Err e
  refused_gives held (S.NoFile name) fits h = absent_gives held name h
  refused_gives held (S.FileTooLong name len) fits h = long_gives held name len h
  refused_gives None (S.Bad b) fits h = absurd h
  refused_gives (Some bytes) (S.Bad b) fits h =
      why_gives bytes b.number b.at b.why fits h.0 h.3 ∙ (λ i. Err (S.Bad (record { collection = h.1 i; shard = h.2 i; number = b.number; at = b.at; why = b.why })))
  refused_gives held S.ReadFault fits h = absurd h
  refused_gives held S.Damage fits h = absurd h
  refused_gives held S.Memory fits h = absurd h

  -- ---- what the verdict says of a file that isn't read

  -- once it is read, only a record is at fault
  read_refused : (o : Option ArrayRecord) (r : Result (List Document) BadRecord) (e : SurveyError) → unless_bad c s o (records_verdict c s r) ≡ Err e → (b : BadShard) × (S.Bad b ≡ e)
  read_refused None (Ok ds) e h = absurd cc
  read_refused None (Err b) e h = (bad_shard c s b.number b.fault.at (W.Bson b.fault.why), cc)
  read_refused (Some a) r e h = (bad_shard c s a.number a.start (W.ArrayInKey a.part), cc)

  not_absent : (b : BadShard) (name : List ℕ) → S.Bad b ≡ S.NoFile name → ⊥
  not_absent b name e = cc

  not_long : (b : BadShard) (name : List ℕ) (len : ℕ) → S.Bad b ≡ S.FileTooLong name len → ⊥
  not_long b name len e = cc

  pub absent_is : (held : Option (List ℕ)) (name : List ℕ) → file_verdict c s held ≡ Err (S.NoFile name) → IsRefused c s held (S.NoFile name)
  absent_is None name h = (refl, cc)
  absent_is (Some bytes) name h =
      elim (ltb (2 ^ 32 - 1) (length bytes)) as (λ q. verdict bytes q ≡ Err (S.NoFile name) → IsRefused c s (Some bytes) (S.NoFile name)) [
        | true ↦ λ f. absurd cc
        | false ↦ λ f. let r = read_refused (first_array c.key_paths (whole_records bytes)) (records bytes) (S.NoFile name) f in absurd (not_absent r.0 name r.1)
      ] h

  pub long_is : (held : Option (List ℕ)) (name : List ℕ) (len : ℕ) → file_verdict c s held ≡ Err (S.FileTooLong name len) → IsRefused c s held (S.FileTooLong name len)
  long_is None name len h = absurd cc
  long_is (Some bytes) name len h =
      elim (ltb (2 ^ 32 - 1) (length bytes)) as (λ q. ltb (2 ^ 32 - 1) (length bytes) ≡ q → verdict bytes q ≡ Err (S.FileTooLong name len) → IsRefused c s (Some bytes) (S.FileTooLong name len)) [
        | true ↦ λ q f. (ltb-true (2 ^ 32 - 1) (length bytes) q, cc, cc)
        | false ↦ λ q f. let r = read_refused (first_array c.key_paths (whole_records bytes)) (records bytes) (S.FileTooLong name len) f in absurd (not_long r.0 name len r.1)
      ] refl h

  -- ---- one of these is so

  abbrev Found : Option (List ℕ) → Type 0
  Found held = IsGood c.key_paths held ⊎ ((e : SurveyError) × IsRefused c s held e)

  -- the file's records, those before the first bad one where one is bad, where no key of theirs meets an array or one does
  all_found : (bytes : List ℕ) (ds : List Document) → length bytes ≤ 2 ^ 32 - 1 → AreWholeRecords bytes ds → (All (MeetsNone c.key_paths) ds → Found (Some bytes)) → Found (Some bytes)
  all_found bytes ds le w none =
      elim (first_array c.key_paths ds) as (λ o. first_array c.key_paths ds ≡ o → Found (Some bytes)) [
        | None ↦ λ q. none (none_array c.key_paths ds q)
        | Some a ↦ λ q. inr (S.Bad (bad_shard c s a.number a.start (W.ArrayInKey a.part)), (le, refl, refl, array_begun bytes ds c.key_paths a w (found_array c.key_paths a ds q)))
      ] refl

  short_found : (bytes : List ℕ) → AreBytes bytes → length bytes ≤ 2 ^ 32 - 1 → (r : Result (List Document) BadRecord) → records bytes ≡ r → Found (Some bytes)
  short_found bytes fits le (Ok ds) e =
      let h = (records_good bytes ds fits).0 e in
      all_found bytes ds le (good_whole bytes ds h) (λ keys. inl (record { bytes = bytes; is = refl; size = le; documents = ds; records = h; keys = keys }))
  short_found bytes fits le (Err b) e =
      let h = (records_bad bytes b fits).0 e in
      all_found bytes h.before le (bad_whole bytes b h) (λ keys. inr (S.Bad (bad_shard c s b.number b.fault.at (W.Bson b.fault.why)), (le, refl, refl, record { bad = b; first = h; keys = keys; counted = refl; fault = refl })))

  file_found : (held : Option (List ℕ)) → IfSome held AreBytes → Found held
  file_found None fits = inr (S.NoFile s.file, (refl, refl))
  file_found (Some bytes) fits =
      elim (cases_lt (2 ^ 32 - 1) (length bytes)) [
        | inl lt ↦ inr (S.FileTooLong s.file (length bytes), (lt, refl, refl))
        | inr le ↦ short_found bytes fits le (records bytes) refl
      ]

  same_error : (d e : SurveyError) → (let fails : SurveyError → Verdict = λ x. Err x in fails d ≡ fails e) → d ≡ e
  same_error d e h = cc

  differ : (e : SurveyError) → (let fails : SurveyError → Verdict = λ x. Err x in fails e ≡ Ok tt) → ⊥
  differ e h = cc

  pub file_good : (held : Option (List ℕ)) → IfSome held AreBytes → file_verdict c s held ≡ Ok tt → IsGood c.key_paths held
  file_good held fits h =
      elim (file_found held fits) [
        | inl g ↦ g
        | inr r ↦ absurd (differ r.0 (sym (refused_gives held r.0 fits r.1) ∙ h))
      ]

  pub file_refused : (held : Option (List ℕ)) (e : SurveyError) → IfSome held AreBytes → file_verdict c s held ≡ Err e → IsRefused c s held e
  file_refused held e fits h =
      elim (file_found held fits) [
        | inl g ↦ absurd (differ e (sym h ∙ good_gives held fits g))
        | inr r ↦ subst (IsRefused c s held) (same_error r.0 e (sym (refused_gives held r.0 fits r.1) ∙ h)) r.1
      ]
