-- A survey of told files neither fails nor meets damage.
use Rattle.std.proofs.Common.{◌≡◌, ℕ, Bool, true, false, cond, List, [], ◌∷◌, length, Option, Some, None, Result, Ok, Err, subst}
use Rattle.std.specs.Prelude.{nat_lt, ◌-◌, ◌^◌}
use Rattle.bson_codec.specs.Records.{Document, BadRecord, records}
use Rattle.chunk_map.specs.Owned.{Files}
use Rattle.chunk_map.specs.Table.{ShardRow, CollectionRow}
use Rattle.orphan_filter.specs.Survey.{Verdict, ArrayRecord, first_array, whole_records, bad_shard, unless_bad, records_verdict, file_verdict, verdict_then, shards_verdict, surveyed}
use Rattle.orphan_filter.specs.declared.errors.SurveyError.{SurveyError}
use Rattle.orphan_filter.specs.declared.errors.SurveyError.TheVariants as E
use Rattle.orphan_filter.specs.declared.errors.ShardWhy.TheVariants as W

abbrev pub IsTold : SurveyError → Type 0
IsTold (E.Bad b) = Unit {0}
IsTold (E.NoFile name) = Unit {0}
IsTold (E.FileTooLong name len) = Unit {0}
IsTold E.ReadFault = ⊥
IsTold E.Damage = ⊥
IsTold E.Memory = ⊥

-- this refusal, if it comes, is told
abbrev Tells : Verdict → SurveyError → Type 0
Tells v refusal = v ≡ Err refusal → IsTold refusal

same_error : (a b : SurveyError) → (let v : Verdict = Err a in v ≡ Err b) → a ≡ b
same_error a b e = cc

module _ (c : CollectionRow) (s : ShardRow) (refusal : SurveyError) where
  records_told : (r : Result (List Document) BadRecord) → Tells (records_verdict c s r) refusal
  records_told (Ok ds) e = absurd cc
  records_told (Err b) e = subst IsTold (same_error (E.Bad (bad_shard c s b.number b.fault.at (W.Bson b.fault.why))) refusal e) tt

  arrays_told : (o : Option ArrayRecord) (later : Verdict) → Tells later refusal → Tells (unless_bad c s o later) refusal
  arrays_told None later told e = told e
  arrays_told (Some a) later told e = subst IsTold (same_error (E.Bad (bad_shard c s a.number a.start (W.ArrayInKey a.part))) refusal e) tt

  cut_told : (long : Bool) (len : ℕ) (later : Verdict) → Tells later refusal → Tells (cond long (Err (E.FileTooLong s.file len)) later) refusal
  cut_told true len later told e = subst IsTold (same_error (E.FileTooLong s.file len) refusal e) tt
  cut_told false len later told e = told e

  file_told : (o : Option (List ℕ)) → Tells (file_verdict c s o) refusal
  file_told None e = subst IsTold (same_error (E.NoFile s.file) refusal e) tt
  file_told (Some bytes) e =
      let later : Verdict = unless_bad c s (first_array c.key_paths (whole_records bytes)) (records_verdict c s (records bytes)) in
      cut_told (nat_lt (2 ^ 32 - 1) (length bytes)) (length bytes) later (arrays_told (first_array c.key_paths (whole_records bytes)) (records_verdict c s (records bytes)) (records_told (records bytes))) e

then_told : (a b : Verdict) (refusal : SurveyError) → Tells a refusal → Tells b refusal → Tells (verdict_then a b) refusal
then_told (Ok x) b refusal first later e = later e
then_told (Err d) b refusal first later e = first e

shards_told : (files : Files) (c : CollectionRow) (ss : List ShardRow) (refusal : SurveyError) → Tells (shards_verdict files c ss) refusal
shards_told files c [] refusal e = absurd cc
shards_told files c (s ∷ ss) refusal e = then_told (file_verdict c s (files s.file)) (shards_verdict files c ss) refusal (file_told c s refusal (files s.file)) (shards_told files c ss refusal) e

pub told : (files : Files) (c : CollectionRow) (refusal : SurveyError) → surveyed files c ≡ Err refusal → IsTold refusal
unfolding surveyed
told files c refusal e = shards_told files c c.shards refusal e
