-- The survey of the collection's files.
use Rattle.std.proofs.Common.{◌≡◌, Option, Some, None, Result, Ok, Err, refl, ap, subst, ◌∙◌}
use Rattle.chunk_map.specs.Table.{CollectionRow}
use Rattle.mq_ports.specs.World.{Held}
use Rattle.orphan_filter.specs.Survey.{files_in, surveyed}
use Rattle.orphan_filter.specs.declared.errors.SurveyError.{SurveyError}
use Rattle.orphan_filter.specs.declared.errors.SurveyError.TheVariants as E
use Rattle.aggregate_command.specs.declared.status.Status.{Status}
use Rattle.aggregate_command.specs.declared.status.Status.TheVariants as S
use Rattle.aggregate_command.specs.Verdict.{good_survey, surveyed_if}
use Rattle.call_laws.proofs.Sequel.{same_refusal}
use Rattle.call_laws.proofs.Told.{told}

-- why a survey refuses
abbrev pub SurveyRefused : Held → CollectionRow → Status → Type 0
SurveyRefused held c (S.BadShard b) = surveyed (files_in held) c ≡ Err (E.Bad b)
SurveyRefused held c (S.NoFile name) = surveyed (files_in held) c ≡ Err (E.NoFile name)
SurveyRefused held c (S.FileTooLong name len) = surveyed (files_in held) c ≡ Err (E.FileTooLong name len)
SurveyRefused held c s = ⊥

survey_refused : (held : Held) (c : CollectionRow) (v : Result (Unit {0}) SurveyError) (s : Status) → surveyed (files_in held) c ≡ v → good_survey v ≡ Err s → SurveyRefused held c s
survey_refused held c (Ok x) s is e = absurd cc
survey_refused held c (Err (E.Bad b)) s is e = subst (SurveyRefused held c) (same_refusal (S.BadShard b) s e) is
survey_refused held c (Err (E.NoFile name)) s is e = subst (SurveyRefused held c) (same_refusal (S.NoFile name) s e) is
survey_refused held c (Err (E.FileTooLong name len)) s is e = subst (SurveyRefused held c) (same_refusal (S.FileTooLong name len) s e) is
survey_refused held c (Err E.ReadFault) s is e = absurd (told (files_in held) c E.ReadFault is)
survey_refused held c (Err E.Damage) s is e = absurd (told (files_in held) c E.Damage is)
survey_refused held c (Err E.Memory) s is e = absurd (told (files_in held) c E.Memory is)

-- a collection that is surveyed, and its refusal
pub record Surveyed (held : Held) (row : Option CollectionRow) (s : Status) : Type 0 where
  pub collection : CollectionRow
  pub named : row ≡ Some collection
  pub refused : SurveyRefused held collection s

pub files_refused : (held : Held) (row : Option CollectionRow) (s : Status) → surveyed_if (files_in held) row ≡ Err s → Surveyed held row s
files_refused held None s e = absurd cc
files_refused held (Some c) s e = record { collection = c; named = refl; refused = survey_refused held c (surveyed (files_in held) c) s refl e }

pub bad_files : (held : Held) (row : Option CollectionRow) (c : CollectionRow) (refusal : SurveyError) → row ≡ Some c → surveyed (files_in held) c ≡ Err refusal → surveyed_if (files_in held) row ≡ good_survey (Err refusal)
bad_files held row c refusal is e = ap (surveyed_if (files_in held)) is ∙ ap good_survey e
