-- How a core is told from others, by a proof.
use Rattle.std.specs.Prelude.{◌≡◌, ℕ, zero, suc, Bool, List, [], ◌∷◌, Option, refl}
use Rattle.std.specs.Coded.{Coded, code_by, coded×, coded_ℕ, coded_bool, coded_list, coded_option}
use Rattle.bson_value.specs.Codes.{code_number}
use Rattle.bson_value.specs.declared.errors.Failure.{Failure}
use Rattle.bson_value.specs.declared.eval_code.EvalCode.{EvalCode}
use Rattle.bson_value.specs.declared.eval_code.EvalCode.TheVariants as C
use Rattle.merge_cursor.specs.declared.item.Keyed.{Keyed}
use Rattle.merge_cursor.specs.declared.shards.Shard.{Shard}
use Rattle.merge_cursor.specs.declared.shards.Progress.{Progress}
use Rattle.merge_cursor.specs.declared.shards.Progress.TheVariants.{Fresh, Asked, Answered, Over}
use Rattle.merge_cursor.specs.Code.{keyed_code}
use Rattle.merge_cursor.specs.Core.{Core}

abbrev progress_number : Progress → ℕ
progress_number Fresh = 0
progress_number Asked = 1
progress_number Answered = 2
progress_number Over = 3

abbrev progress_from : ℕ → Progress
progress_from zero = Fresh
progress_from (suc zero) = Asked
progress_from (suc (suc zero)) = Answered
progress_from (suc (suc (suc n))) = Over

pub progress_back : (p : Progress) → progress_from (progress_number p) ≡ p
progress_back Fresh = refl
progress_back Asked = refl
progress_back Answered = refl
progress_back Over = refl

abbrev progress_code : Coded Progress
progress_code = code_by ℕ coded_ℕ progress_number progress_from progress_back

abbrev shard_code : Coded Shard
shard_code = code_by (List Keyed × Progress) (coded× (coded_list keyed_code) progress_code) (λ s. (s.waiting, s.progress)) (λ p. record { waiting = p.0; progress = p.1 }) (λ _. refl)

-- the codes from 0 on, the first of them twice
abbrev eval_codes : List EvalCode
eval_codes = C.WrongType ∷ C.WrongType ∷ C.Overflow ∷ C.ZeroDivisor ∷ C.NotArray ∷ C.BadCount ∷ C.NoBranch ∷ C.DateRange ∷ C.NotDocument ∷ C.BadName ∷ C.BadConversion ∷ C.RangeTooLong ∷ C.NestTooDeep ∷ C.ResultTooLong ∷ C.ResultTooDeep ∷ C.MissingId ∷ C.Matched ∷ C.NotMatched ∷ []

abbrev code_at : List EvalCode → ℕ → EvalCode
code_at [] n = C.WrongType
code_at (c ∷ cs) zero = c
code_at (c ∷ cs) (suc n) = code_at cs n

pub code_back : (c : EvalCode) → code_at eval_codes (code_number c) ≡ c
code_back C.WrongType = refl
code_back C.Overflow = refl
code_back C.ZeroDivisor = refl
code_back C.NotArray = refl
code_back C.BadCount = refl
code_back C.NoBranch = refl
code_back C.DateRange = refl
code_back C.NotDocument = refl
code_back C.BadName = refl
code_back C.BadConversion = refl
code_back C.RangeTooLong = refl
code_back C.NestTooDeep = refl
code_back C.ResultTooLong = refl
code_back C.ResultTooDeep = refl
code_back C.MissingId = refl
code_back C.Matched = refl
code_back C.NotMatched = refl

abbrev eval_code : Coded EvalCode
eval_code = code_by ℕ coded_ℕ code_number (code_at eval_codes) code_back

abbrev failure_code : Coded Failure
failure_code = code_by (ℕ × EvalCode) (coded× coded_ℕ eval_code) (λ f. (f.stage, f.code)) (λ p. record { stage = p.0; code = p.1 }) (λ _. refl)

abbrev pub core_code : Coded Core
core_code =
    code_by (Bool × (List Shard × Option Failure)) (coded× coded_bool (coded× (coded_list shard_code) (coded_option failure_code))) (λ c. (c.by_key, (c.shards, c.least))) (λ p. record { by_key = p.0; shards = p.1.0; least = p.1.1 }) (λ _. refl)
