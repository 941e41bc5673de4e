-- Paths into documents: names with dots between them (the manual, Dot Notation).
use Rattle.std.specs.Prelude.{◌≡◌, ◌≢◌, ℕ, ◌<◌, ◌≤◌, List, [], ◌∷◌, length, slice_index, ◌==◌, All, Option, Some, None, Result, Ok, Err}
use Rattle.std.specs.List.{slice_split}
use Rattle.std.specs.Str.{IsUtf8}
use Rattle.bson_value.specs.declared.path.PathError.{PathError}
use Rattle.bson_value.specs.declared.path.PathError.TheVariants.{Bad, Memory}
use Rattle.bson_value.specs.Proper.{HasNoZero}

-- the pieces of a text between its dots, of which there is at least one
abbrev pub pieces : List ℕ → List (List ℕ)
pieces text = slice_split (λ b. b == 46) text

-- a step is a name, isn't empty and doesn't begin with a dollar sign
pub record IsStep (step : List ℕ) : Type 0 where
  pub utf8 : IsUtf8 step
  pub some : 0 < length step
  pub no_dollar : slice_index step 0 ≢ 36
  pub no_zero : HasNoZero step

-- a path has from 1 to 100 steps
pub record IsPath (steps : List (List ℕ)) : Type 0 where
  pub some : 0 < length steps
  pub few : length steps ≤ 100
  pub each : All IsStep steps

-- the steps as a path, where there are any
abbrev pub some_path : List (List ℕ) → Option (List (List ℕ))
some_path [] = None
some_path (s ∷ ss) = Some (s ∷ ss)

-- the text of a path: UTF-8 whose pieces are a path's steps
pub record IsPathText (text : List ℕ) : Type 0 where
  pub utf8 : IsUtf8 text
  pub steps : IsPath (pieces text)

-- the answer is the path of these bytes, or that they are none, or that memory ran out
abbrev pub ReadsPath : List ℕ → Result (List (List ℕ)) PathError → Type 0
ReadsPath text (Ok p) = IsPathText text × (p ≡ pieces text)
ReadsPath text (Err Bad) = ¬ IsPathText text
ReadsPath text (Err Memory) = Unit {0}
