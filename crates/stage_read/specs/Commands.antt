-- Reading a document: the command that it is, or what is wrong with it first.
use Rattle.std.specs.Prelude.{ℕ, ◌+◌, Bool, true, false, List, [], ◌∷◌, ◌++◌, Option, Some, None, Result, Ok, Err, if◌then◌else◌, codes}
use Rattle.std.specs.Option.{option_and_then}
use Rattle.std.specs.Str.{bytes_eq}
use Rattle.bson_value.specs.Tree.{Tree, leaf, doc, list, Trees, no_trees, tree}
use Rattle.expr_tree.specs.Spells.{Fields}
use Rattle.expr_read.specs.Reading.{only_if}
use Rattle.stage_tree.specs.Outcome.{◌>>=◌}
use Rattle.stage_tree.specs.Stage.{StageNode, Stages, stages_of}
use Rattle.stage_tree.specs.declared.command.BadCommand.{BadCommand}
use Rattle.stage_tree.specs.declared.command.CommandWhy.TheVariants.{Form}
use Rattle.pipeline_limits.specs.Limits.{past_limits}
use Rattle.stage_read.specs.Parts.{list_of}
use Rattle.stage_read.specs.Reading.{Placings, collection_in, stage_reading}
use Rattle.stage_read.specs.Words.{is_pipeline, is_ignored}
use Rattle.stage_read.specs.Written.{place_before}

-- there is no reading at this stage, 0 being outside the stages
abbrev pub form_at : ℕ → BadCommand
form_at n = record { stage = n; why = Form }

-- ---- the fields

-- the pipeline, where none was met before
abbrev pub first_only : Option Trees → Option Trees → Option (Option Trees)
first_only None (Some ts) = Some (Some ts)
first_only None None = None
first_only (Some us) o = None

-- the pipeline that was met, behind one field more
abbrev pub field_step : Option Trees → List ℕ → Tree → Option (Option Trees)
field_step found name v = if is_pipeline name then first_only found (list_of v) else only_if (is_ignored name) (Some found)

abbrev pub pipeline_from : Option Trees → Fields → Option Trees
pipeline_from found [] = found
pipeline_from found (p ∷ ps) = option_and_then (λ f. pipeline_from f ps) (field_step found p.0 p.1)

abbrev pub named_parts : Option (List ℕ) → Option Trees → Option (List ℕ × Trees)
named_parts name o = option_and_then (λ c. option_and_then (λ ts. Some (c, ts)) o) name

-- the collection's name, and the written stages
abbrev pub command_parts : Fields → Option (List ℕ × Trees)
command_parts [] = None
command_parts (p ∷ ps) = only_if (bytes_eq p.0 (codes "aggregate")) (named_parts (collection_in p.1) (pipeline_from None ps))

-- ---- the stages

abbrev pub numbered : {A : Type 0} → ℕ → Option A → Result A BadCommand
numbered n None = Err (form_at n)
numbered n (Some x) = Ok x

-- stages behind those that there are, the first of them the n-th
abbrev pub top_from : Placings → ℕ → Trees → Result Placings BadCommand
top_from front n no_trees = Ok front
top_from front n (tree t ts) = numbered n (stage_reading (place_before ts) n t) >>= λ s. top_from (front ++ (s, n ∷ []) ∷ []) (n + 1) ts

-- ---- the whole

abbrev pub within_limits : List ℕ → Stages → Option BadCommand → Result (List ℕ × Stages) BadCommand
within_limits name ss None = Ok (name, ss)
within_limits name ss (Some b) = Err b

abbrev pub with_stages : List ℕ → Result Placings BadCommand → Result (List ℕ × Stages) BadCommand
with_stages name r = r >>= λ ss. within_limits name (stages_of ss) (past_limits (stages_of ss))

abbrev pub command_read : Fields → Result (List ℕ × Stages) BadCommand
command_read fields = numbered 0 (command_parts fields) >>= λ p. with_stages p.0 (top_from [] 1 p.1)
