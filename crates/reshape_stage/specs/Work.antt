-- Stages that work document by document (the manual, Aggregation Stages): what such a stage has still to do, what it
-- gives for a document, and what it gives at the end.
use Rattle.std.specs.Prelude.{ℕ, zero, suc, ◌+◌, ◌-◌, ◌==◌, Bool, not, List, [], ◌∷◌, ◌++◌, Option, Some, None, Ok, if◌then◌else◌}
use Rattle.bson_value.specs.Tree.{leaf}
use Rattle.bson_value.specs.Paths.{Steps, keep as keep_paths}
use Rattle.expr_tree.specs.Node.{Node}
use Rattle.expr_tree.specs.QueryNode.{QueryNode}
use Rattle.stage_tree.specs.Stage.{Made, StageHead, keep, match, project, add_fields, unset, replace_root, unwind, group, sort, limit, skip, count, lookup, graph_lookup, facet, union, window, merge, StageNode, stage}
use Rattle.stage_tree.specs.Outcome.{Fields, Given, both, ◌>>=◌}
use Rattle.stage_tree.specs.Rows.{steps_of, values_for, set_all, unset_all, id_first, with_id, add_fields_row, replace_root_row, match_row, unwind_row, number_of}

-- what is done to each document alike
pub data Shape : Type 0 where
  -- the fields of these paths stay
  keeps : List Steps → Shape
  passes : QueryNode → Shape
  -- these paths stay, then others are set, and `_id` is first
  includes : List Steps → Made → Shape
  removes : List Steps → Shape
  sets : Made → Shape
  becomes : Node → Shape
  unwinds : Steps → Option Steps → Bool → Shape

pub data Work : Type 0 where
  each : Shape → Work
  -- so many more documents are let through, or left out
  limiting : ℕ → Work
  skipping : ℕ → Work
  -- the field's name, and how many documents were counted
  counting : List ℕ → ℕ → Work

-- ---- a document

abbrev pub include : List Steps → Made → Fields → Given
include ps ms d = values_for d ms >>= λ vs. Ok (id_first (set_all vs (keep_paths ps d)) ∷ [])

abbrev pub shaped : Shape → Fields → Given
shaped (keeps ps) d = Ok (keep_paths ps d ∷ [])
shaped (passes q) d = match_row q d
shaped (includes ps ms) d = include ps ms d
shaped (removes ps) d = Ok (unset_all ps d ∷ [])
shaped (sets ms) d = add_fields_row ms d
shaped (becomes e) d = replace_root_row e d
shaped (unwinds p index stays) d = unwind_row p index stays d

-- what a document gives, or its code
abbrev pub gives : Work → Fields → Given
gives (each s) d = shaped s d
gives (limiting n) d = Ok (if n == 0 then [] else d ∷ [])
gives (skipping n) d = Ok (if n == 0 then d ∷ [] else [])
gives (counting name n) d = Ok []

-- what is to be done after it
abbrev pub after : Work → Work
after (each s) = each s
after (limiting n) = limiting (n - 1)
after (skipping n) = skipping (n - 1)
after (counting name n) = counting name (n + 1)

-- what comes when there are no more documents: the number of those that were counted, where there were some
abbrev pub ends : Work → List Fields
ends (each s) = []
ends (limiting n) = []
ends (skipping n) = []
ends (counting name n) = if n == 0 then [] else ((name, leaf (number_of n)) ∷ []) ∷ []

-- documents behind others
abbrev pub added : List Fields → Given → Given
added ds g = g >>= λ more. Ok (ds ++ more)

-- ---- documents one after another

abbrev pub after_all : Work → List Fields → Work
after_all w [] = w
after_all w (d ∷ ds) = after_all (after w) ds

-- each is looked at, also behind one that fails, and the least of all codes stands
abbrev pub fed : Work → List Fields → Given
fed w [] = Ok []
fed w (d ∷ ds) = both (λ xs ys. xs ++ ys) (gives w d) (fed (after w) ds)

-- all that comes of a list, the end included
abbrev pub in_all : Work → List Fields → Given
in_all w ds = both (λ xs ys. xs ++ ys) (fed w ds) (Ok (ends (after_all w ds)))

-- ---- the stages that there are

-- a Match is one condition here
abbrev pub one_item : List (QueryNode × ℕ) → Option Work
one_item [] = None
one_item (i ∷ []) = Some (each (passes i.0))
one_item (i ∷ j ∷ is) = None

-- an exclusion's made paths don't count
abbrev pub project_shape : Bool → Bool → List Steps → Made → Shape
project_shape keeps_id excludes ps ms = if excludes then removes (with_id (not keeps_id) ps) else includes (with_id keeps_id ps) ms

abbrev pub started : StageHead → Option Work
started (keep ns) = Some (each (keeps (steps_of ns)))
started (match is) = one_item is
started (project keeps_id excludes ps ms) = Some (each (project_shape keeps_id excludes ps ms))
started (add_fields ms) = Some (each (sets ms))
started (unset ps) = Some (each (removes ps))
started (replace_root e) = Some (each (becomes e))
started (unwind p index stays) = Some (each (unwinds p index stays))
started (group e ps b) = None
started (sort ks c) = None
started (limit n) = Some (limiting n)
started (skip n) = Some (skipping n)
started (count name) = Some (counting name 0)
started (lookup f l g t u) = None
started (graph_lookup f s a b t m d r) = None
started (facet ns) = None
started (union n) = None
started (window e ks os) = None
started (merge t m u) = None

-- the head of a stage
abbrev pub head_of : StageNode → StageHead
head_of (stage h ps) = h
