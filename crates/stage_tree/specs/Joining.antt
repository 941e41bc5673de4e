-- Stages that look at other collections or run other pipelines (the manual, `$lookup`, `$graphLookup`, `$facet`, `$unionWith`).
use Rattle.std.specs.Prelude.{ℕ, zero, suc, pos, Bool, true, false, not, ◌&&◌, List, [], ◌∷◌, ◌++◌, map, filter, length, Option, Some, None, Result, Ok, Err, nat_lt, if◌then◌else◌}
use Rattle.std.specs.List.{list_any, flat_map}
use Rattle.std.specs.Option.{option_map_or}
use Rattle.std.specs.Ordering.{is_eq}
use Rattle.bson_value.specs.Tree.{Tree, leaf, null, long, doc, list, pairs_of, trees_of, members}
use Rattle.bson_value.specs.Order.{order}
use Rattle.bson_value.specs.Operands.{or_null}
use Rattle.bson_value.specs.Pairs.{find, put}
use Rattle.bson_value.specs.Paths.{Steps, reach, candidates, set}
use Rattle.bson_value.specs.declared.eval_code.EvalCode.{EvalCode}
use Rattle.expr_tree.specs.Node.{Node}
use Rattle.expr_tree.specs.QueryNode.{QueryNode}
use Rattle.expr_tree.specs.Holds.{Verdict, document, holds}
use Rattle.stage_tree.specs.Outcome.{Fields, Given, Ran, World, Running, both, each_doc, ◌>>=◌}
use Rattle.stage_tree.specs.Rows.{id_name, value_for, unwind_row}

-- the owned documents of a collection; one that isn't named has none
abbrev pub owned_in : List ℕ → World → List Fields
owned_in name w = option_map_or (λ ds. ds) (find name w) []

-- a document as a value, and documents as an array
abbrev pub whole : Fields → Tree
whole d = doc (pairs_of d)

abbrev pub docs_list : List Fields → Tree
docs_list ds = list (trees_of (map whole ds))

-- ---- `$lookup`

-- the values that a document looks for: an array gives its elements, and what is missing gives null
abbrev pub local_values : Option Tree → List Tree
local_values None = leaf null ∷ []
local_values (Some (leaf l)) = leaf l ∷ []
local_values (Some (doc ps)) = doc ps ∷ []
local_values (Some (list ts)) = members ts

abbrev pub is_one_of : List Tree → Tree → Bool
is_one_of vs t = list_any (λ v. is_eq (order t v)) vs

-- one of the candidates is one of the values, a missing candidate being null
abbrev pub joins : Steps → List Tree → Fields → Bool
joins field vs e = list_any (λ c. is_one_of vs (or_null c)) (candidates field (whole e))

abbrev pub looked_up : List Fields → Steps → Steps → Steps → Fields → Fields
looked_up others local field target d = set target (Some (docs_list (filter (joins field (local_values (reach local (whole d)))) others))) d

abbrev pub unwound_by : Option (Steps × (Option Steps × Bool)) → List Fields → Given
unwound_by None ds = Ok ds
unwound_by (Some u) ds = each_doc (unwind_row u.0 u.1.0 u.1.1) ds

abbrev pub lookup_row : List Fields → Steps → Steps → Steps → Option (Steps × (Option Steps × Bool)) → List Fields → Given
lookup_row others local field target u ds = unwound_by u (map (looked_up others local field target) ds)

-- ---- `$graphLookup`

-- an array gives its elements, and what is missing gives nothing
abbrev pub start_values : Option Tree → List Tree
start_values None = []
start_values (Some (leaf l)) = leaf l ∷ []
start_values (Some (doc ps)) = doc ps ∷ []
start_values (Some (list ts)) = members ts

abbrev pub is_found : List Tree → Option Tree → Bool
is_found vs None = false
is_found vs (Some t) = is_one_of vs t

abbrev pub passes : Verdict → Bool
passes (Ok b) = b
passes (Err c) = false

abbrev pub allowed : Option QueryNode → Fields → Bool
allowed None e = true
allowed (Some q) e = passes (holds q (document e))

abbrev pub is_next : Option QueryNode → Steps → List Tree → Fields → Bool
is_next restrict field vs e = allowed restrict e && list_any (is_found vs) (candidates field (whole e))

abbrev pub id_of : Fields → Tree
id_of e = or_null (find id_name e)

-- of the documents that belong to a level those whose `_id` wasn't seen, each `_id` once
abbrev pub level : (Fields → Bool) → List Tree → List Fields → List Fields
level belongs seen [] = []
level belongs seen (e ∷ es) = if belongs e && not (is_one_of seen (id_of e)) then e ∷ level belongs (id_of e ∷ seen) es else level belongs seen es

abbrev pub with_level : Option Steps → ℕ → Fields → Fields
with_level None n e = e
with_level (Some p) n e = set p (Some (leaf (long (pos n)))) e

abbrev pub is_last : Option ℕ → ℕ → Bool
is_last None n = false
is_last (Some most) n = not (nat_lt n most)

-- the levels from the n-th on, of which there are at most as many as there are documents, and one that is empty
abbrev pub levels : ℕ → List Fields → Option QueryNode → Steps → Steps → Option ℕ → Option Steps → ℕ → List Tree → List Tree → List Fields
levels zero others restrict from field most depth n vs seen = []
levels (suc left) others restrict from field most depth n vs seen =
    let found : List Fields = level (is_next restrict field vs) seen others in
    map (with_level depth n) found ++ (if is_last most n then [] else levels left others restrict from field most depth (suc n) (flat_map (λ e. start_values (reach from (whole e))) found) (map id_of found ++ seen))

abbrev pub graph_row : List Fields → Node → Steps → Steps → Steps → Option ℕ → Option Steps → Option QueryNode → Fields → Given
graph_row others start from field target most depth restrict d =
    value_for d start >>= λ v. Ok (set target (Some (docs_list (levels (suc (length others)) others restrict from field most depth 0 (start_values v) []))) d ∷ [])

-- ---- inner pipelines

-- a failure of an inner pipeline is one of the stage that holds it, with the same code
abbrev pub as_given : Ran → Given
as_given (Ok ds) = Ok ds
as_given (Err f) = Err f.code

-- `$unionWith`
abbrev pub union_row : List ℕ → List Running → World → List Fields → Given
union_row name [] w ds = Ok ds
union_row name (m ∷ ms) w ds = as_given (m w (owned_in name w)) >>= λ es. Ok (ds ++ es)

-- `$facet`: each name with its pipeline's list
abbrev pub facet_lists : List (List ℕ) → List Running → World → List Fields → Result Fields EvalCode
facet_lists [] ms w ds = Ok []
facet_lists (n ∷ ns) [] w ds = Ok []
facet_lists (n ∷ ns) (m ∷ ms) w ds = both (λ es fs. (n, docs_list es) ∷ fs) (as_given (m w ds)) (facet_lists ns ms w ds)

-- the fields one after another, a later one in the place of an equal name's
abbrev pub put_each : Fields → Fields → Fields
put_each [] d = d
put_each (f ∷ fs) d = put_each fs (put f.0 f.1 d)

abbrev pub facet_row : List (List ℕ) → List Running → World → List Fields → Given
facet_row names ms w ds = facet_lists names ms w ds >>= λ fs. Ok (put_each fs [] ∷ [])
