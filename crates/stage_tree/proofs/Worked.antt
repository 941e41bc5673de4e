-- The definitions at worked cases: each line computes.
use Rattle.std.specs.Prelude.{◌≡◌, ℕ, pos, true, false, List, [], ◌∷◌, codes, Some, None, Ok, Err, refl}
use Rattle.bson_value.specs.Tree.{Tree, leaf, null, int, long, text, doc, list, no_pairs, pair, no_trees, tree}
use Rattle.bson_value.specs.Paths.{Steps}
use Rattle.bson_value.specs.declared.op.Op.TheVariants as O
use Rattle.bson_value.specs.declared.eval_code.EvalCode.TheVariants.{WrongType, NotDocument}
use Rattle.expr_tree.specs.Node.{node, literal, field, apply, no_nodes, next}
use Rattle.expr_tree.specs.QueryNode.{query, at, compares, equal, no_queries, more}
use Rattle.stage_tree.specs.Stage.{StageHead, match, project, add_fields, unset, replace_root, unwind, limit, skip, count, sort, lookup, graph_lookup, facet, union, Stages, no_stages, placed, stage, no_pipes, pipe}
use Rattle.stage_tree.specs.Outcome.{Fields}
use Rattle.stage_tree.specs.Written.{written}
use Rattle.stage_tree.specs.Output.{output}

-- names, numbers and paths
abbrev id : List ℕ
id = codes "_id"

abbrev a : List ℕ
a = codes "a"

abbrev b : List ℕ
b = codes "b"

abbrev i : List ℕ
i = codes "i"

abbrev number : ℕ → Tree
number n = leaf (int (pos n))

abbrev to : List ℕ → Steps
to n = n ∷ []

-- a stage in front of others, the n-th that was written
abbrev then : StageHead → ℕ → Stages → Stages
then h n ss = placed (stage h no_pipes) (n ∷ []) ss

abbrev only : StageHead → Stages
only h = then h 1 no_stages

abbrev one : Fields → List Fields
one d = d ∷ []

-- `$addFields` of `a.b` goes into each element of an array
add_fields_in_array :
    written (only (add_fields ((a ∷ b ∷ [], node (literal (number 1)) no_nodes) ∷ []))) [] (one ((a, list (tree (doc (pair i (number 1) no_pairs)) (tree (number 5) no_trees))) ∷ []))
    ≡ Ok (one ((a, list (tree (doc (pair i (number 1) (pair b (number 1) no_pairs))) (tree (doc (pair b (number 1) no_pairs)) no_trees))) ∷ []))
add_fields_in_array = refl

-- all expressions see the old document, and what is missing makes nothing
add_fields_of_old :
    written (only (add_fields ((to a, node (literal (number 2)) no_nodes) ∷ (to b, node (field (to a)) no_nodes) ∷ (to i, node (field (to i)) no_nodes) ∷ []))) [] (one ((a, number 1) ∷ []))
    ≡ Ok (one ((a, number 2) ∷ (b, number 1) ∷ []))
add_fields_of_old = refl

-- an inclusion has `_id` first, then what is kept in stored order, then what is made
include_in_order :
    written (only (project true false (to b ∷ to a ∷ []) ((to i, node (field (to a)) no_nodes) ∷ []))) [] (one ((a, number 1) ∷ (b, number 2) ∷ (codes "c", number 3) ∷ (id, number 4) ∷ []))
    ≡ Ok (one ((id, number 4) ∷ (a, number 1) ∷ (b, number 2) ∷ (i, number 1) ∷ []))
include_in_order = refl

-- an `_id` that is made comes first too
include_made_id :
    written (only (project false false (to a ∷ []) ((to id, node (literal (number 7)) no_nodes) ∷ []))) [] (one ((a, number 1) ∷ (id, number 4) ∷ []))
    ≡ Ok (one ((id, number 7) ∷ (a, number 1) ∷ []))
include_made_id = refl

-- an exclusion leaves `_id` in its stored place, or takes it away
exclude_keeps_place :
    written (only (project true true (to a ∷ []) [])) [] (one ((a, number 1) ∷ (b, number 2) ∷ (id, number 4) ∷ [])) ≡ Ok (one ((b, number 2) ∷ (id, number 4) ∷ []))
exclude_keeps_place = refl

exclude_id : written (only (project false true [] [])) [] (one ((a, number 1) ∷ (id, number 4) ∷ [])) ≡ Ok (one ((a, number 1) ∷ []))
exclude_id = refl

-- an inclusion that drops `_id`
include_without_id : written (only (project false false (to a ∷ []) [])) [] (one ((id, number 4) ∷ (a, number 1) ∷ [])) ≡ Ok (one ((a, number 1) ∷ []))
include_without_id = refl

unset_each : written (only (unset (to a ∷ to b ∷ []))) [] (one ((a, number 1) ∷ (i, number 3) ∷ (b, number 2) ∷ [])) ≡ Ok (one ((i, number 3) ∷ []))
unset_each = refl

-- a new root is a document
new_root : written (only (replace_root (node (field (to a)) no_nodes))) [] (one ((a, doc (pair b (number 1) no_pairs)) ∷ [])) ≡ Ok (one ((b, number 1) ∷ []))
new_root = refl

no_new_root : written (only (replace_root (node (field (to a)) no_nodes))) [] (one ((a, number 1) ∷ [])) ≡ Err (record { stage = 1; code = NotDocument })
no_new_root = refl

missing_new_root : written (only (replace_root (node (field (to a)) no_nodes))) [] (one []) ≡ Err (record { stage = 1; code = NotDocument })
missing_new_root = refl

-- documents of which `u` is missing, null, an empty array, a number and an array of one
abbrev u : List ℕ
u = codes "u"

abbrev five : List Fields
five =
    ((id, number 1) ∷ []) ∷ ((id, number 2) ∷ (u, leaf null) ∷ []) ∷ ((id, number 3) ∷ (u, list no_trees) ∷ []) ∷ ((id, number 4) ∷ (u, number 7) ∷ [])
    ∷ ((id, number 5) ∷ (u, list (tree (number 8) no_trees)) ∷ []) ∷ []

unwind_plainly : written (only (unwind (to u) None false)) [] five ≡ Ok (((id, number 4) ∷ (u, number 7) ∷ []) ∷ ((id, number 5) ∷ (u, number 8) ∷ []) ∷ [])
unwind_plainly = refl

unwind_preserving :
    written (only (unwind (to u) (Some (to i)) true)) [] five
    ≡ Ok (((id, number 1) ∷ (i, leaf null) ∷ []) ∷ ((id, number 2) ∷ (u, leaf null) ∷ (i, leaf null) ∷ []) ∷ ((id, number 3) ∷ (i, leaf null) ∷ []) ∷ ((id, number 4) ∷ (u, number 7) ∷ (i, leaf null) ∷ [])
    ∷ ((id, number 5) ∷ (u, number 8) ∷ (i, leaf (long (pos 0))) ∷ []) ∷ [])
unwind_preserving = refl

-- nothing is there to be counted
count_none : written (only (count i)) [] [] ≡ Ok []
count_none = refl

count_five : written (only (count i)) [] five ≡ Ok (one ((i, number 5) ∷ []))
count_five = refl

skip_and_limit : written (then (skip 1) 1 (then (limit 1) 2 no_stages)) [] five ≡ Ok (one ((id, number 2) ∷ (u, leaf null) ∷ []))
skip_and_limit = refl

-- a sum of a text fails at its stage, also where a later one would leave the document out
abbrev sums : StageHead
sums = project true false [] ((to a, node (apply O.Add) (next (node (field (to a)) no_nodes) (next (node (literal (number 1)) no_nodes) no_nodes))) ∷ [])

abbrev two : List Fields
two = ((id, number 1) ∷ (a, leaf (text b)) ∷ []) ∷ ((id, number 2) ∷ (a, number 5) ∷ []) ∷ []

abbrev second_id : StageHead
second_id = match ((query (at (to id)) (more (query (compares equal (number 2)) no_queries) no_queries), 2) ∷ [])

fails_before_match : written (then sums 1 (then second_id 2 no_stages)) [] two ≡ Err (record { stage = 1; code = WrongType })
fails_before_match = refl

fails_before_limit : written (then sums 1 (then (limit 0) 2 no_stages)) [] two ≡ Err (record { stage = 1; code = WrongType })
fails_before_limit = refl

-- and where an earlier one left it out, it isn't seen
left_out_before : written (then second_id 2 (then sums 3 no_stages)) [] two ≡ Ok (one ((id, number 2) ∷ (a, number 6) ∷ []))
left_out_before = refl

good_output : output 1 two ≡ Ok two
good_output = refl

-- `$sort`: equal documents stay in their order, an empty array stands below null, an array has its least or greatest
sort_rising :
    written (only (sort ((to u, false) ∷ []) None)) [] five
    ≡ Ok (((id, number 3) ∷ (u, list no_trees) ∷ []) ∷ ((id, number 1) ∷ []) ∷ ((id, number 2) ∷ (u, leaf null) ∷ []) ∷ ((id, number 4) ∷ (u, number 7) ∷ []) ∷ ((id, number 5) ∷ (u, list (tree (number 8) no_trees)) ∷ []) ∷ [])
sort_rising = refl

sort_falling_capped : written (only (sort ((to u, true) ∷ []) (Some 1))) [] five ≡ Ok (one ((id, number 5) ∷ (u, list (tree (number 8) no_trees)) ∷ []))
sort_falling_capped = refl

-- `$lookup` from `f`, of which one document has the value 1 at `r`
abbrev f : List ℕ
f = codes "f"

abbrev others : List (List ℕ × List Fields)
others = (f, ((id, number 5) ∷ (i, number 1) ∷ []) ∷ ((id, number 6) ∷ []) ∷ []) ∷ []

looks_up :
    written (only (lookup f (to a) (to i) (to b) None)) others (((a, number 1) ∷ []) ∷ ((a, number 2) ∷ []) ∷ [])
    ≡ Ok (((a, number 1) ∷ (b, list (tree (doc (pair id (number 5) (pair i (number 1) no_pairs))) no_trees)) ∷ []) ∷ ((a, number 2) ∷ (b, list no_trees) ∷ []) ∷ [])
looks_up = refl

-- a local null, or none, finds what has none
looks_up_missing :
    written (only (lookup f (to a) (to i) (to b) (Some (to b, (None, false))))) others (one []) ≡ Ok (one ((b, doc (pair id (number 6) no_pairs)) ∷ []))
looks_up_missing = refl

-- `$unionWith` and `$facet`
unites : written (placed (stage (union f) (pipe (then (limit 1) 1 no_stages) no_pipes)) (1 ∷ []) no_stages) others (one []) ≡ Ok ([] ∷ ((id, number 5) ∷ (i, number 1) ∷ []) ∷ [])
unites = refl

facets_of_nothing :
    written (placed (stage (facet (a ∷ b ∷ [])) (pipe no_stages (pipe (then (count i) 1 no_stages) no_pipes))) (1 ∷ []) no_stages) [] []
    ≡ Ok (one ((a, list no_trees) ∷ (b, list no_trees) ∷ []))
facets_of_nothing = refl

-- `$graphLookup` along a ring of three, each found once
abbrev next_name : List ℕ
next_name = codes "next"

abbrev link : ℕ → ℕ → Fields
link m n = (id, number m) ∷ (next_name, number n) ∷ []

abbrev seen_at : ℕ → ℕ → ℕ → Tree
seen_at m n d = doc (pair id (number m) (pair next_name (number n) (pair (codes "d") (leaf (long (pos d))) no_pairs)))

ring :
    written (only (graph_lookup f (node (field (to a)) no_nodes) (to next_name) (to id) (to b) (Some 5) (Some (to (codes "d"))) None)) ((f, link 1 2 ∷ link 2 3 ∷ link 3 1 ∷ []) ∷ []) (one ((a, number 1) ∷ []))
    ≡ Ok (one ((a, number 1) ∷ (b, list (tree (seen_at 1 2 0) (tree (seen_at 2 3 1) (tree (seen_at 3 1 2) no_trees)))) ∷ []))
ring = refl

ring_of_one_level :
    written (only (graph_lookup f (node (field (to a)) no_nodes) (to next_name) (to id) (to b) (Some 0) (Some (to (codes "d"))) None)) ((f, link 1 2 ∷ link 2 3 ∷ link 3 1 ∷ []) ∷ []) (one ((a, number 1) ∷ []))
    ≡ Ok (one ((a, number 1) ∷ (b, list (tree (seen_at 1 2 0) no_trees)) ∷ []))
ring_of_one_level = refl
