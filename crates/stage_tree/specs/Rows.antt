-- What each stage gives (the manual, Aggregation Stages).
use Rattle.std.specs.Prelude.{ℕ, suc, ◌^◌, pos, Bool, true, false, List, [], ◌∷◌, map, length, codes, Option, Some, None, Result, Ok, Err, nat_lt, if◌then◌else◌}
use Rattle.std.specs.Option.{option_map_or}
use Rattle.bson_value.specs.Tree.{Tree, Leaf, leaf, null, int, long, doc, list, Trees, no_trees, tree, pairs_of, entries}
use Rattle.bson_value.specs.Pairs.{find, without}
use Rattle.bson_value.specs.Paths.{Steps, plain, set, unset, keep}
use Rattle.bson_value.specs.declared.eval_code.EvalCode.{EvalCode}
use Rattle.bson_value.specs.declared.eval_code.EvalCode.TheVariants.{NotDocument}
use Rattle.expr_tree.specs.Node.{Node}
use Rattle.expr_tree.specs.Env.{env_of}
use Rattle.expr_tree.specs.Eval.{eval}
use Rattle.expr_tree.specs.QueryNode.{QueryNode}
use Rattle.expr_tree.specs.Holds.{document, holds}
use Rattle.stage_tree.specs.Stage.{Made}
use Rattle.stage_tree.specs.Outcome.{Fields, Given, both, ◌>>=◌}

-- the name `_id`
abbrev pub id_name : List ℕ
id_name = codes "_id"

-- the paths of one step that names are
abbrev pub steps_of : List (List ℕ) → List Steps
steps_of ns = map (λ n. n ∷ []) ns

-- an expression's value for a document
abbrev pub value_for : Fields → Node → Result (Option Tree) EvalCode
value_for d e = eval e (env_of d [])

-- all paths with the values of their expressions; each expression is evaluated, on the document as it was
abbrev pub values_for : Fields → Made → Result (List (Steps × Option Tree)) EvalCode
values_for d [] = Ok []
values_for d (m ∷ ms) = both (λ v vs. (m.0, v) ∷ vs) (value_for d m.1) (values_for d ms)

-- the paths set one after another
abbrev pub set_all : List (Steps × Option Tree) → Fields → Fields
set_all [] d = d
set_all (v ∷ vs) d = set_all vs (set v.0 v.1 d)

abbrev pub unset_all : List Steps → Fields → Fields
unset_all [] d = d
unset_all (p ∷ ps) d = unset_all ps (unset p d)

-- `$addFields`
abbrev pub add_fields_row : Made → Fields → Given
add_fields_row ms d = values_for d ms >>= λ vs. Ok (set_all vs d ∷ [])

-- `_id` in front of the other fields
abbrev pub id_first : Fields → Fields
id_first d = option_map_or (λ v. (id_name, v) ∷ without id_name d) (find id_name d) d

abbrev pub with_id : Bool → List Steps → List Steps
with_id true ps = (id_name ∷ []) ∷ ps
with_id false ps = ps

-- an inclusion: the kept paths in stored order, then what is made, and `_id` first, kept or made
abbrev pub include_row : Bool → List Steps → Made → Fields → Given
include_row keeps_id ps ms d = values_for d ms >>= λ vs. Ok (id_first (set_all vs (keep (with_id keeps_id ps) d)) ∷ [])

abbrev pub exclude_row : Bool → List Steps → Fields → Given
exclude_row keeps_id ps d = Ok (unset_all (if keeps_id then ps else with_id true ps) d ∷ [])

-- `$project`; what an exclusion makes doesn't count
abbrev pub project_row : Bool → Bool → List Steps → Made → Fields → Given
project_row keeps_id excludes ps ms d = if excludes then exclude_row keeps_id ps d else include_row keeps_id ps ms d

-- `$replaceRoot`
abbrev pub new_root : Option Tree → Given
new_root None = Err NotDocument
new_root (Some (leaf l)) = Err NotDocument
new_root (Some (doc ps)) = Ok (entries ps ∷ [])
new_root (Some (list ts)) = Err NotDocument

abbrev pub replace_root_row : Node → Fields → Given
replace_root_row e d = value_for d e >>= new_root

-- a condition of a `$match`
abbrev pub match_row : QueryNode → Fields → Given
match_row q d = holds q (document d) >>= λ b. Ok (if b then d ∷ [] else [])

-- `$unwind`: the index of an element, or null where there is none, is set where a path for it is written
abbrev pub with_index : Option Steps → Leaf → Fields → Fields
with_index None n d = d
with_index (Some p) n d = set p (Some (leaf n)) d

-- a document for each element, the first of which has this place
abbrev pub unwound : Steps → Option Steps → Fields → ℕ → Trees → List Fields
unwound p index d i no_trees = []
unwound p index d i (tree t ts) = with_index index (long (pos i)) (set p (Some t) d) ∷ unwound p index d (suc i) ts

-- the document without an element, where such documents stay
abbrev pub preserved : Bool → Option Steps → Fields → List Fields
preserved true index d = with_index index null d ∷ []
preserved false index d = []

abbrev pub unwind_list : Steps → Option Steps → Bool → Fields → Trees → List Fields
unwind_list p index stays d no_trees = preserved stays index (unset p d)
unwind_list p index stays d (tree t ts) = unwound p index d 0 (tree t ts)

abbrev pub unwind_value : Steps → Option Steps → Bool → Fields → Option Tree → List Fields
unwind_value p index stays d None = preserved stays index d
unwind_value p index stays d (Some (leaf null)) = preserved stays index d
unwind_value p index stays d (Some (leaf l)) = with_index index null d ∷ []
unwind_value p index stays d (Some (doc ps)) = with_index index null d ∷ []
unwind_value p index stays d (Some (list ts)) = unwind_list p index stays d ts

abbrev pub unwind_row : Steps → Option Steps → Bool → Fields → Given
unwind_row p index stays d = Ok (unwind_value p index stays d (plain p (doc (pairs_of d))))

-- a number of documents
abbrev pub number_of : ℕ → Leaf
number_of n = if nat_lt n (2 ^ 31) then int (pos n) else long (pos n)

-- `$count`: nothing for no documents
abbrev pub count_row : List ℕ → List Fields → List Fields
count_row name [] = []
count_row name (d ∷ ds) = ((name, leaf (number_of (length (d ∷ ds)))) ∷ []) ∷ []
