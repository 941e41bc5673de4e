-- Reading a stage that groups, joins or merges documents: the tree that its name and value are, if they are one.
use Rattle.std.specs.Prelude.{ℕ, ℤ, pos, Bool, true, false, is_some, ◌&&◌, ◌==◌, List, [], ◌∷◌, ◌++◌, map, Option, Some, None, if◌then◌else◌, codes}
use Rattle.std.specs.Str.{bytes_eq}
use Rattle.bson_value.specs.Operands.{or_null}
use Rattle.bson_value.specs.Pairs.{find}
use Rattle.bson_value.specs.Paths.{Steps}
use Rattle.bson_value.specs.Tree.{Tree}
use Rattle.bson_value.specs.declared.acc_kind.AccKind.{AccKind}
use Rattle.bson_value.specs.declared.acc_kind.AccKind.TheVariants.{Count}
use Rattle.expr_read.specs.Reading.{reading, only_if, path_in, ◌>>=◌}
use Rattle.expr_tree.specs.Node.{Node}
use Rattle.expr_tree.specs.QueryNode.{QueryNode}
use Rattle.expr_tree.specs.Spells.{Fields}
use Rattle.query_read.specs.Reading.{query_reading}
use Rattle.stage_parts.specs.Each.{each}
use Rattle.stage_parts.specs.Keys.{sort_keys}
use Rattle.stage_parts.specs.Names.{has_only, field_name, collection_name}
use Rattle.stage_parts.specs.Paths.{path_text, are_apart}
use Rattle.stage_parts.specs.Values.{as_text, as_fields, as_items, as_whole, as_count}
use Rattle.stage_tree.specs.Stage.{Keys, WindowHead, accumulates, rank, dense_rank, place, shift, StageNode, stage, lookup, graph_lookup, group, window, merge, no_pipes}
use Rattle.stage_tree.specs.declared.merge.WhenMatched.{WhenMatched}
use Rattle.stage_tree.specs.declared.merge.WhenMatched.TheVariants as M
use Rattle.stage_tree.specs.declared.merge.WhenUnmatched.{WhenUnmatched}
use Rattle.stage_tree.specs.declared.merge.WhenUnmatched.TheVariants as U
use Rattle.join_forms.specs.Words.{kind_named, has_window, nothing, matched_named, unmatched_named}
use Rattle.join_forms.specs.Written.{in_order}

-- ---- fields and their values

abbrev pub form_in : List (List ℕ) → List (List ℕ) → Tree → Option Fields
form_in required optional t = as_fields t >>= λ ps. only_if (has_only required optional ps) (Some ps)

-- what the value of that name is read as
abbrev pub read_at : {A : Type 0} → (Tree → Option A) → List ℕ → Fields → Option A
read_at f n ps = find n ps >>= f

-- the same where the name may be absent: another stands for it
abbrev pub otherwise : {A : Type 0} → A → (Tree → Option A) → Option Tree → Option A
otherwise other f None = Some other
otherwise other f (Some t) = f t

-- whether the name is there, and what its value is read as
abbrev pub maybe : {A : Type 0} → (Tree → Option A) → Option Tree → Option (Option A)
maybe f None = Some None
maybe f (Some t) = f t >>= λ x. Some (Some x)

abbrev pub expr_value : Tree → Option Node
expr_value t = reading t []

abbrev pub collection_value : Tree → Option (List ℕ)
collection_value t = as_text t >>= collection_name

-- the one field of a document, and the two
abbrev pub one_field : Fields → Option (List ℕ × Tree)
one_field [] = None
one_field (p ∷ []) = Some p
one_field (p ∷ q ∷ ps) = None

abbrev pub two_fields : Fields → Option ((List ℕ × Tree) × (List ℕ × Tree))
two_fields [] = None
two_fields (p ∷ []) = None
two_fields (p ∷ q ∷ []) = Some (p, q)
two_fields (p ∷ q ∷ r ∷ ps) = None

abbrev pub has_none : Option Fields → Bool
has_none None = false
has_none (Some []) = true
has_none (Some (p ∷ ps)) = false

abbrev pub is_empty_doc : Tree → Bool
is_empty_doc t = has_none (as_fields t)

-- ---- `$lookup`

abbrev pub lookup_in : Fields → Option StageNode
lookup_in ps =
    read_at collection_value (codes "from") ps >>= λ from. read_at path_text (codes "localField") ps >>= λ local.
    read_at path_text (codes "foreignField") ps >>= λ field. read_at path_text (codes "as") ps >>= λ target.
    Some (stage (lookup from local field target None) no_pipes)

abbrev pub lookup_reading : Tree → Option StageNode
lookup_reading t = form_in (codes "from" ∷ codes "localField" ∷ codes "foreignField" ∷ codes "as" ∷ []) [] t >>= lookup_in

-- ---- `$group`

abbrev pub argument : Option AccKind → Tree → Option (AccKind × Node)
argument None t = None
argument (Some k) t = expr_value t >>= λ e. Some (k, e)

abbrev pub accumulator : List ℕ → Tree → Option (AccKind × Node)
accumulator n t = if bytes_eq n (codes "$count") then only_if (is_empty_doc t) (Some (Count, nothing)) else argument (kind_named n) t

abbrev pub accumulator_in : Fields → Option (AccKind × Node)
accumulator_in ps = one_field ps >>= λ p. accumulator p.0 p.1

abbrev pub accumulator_value : Tree → Option (AccKind × Node)
accumulator_value t = as_fields t >>= accumulator_in

abbrev pub part : List ℕ → Tree → Option (List ℕ × (AccKind × Node))
part n t = field_name n >>= λ m. accumulator_value t >>= λ a. Some (m, a)

-- all fields but the key, behind those that there are
abbrev pub parts_from : List (List ℕ × (AccKind × Node)) → Fields → Option (List (List ℕ × (AccKind × Node)))
parts_from front [] = Some front
parts_from front (f ∷ fs) = if bytes_eq f.0 (codes "_id") then parts_from front fs else (part f.0 f.1 >>= λ p. parts_from (front ++ p ∷ []) fs)

abbrev pub group_in : Fields → Option StageNode
group_in ps = read_at expr_value (codes "_id") ps >>= λ key. parts_from [] ps >>= λ parts. Some (stage (group key parts false) no_pipes)

abbrev pub group_reading : Tree → Option StageNode
group_reading t = as_fields t >>= group_in

-- ---- `$merge`

abbrev pub matched_value : Tree → Option WhenMatched
matched_value t = as_text t >>= matched_named

abbrev pub unmatched_value : Tree → Option WhenUnmatched
unmatched_value t = as_text t >>= unmatched_named

abbrev pub is_id : Option (List ℕ) → Bool
is_id None = false
is_id (Some s) = bytes_eq s (codes "_id")

abbrev pub is_on : Option Tree → Bool
is_on None = true
is_on (Some t) = is_id (as_text t)

abbrev pub merged : List ℕ → WhenMatched → WhenUnmatched → StageNode
merged into matched unmatched = stage (merge into matched unmatched) no_pipes

abbrev pub ways : Option WhenMatched → Option WhenUnmatched → Option (WhenMatched × WhenUnmatched)
ways a b = a >>= λ matched. b >>= λ unmatched. Some (matched, unmatched)

abbrev pub ways_in : Fields → Option (WhenMatched × WhenUnmatched)
ways_in ps =
    only_if (is_on (find (codes "on") ps)) (ways (otherwise M.Merge matched_value (find (codes "whenMatched") ps)) (otherwise U.Insert unmatched_value (find (codes "whenNotMatched") ps)))

abbrev pub merge_in : Fields → Option StageNode
merge_in ps = ways_in ps >>= λ w. read_at collection_value (codes "into") ps >>= λ into. Some (merged into w.0 w.1)

abbrev pub merge_form : Tree → Option StageNode
merge_form t = form_in (codes "into" ∷ []) (codes "on" ∷ codes "whenMatched" ∷ codes "whenNotMatched" ∷ []) t >>= merge_in

abbrev pub merge_name : List ℕ → Option StageNode
merge_name s = collection_name s >>= λ into. Some (merged into M.Merge U.Insert)

abbrev pub merge_by : Option (List ℕ) → Tree → Option StageNode
merge_by (Some s) t = merge_name s
merge_by None t = merge_form t

abbrev pub merge_reading : Tree → Option StageNode
merge_reading t = merge_by (as_text t) t

-- ---- `$graphLookup`

abbrev pub restriction : Tree → Option QueryNode
restriction t = as_fields t >>= query_reading false

-- the paths from and to, and the path that is set
abbrev pub graph_ways : Fields → Option (Steps × Steps × Steps)
graph_ways ps = read_at path_text (codes "connectFromField") ps >>= λ a. read_at path_text (codes "connectToField") ps >>= λ b. read_at path_text (codes "as") ps >>= λ c. Some (a, b, c)

abbrev pub Limits : Type 0
Limits = Option ℕ × Option Steps × Option QueryNode

abbrev pub graph_limits : Fields → Option Limits
graph_limits ps =
    maybe as_count (find (codes "maxDepth") ps) >>= λ most. maybe path_text (find (codes "depthField") ps) >>= λ depth. maybe restriction (find (codes "restrictSearchWithMatch") ps) >>= λ restrict.
    Some (most, depth, restrict)

abbrev pub graph_of : List ℕ → Node → Steps × Steps × Steps → Limits → StageNode
graph_of from start w l = stage (graph_lookup from start w.0 w.1 w.2 l.0 l.1 l.2) no_pipes

abbrev pub graph_in : Fields → Option StageNode
graph_in ps = read_at collection_value (codes "from") ps >>= λ from. read_at expr_value (codes "startWith") ps >>= λ start. graph_ways ps >>= λ w. graph_limits ps >>= λ l. Some (graph_of from start w l)

abbrev pub graph_reading : Tree → Option StageNode
graph_reading t =
    form_in (codes "from" ∷ codes "startWith" ∷ codes "connectFromField" ∷ codes "connectToField" ∷ codes "as" ∷ []) (codes "maxDepth" ∷ codes "depthField" ∷ codes "restrictSearchWithMatch" ∷ []) t >>= graph_in

-- ---- `$setWindowFields`

abbrev pub edge_named : List ℕ → Option (Option ℤ)
edge_named s = if bytes_eq s (codes "current") then Some (Some (pos 0)) else only_if (bytes_eq s (codes "unbounded")) (Some None)

abbrev pub edge_by : Option ℤ → Tree → Option (Option ℤ)
edge_by (Some n) t = Some (Some n)
edge_by None t = as_text t >>= edge_named

abbrev pub edge : Tree → Option (Option ℤ)
edge t = edge_by (as_whole t) t

abbrev pub two_items : List Tree → Option (Tree × Tree)
two_items [] = None
two_items (a ∷ []) = None
two_items (a ∷ b ∷ []) = Some (a, b)
two_items (a ∷ b ∷ c ∷ ts) = None

abbrev pub edges : Tree → Tree → Option (Option ℤ × Option ℤ)
edges a b = edge a >>= λ low. edge b >>= λ high. only_if (in_order low high) (Some (low, high))

abbrev pub edges_in : List Tree → Option (Option ℤ × Option ℤ)
edges_in ts = two_items ts >>= λ p. edges p.0 p.1

abbrev pub documents_frame : List ℕ × Tree → Option (Option ℤ × Option ℤ)
documents_frame p = only_if (bytes_eq p.0 (codes "documents")) (as_items p.1 >>= edges_in)

abbrev pub frame : Tree → Option (Option ℤ × Option ℤ)
frame t = as_fields t >>= λ ps. one_field ps >>= documents_frame

abbrev pub accumulated : List ℕ → Tree → Option ℤ × Option ℤ → Option WindowHead
accumulated n t f = accumulator n t >>= λ a. only_if (has_window a.0) (Some (accumulates a.0 a.1 f.0 f.1))

abbrev pub framed : List ℕ → Tree → Tree → Option WindowHead
framed n t w = frame w >>= accumulated n t

abbrev pub shift_in : Fields → Option WindowHead
shift_in ps = read_at as_whole (codes "by") ps >>= λ by. read_at expr_value (codes "output") ps >>= λ e. Some (shift e by (or_null (find (codes "default") ps)))

abbrev pub shift_value : Tree → Option WindowHead
shift_value t = form_in (codes "output" ∷ codes "by" ∷ []) (codes "default" ∷ []) t >>= shift_in

-- a function that takes an empty document, where it is allowed
abbrev pub bare_function : Bool → Tree → WindowHead → Option WindowHead
bare_function allowed t h = only_if (allowed && is_empty_doc t) (Some h)

abbrev pub alone : Bool → List ℕ → Tree → Option WindowHead
alone sorted n t =
    if bytes_eq n (codes "$rank") then bare_function sorted t rank else
    if bytes_eq n (codes "$denseRank") then bare_function sorted t dense_rank else
    if bytes_eq n (codes "$documentNumber") then bare_function true t place else
    if bytes_eq n (codes "$shift") then shift_value t else
    accumulated n t (None, None)

-- a function and its window, in either order
abbrev pub with_window : (List ℕ × Tree) × (List ℕ × Tree) → Option WindowHead
with_window p = if bytes_eq p.0.0 (codes "window") then framed p.1.0 p.1.1 p.0.1 else only_if (bytes_eq p.1.0 (codes "window")) (framed p.0.0 p.0.1 p.1.1)

abbrev pub function_by : Bool → Option (List ℕ × Tree) → Fields → Option WindowHead
function_by sorted (Some p) ps = alone sorted p.0 p.1
function_by sorted None ps = two_fields ps >>= with_window

abbrev pub function_in : Bool → Fields → Option WindowHead
function_in sorted ps = function_by sorted (one_field ps) ps

abbrev pub function : Bool → Tree → Option WindowHead
function sorted t = as_fields t >>= function_in sorted

abbrev pub output : Bool → List ℕ × Tree → Option (Steps × WindowHead)
output sorted f = path_in f.0 >>= λ path. function sorted f.1 >>= λ h. Some (path, h)

abbrev pub if_apart : List (Steps × WindowHead) → Option (List (Steps × WindowHead))
if_apart os = only_if (are_apart (map (λ o. o.0) os)) (Some os)

abbrev pub outputs_in : Bool → Fields → Option (List (Steps × WindowHead))
outputs_in sorted fs = each (output sorted) fs >>= if_apart

abbrev pub outputs : Bool → Tree → Option (List (Steps × WindowHead))
outputs sorted t = as_fields t >>= outputs_in sorted

abbrev pub outputs_at : Bool → Fields → Option (List (Steps × WindowHead))
outputs_at sorted ps = read_at (outputs sorted) (codes "output") ps

abbrev pub keys_value : Tree → Option Keys
keys_value t = as_fields t >>= sort_keys

abbrev pub window_in : Fields → Option StageNode
window_in ps =
    otherwise nothing expr_value (find (codes "partitionBy") ps) >>= λ partition. otherwise [] keys_value (find (codes "sortBy") ps) >>= λ keys.
    outputs_at (is_some (find (codes "sortBy") ps)) ps >>= λ os. Some (stage (window partition keys os) no_pipes)

abbrev pub window_reading : Tree → Option StageNode
window_reading t = form_in (codes "output" ∷ []) (codes "partitionBy" ∷ codes "sortBy" ∷ []) t >>= window_in

-- ---- by name

abbrev pub joining_stage_reading : List ℕ → Tree → Option StageNode
joining_stage_reading n t =
    if bytes_eq n (codes "$lookup") then lookup_reading t else
    if bytes_eq n (codes "$group") then group_reading t else
    if bytes_eq n (codes "$merge") then merge_reading t else
    if bytes_eq n (codes "$graphLookup") then graph_reading t else
    if bytes_eq n (codes "$setWindowFields") then window_reading t else
    None
