-- Reading a stage: what the value behind its name is, if it is one of these stages.
use Rattle.std.specs.Prelude.{◌≡◌, ℕ, Bool, true, false, not, ◌==◌, ◌&&◌, List, [], ◌∷◌, ◌++◌, length, Option, Some, None, codes, if◌then◌else◌}
use Rattle.std.specs.List.{list_all}
use Rattle.bson_value.specs.Pairs.{find}
use Rattle.bson_value.specs.Paths.{Steps}
use Rattle.bson_value.specs.Tree.{text, Tree, leaf, doc, list, members}
use Rattle.expr_tree.specs.Node.{Node}
use Rattle.expr_tree.specs.QueryNode.{QueryNode}
use Rattle.expr_read.specs.Reading.{only_if, path_in, reading, ◌>>=◌}
use Rattle.query_read.specs.Reading.{query_reading}
use Rattle.stage_tree.specs.Outcome.{Fields}
use Rattle.stage_tree.specs.Stage.{Made, Keys, match, project, add_fields, unset, replace_root, unwind, sort, limit, skip, count, StageNode, stage, no_pipes}
use Rattle.stage_parts.specs.Each.{each}
use Rattle.stage_parts.specs.Keys.{sort_keys}
use Rattle.stage_parts.specs.Names.{has_only, field_name}
use Rattle.stage_parts.specs.Paths.{path_text, field_path, are_apart}
use Rattle.stage_parts.specs.Values.{as_text, as_fields, as_items, as_flag, as_count}
use Rattle.stage_forms.specs.declared.kind.Kind.{Kind}
use Rattle.stage_forms.specs.declared.kind.Kind.TheVariants as K
use Rattle.stage_forms.specs.Kinds.{kind_named}
use Rattle.stage_forms.specs.Leaves.{Leaves, leaves_reading}
use Rattle.stage_forms.specs.Project.{said, is_id, excludes, fits, keeps_id}
use Rattle.stage_forms.specs.Written.{paths_of}

-- `$match`
abbrev pub match_of : ℕ → QueryNode → StageNode
match_of number q = stage (match ((q, number) ∷ [])) no_pipes

abbrev pub match_reading : ℕ → Tree → Option StageNode
match_reading number t = as_fields t >>= λ ps. query_reading true ps >>= λ q. Some (match_of number q)

-- `$addFields`
abbrev pub set_reading : Steps × Tree → Option (Steps × Node)
set_reading l = reading l.1 [] >>= λ e. Some (l.0, e)

abbrev pub made_from : Made → Leaves → Option Made
made_from front [] = Some front
made_from front (l ∷ ls) = set_reading l >>= λ m. made_from (front ++ m ∷ []) ls

abbrev pub add_fields_of : Made → StageNode
add_fields_of made = stage (add_fields made) no_pipes

abbrev pub add_fields_reading : Tree → Option StageNode
add_fields_reading t = as_fields t >>= λ ps. leaves_reading ps >>= λ ls. made_from [] ls >>= λ made. Some (add_fields_of made)

-- `$project`: the paths that are listed and those that are set, behind those that there are
abbrev pub Listed : Type 0
Listed = List Steps × Made

abbrev pub listed_more : Steps → Listed → Listed
listed_more p front = if is_id p then front else (front.0 ++ p ∷ [], front.1)

abbrev pub set_more : Listed → Steps × Node → Listed
set_more front m = (front.0, front.1 ++ m ∷ [])

abbrev pub part_from : Option Bool → Listed → Steps × Tree → Option Listed
part_from (Some b) front l = Some (listed_more l.0 front)
part_from None front l = set_reading l >>= λ m. Some (set_more front m)

abbrev pub parts_from : Listed → Leaves → Option Listed
parts_from front [] = Some front
parts_from front (l ∷ ls) = part_from (said l.1) front l >>= λ more. parts_from more ls

abbrev pub project_of : Bool → Bool → Listed → StageNode
project_of id_stays excl parts = stage (project id_stays excl parts.0 parts.1) no_pipes

abbrev pub is_even : Bool → Leaves → Bool
is_even excl ls = not (length ls == 0) && list_all (fits excl) ls

abbrev pub project_over : Bool → Leaves → Option StageNode
project_over excl ls = only_if (is_even excl ls) (parts_from ([], []) ls >>= λ parts. Some (project_of (keeps_id excl ls) excl parts))

abbrev pub project_leaves : Leaves → Option StageNode
project_leaves ls = project_over (excludes ls) ls

abbrev pub project_reading : Tree → Option StageNode
project_reading t = as_fields t >>= λ ps. leaves_reading ps >>= project_leaves

-- `$unset`
abbrev pub one_path : Tree → Option (List Steps)
one_path t = path_text t >>= λ p. Some (p ∷ [])

abbrev pub some_paths : List Tree → Option (List Steps)
some_paths ts = only_if (not (length ts == 0)) (each path_text ts)

abbrev pub unset_from : Option (List Tree) → Tree → Option (List Steps)
unset_from (Some ts) t = some_paths ts
unset_from None t = one_path t

abbrev pub unset_of : List Steps → Option StageNode
unset_of ps = only_if (are_apart ps) (Some (stage (unset ps) no_pipes))

abbrev pub unset_reading : Tree → Option StageNode
unset_reading t = unset_from (as_items t) t >>= unset_of

-- `$replaceWith`, and `$replaceRoot` with one name
abbrev pub replace_reading : Tree → Option StageNode
replace_reading t = reading t [] >>= λ e. Some (stage (replace_root e) no_pipes)

abbrev pub new_root : Fields → Option StageNode
new_root ps = only_if (length ps == 1) (find (codes "newRoot") ps >>= replace_reading)

abbrev pub replace_root_reading : Tree → Option StageNode
replace_root_reading t = as_fields t >>= new_root

-- `$unwind`
abbrev pub unwind_of : Steps → Option Steps → Bool → Option StageNode
unwind_of path index stays = only_if (are_apart (paths_of path index)) (Some (stage (unwind path index stays) no_pipes))

abbrev pub index_reading : Option Tree → Option (Option Steps)
index_reading None = Some None
index_reading (Some t) = path_text t >>= λ p. Some (Some p)

abbrev pub preserve_reading : Option Tree → Option Bool
preserve_reading None = Some false
preserve_reading (Some t) = as_flag t

abbrev pub unwind_parts : Option Steps → Option (Option Steps) → Option Bool → Option StageNode
unwind_parts path index stays = path >>= λ p. index >>= λ i. stays >>= λ b. unwind_of p i b

abbrev pub path_at : List ℕ → Fields → Option Steps
path_at name ps = find name ps >>= field_path

abbrev pub unwind_fields : Fields → Option StageNode
unwind_fields ps =
    only_if (has_only (codes "path" ∷ []) (codes "includeArrayIndex" ∷ codes "preserveNullAndEmptyArrays" ∷ []) ps)
    (unwind_parts (path_at (codes "path") ps) (index_reading (find (codes "includeArrayIndex") ps)) (preserve_reading (find (codes "preserveNullAndEmptyArrays") ps)))

abbrev pub unwind_path : Tree → Option StageNode
unwind_path t = field_path t >>= λ p. Some (stage (unwind p None false) no_pipes)

abbrev pub unwind_from : Option Fields → Tree → Option StageNode
unwind_from (Some ps) t = unwind_fields ps
unwind_from None t = unwind_path t

abbrev pub unwind_reading : Tree → Option StageNode
unwind_reading t = unwind_from (as_fields t) t

-- `$sort`, `$limit`, `$skip`, `$count`
abbrev pub sort_reading : Tree → Option StageNode
sort_reading t = as_fields t >>= λ ps. sort_keys ps >>= λ keys. Some (stage (sort keys None) no_pipes)

abbrev pub limit_reading : Tree → Option StageNode
limit_reading t = as_count t >>= λ n. only_if (not (n == 0)) (Some (stage (limit n) no_pipes))

abbrev pub skip_reading : Tree → Option StageNode
skip_reading t = as_count t >>= λ n. Some (stage (skip n) no_pipes)

abbrev pub count_reading : Tree → Option StageNode
count_reading t = as_text t >>= λ s. field_name s >>= λ name. Some (stage (count name) no_pipes)

-- by the kind of stage
abbrev pub by_kind : Kind → ℕ → Tree → Option StageNode
by_kind K.Match number t = match_reading number t
by_kind K.Project number t = project_reading t
by_kind K.AddFields number t = add_fields_reading t
by_kind K.Unset number t = unset_reading t
by_kind K.ReplaceRoot number t = replace_root_reading t
by_kind K.ReplaceWith number t = replace_reading t
by_kind K.Unwind number t = unwind_reading t
by_kind K.Sort number t = sort_reading t
by_kind K.Limit number t = limit_reading t
by_kind K.Skip number t = skip_reading t
by_kind K.Count number t = count_reading t

-- the stage that a name and the value behind it are
abbrev pub plain_stage_reading : ℕ → List ℕ → Tree → Option StageNode
plain_stage_reading number name t = kind_named name >>= λ kind. by_kind kind number t
