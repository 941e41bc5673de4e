-- What is spelled is read so.
use Rattle.std.proofs.Common.{◌≡◌, ℕ, ◌<◌, Bool, true, false, List, [], ◌∷◌, length, refl, sym, ap, ◌∙◌, inl, inr}
use Rattle.std.specs.Prelude.{Option, Some, None, ◌⊎◌, codes}
use Rattle.bson_value.specs.Pairs.{find}
use Rattle.bson_value.specs.Paths.{Steps}
use Rattle.bson_value.specs.Tree.{Tree}
use Rattle.expr_tree.specs.Node.{Node}
use Rattle.expr_tree.specs.QueryNode.{QueryNode}
use Rattle.expr_tree.specs.Spells.{Spells}
use Rattle.expr_read.proofs.PathTexts.{path_read}
use Rattle.expr_read.proofs.Spelled.{only as expr_only}
use Rattle.query_read.proofs.Spelled.{read_so as query_only}
use Rattle.stage_tree.specs.Stage.{Made, Keys, match, project, add_fields, unset, replace_root, unwind, sort, limit, skip, count, StageNode, stage, no_pipes}
use Rattle.stage_parts.specs.Each.{each}
use Rattle.stage_parts.specs.Paths.{path_text, are_apart}
use Rattle.stage_parts.specs.Values.{as_count}
use Rattle.stage_parts.proofs.Each.{each_only}
use Rattle.stage_parts.proofs.SortKeys.{keys_only}
use Rattle.stage_parts.proofs.Options.{some_same}
use Rattle.stage_parts.proofs.Trees.{entries_pairs, members_trees}
use Rattle.stage_forms.specs.declared.kind.Kind.TheVariants as K
use Rattle.stage_forms.specs.Reading.{match_reading, project_reading, project_over, add_fields_reading, unset_from, unset_of, unset_reading, replace_reading, replace_root_reading, index_reading, preserve_reading, path_at, unwind_of, unwind_fields, unwind_reading, sort_reading, limit_reading, count_reading, plain_stage_reading}
use Rattle.stage_forms.specs.Written.{IsMatch, IsProject, IsAddFields, IsPathValue, AreUnset, IsUnset, IsNewRoot, IsIndex, IsPreserve, IsUnwindDocument, IsUnwind, IsCount, IsSort, SpellsPlainStage}
use Rattle.stage_forms.proofs.Listed.{made_only, parts_only}
use Rattle.stage_forms.proofs.Values.{path_value_only, field_value_only, leaves_only, not_none}

match_only : (number : ℕ) (t : Tree) (is : List (QueryNode × ℕ)) → IsMatch number t is → match_reading number t ≡ Some (stage (match is) no_pipes)
match_only number t is m = rw (m.form, entries_pairs m.fields, query_only true m.fields m.query m.spells, m.item) refl

add_fields_only : (t : Tree) (made : Made) → IsAddFields t made → add_fields_reading t ≡ Some (stage (add_fields made) no_pipes)
add_fields_only t made a = rw (a.form, entries_pairs a.fields, leaves_only a.fields a.leaves a.are_leaves, made_only [] a.leaves made a.paths_set) refl

project_only : (t : Tree) (b excl : Bool) (paths : List Steps) (made : Made) → IsProject t b excl paths made → project_reading t ≡ Some (stage (project b excl paths made) no_pipes)
project_only t b excl paths made p =
    rw (p.form, entries_pairs p.fields, leaves_only p.fields p.leaves p.are_leaves, p.kind, not_none (length p.leaves) p.some, p.even, parts_only ([], []) p.leaves made p.paths_set, p.id, p.paths_listed) refl

unset_paths_only : (t : Tree) (paths : List Steps) → AreUnset t paths → unset_reading t ≡ unset_of paths
unset_paths_only t paths (inl h) = rw (h.1.form, path_read h.1.words h.0 h.1.is_path h.1.steps, h.2) refl
unset_paths_only t paths (inr h) = rw (h.1, members_trees h.0, not_none (length h.0) h.2, each_only path_text IsPathValue path_value_only [] h.0 paths h.3) refl

unset_only : (t : Tree) (paths : List Steps) → IsUnset t paths → unset_reading t ≡ Some (stage (unset paths) no_pipes)
unset_only t paths h = unset_paths_only t paths h.0 ∙ rw h.1 refl

replace_only : (t : Tree) (e : Node) → Spells [] t e → replace_reading t ≡ Some (stage (replace_root e) no_pipes)
replace_only t e h = rw (expr_only e [] t h) refl

new_root_only : (t : Tree) (e : Node) → IsNewRoot t e → replace_root_reading t ≡ Some (stage (replace_root e) no_pipes)
new_root_only t e h = rw h.1 (replace_only h.0 e h.2)

index_only : (o : Option Tree) (i : Option Steps) → IsIndex o i → index_reading o ≡ Some i
index_only None i h = ap Some (sym h)
index_only (Some t) i h = rw (path_value_only t h.0 h.1) (ap Some (sym h.2))

preserve_only : (o : Option Tree) (b : Bool) → IsPreserve o b → preserve_reading o ≡ Some b
preserve_only None b h = ap Some (sym h)
preserve_only (Some t) b h = h

unwind_only : (t : Tree) (path : Steps) (index : Option Steps) (b : Bool) → IsUnwind t path index b → unwind_reading t ≡ Some (stage (unwind path index b) no_pipes)
unwind_only t path index b (inl h) = rw (h.0.form, path_read h.0.words path h.0.is_path h.0.steps, h.1, h.2) refl
unwind_only t path index b (inr u) =
    rw (u.form, entries_pairs u.fields, u.names, u.found, field_value_only u.array path u.is_array, index_only (find (codes "includeArrayIndex") u.fields) index u.is_index, preserve_only (find (codes "preserveNullAndEmptyArrays") u.fields) b u.preserve, u.apart) refl

sort_only : (t : Tree) (keys : Keys) → IsSort t keys → sort_reading t ≡ Some (stage (sort keys None) no_pipes)
sort_only t keys h = rw (h.1, entries_pairs h.0, keys_only h.0 keys h.2) refl

limit_only : (t : Tree) (n : ℕ) → as_count t ≡ Some n → 0 < n → limit_reading t ≡ Some (stage (limit n) no_pipes)
limit_only t n h p = rw (h, not_none n p) refl

count_only : (t : Tree) (n : List ℕ) → IsCount t n → count_reading t ≡ Some (stage (count n) no_pipes)
count_only t n h = rw (h.0, h.1) refl

-- what is spelled is read so
pub only : (number : ℕ) (name : List ℕ) (t : Tree) (s : StageNode) → SpellsPlainStage number name t s → plain_stage_reading number name t ≡ Some s
only number name t (stage (match is) no_pipes) h = rw h.0 (match_only number t is h.1)
only number name t (stage (project b excl paths made) no_pipes) h = rw h.0 (project_only t b excl paths made h.1)
only number name t (stage (add_fields made) no_pipes) h = rw h.0 (add_fields_only t made h.1)
only number name t (stage (unset paths) no_pipes) h = rw h.0 (unset_only t paths h.1)
only number name t (stage (replace_root e) no_pipes) (inl h) = rw h.0 (new_root_only t e h.1)
only number name t (stage (replace_root e) no_pipes) (inr h) = rw h.0 (replace_only t e h.1)
only number name t (stage (unwind path index b) no_pipes) h = rw h.0 (unwind_only t path index b h.1)
only number name t (stage (sort keys None) no_pipes) h = rw h.0 (sort_only t keys h.1)
only number name t (stage (limit n) no_pipes) h = rw h.0 (limit_only t n h.1 h.2)
only number name t (stage (skip n) no_pipes) h = rw (h.0, h.1) refl
only number name t (stage (count n) no_pipes) h = rw h.0 (count_only t n h.1)
only number name t s h = absurd h

pub one : (number : ℕ) (name : List ℕ) (t : Tree) (r s : StageNode) → SpellsPlainStage number name t r → SpellsPlainStage number name t s → r ≡ s
one number name t r s h k = some_same r s (sym (only number name t r h) ∙ only number name t s k)
