-- What is read is spelled so.
use Rattle.std.proofs.Common.{◌≡◌, ℕ, ◌<◌, Bool, true, false, List, [], ◌∷◌, ◌++◌, length, refl, sym, ap, ◌∙◌, inl, inr, subst}
use Rattle.std.specs.Prelude.{Option, Some, None, ◌⊎◌, ◌==◌, not, codes}
use Rattle.std.specs.List.{list_all}
use Rattle.bson_value.specs.Pairs.{find}
use Rattle.bson_value.specs.Paths.{Steps}
use Rattle.bson_value.specs.Tree.{text, Tree, leaf, list, trees_of, doc, pairs_of}
use Rattle.expr_tree.specs.Node.{Node}
use Rattle.expr_tree.specs.QueryNode.{QueryNode}
use Rattle.expr_read.specs.Reading.{only_if, reading, ◌>>=◌}
use Rattle.expr_read.proofs.Sound.{spelled as expr_spelled}
use Rattle.query_read.specs.Reading.{query_reading}
use Rattle.query_read.proofs.Sound.{spelled as query_spelled}
use Rattle.stage_tree.specs.Outcome.{Fields}
use Rattle.stage_tree.specs.Stage.{Made, Keys, unset, replace_root, unwind, sort, limit, skip, count, StageNode, stage, no_pipes}
use Rattle.stage_parts.specs.Each.{each}
use Rattle.stage_parts.specs.Keys.{sort_keys}
use Rattle.stage_parts.specs.Names.{has_only, field_name, is_field_name}
use Rattle.stage_parts.specs.Paths.{path_text, field_path, are_apart}
use Rattle.stage_parts.specs.Values.{as_text, as_fields, as_items, as_flag, as_count}
use Rattle.stage_parts.proofs.Each.{each_found_all}
use Rattle.stage_parts.proofs.SortKeys.{keys_found}
use Rattle.stage_parts.proofs.Options.{some_same, bind_some, only_some, both}
use Rattle.stage_parts.proofs.Trees.{text_is, fields_is, items_is}
use Rattle.stage_forms.specs.declared.kind.Kind.{Kind}
use Rattle.stage_forms.specs.declared.kind.Kind.TheVariants as K
use Rattle.stage_forms.specs.Kinds.{kind_named}
use Rattle.stage_forms.specs.Leaves.{Leaves, leaves_reading}
use Rattle.stage_forms.specs.Project.{excludes, fits, keeps_id}
use Rattle.stage_forms.specs.Reading.{match_of, match_reading, made_from, add_fields_of, add_fields_reading, Listed, parts_from, project_of, is_even, project_over, project_leaves, project_reading, one_path, some_paths, unset_from, unset_of, unset_reading, replace_reading, new_root, replace_root_reading, unwind_of, index_reading, preserve_reading, unwind_parts, path_at, unwind_fields, unwind_from, unwind_reading, sort_reading, limit_reading, skip_reading, count_reading, by_kind, plain_stage_reading}
use Rattle.stage_forms.specs.Written.{IsMatch, IsProject, IsAddFields, IsPathValue, AreUnset, IsNewRoot, IsIndex, IsPreserve, paths_of, IsUnwindDocument, IsUnwind, IsCount, IsSort, SpellsPlainStage}
use Rattle.stage_forms.proofs.Listed.{made_found, parts_found}
use Rattle.stage_forms.proofs.Values.{path_value_found, field_value_found, leaves_found, one_field, some_more}

module _ (number : ℕ) (name : List ℕ) (t : Tree) (s : StageNode) where
  match_found : kind_named name ≡ Some K.Match → match_reading number t ≡ Some s → SpellsPlainStage number name t s
  match_found k e =
      let p = bind_some (as_fields t) (λ ps. query_reading true ps >>= λ q. Some (match_of number q)) s e in
      let q = bind_some (query_reading true p.0) (λ q. Some (match_of number q)) s p.2 in
      subst (SpellsPlainStage number name t) (some_same (match_of number q.0) s q.2) (k, record { fields = p.0; query = q.0; form = fields_is t p.0 p.1; spells = query_spelled true p.0 q.0 q.1; item = refl })

  add_fields_found : kind_named name ≡ Some K.AddFields → add_fields_reading t ≡ Some s → SpellsPlainStage number name t s
  add_fields_found k e =
      let p = bind_some (as_fields t) (λ ps. leaves_reading ps >>= λ ls. made_from [] ls >>= λ made. Some (add_fields_of made)) s e in
      let l = bind_some (leaves_reading p.0) (λ ls. made_from [] ls >>= λ made. Some (add_fields_of made)) s p.2 in
      let m = bind_some (made_from [] l.0) (λ made. Some (add_fields_of made)) s l.2 in
      let f = made_found [] l.0 m.0 m.1 in
      subst (SpellsPlainStage number name t) (ap add_fields_of f.1 ∙ some_same (add_fields_of m.0) s m.2) (k, record { fields = p.0; leaves = l.0; form = fields_is t p.0 p.1; are_leaves = leaves_found p.0 l.0 l.1; paths_set = f.2 })

  project_found : kind_named name ≡ Some K.Project → project_reading t ≡ Some s → SpellsPlainStage number name t s
  project_found k e =
      let p = bind_some (as_fields t) (λ ps. leaves_reading ps >>= project_leaves) s e in
      let l = bind_some (leaves_reading p.0) project_leaves s p.2 in
      let w = only_some (is_even (excludes l.0) l.0) (parts_from ([], []) l.0 >>= λ parts. Some (project_of (keeps_id (excludes l.0) l.0) (excludes l.0) parts)) s l.2 in
      let b = both (not (length l.0 == 0)) (list_all (fits (excludes l.0)) l.0) w.0 in
      let m = bind_some (parts_from ([], []) l.0) (λ parts. Some (project_of (keeps_id (excludes l.0) l.0) (excludes l.0) parts)) s w.1 in
      let f = parts_found ([], []) l.0 m.0 m.1 in
      subst (SpellsPlainStage number name t)
      ((λ i. project_of (keeps_id (excludes l.0) l.0) (excludes l.0) (f.1 i, f.2 i)) ∙ some_same (project_of (keeps_id (excludes l.0) l.0) (excludes l.0) m.0) s m.2)
      (k, record { fields = p.0; leaves = l.0; form = fields_is t p.0 p.1; are_leaves = leaves_found p.0 l.0 l.1; some = some_more (length l.0) b.0; kind = refl; even = b.1; id = refl; paths_listed = refl; paths_set = f.3 })

  unset_paths_found : (ps : List Steps) (o : Option (List Tree)) → as_items t ≡ o → unset_from o t ≡ Some ps → AreUnset t ps
  unset_paths_found ps None f e =
      let p = bind_some (path_text t) (λ p. Some (p ∷ [])) ps e in
      inl (p.0, path_value_found t p.0 p.1, sym (some_same (p.0 ∷ []) ps p.2))
  unset_paths_found ps (Some ts) f e =
      let w = only_some (not (length ts == 0)) (each path_text ts) ps e in
      inr (ts, items_is t ts f, some_more (length ts) w.0, each_found_all path_text IsPathValue path_value_found ts ps w.1)

  unset_found : kind_named name ≡ Some K.Unset → unset_reading t ≡ Some s → SpellsPlainStage number name t s
  unset_found k e =
      let p = bind_some (unset_from (as_items t) t) unset_of s e in
      let w = only_some (are_apart p.0) (Some (stage (unset p.0) no_pipes)) s p.2 in
      subst (SpellsPlainStage number name t) (some_same (stage (unset p.0) no_pipes) s w.1) (k, (unset_paths_found p.0 (as_items t) refl p.1, w.0))

  replace_found : kind_named name ≡ Some K.ReplaceWith → replace_reading t ≡ Some s → SpellsPlainStage number name t s
  replace_found k e =
      let p = bind_some (reading t []) (λ n. Some (stage (replace_root n) no_pipes)) s e in
      subst (SpellsPlainStage number name t) (some_same (stage (replace_root p.0) no_pipes) s p.2) (inr (k, expr_spelled t [] p.0 p.1))

  replace_root_found : kind_named name ≡ Some K.ReplaceRoot → replace_root_reading t ≡ Some s → SpellsPlainStage number name t s
  replace_root_found k e =
      let p = bind_some (as_fields t) new_root s e in
      let w = only_some (length p.0 == 1) (find (codes "newRoot") p.0 >>= replace_reading) s p.2 in
      let v = bind_some (find (codes "newRoot") p.0) replace_reading s w.1 in
      let n = bind_some (reading v.0 []) (λ n. Some (stage (replace_root n) no_pipes)) s v.2 in
      subst (SpellsPlainStage number name t) (some_same (stage (replace_root n.0) no_pipes) s n.2)
      (inl (k, (v.0, fields_is t p.0 p.1 ∙ one_field (codes "newRoot") p.0 v.0 w.0 v.1, expr_spelled v.0 [] n.0 n.1)))

  index_found : (o : Option Tree) (i : Option Steps) → index_reading o ≡ Some i → IsIndex o i
  index_found None i e = sym (some_same None i e)
  index_found (Some v) i e = let p = bind_some (path_text v) (λ p. Some (Some p)) i e in (p.0, path_value_found v p.0 p.1, sym (some_same (Some p.0) i p.2))

  preserve_found : (o : Option Tree) (b : Bool) → preserve_reading o ≡ Some b → IsPreserve o b
  preserve_found None b e = sym (some_same false b e)
  preserve_found (Some v) b e = e

  unwind_found : (o : Option Fields) → kind_named name ≡ Some K.Unwind → as_fields t ≡ o → unwind_from o t ≡ Some s → SpellsPlainStage number name t s
  unwind_found None k f e =
      let p = bind_some (field_path t) (λ p. Some (stage (unwind p None false) no_pipes)) s e in
      subst (SpellsPlainStage number name t) (some_same (stage (unwind p.0 None false) no_pipes) s p.2) (k, inl (field_value_found t p.0 p.1, refl, refl))
  unwind_found (Some ps) k f e =
      let w = only_some (has_only (codes "path" ∷ []) (codes "includeArrayIndex" ∷ codes "preserveNullAndEmptyArrays" ∷ []) ps) (unwind_parts (path_at (codes "path") ps) (index_reading (find (codes "includeArrayIndex") ps)) (preserve_reading (find (codes "preserveNullAndEmptyArrays") ps))) s e in
      let p = bind_some (path_at (codes "path") ps) (λ p. index_reading (find (codes "includeArrayIndex") ps) >>= λ i. preserve_reading (find (codes "preserveNullAndEmptyArrays") ps) >>= λ b. unwind_of p i b) s w.1 in
      let i = bind_some (index_reading (find (codes "includeArrayIndex") ps)) (λ i. preserve_reading (find (codes "preserveNullAndEmptyArrays") ps) >>= λ b. unwind_of p.0 i b) s p.2 in
      let b = bind_some (preserve_reading (find (codes "preserveNullAndEmptyArrays") ps)) (λ b. unwind_of p.0 i.0 b) s i.2 in
      let a = only_some (are_apart (paths_of p.0 i.0)) (Some (stage (unwind p.0 i.0 b.0) no_pipes)) s b.2 in
      let v = bind_some (find (codes "path") ps) field_path p.0 p.1 in
      subst (SpellsPlainStage number name t) (some_same (stage (unwind p.0 i.0 b.0) no_pipes) s a.1) (
        k,
        inr (record {
          fields = ps;
          array = v.0;
          form = fields_is t ps f;
          names = w.0;
          found = v.1;
          is_array = field_value_found v.0 p.0 v.2;
          is_index = index_found (find (codes "includeArrayIndex") ps) i.0 i.1;
          preserve = preserve_found (find (codes "preserveNullAndEmptyArrays") ps) b.0 b.1;
          apart = a.0;
        }),
      )

  sort_found : kind_named name ≡ Some K.Sort → sort_reading t ≡ Some s → SpellsPlainStage number name t s
  sort_found k e =
      let p = bind_some (as_fields t) (λ ps. sort_keys ps >>= λ keys. Some (stage (sort keys None) no_pipes)) s e in
      let q = bind_some (sort_keys p.0) (λ keys. Some (stage (sort keys None) no_pipes)) s p.2 in
      subst (SpellsPlainStage number name t) (some_same (stage (sort q.0 None) no_pipes) s q.2) (k, (p.0, fields_is t p.0 p.1, keys_found p.0 q.0 q.1))

  limit_found : kind_named name ≡ Some K.Limit → limit_reading t ≡ Some s → SpellsPlainStage number name t s
  limit_found k e =
      let p = bind_some (as_count t) (λ n. only_if (not (n == 0)) (Some (stage (limit n) no_pipes))) s e in
      let w = only_some (not (p.0 == 0)) (Some (stage (limit p.0) no_pipes)) s p.2 in
      subst (SpellsPlainStage number name t) (some_same (stage (limit p.0) no_pipes) s w.1) (k, p.1, some_more p.0 w.0)

  skip_found : kind_named name ≡ Some K.Skip → skip_reading t ≡ Some s → SpellsPlainStage number name t s
  skip_found k e =
      let p = bind_some (as_count t) (λ n. Some (stage (skip n) no_pipes)) s e in
      subst (SpellsPlainStage number name t) (some_same (stage (skip p.0) no_pipes) s p.2) (k, p.1)

  count_found : kind_named name ≡ Some K.Count → count_reading t ≡ Some s → SpellsPlainStage number name t s
  count_found k e =
      let p = bind_some (as_text t) (λ x. field_name x >>= λ n. Some (stage (count n) no_pipes)) s e in
      let q = bind_some (field_name p.0) (λ n. Some (stage (count n) no_pipes)) s p.2 in
      let w = only_some (is_field_name p.0) (Some p.0) q.0 q.1 in
      subst (SpellsPlainStage number name t) (ap (λ n. stage (count n) no_pipes) (some_same p.0 q.0 w.1) ∙ some_same (stage (count q.0) no_pipes) s q.2) (k, (text_is t p.0 p.1, w.0))

  kind_found : (kind : Kind) → kind_named name ≡ Some kind → by_kind kind number t ≡ Some s → SpellsPlainStage number name t s
  kind_found K.Match k e = match_found k e
  kind_found K.Project k e = project_found k e
  kind_found K.AddFields k e = add_fields_found k e
  kind_found K.Unset k e = unset_found k e
  kind_found K.ReplaceRoot k e = replace_root_found k e
  kind_found K.ReplaceWith k e = replace_found k e
  kind_found K.Unwind k e = unwind_found (as_fields t) k refl e
  kind_found K.Sort k e = sort_found k e
  kind_found K.Limit k e = limit_found k e
  kind_found K.Skip k e = skip_found k e
  kind_found K.Count k e = count_found k e

  -- what is read is spelled so
  pub spelled : plain_stage_reading number name t ≡ Some s → SpellsPlainStage number name t s
  spelled e = let k = bind_some (kind_named name) (λ kind. by_kind kind number t) s e in kind_found k.0 k.1 k.2
