-- How deep what the operators of objects and `$split` give is nested.
use Rattle.std.proofs.Common.{◌≡◌, ℕ, ◌≤◌, Bool, true, false, cond, List, [], ◌∷◌, map, length, refl, arith}
use Rattle.std.specs.Prelude.{Option, Some, None, Result, Ok, Err, fold, codes, ◌==◌, not}
use Rattle.std.specs.List.{list_all}
use Rattle.std.specs.Option.{IfSome}
use Rattle.bson_value.specs.Tree.{Tree, Leaf, text, leaf, doc, list, entries, members}
use Rattle.bson_value.specs.Operands.{Operand, both, all, array_in, doc_in, text_in, gives_array}
use Rattle.bson_value.specs.Pairs.{find, put}
use Rattle.bson_value.specs.ObjectRows.{Fields, gives_doc, merged, leaf_field, field, field_of_both, doc_field, list_field, element_field, named, field_first, element_fields, object_of, array_to_object_row, pair_object, object_to_array_row, or_no_fields, merge_objects_row}
use Rattle.bson_value.specs.TextRows.{parts, split_by, split_row}
use Rattle.bson_value.specs.declared.eval_code.EvalCode.{EvalCode}
use Rattle.expr_tree.specs.Rows.{found_depth}
use Rattle.stage_laws.proofs.Inside.{Each, EachField, IsInside, each_map, map_each, each_weaker, each_put, each_find, in_members, in_entries, list_depth, doc_depth, deeper_fields}
use Rattle.stage_laws.proofs.Fitting.{Fits, row_fits, row_any, all_given, array_given, document_given}
use Rattle.stage_laws.proofs.ArrayDepths.{AllWithin, made_depth}

module _ (n : ℕ) where
  abbrev FieldsInside : Fields → Type 0
  FieldsInside ps = EachField (IsInside n) ps

  abbrev FieldInside : List ℕ × Tree → Type 0
  FieldInside p = IsInside n p.1

  pub merged_inside : (qs ps : Fields) → FieldsInside ps → FieldsInside qs → FieldsInside (merged ps qs)
  merged_inside [] ps h k = h
  merged_inside (q ∷ qs) ps h k = merged_inside qs (put q.0 q.1 ps) (each_put (IsInside n) q.0 q.1 ps k.0 h) k.1

  made_doc : (ps : Fields) → FieldsInside ps → Fits (made_depth n) (gives_doc ps)
  made_doc ps h = doc_depth (made_depth n) ps (omega arith) (deeper_fields n (made_depth n) ps (omega arith) h)

  -- ---- `$mergeObjects`

  all_merged : (pss : List Fields) (ps : Fields) → FieldsInside ps → Each FieldsInside pss → FieldsInside (fold merged ps pss)
  all_merged [] ps h k = h
  all_merged (qs ∷ pss) ps h k = all_merged pss (merged ps qs) (merged_inside qs ps h k.0) k.1

  fields_given : (v : Option Tree) (o : Operand Fields) → doc_in v ≡ o → found_depth v ≤ n → (ps : Fields) → or_no_fields o ≡ Ok (Some ps) → FieldsInside ps
  fields_given v (Err c) e le ps f = absurd (cc)
  fields_given v (Ok None) e le ps f = let s : ps ≡ [] = cc in rw s tt
  fields_given v (Ok (Some qs)) e le ps f = let s : ps ≡ qs = cc in rw s ((document_given n v qs le e).1)

  pub merge_fits : (vs : List (Option Tree)) → AllWithin n vs → Fits (made_depth n) (merge_objects_row vs)
  merge_fits vs h =
      row_fits (made_depth n) (all (map (λ v. or_no_fields (doc_in v)) vs)) (λ pss. gives_doc (fold merged [] pss))
      (λ pss e. made_doc (fold merged [] pss) (all_merged pss [] tt
      (all_given FieldsInside (map (λ v. or_no_fields (doc_in v)) vs) pss
      (map_each (λ o. (ps : Fields) → o ≡ Ok (Some ps) → FieldsInside ps) (λ v. or_no_fields (doc_in v)) vs
      (each_weaker (λ v. found_depth v ≤ n) (λ v. (ps : Fields) → or_no_fields (doc_in v) ≡ Ok (Some ps) → FieldsInside ps) (λ v le. fields_given v (doc_in v) refl le) vs h)) e)))

  -- ---- `$objectToArray`

  pairs_inside : (ps : Fields) → FieldsInside ps → Each (IsInside (made_depth n)) (map pair_object ps)
  pairs_inside [] h = tt
  pairs_inside (p ∷ ps) h = (omega (arith, h.0), pairs_inside ps h.1)

  pub to_array_fits : (vs : List (Option Tree)) → AllWithin n vs → Fits (made_depth n) (object_to_array_row vs)
  to_array_fits [] h = tt
  to_array_fits (v ∷ []) h =
      row_fits (made_depth n) (doc_in v) (λ ps. gives_array (map pair_object ps))
      (λ ps e. list_depth (made_depth n) (map pair_object ps) (omega arith) (pairs_inside ps (document_given n v ps h.0 e).1))
  to_array_fits (v ∷ w ∷ vs) h = tt

  -- ---- `$arrayToObject`

  leaf_inside : (l : Leaf) (v : Tree) → IsInside n v → IfSome (leaf_field l v) FieldInside
  leaf_inside (text s) v h = h
  leaf_inside l v h = tt

  field_inside : (k v : Tree) → IsInside n v → IfSome (field k v) FieldInside
  field_inside (leaf l) v h = leaf_inside l v h
  field_inside (doc ps) v h = tt
  field_inside (list ts) v h = tt

  of_both_inside : (k v : Option Tree) → IfSome v (IsInside n) → IfSome (field_of_both k v) FieldInside
  of_both_inside (Some k) (Some v) h = field_inside k v h
  of_both_inside (Some k) None h = tt
  of_both_inside None v h = tt

  some_if : (b : Bool) (o : Option (List ℕ × Tree)) → IfSome o FieldInside → IfSome (cond b o None) FieldInside
  some_if true o h = h
  some_if false o h = tt

  doc_field_inside : (ps : Fields) → FieldsInside ps → IfSome (doc_field ps) FieldInside
  doc_field_inside ps h = some_if (length ps == 2) (field_of_both (find (codes "k") ps) (find (codes "v") ps)) (of_both_inside (find (codes "k") ps) (find (codes "v") ps) (each_find (IsInside n) (codes "v") ps h))

  list_field_inside : (ts : List Tree) → Each (IsInside n) ts → IfSome (list_field ts) FieldInside
  list_field_inside [] h = tt
  list_field_inside (k ∷ []) h = tt
  list_field_inside (k ∷ v ∷ []) h = field_inside k v h.1.0
  list_field_inside (k ∷ v ∷ t ∷ ts) h = tt

  element_inside : (t : Tree) → IsInside n t → IfSome (element_field t) FieldInside
  element_inside (leaf l) h = tt
  element_inside (doc ps) h = doc_field_inside (entries ps) (in_entries n ps (omega arith))
  element_inside (list ts) h = list_field_inside (members ts) (in_members n ts (omega arith))

  abbrev OkFields : Result Fields EvalCode → Type 0
  OkFields (Ok ps) = FieldsInside ps
  OkFields (Err c) = Unit {0}

  abbrev OkField : Result (List ℕ × Tree) EvalCode → Type 0
  OkField (Ok p) = FieldInside p
  OkField (Err c) = Unit {0}

  named_if : (b : Bool) (p : List ℕ × Tree) (c : EvalCode) → FieldInside p → OkField (cond b (Ok p) (Err c))
  named_if true p c h = h
  named_if false p c h = tt

  named_inside : (o : Option (List ℕ × Tree)) → IfSome o FieldInside → OkField (named o)
  named_inside None h = tt
  named_inside (Some p) h = named_if (list_all (λ b. not (b == 0)) p.0) p _ h

  first_inside : (r : Result (List ℕ × Tree) EvalCode) (rs : Result Fields EvalCode) → OkField r → OkFields rs → OkFields (field_first r rs)
  first_inside (Err c) rs h k = tt
  first_inside (Ok p) (Err c) h k = tt
  first_inside (Ok p) (Ok ps) h k = (h, k)

  elements_inside : (ts : List Tree) → Each (IsInside n) ts → OkFields (element_fields ts)
  elements_inside [] h = tt
  elements_inside (t ∷ ts) h = first_inside (named (element_field t)) (element_fields ts) (named_inside (element_field t) (element_inside t h.0)) (elements_inside ts h.1)

  object_fits : (r : Result Fields EvalCode) → OkFields r → Fits (made_depth n) (object_of r)
  object_fits (Err c) h = tt
  object_fits (Ok ps) h = made_doc (merged [] ps) (merged_inside ps [] tt h)

  pub to_object_fits : (vs : List (Option Tree)) → AllWithin n vs → Fits (made_depth n) (array_to_object_row vs)
  to_object_fits [] h = tt
  to_object_fits (v ∷ []) h =
      row_fits (made_depth n) (array_in v) (λ ts. object_of (element_fields ts)) (λ ts e. object_fits (element_fields ts) (elements_inside ts (array_given n v ts h.0 e).1))
  to_object_fits (v ∷ w ∷ vs) h = tt

  -- ---- `$split`

  split_by_fits : (s sep : List ℕ) → Fits (made_depth n) (split_by s sep)
  split_by_fits s [] = tt
  split_by_fits s (b ∷ sep) =
      list_depth (made_depth n) (map (λ part. leaf (text part)) (parts (b ∷ sep) 0 s)) (omega arith)
      (each_map (IsInside (made_depth n)) (λ (part : List ℕ). leaf (text part)) (parts (b ∷ sep) 0 s) (λ part. omega arith))

  pub split_fits : (vs : List (Option Tree)) → Fits (made_depth n) (split_row vs)
  split_fits [] = tt
  split_fits (t ∷ []) = tt
  split_fits (t ∷ sep ∷ []) = row_any (made_depth n) (both (text_in t) (text_in sep)) (λ p. split_by p.0 p.1) (λ p. split_by_fits p.0 p.1)
  split_fits (t ∷ sep ∷ v ∷ vs) = tt
