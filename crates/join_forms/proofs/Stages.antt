-- The stages, read and written.
use Rattle.std.proofs.Common.{◌≡◌, ℕ, Bool, true, false, List, [], ◌∷◌, map, refl, sym, ap, ◌∙◌, inl, inr, subst}
use Rattle.std.specs.Prelude.{Option, Some, None, ◌⊎◌, is_some, codes, Result, Ok, Err, IfOk}
use Rattle.std.specs.Str.{bytes_eq}
use Rattle.bson_value.specs.Pairs.{find}
use Rattle.bson_value.specs.Paths.{Steps}
use Rattle.bson_value.specs.Tree.{Tree, leaf, doc, list}
use Rattle.bson_value.specs.declared.acc_kind.AccKind.{AccKind}
use Rattle.expr_read.specs.declared.errors.FormError.{FormError}
use Rattle.expr_read.specs.declared.errors.FormError.TheVariants.{Form, Memory}
use Rattle.expr_read.specs.Reading.{only_if, ◌>>=◌}
use Rattle.expr_read.specs.Reads.{Reads}
use Rattle.expr_tree.specs.Node.{Node}
use Rattle.expr_tree.specs.Spells.{Fields, At, Spells}
use Rattle.join_forms.specs.Reading.{form_in, read_at, otherwise, expr_value, collection_value, lookup_in, lookup_reading, parts_from, group_in, group_reading, matched_value, unmatched_value, is_id, is_on, ways, ways_in, merged, merge_in, merge_form, merge_name, merge_by, merge_reading, output, if_apart, outputs_in, outputs, outputs_at, keys_value, window_in, window_reading, joining_stage_reading}
use Rattle.join_forms.specs.Words.{nothing, matched_named, unmatched_named}
use Rattle.join_forms.specs.Written.{IsForm, AtOr, IsPathValue, IsCollection, IsMatched, IsUnmatched, IsOutput, AreOutputs, IsLookup, IsGroup, IsMerge, IsWindow, SpellsJoiningStage}
use Rattle.join_forms.proofs.Functions.{output_only, output_found}
use Rattle.join_forms.proofs.Graphs.{graph_only, graph_found}
use Rattle.join_forms.proofs.Groups.{parts_only, parts_found}
use Rattle.join_forms.proofs.Pieces.{same_name, equal_name, unlike, only_if_so, form_only, form_found, at_only, at_found, otherwise_only, otherwise_found, path_only, path_found, collection_only, collection_found, expr_only, expr_found}
use Rattle.stage_parts.proofs.Each.{each_only, each_found_all}
use Rattle.stage_parts.proofs.SortKeys.{keys_only, keys_found}
use Rattle.stage_parts.proofs.Options.{some_same, bind_some, only_some, decided}
use Rattle.stage_parts.specs.Each.{each}
use Rattle.stage_parts.specs.Keys.{sort_keys, AreKeys}
use Rattle.stage_parts.specs.Names.{collection_name, is_collection_name}
use Rattle.stage_parts.specs.Paths.{path_text, are_apart}
use Rattle.stage_parts.specs.Values.{as_text, as_fields}
use Rattle.stage_tree.specs.Stage.{Keys, WindowHead, StageNode, stage, lookup, graph_lookup, group, window, merge, keep, match, project, add_fields, unset, replace_root, unwind, sort, limit, skip, count, facet, union, no_pipes}
use Rattle.stage_tree.specs.StageView.{stage_of}
use Rattle.stage_tree.specs.declared.stage.Stage.{Stage}
use Rattle.stage_tree.specs.declared.merge.WhenMatched.{WhenMatched}
use Rattle.stage_tree.specs.declared.merge.WhenMatched.TheVariants as M
use Rattle.stage_tree.specs.declared.merge.WhenUnmatched.{WhenUnmatched}
use Rattle.stage_tree.specs.declared.merge.WhenUnmatched.TheVariants as U

-- ---- `$lookup`

lookup_only : (t : Tree) (from : List ℕ) (local field target : Steps) → IsLookup t from local field target → lookup_reading t ≡ Some (stage (lookup from local field target None) no_pipes)
lookup_only t from local field target h =
    ap (λ o. o >>= lookup_in) (form_only (codes "from" ∷ codes "localField" ∷ codes "foreignField" ∷ codes "as" ∷ []) [] t h.0 h.1)
    ∙ rw (
      at_only collection_value IsCollection (codes "from") h.0 from (collection_only from) h.2,
      at_only path_text IsPathValue (codes "localField") h.0 local (path_only local) h.3,
      at_only path_text IsPathValue (codes "foreignField") h.0 field (path_only field) h.4,
      at_only path_text IsPathValue (codes "as") h.0 target (path_only target) h.5,
    )
    refl

lookup_found : (name : List ℕ) (t : Tree) (s : StageNode) → name ≡ codes "$lookup" → lookup_reading t ≡ Some s → SpellsJoiningStage name t s
lookup_found name t s n e =
    let f = bind_some (form_in (codes "from" ∷ codes "localField" ∷ codes "foreignField" ∷ codes "as" ∷ []) [] t) lookup_in s e in
    let a = bind_some (read_at collection_value (codes "from") f.0) (λ from. read_at path_text (codes "localField") f.0 >>= λ local. read_at path_text (codes "foreignField") f.0 >>= λ field. read_at path_text (codes "as") f.0 >>= λ target. Some (stage (lookup from local field target None) no_pipes)) s f.2 in
    let b = bind_some (read_at path_text (codes "localField") f.0) (λ local. read_at path_text (codes "foreignField") f.0 >>= λ field. read_at path_text (codes "as") f.0 >>= λ target. Some (stage (lookup a.0 local field target None) no_pipes)) s a.2 in
    let c = bind_some (read_at path_text (codes "foreignField") f.0) (λ field. read_at path_text (codes "as") f.0 >>= λ target. Some (stage (lookup a.0 b.0 field target None) no_pipes)) s b.2 in
    let d = bind_some (read_at path_text (codes "as") f.0) (λ target. Some (stage (lookup a.0 b.0 c.0 target None) no_pipes)) s c.2 in
    subst (SpellsJoiningStage name t) (some_same (stage (lookup a.0 b.0 c.0 d.0 None) no_pipes) s d.2) (
      n,
      (
        f.0,
        form_found (codes "from" ∷ codes "localField" ∷ codes "foreignField" ∷ codes "as" ∷ []) [] t f.0 f.1,
        at_found collection_value IsCollection (codes "from") f.0 a.0 (collection_found a.0) a.1,
        at_found path_text IsPathValue (codes "localField") f.0 b.0 (path_found b.0) b.1,
        at_found path_text IsPathValue (codes "foreignField") f.0 c.0 (path_found c.0) c.1,
        at_found path_text IsPathValue (codes "as") f.0 d.0 (path_found d.0) d.1,
      ),
    )

-- ---- `$group`

group_only : (t : Tree) (key : Node) (parts : List (List ℕ × (AccKind × Node))) → IsGroup t key parts → group_reading t ≡ Some (stage (group key parts false) no_pipes)
group_only t key parts h =
    ap (λ o. o >>= group_in) h.1
    ∙ ap (λ (o : Option Node). o >>= λ k. parts_from [] h.0 >>= λ ps. Some (stage (group k ps false) no_pipes)) (at_only expr_value (λ k v. Spells [] v k) (codes "_id") h.0 key (expr_only key) h.2)
    ∙ ap (λ (o : Option (List (List ℕ × (AccKind × Node)))). o >>= λ ps. Some (stage (group key ps false) no_pipes)) (parts_only h.0 [] parts h.3)

group_found : (name : List ℕ) (t : Tree) (s : StageNode) → name ≡ codes "$group" → group_reading t ≡ Some s → SpellsJoiningStage name t s
group_found name t s n e =
    let f = bind_some (as_fields t) group_in s e in
    let k = bind_some (read_at expr_value (codes "_id") f.0) (λ key. parts_from [] f.0 >>= λ parts. Some (stage (group key parts false) no_pipes)) s f.2 in
    let p = bind_some (parts_from [] f.0) (λ parts. Some (stage (group k.0 parts false) no_pipes)) s k.2 in
    let r = parts_found f.0 [] p.0 p.1 in
    subst (SpellsJoiningStage name t) (ap (λ ps. stage (group k.0 ps false) no_pipes) r.1 ∙ some_same (stage (group k.0 p.0 false) no_pipes) s p.2)
    (n, (f.0, f.1, at_found expr_value (λ x v. Spells [] v x) (codes "_id") f.0 k.0 (expr_found k.0) k.1, r.2))

-- ---- `$merge`

matched_only : (m : WhenMatched) (t : Tree) → IsMatched m t → matched_value t ≡ Some m
matched_only m t h = ap (λ o. o >>= matched_named) h.1 ∙ h.2

matched_found : (m : WhenMatched) (t : Tree) → matched_value t ≡ Some m → IsMatched m t
matched_found m t e = bind_some (as_text t) matched_named m e

unmatched_only : (m : WhenUnmatched) (t : Tree) → IsUnmatched m t → unmatched_value t ≡ Some m
unmatched_only m t h = ap (λ o. o >>= unmatched_named) h.1 ∙ h.2

unmatched_found : (m : WhenUnmatched) (t : Tree) → unmatched_value t ≡ Some m → IsUnmatched m t
unmatched_found m t e = bind_some (as_text t) unmatched_named m e

abbrev HasOn : Fields → Type 0
HasOn ps = (find (codes "on") ps ≡ None) ⊎ At (codes "on") ps (λ v. as_text v ≡ Some (codes "_id"))

on_only : (ps : Fields) → HasOn ps → is_on (find (codes "on") ps) ≡ true
on_only ps (inl h) = ap is_on h
on_only ps (inr h) = ap is_on h.1 ∙ ap is_id h.2

id_found : (o : Option (List ℕ)) → is_id o ≡ true → o ≡ Some (codes "_id")
id_found None e = absurd cc
id_found (Some s) e = ap Some (same_name s (codes "_id") e)

on_at : (ps : Fields) (o : Option Tree) → find (codes "on") ps ≡ o → is_on o ≡ true → HasOn ps
on_at ps None f e = inl f
on_at ps (Some v) f e = inr (v, f, id_found (as_text v) e)

abbrev merge_optional : List (List ℕ)
merge_optional = codes "on" ∷ codes "whenMatched" ∷ codes "whenNotMatched" ∷ []

fields_no_text : (t : Tree) (ps : Fields) → as_fields t ≡ Some ps → as_text t ≡ None
fields_no_text (doc qs) ps e = refl
fields_no_text (leaf l) ps e = absurd cc
fields_no_text (list ts) ps e = absurd cc

ways_only : (ps : Fields) (m : WhenMatched) (u : WhenUnmatched) → HasOn ps → AtOr M.Merge (codes "whenMatched") ps IsMatched m → AtOr U.Insert (codes "whenNotMatched") ps IsUnmatched u → ways_in ps ≡ Some (m, u)
ways_only ps m u o a b =
    only_if_so (is_on (find (codes "on") ps)) (ways (otherwise M.Merge matched_value (find (codes "whenMatched") ps)) (otherwise U.Insert unmatched_value (find (codes "whenNotMatched") ps))) (on_only ps o)
    ∙ ap (λ x. ways x (otherwise U.Insert unmatched_value (find (codes "whenNotMatched") ps))) (otherwise_only matched_value IsMatched (codes "whenMatched") ps m M.Merge (matched_only m) a)
    ∙ ap (λ x. ways (Some m) x) (otherwise_only unmatched_value IsUnmatched (codes "whenNotMatched") ps u U.Insert (unmatched_only u) b)

merge_only : (t : Tree) (into : List ℕ) (m : WhenMatched) (u : WhenUnmatched) → IsMerge t into m u → merge_reading t ≡ Some (merged into m u)
merge_only t into m u (inl h) =
    ap (λ o. merge_by o t) h.0.0 ∙ ap (λ (o : Option (List ℕ)). o >>= λ c. Some (merged c M.Merge U.Insert)) (only_if_so (is_collection_name into) (Some into) h.0.1) ∙ (λ i. Some (merged into (sym h.1 i) (sym h.2 i)))
merge_only t into m u (inr h) =
    ap (λ o. merge_by o t) (fields_no_text t h.0 h.1.0)
    ∙ ap (λ o. o >>= merge_in) (form_only (codes "into" ∷ []) merge_optional t h.0 h.1)
    ∙ ap (λ (o : Option (WhenMatched × WhenUnmatched)). o >>= λ w. read_at collection_value (codes "into") h.0 >>= λ c. Some (merged c w.0 w.1)) (ways_only h.0 m u h.3 h.4 h.5)
    ∙ ap (λ (o : Option (List ℕ)). o >>= λ c. Some (merged c m u)) (at_only collection_value IsCollection (codes "into") h.0 into (collection_only into) h.2)

merge_form_found : (name : List ℕ) (t : Tree) (s : StageNode) → name ≡ codes "$merge" → merge_form t ≡ Some s → SpellsJoiningStage name t s
merge_form_found name t s n e =
    let f = bind_some (form_in (codes "into" ∷ []) merge_optional t) merge_in s e in
    let w = bind_some (ways_in f.0) (λ x. read_at collection_value (codes "into") f.0 >>= λ c. Some (merged c x.0 x.1)) s f.2 in
    let c = bind_some (read_at collection_value (codes "into") f.0) (λ x. Some (merged x w.0.0 w.0.1)) s w.2 in
    let o = only_some (is_on (find (codes "on") f.0)) (ways (otherwise M.Merge matched_value (find (codes "whenMatched") f.0)) (otherwise U.Insert unmatched_value (find (codes "whenNotMatched") f.0))) w.0 w.1 in
    let a = bind_some (otherwise M.Merge matched_value (find (codes "whenMatched") f.0)) (λ x. otherwise U.Insert unmatched_value (find (codes "whenNotMatched") f.0) >>= λ y. Some (x, y)) w.0 o.1 in
    let b = bind_some (otherwise U.Insert unmatched_value (find (codes "whenNotMatched") f.0)) (λ y. Some (a.0, y)) w.0 a.2 in
    let same = some_same (a.0, b.0) w.0 b.2 in
    subst (SpellsJoiningStage name t) (ap (λ (x : WhenMatched × WhenUnmatched). merged c.0 x.0 x.1) same ∙ some_same (merged c.0 w.0.0 w.0.1) s c.2) (
      n,
      inr (
        f.0,
        form_found (codes "into" ∷ []) merge_optional t f.0 f.1,
        at_found collection_value IsCollection (codes "into") f.0 c.0 (collection_found c.0) c.1,
        on_at f.0 (find (codes "on") f.0) refl o.0,
        otherwise_found matched_value IsMatched (codes "whenMatched") f.0 a.0 M.Merge (matched_found a.0) a.1,
        otherwise_found unmatched_value IsUnmatched (codes "whenNotMatched") f.0 b.0 U.Insert (unmatched_found b.0) b.1,
      ),
    )

merge_by_found : (name : List ℕ) (t : Tree) (s : StageNode) → name ≡ codes "$merge" → (o : Option (List ℕ)) → as_text t ≡ o → merge_by o t ≡ Some s → SpellsJoiningStage name t s
merge_by_found name t s n None p e = merge_form_found name t s n e
merge_by_found name t s n (Some c) p e =
    let b = bind_some (collection_name c) (λ x. Some (merged x M.Merge U.Insert)) s e in
    let o = only_some (is_collection_name c) (Some c) b.0 b.1 in
    let same = some_same c b.0 o.1 in
    subst (SpellsJoiningStage name t) (some_same (merged b.0 M.Merge U.Insert) s b.2) (n, inl ((p ∙ ap Some same, subst (λ x. is_collection_name x ≡ true) same o.0), refl, refl))

-- ---- `$setWindowFields`

outputs_only : (sorted : Bool) (os : List (Steps × WindowHead)) (t : Tree) → AreOutputs sorted os t → outputs sorted t ≡ Some os
outputs_only sorted os t h =
    ap (λ o. o >>= outputs_in sorted) h.1 ∙ ap (λ o. o >>= if_apart) (each_only (output sorted) (IsOutput sorted) (output_only sorted) [] h.0 os h.2) ∙ only_if_so (are_apart (map (λ o. o.0) os)) (Some os) h.3

outputs_found : (sorted : Bool) (os : List (Steps × WindowHead)) (t : Tree) → outputs sorted t ≡ Some os → AreOutputs sorted os t
outputs_found sorted os t e =
    let f = bind_some (as_fields t) (outputs_in sorted) os e in
    let x = bind_some (each (output sorted) f.0) if_apart os f.2 in
    let o = only_some (are_apart (map (λ p. p.0) x.0)) (Some x.0) os x.2 in
    let same = some_same x.0 os o.1 in
    (f.0, f.1, each_found_all (output sorted) (IsOutput sorted) (output_found sorted) f.0 os (x.1 ∙ ap Some same), subst (λ (ps : List (Steps × WindowHead)). are_apart (map (λ p. p.0) ps) ≡ true) same o.0)

abbrev IsOrder : Keys → Tree → Type 0
IsOrder ks v = (fs : Fields) × (as_fields v ≡ Some fs) × AreKeys fs ks

order_only : (ks : Keys) (t : Tree) → IsOrder ks t → keys_value t ≡ Some ks
order_only ks t h = ap (λ o. o >>= sort_keys) h.1 ∙ keys_only h.0 ks h.2

order_found : (ks : Keys) (t : Tree) → keys_value t ≡ Some ks → IsOrder ks t
order_found ks t e = let b = bind_some (as_fields t) sort_keys ks e in (b.0, b.1, keys_found b.0 ks b.2)

abbrev window_optional : List (List ℕ)
window_optional = codes "partitionBy" ∷ codes "sortBy" ∷ []

abbrev window_of : Node → Keys → List (Steps × WindowHead) → StageNode
window_of e ks os = stage (window e ks os) no_pipes

window_only : (t : Tree) (e : Node) (ks : Keys) (os : List (Steps × WindowHead)) → IsWindow t e ks os → window_reading t ≡ Some (window_of e ks os)
window_only t e ks os h =
    let sorted : Bool = is_some (find (codes "sortBy") h.0) in
    ap (λ o. o >>= window_in) (form_only (codes "output" ∷ []) window_optional t h.0 h.1)
    ∙ ap (λ (o : Option Node). o >>= λ x. otherwise [] keys_value (find (codes "sortBy") h.0) >>= λ y. outputs_at (is_some (find (codes "sortBy") h.0)) h.0 >>= λ z. Some (window_of x y z))
    (otherwise_only expr_value (λ x v. Spells [] v x) (codes "partitionBy") h.0 e nothing (expr_only e) h.2)
    ∙ ap (λ (o : Option Keys). o >>= λ y. outputs_at (is_some (find (codes "sortBy") h.0)) h.0 >>= λ z. Some (window_of e y z)) (otherwise_only keys_value IsOrder (codes "sortBy") h.0 ks [] (order_only ks) h.3)
    ∙ ap (λ (o : Option (List (Steps × WindowHead))). o >>= λ z. Some (window_of e ks z)) (at_only (outputs sorted) (AreOutputs sorted) (codes "output") h.0 os (outputs_only sorted os) h.4)

window_found : (name : List ℕ) (t : Tree) (s : StageNode) → name ≡ codes "$setWindowFields" → window_reading t ≡ Some s → SpellsJoiningStage name t s
window_found name t s n e =
    let f = bind_some (form_in (codes "output" ∷ []) window_optional t) window_in s e in
    let sorted : Bool = is_some (find (codes "sortBy") f.0) in
    let a = bind_some (otherwise nothing expr_value (find (codes "partitionBy") f.0)) (λ x. otherwise [] keys_value (find (codes "sortBy") f.0) >>= λ y. outputs_at (is_some (find (codes "sortBy") f.0)) f.0 >>= λ z. Some (window_of x y z)) s f.2 in
    let b = bind_some (otherwise [] keys_value (find (codes "sortBy") f.0)) (λ y. outputs_at (is_some (find (codes "sortBy") f.0)) f.0 >>= λ z. Some (window_of a.0 y z)) s a.2 in
    let c = bind_some (outputs_at (is_some (find (codes "sortBy") f.0)) f.0) (λ z. Some (window_of a.0 b.0 z)) s b.2 in
    subst (SpellsJoiningStage name t) (some_same (window_of a.0 b.0 c.0) s c.2) (
      n,
      (
        f.0,
        form_found (codes "output" ∷ []) window_optional t f.0 f.1,
        otherwise_found expr_value (λ x v. Spells [] v x) (codes "partitionBy") f.0 a.0 nothing (expr_found a.0) a.1,
        otherwise_found keys_value IsOrder (codes "sortBy") f.0 b.0 [] (order_found b.0) b.1,
        at_found (outputs sorted) (AreOutputs sorted) (codes "output") f.0 c.0 (outputs_found sorted c.0) c.1,
      ),
    )

-- ---- by name

pub spelled : (name : List ℕ) (t : Tree) (s : StageNode) → joining_stage_reading name t ≡ Some s → SpellsJoiningStage name t s
spelled name t s e = elim (decided (bytes_eq name (codes "$lookup"))) [
  | inl c ↦ lookup_found name t s (same_name name (codes "$lookup") c) (rw c at e)
  | inr a ↦ elim (decided (bytes_eq name (codes "$group"))) [
    | inl c ↦ group_found name t s (same_name name (codes "$group") c) (rw (a, c) at e)
    | inr b ↦ elim (decided (bytes_eq name (codes "$merge"))) [
      | inl c ↦ merge_by_found name t s (same_name name (codes "$merge") c) (as_text t) refl (rw (a, b, c) at e)
      | inr c ↦ elim (decided (bytes_eq name (codes "$graphLookup"))) [
        | inl d ↦ graph_found name t s (same_name name (codes "$graphLookup") d) (rw (a, b, c, d) at e)
        | inr d ↦ elim (decided (bytes_eq name (codes "$setWindowFields"))) [
          | inl f ↦ window_found name t s (same_name name (codes "$setWindowFields") f) (rw (a, b, c, d, f) at e)
          | inr f ↦ absurd (no_some (rw (a, b, c, d, f) at e))
        ]
      ]
    ]
  ]
]
  where
    no_some : None ≡ Some s → ⊥
    no_some q = absurd cc

pub only : (s : StageNode) (name : List ℕ) (t : Tree) → SpellsJoiningStage name t s → joining_stage_reading name t ≡ Some s
only (stage (lookup from local field target None) no_pipes) name t h = rw h.0 (lookup_only t from local field target h.1)
only (stage (group key parts false) no_pipes) name t h = rw h.0 (group_only t key parts h.1)
only (stage (merge into m u) no_pipes) name t h = rw h.0 (merge_only t into m u h.1)
only (stage (graph_lookup from start a b c m d r) no_pipes) name t h = rw h.0 (graph_only t from start a b c m d r h.1)
only (stage (window e ks os) no_pipes) name t h = rw h.0 (window_only t e ks os h.1)
only s name t h = absurd h

-- ---- an answer that is the reading, said as what is spelled

pub found : (name : List ℕ) (t : Tree) (r : Result Stage FormError) → Reads stage_of r (joining_stage_reading name t) → IfOk r (λ s. SpellsJoiningStage name t (stage_of s))
found name t (Ok s) h = spelled name t (stage_of s) h
found name t (Err e) h = tt

pub refused : (name : List ℕ) (t : Tree) (r : Result Stage FormError) → Reads stage_of r (joining_stage_reading name t) → r ≡ Err Form → (s : StageNode) → ¬ SpellsJoiningStage name t s
refused name t (Ok s) h p = absurd cc
refused name t (Err Memory) h p = absurd cc
refused name t (Err Form) h p = λ s q. no_some (sym h ∙ only s name t q)
  where
    no_some : {s : StageNode} → None ≡ Some s → ⊥
    no_some e = absurd cc
