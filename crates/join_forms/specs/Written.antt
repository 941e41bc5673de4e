-- How stages that group, join and merge documents are written (the manual: `$group`, `$lookup`, `$graphLookup`,
-- `$setWindowFields`, `$merge`).
use Rattle.std.specs.Prelude.{◌≡◌, ℕ, ℤ, pos, int_le, Bool, true, false, not, is_some, ◌⊎◌, List, [], ◌∷◌, length, map, filter, Option, Some, None, codes}
use Rattle.std.specs.Str.{bytes_eq}
use Rattle.bson_value.specs.Operands.{or_null}
use Rattle.bson_value.specs.Pairs.{find}
use Rattle.bson_value.specs.Path.{IsPathText, pieces}
use Rattle.bson_value.specs.Paths.{Steps}
use Rattle.bson_value.specs.Tree.{Tree}
use Rattle.bson_value.specs.declared.acc_kind.AccKind.{AccKind}
use Rattle.bson_value.specs.declared.acc_kind.AccKind.TheVariants.{Count}
use Rattle.expr_tree.specs.Node.{Node}
use Rattle.expr_tree.specs.QueryNode.{QueryNode}
use Rattle.expr_tree.specs.Spells.{Fields, At, Spells}
use Rattle.query_read.specs.Written.{SpellsQuery}
use Rattle.stage_parts.specs.Each.{Pairwise}
use Rattle.stage_parts.specs.Keys.{AreKeys}
use Rattle.stage_parts.specs.Names.{has_only, is_field_name, is_collection_name}
use Rattle.stage_parts.specs.Paths.{are_apart}
use Rattle.stage_parts.specs.Values.{as_text, as_fields, as_items, as_whole}
use Rattle.stage_tree.specs.Stage.{Keys, WindowHead, accumulates, rank, dense_rank, place, shift, StageNode, stage, lookup, graph_lookup, group, window, merge, no_pipes}
use Rattle.stage_tree.specs.declared.merge.WhenMatched.{WhenMatched}
use Rattle.stage_tree.specs.declared.merge.WhenMatched.TheVariants as M
use Rattle.stage_tree.specs.declared.merge.WhenUnmatched.{WhenUnmatched}
use Rattle.stage_tree.specs.declared.merge.WhenUnmatched.TheVariants as U
use Rattle.join_forms.specs.Words.{kind_named, has_window, nothing, matched_named, unmatched_named}

-- ---- fields and their values

-- a document that has the required names, and no other but these and the optional ones
abbrev pub IsForm : List (List ℕ) → List (List ℕ) → Tree → Fields → Type 0
IsForm required optional t ps = (as_fields t ≡ Some ps) × (has_only required optional ps ≡ true)

-- where the name is there, its value is so
abbrev pub AtMaybe : {A : Type 0} → List ℕ → Fields → (A → Tree → Type 0) → Option A → Type 0
AtMaybe n ps Is None = find n ps ≡ None
AtMaybe n ps Is (Some x) = At n ps (Is x)

-- the value of that name is so, or it isn't there and this stands for it
abbrev pub AtOr : {A : Type 0} → A → List ℕ → Fields → (A → Tree → Type 0) → A → Type 0
AtOr other n ps Is x = At n ps (Is x) ⊎ ((find n ps ≡ None) × (x ≡ other))

abbrev pub IsPathName : Steps → List ℕ → Type 0
IsPathName path s = IsPathText s × (pieces s ≡ path)

abbrev pub IsPathValue : Steps → Tree → Type 0
IsPathValue path t = (s : List ℕ) × (as_text t ≡ Some s) × IsPathName path s

abbrev pub IsCollection : List ℕ → Tree → Type 0
IsCollection name t = (as_text t ≡ Some name) × (is_collection_name name ≡ true)

-- ---- accumulators

-- `$count` takes an empty document, each other an expression
abbrev pub IsAccumulator : List ℕ → Tree → AccKind → Node → Type 0
IsAccumulator n t k e = ((kind_named n ≡ Some k) × Spells [] t e) ⊎ ((n ≡ codes "$count") × (as_fields t ≡ Some []) × (k ≡ Count) × (e ≡ nothing))

-- a field that a group makes, and the document of one accumulator
abbrev pub IsPart : List ℕ × Tree → List ℕ × (AccKind × Node) → Type 0
IsPart f p = (f.0 ≡ p.0) × (is_field_name f.0 ≡ true) × ((n : List ℕ) × (t : Tree) × (as_fields f.1 ≡ Some ((n, t) ∷ [])) × IsAccumulator n t p.1.0 p.1.1)

-- the fields but the key
abbrev pub but_id : Fields → Fields
but_id fs = filter (λ f. not (bytes_eq f.0 (codes "_id"))) fs

-- ---- window functions

-- an edge of a frame: a whole number, or a word
abbrev pub IsEdge : Tree → Option ℤ → Type 0
IsEdge t None = as_text t ≡ Some (codes "unbounded")
IsEdge t (Some n) = (as_whole t ≡ Some n) ⊎ ((as_text t ≡ Some (codes "current")) × (n ≡ pos 0))

-- the lower edge isn't behind the upper one
abbrev pub in_order : Option ℤ → Option ℤ → Bool
in_order (Some low) (Some high) = int_le low high
in_order (Some low) None = true
in_order None (Some high) = true
in_order None None = true

abbrev pub IsFrame : Option ℤ → Option ℤ → Tree → Type 0
IsFrame low high t =
    (v : Tree) × (a : Tree) × (b : Tree) × (as_fields t ≡ Some ((codes "documents", v) ∷ [])) × (as_items v ≡ Some (a ∷ b ∷ [])) × IsEdge a low × IsEdge b high × (in_order low high ≡ true)

-- the function stands alone and has the whole partition, or it stands with its window
abbrev pub HasFrame : Fields → Option ℤ → Option ℤ → Type 0
HasFrame ps low high = ((length ps ≡ 1) × (low ≡ None) × (high ≡ None)) ⊎ ((length ps ≡ 2) × At (codes "window") ps (IsFrame low high))

-- a document of one field
abbrev pub IsOnly : List ℕ → Tree → Tree → Type 0
IsOnly n v t = as_fields t ≡ Some ((n, v) ∷ [])

-- a function that takes an empty document
abbrev pub IsBare : List ℕ → Tree → Type 0
IsBare n t = (v : Tree) × IsOnly n v t × (as_fields v ≡ Some [])

-- the function that the value of an output is; ranks need an order
abbrev pub IsFunction : Bool → Tree → WindowHead → Type 0
IsFunction sorted t (accumulates k e low high) =
    (ps : Fields) × (n : List ℕ) × (as_fields t ≡ Some ps) × At n ps (λ v. IsAccumulator n v k e) × (has_window k ≡ true) × HasFrame ps low high
IsFunction sorted t rank = IsBare (codes "$rank") t × (sorted ≡ true)
IsFunction sorted t dense_rank = IsBare (codes "$denseRank") t × (sorted ≡ true)
IsFunction sorted t place = IsBare (codes "$documentNumber") t
IsFunction sorted t (shift e by default) =
    (v : Tree) × (ps : Fields) × IsOnly (codes "$shift") v t × IsForm (codes "output" ∷ codes "by" ∷ []) (codes "default" ∷ []) v ps
    × At (codes "output") ps (λ y. Spells [] y e) × At (codes "by") ps (λ y. as_whole y ≡ Some by) × (or_null (find (codes "default") ps) ≡ default)

-- a path that is set, and its function
abbrev pub IsOutput : Bool → List ℕ × Tree → Steps × WindowHead → Type 0
IsOutput sorted f o = IsPathName o.0 f.0 × IsFunction sorted f.1 o.1

abbrev pub AreOutputs : Bool → List (Steps × WindowHead) → Tree → Type 0
AreOutputs sorted os t = (fs : Fields) × (as_fields t ≡ Some fs) × Pairwise (IsOutput sorted) fs os × (are_apart (map (λ o. o.0) os) ≡ true)

-- ---- the stages, from their values

-- `$lookup`
abbrev pub IsLookup : Tree → List ℕ → Steps → Steps → Steps → Type 0
IsLookup t from local field target =
    (ps : Fields) × IsForm (codes "from" ∷ codes "localField" ∷ codes "foreignField" ∷ codes "as" ∷ []) [] t ps
    × At (codes "from") ps (IsCollection from) × At (codes "localField") ps (IsPathValue local) × At (codes "foreignField") ps (IsPathValue field) × At (codes "as") ps (IsPathValue target)

-- `$group`
abbrev pub IsGroup : Tree → Node → List (List ℕ × (AccKind × Node)) → Type 0
IsGroup t key parts = (ps : Fields) × (as_fields t ≡ Some ps) × At (codes "_id") ps (λ v. Spells [] v key) × Pairwise IsPart (but_id ps) parts

-- `$merge`: the name of the collection alone, or a document
abbrev pub IsMatched : WhenMatched → Tree → Type 0
IsMatched m t = (s : List ℕ) × (as_text t ≡ Some s) × (matched_named s ≡ Some m)

abbrev pub IsUnmatched : WhenUnmatched → Tree → Type 0
IsUnmatched m t = (s : List ℕ) × (as_text t ≡ Some s) × (unmatched_named s ≡ Some m)

abbrev pub IsMerge : Tree → List ℕ → WhenMatched → WhenUnmatched → Type 0
IsMerge t into matched unmatched =
    (IsCollection into t × (matched ≡ M.Merge) × (unmatched ≡ U.Insert))
    ⊎ ((ps : Fields) × IsForm (codes "into" ∷ []) (codes "on" ∷ codes "whenMatched" ∷ codes "whenNotMatched" ∷ []) t ps
    × At (codes "into") ps (IsCollection into)
    × ((find (codes "on") ps ≡ None) ⊎ At (codes "on") ps (λ v. as_text v ≡ Some (codes "_id")))
    × AtOr M.Merge (codes "whenMatched") ps IsMatched matched
    × AtOr U.Insert (codes "whenNotMatched") ps IsUnmatched unmatched)

-- `$graphLookup`
abbrev pub IsRestriction : QueryNode → Tree → Type 0
IsRestriction q t = (ps : Fields) × (as_fields t ≡ Some ps) × SpellsQuery false ps q

abbrev pub IsGraphLookup : Tree → List ℕ → Node → Steps → Steps → Steps → Option ℕ → Option Steps → Option QueryNode → Type 0
IsGraphLookup t from start connect_from connect_to target most depth restrict =
    (ps : Fields)
    × IsForm (codes "from" ∷ codes "startWith" ∷ codes "connectFromField" ∷ codes "connectToField" ∷ codes "as" ∷ []) (codes "maxDepth" ∷ codes "depthField" ∷ codes "restrictSearchWithMatch" ∷ []) t ps
    × At (codes "from") ps (IsCollection from) × At (codes "startWith") ps (λ v. Spells [] v start)
    × At (codes "connectFromField") ps (IsPathValue connect_from) × At (codes "connectToField") ps (IsPathValue connect_to) × At (codes "as") ps (IsPathValue target)
    × AtMaybe (codes "maxDepth") ps (λ n v. as_whole v ≡ Some (pos n)) most × AtMaybe (codes "depthField") ps IsPathValue depth
    × AtMaybe (codes "restrictSearchWithMatch") ps IsRestriction restrict

-- `$setWindowFields`
abbrev pub IsWindow : Tree → Node → Keys → List (Steps × WindowHead) → Type 0
IsWindow t partition keys outputs =
    (ps : Fields) × IsForm (codes "output" ∷ []) (codes "partitionBy" ∷ codes "sortBy" ∷ []) t ps
    × AtOr nothing (codes "partitionBy") ps (λ e v. Spells [] v e) partition
    × AtOr [] (codes "sortBy") ps (λ ks v. (fs : Fields) × (as_fields v ≡ Some fs) × AreKeys fs ks) keys
    × At (codes "output") ps (AreOutputs (is_some (find (codes "sortBy") ps)) outputs)

-- ---- the stages, by name and value

abbrev pub SpellsJoiningStage : List ℕ → Tree → StageNode → Type 0
SpellsJoiningStage name t (stage (lookup from local field target None) no_pipes) = (name ≡ codes "$lookup") × IsLookup t from local field target
SpellsJoiningStage name t (stage (group key parts false) no_pipes) = (name ≡ codes "$group") × IsGroup t key parts
SpellsJoiningStage name t (stage (merge into matched unmatched) no_pipes) = (name ≡ codes "$merge") × IsMerge t into matched unmatched
SpellsJoiningStage name t (stage (graph_lookup from start connect_from connect_to target most depth restrict) no_pipes) =
    (name ≡ codes "$graphLookup") × IsGraphLookup t from start connect_from connect_to target most depth restrict
SpellsJoiningStage name t (stage (window partition keys outputs) no_pipes) = (name ≡ codes "$setWindowFields") × IsWindow t partition keys outputs
-- no other stage is one of these
SpellsJoiningStage name t s = ⊥
