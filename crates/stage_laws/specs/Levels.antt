-- The levels of a `$graphLookup`, each of the one before it (the manual, `$graphLookup`).
use Rattle.std.specs.Prelude.{◌≡◌, ℕ, zero, suc, List, [], ◌++◌, map, Option}
use Rattle.std.specs.List.{flat_map}
use Rattle.bson_value.specs.Paths.{Steps, reach}
use Rattle.bson_value.specs.Tree.{Tree}
use Rattle.expr_tree.specs.QueryNode.{QueryNode}
use Rattle.stage_tree.specs.Outcome.{Fields}
use Rattle.stage_tree.specs.Joining.{whole, start_values, is_next, id_of, level}

-- the values that documents lead to
abbrev pub leads : Steps → List Fields → List Tree
leads from ds = flat_map (λ e. start_values (reach from (whole e))) ds

-- the values that the n-th level looks for: those of the start, or those that the level before it leads to
abbrev pub sought_on : Steps → List Tree → (ℕ → List Fields) → ℕ → List Tree
sought_on from start on zero = start
sought_on from start on (suc n) = leads from (on n)

-- the `_id`s on the levels before the n-th
abbrev pub ids_before : (ℕ → List Fields) → ℕ → List Tree
ids_before on zero = []
ids_before on (suc n) = map id_of (on n) ++ ids_before on n

-- level by level: of the documents those that are allowed and have a value that is looked for, each `_id` once
abbrev pub AreLevels : List Fields → Option QueryNode → Steps → Steps → List Tree → (ℕ → List Fields) → Type 0
AreLevels others restrict from field start on = (n : ℕ) → on n ≡ level (is_next restrict field (sought_on from start on n)) (ids_before on n) others
