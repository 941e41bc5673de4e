-- What an expression is: a tree of heads. A head has all of an expression but the expressions within it.
use Rattle.std.specs.Prelude.{ℕ, suc, ◌+◌, Bool, List, [], ◌∷◌, Option, Some, None}
use Rattle.bson_value.specs.Tree.{Tree}
use Rattle.bson_value.specs.Paths.{Steps}
use Rattle.bson_value.specs.declared.op.Op.{Op}
use Rattle.bson_value.specs.declared.part.Part.{Part}
use Rattle.bson_value.specs.declared.unit.Unit.{Unit as DateUnit}

pub data Head : Type 0 where
  literal : Tree → Head
  field : Steps → Head
  root : Option Steps → Head
  var : List ℕ → Option Steps → Head
  remove : Head
  make : List (List ℕ) → Head
  make_list : Head
  apply : Op → Head
  every : Head
  some : Head
  choose : Head
  if_null : Head
  switch : Head
  bind : List (List ℕ) → Head
  each : List ℕ → Head
  filter : List ℕ → Head
  reduce : Head
  date_part : Part → Head
  date_add : DateUnit → Bool → Head
  date_diff : DateUnit → Head
  date_trunc : DateUnit → Head

mutual
  pub data Node : Type 0 where
    node : Head → Nodes → Node

  pub data Nodes : Type 0 where
    no_nodes : Nodes
    next : Node → Nodes → Nodes

abbrev pub nodes_of : List Node → Nodes
nodes_of [] = no_nodes
nodes_of (n ∷ ns) = next n (nodes_of ns)

-- the branches of a `$switch`, each case before its value, and what stands behind them
abbrev pub branch_nodes : List (Node × Node) → Nodes → Nodes
branch_nodes [] ns = ns
branch_nodes (b ∷ bs) ns = next b.0 (next b.1 (branch_nodes bs ns))

-- the one, where it is there
abbrev pub maybe_node : Option Node → Nodes
maybe_node None = no_nodes
maybe_node (Some n) = next n no_nodes

-- how many expressions there are
abbrev mutual
  pub node_size : Node → ℕ
  node_size (node h ns) = suc (nodes_size ns)

  pub nodes_size : Nodes → ℕ
  nodes_size no_nodes = 0
  nodes_size (next n ns) = suc (node_size n + nodes_size ns)
