-- How deep values may be nested, as bounds say.
use Rattle.std.specs.Prelude.{ℕ, ◌<◌, ◌≤◌, List, length, Option, Some}
use Rattle.bson_value.specs.Depth.{depth}
use Rattle.bson_value.specs.Tree.{Tree}
use Rattle.expr_tree.specs.Bound.{Around}
use Rattle.expr_tree.specs.Env.{Env, root_in, value_in, last_of}
use Rattle.expr_tree.specs.Node.{Head, field, root, Node, node, Nodes, no_nodes, next}
use Rattle.expr_tree.specs.Rows.{found_depth}

-- a bound that passes 2^64 - 1 counts as that, and says nothing
abbrev pub SaysSomething : ℕ → Type 0
SaysSomething n = n < 18_446_744_073_709_551_615

-- the value, where there is one, is nested at most as deep as the bound says
abbrev pub IsWithin : ℕ → Option Tree → Type 0
IsWithin n v = SaysSomething n → found_depth v ≤ n

-- the document is nested at most as deep as its bound, and what each name is bound to as deep as the name's
pub record AreWithin (a : Around) (env : Env) : Type 0 where
  pub document : depth (root_in env) ≤ a.doc
  pub names : (x : List ℕ) → IsWithin (last_of x 0 a.names) (value_in env x)

-- a path into the document has a step
abbrev pub HasStep : Head → Type 0
HasStep (field p) = 0 < length p
HasStep (root (Some p)) = 0 < length p
HasStep _ = Unit {0}

abbrev mutual
  -- each path into the document, in the expression and within it
  pub HasSteps : Node → Type 0
  HasSteps (node h ns) = HasStep h × EachHasSteps ns

  pub EachHasSteps : Nodes → Type 0
  EachHasSteps no_nodes = Unit {0}
  EachHasSteps (next n ns) = HasSteps n × EachHasSteps ns
