-- What an expression gives: a value, missing, or a code (the manual, Aggregation Expressions).
use Rattle.std.specs.Prelude.{List, [], ◌∷◌, Option, Some, None, Ok}
use Rattle.std.specs.Option.{option_and_then}
use Rattle.bson_value.specs.Tree.{Tree}
use Rattle.bson_value.specs.Paths.{Steps, reach}
use Rattle.bson_value.specs.Operands.{Outcome, gives, gives_flag}
use Rattle.bson_value.specs.Operators.{operator}
use Rattle.expr_tree.specs.Node.{Head, literal, field, root, var, remove, make, make_list, apply, every, some, choose, if_null, switch, bind, each, filter, reduce, date_part, date_add, date_diff, date_trunc, Node, node, Nodes, no_nodes, next, nodes_of}
use Rattle.expr_tree.specs.Env.{Env, root_in, value_in}
use Rattle.expr_tree.specs.Rows.{Meaning, ◌>>=◌, all, make_row, make_list_row, every_counts, some_counts, choose_row, if_null_row, switch_row, bind_row, each_row, filter_row, reduce_row, on_one, on_two, part_row, sum_row, diff_row, trunc_row}

-- a value, or what a path reaches in it
abbrev pub through : Option Steps → Option Tree → Option Tree
through None v = v
through (Some p) v = option_and_then (reach p) v

-- a form's outcome, by what its parts mean
abbrev pub form : Head → List Meaning → Env → Outcome
form (literal t) ms env = gives t
form (field p) ms env = Ok (reach p (root_in env))
form (root p) ms env = Ok (through p (Some (root_in env)))
form (var x p) ms env = Ok (through p (value_in env x))
form remove ms env = Ok None
form (make ns) ms env = make_row ns ms env
form make_list ms env = make_list_row ms env
form (apply o) ms env = all ms env >>= operator o
form every ms env = every_counts ms env >>= gives_flag
form some ms env = some_counts ms env >>= gives_flag
form choose ms env = choose_row ms env
form if_null ms env = if_null_row ms env
form switch ms env = switch_row ms env
form (bind ns) ms env = bind_row ns ms env
form (each x) ms env = each_row x ms env
form (filter x) ms env = filter_row x ms env
form reduce ms env = reduce_row ms env
form (date_part p) ms env = on_one (part_row p) ms env
form (date_add u back) ms env = on_two (sum_row u back) ms env
form (date_diff u) ms env = on_two (diff_row u) ms env
form (date_trunc u) ms env = on_one (trunc_row u) ms env

abbrev mutual
  pub eval : Node → Env → Outcome
  eval (node h ns) = form h (evals ns)

  pub evals : Nodes → List Meaning
  evals no_nodes = []
  evals (next n ns) = eval n ∷ evals ns

-- what the expressions of a list mean
abbrev pub meanings : List Node → List Meaning
meanings ns = evals (nodes_of ns)
