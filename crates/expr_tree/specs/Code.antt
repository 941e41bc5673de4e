-- How an expression is told from others, by a proof.
use Rattle.std.specs.Prelude.{◌≡◌, ℕ, zero, suc, Bool, List, Option, ◌⊎◌, refl}
use Rattle.std.proofs.Common.{ap, inl, inr}
use Rattle.std.specs.Coded.{Coded, code_by, coded_ℕ, coded_bool, coded_list, coded_option, coded×, coded⊎}
use base.Stored.{Gv, gnil, gnum, gcons}
use Rattle.bson_value.specs.Tree.{Tree}
use Rattle.bson_value.specs.Code.{tree_code}
use Rattle.bson_value.specs.Paths.{Steps}
use Rattle.bson_value.specs.declared.op.Op.{Op}
use Rattle.bson_value.specs.contracts.op.Op as op
use Rattle.bson_value.specs.declared.part.Part.{Part}
use Rattle.bson_value.specs.contracts.part.Part as part
use Rattle.bson_value.specs.declared.unit.Unit.{Unit as DateUnit}
use Rattle.bson_value.specs.contracts.unit.Unit as unit
use Rattle.expr_tree.specs.Node.{Head, literal, field, root, var, remove, make, make_list, apply, every, some, choose, if_null, switch, bind, each, filter, reduce, date_part, date_add, date_diff, date_trunc, Node, node, Nodes, no_nodes, next}

abbrev name_code : Coded (List ℕ)
name_code = coded_list coded_ℕ

abbrev names_code : Coded (List (List ℕ))
names_code = coded_list name_code

abbrev maybe_code : Coded (Option Steps)
maybe_code = coded_option names_code

abbrev op_code : Coded Op
op_code = op.the_row.coded

abbrev part_code : Coded Part
part_code = part.the_row.coded

abbrev unit_code : Coded DateUnit
unit_code = unit.the_row.coded

-- what a head holds, kind by kind; the heads that hold nothing are numbered
abbrev Held : Type 0
Held = Tree ⊎ (Steps ⊎ ((Option Steps) ⊎ ((List ℕ × Option Steps) ⊎ ((List (List ℕ)) ⊎ ((List (List ℕ)) ⊎ (Op ⊎ ((List ℕ) ⊎ ((List ℕ) ⊎ (Part ⊎ ((DateUnit × Bool) ⊎ (DateUnit ⊎ (DateUnit ⊎ ℕ))))))))))))

abbrev held_code : Coded Held
held_code = coded⊎ tree_code (coded⊎ names_code (coded⊎ maybe_code (coded⊎ (coded× name_code maybe_code) (coded⊎ names_code (coded⊎ names_code (coded⊎ op_code (coded⊎ name_code (coded⊎ name_code (coded⊎ part_code (coded⊎ (coded× unit_code coded_bool) (coded⊎ unit_code (coded⊎ unit_code coded_ℕ))))))))))))

abbrev held : Head → Held
held (literal t) = inl t
held (field p) = inr (inl p)
held (root p) = inr (inr (inl p))
held (var x p) = inr (inr (inr (inl (x, p))))
held (make ns) = inr (inr (inr (inr (inl ns))))
held (bind ns) = inr (inr (inr (inr (inr (inl ns)))))
held (apply o) = inr (inr (inr (inr (inr (inr (inl o))))))
held (each x) = inr (inr (inr (inr (inr (inr (inr (inl x)))))))
held (filter x) = inr (inr (inr (inr (inr (inr (inr (inr (inl x))))))))
held (date_part p) = inr (inr (inr (inr (inr (inr (inr (inr (inr (inl p)))))))))
held (date_add u b) = inr (inr (inr (inr (inr (inr (inr (inr (inr (inr (inl (u, b)))))))))))
held (date_diff u) = inr (inr (inr (inr (inr (inr (inr (inr (inr (inr (inr (inl u)))))))))))
held (date_trunc u) = inr (inr (inr (inr (inr (inr (inr (inr (inr (inr (inr (inr (inl u))))))))))))
held remove = inr (inr (inr (inr (inr (inr (inr (inr (inr (inr (inr (inr (inr 0))))))))))))
held make_list = inr (inr (inr (inr (inr (inr (inr (inr (inr (inr (inr (inr (inr 1))))))))))))
held every = inr (inr (inr (inr (inr (inr (inr (inr (inr (inr (inr (inr (inr 2))))))))))))
held some = inr (inr (inr (inr (inr (inr (inr (inr (inr (inr (inr (inr (inr 3))))))))))))
held choose = inr (inr (inr (inr (inr (inr (inr (inr (inr (inr (inr (inr (inr 4))))))))))))
held if_null = inr (inr (inr (inr (inr (inr (inr (inr (inr (inr (inr (inr (inr 5))))))))))))
held switch = inr (inr (inr (inr (inr (inr (inr (inr (inr (inr (inr (inr (inr 6))))))))))))
held reduce = inr (inr (inr (inr (inr (inr (inr (inr (inr (inr (inr (inr (inr 7))))))))))))

abbrev plain_head : ℕ → Head
plain_head zero = remove
plain_head (suc zero) = make_list
plain_head (suc (suc zero)) = every
plain_head (suc (suc (suc zero))) = some
plain_head (suc (suc (suc (suc zero)))) = choose
plain_head (suc (suc (suc (suc (suc zero))))) = if_null
plain_head (suc (suc (suc (suc (suc (suc zero)))))) = switch
plain_head (suc (suc (suc (suc (suc (suc (suc k))))))) = reduce

abbrev head_from : Held → Head
head_from (inl t) = literal t
head_from (inr (inl p)) = field p
head_from (inr (inr (inl p))) = root p
head_from (inr (inr (inr (inl h)))) = var h.0 h.1
head_from (inr (inr (inr (inr (inl ns))))) = make ns
head_from (inr (inr (inr (inr (inr (inl ns)))))) = bind ns
head_from (inr (inr (inr (inr (inr (inr (inl o))))))) = apply o
head_from (inr (inr (inr (inr (inr (inr (inr (inl x)))))))) = each x
head_from (inr (inr (inr (inr (inr (inr (inr (inr (inl x))))))))) = filter x
head_from (inr (inr (inr (inr (inr (inr (inr (inr (inr (inl p)))))))))) = date_part p
head_from (inr (inr (inr (inr (inr (inr (inr (inr (inr (inr (inl h))))))))))) = date_add h.0 h.1
head_from (inr (inr (inr (inr (inr (inr (inr (inr (inr (inr (inr (inl u)))))))))))) = date_diff u
head_from (inr (inr (inr (inr (inr (inr (inr (inr (inr (inr (inr (inr (inl u))))))))))))) = date_trunc u
head_from (inr (inr (inr (inr (inr (inr (inr (inr (inr (inr (inr (inr (inr n))))))))))))) = plain_head n

pub head_back : (h : Head) → head_from (held h) ≡ h
head_back (literal t) = refl
head_back (field p) = refl
head_back (root p) = refl
head_back (var x p) = refl
head_back (make ns) = refl
head_back (bind ns) = refl
head_back (apply o) = refl
head_back (each x) = refl
head_back (filter x) = refl
head_back (date_part p) = refl
head_back (date_add u b) = refl
head_back (date_diff u) = refl
head_back (date_trunc u) = refl
head_back remove = refl
head_back make_list = refl
head_back every = refl
head_back some = refl
head_back choose = refl
head_back if_null = refl
head_back switch = refl
head_back reduce = refl

abbrev head_code : Coded Head
head_code = code_by Held held_code held head_from head_back

abbrev first : Gv → Gv
first gnil = gnil
first (gnum n) = gnil
first (gcons a b) = a

abbrev second : Gv → Gv
second gnil = gnil
second (gnum n) = gnil
second (gcons a b) = b

abbrev mutual
  pub node_stored : Node → Gv
  node_stored (node h ns) = gcons (head_code.code h) (nodes_stored ns)

  pub nodes_stored : Nodes → Gv
  nodes_stored no_nodes = gnil
  nodes_stored (next n ns) = gcons (node_stored n) (nodes_stored ns)

mutual
  pub node_told : (n m : Node) → node_stored n ≡ node_stored m → n ≡ m
  node_told (node h ns) (node k ms) p = λ i. node (head_code.inj h k (ap first p) i) (nodes_told ns ms (ap second p) i)

  pub nodes_told : (ns ms : Nodes) → nodes_stored ns ≡ nodes_stored ms → ns ≡ ms
  nodes_told no_nodes no_nodes p = refl
  nodes_told (next n ns) (next m ms) p = λ i. next (node_told n m (ap first p) i) (nodes_told ns ms (ap second p) i)
  nodes_told no_nodes (next m ms) p = absurd cc
  nodes_told (next n ns) no_nodes p = absurd cc

abbrev pub node_code : Coded Node
node_code = record { code = node_stored; inj = node_told }
