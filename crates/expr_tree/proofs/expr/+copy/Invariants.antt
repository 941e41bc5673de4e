use Rattle.std.proofs.Common.{◌≡◌, take}
use Rattle.expr_tree.proofs.expr.+copy.Given as goal

abbrev pub invariant-Exprs::copy-loop-expr : goal.invariant-Exprs::copy-loop-expr
invariant-Exprs::copy-loop-expr l = l.exprs.items ≡ take l.expr-index l.expr-items

abbrev pub invariant-NamedExprs::copy-loop-name : goal.invariant-NamedExprs::copy-loop-name
invariant-NamedExprs::copy-loop-name l = l.names.items ≡ take l.name-index l.name-items

abbrev pub invariant-NamedExprs::copy-loop-expr : goal.invariant-NamedExprs::copy-loop-expr
invariant-NamedExprs::copy-loop-expr l = l.exprs.items ≡ take l.expr-index l.expr-items

abbrev pub invariant-Bindings::copy-loop-name : goal.invariant-Bindings::copy-loop-name
invariant-Bindings::copy-loop-name l = l.names.items ≡ take l.name-index l.name-items

abbrev pub invariant-Bindings::copy-loop-expr : goal.invariant-Bindings::copy-loop-expr
invariant-Bindings::copy-loop-expr l = l.exprs.items ≡ take l.expr-index l.expr-items

abbrev pub invariant-Branches::copy-loop-branch : goal.invariant-Branches::copy-loop-branch
invariant-Branches::copy-loop-branch l = l.branches.items ≡ take l.branch-index l.branch-items
