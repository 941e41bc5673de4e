-- The paths of an expression that a value spells have steps.
use Rattle.std.proofs.Common.{◌≡◌, ◌<◌, List, [], ◌∷◌, ◌++◌, length, subst, inl, inr, arith}
use Rattle.std.specs.Prelude.{Some, None, codes}
use Rattle.bson_value.specs.Path.{some_path}
use Rattle.bson_value.specs.Paths.{Steps}
use Rattle.bson_value.specs.Tree.{Tree}
use Rattle.expr_tree.specs.Node.{literal, field, root, var, remove, make, make_list, apply, every, some, choose, if_null, switch, bind, each, filter, reduce, date_part, date_add, date_diff, date_trunc, Node, node, Nodes, no_nodes, next}
use Rattle.expr_tree.specs.Spells.{Names, Fields, Spells, SpellAll, SpellBranches}
use Rattle.stage_laws.specs.Depths.{HasSteps, EachHasSteps}

some_steps : (rest p : Steps) → some_path rest ≡ Some p → 0 < length p
some_steps [] p e = absurd (cc)
some_steps (s ∷ ss) p e = let same : s ∷ ss ≡ p = cc in subst (λ (q : Steps). 0 < length q) same (omega arith)

mutual
  pub spelled : (names : Names) (t : Tree) (e : Node) → Spells names t e → HasSteps e
  spelled names t (node (literal v) no_nodes) k = (tt, tt)
  spelled names t (node (field p) no_nodes) k = (subst (λ (q : Steps). 0 < length q) k.steps k.is_path.steps.some, tt)
  spelled names t (node (root None) no_nodes) k = (tt, tt)
  spelled names t (node (root (Some p)) no_nodes) k = (some_steps k.1.rest p k.1.after, tt)
  spelled names t (node (var x p) no_nodes) k = (tt, tt)
  spelled names t (node remove no_nodes) k = (tt, tt)
  spelled names t (node (make ns) es) k = (tt, all_spelled names k.0 es k.2)
  spelled names t (node make_list es) k = (tt, all_spelled names k.0 es k.2)
  spelled names t (node (apply o) es) k = (tt, all_spelled names k.0 es k.2)
  spelled names t (node every es) k = (tt, all_spelled names k.0 es k.2)
  spelled names t (node some es) k = (tt, all_spelled names k.0 es k.2)
  spelled names t (node if_null es) k = (tt, all_spelled names k.0 es k.2)
  spelled names t (node choose (next a (next b (next c no_nodes)))) (inl k) = (tt, (spelled names k.0 a k.4, (spelled names k.1 b k.5, (spelled names k.2 c k.6, tt))))
  spelled names t (node choose (next a (next b (next c no_nodes)))) (inr k) = (tt, (spelled names k.2.0 a k.2.2, (spelled names k.3.0 b k.3.2, (spelled names k.4.0 c k.4.2, tt))))
  spelled names t (node switch es) k = (tt, branches_spelled names k.0 k.1 es k.5)
  spelled names t (node (bind xs) (next body es)) k = (tt, (spelled (xs ++ names) k.5.0 body k.5.2, all_spelled names k.1 es k.4))
  spelled names t (node (each x) (next input (next body no_nodes))) k = (tt, (spelled names k.3.0 input k.3.2, (spelled (x ∷ names) k.4.0 body k.4.2, tt)))
  spelled names t (node (filter x) (next input (next body no_nodes))) k = (tt, (spelled names k.3.0 input k.3.2, (spelled (x ∷ names) k.4.0 body k.4.2, tt)))
  spelled names t (node reduce (next input (next first (next body no_nodes)))) k =
      (tt, (spelled names k.2.0 input k.2.2, (spelled names k.3.0 first k.3.2, (spelled (codes "value" ∷ codes "this" ∷ names) k.4.0 body k.4.2, tt))))
  spelled names t (node (date_part p) (next e no_nodes)) k = (tt, (spelled names k.1 e k.4, tt))
  spelled names t (node (date_add u back) (next start (next amount no_nodes))) k = (tt, (spelled names k.2.0 start k.2.2, (spelled names k.4.0 amount k.4.2, tt)))
  spelled names t (node (date_diff u) (next start (next end no_nodes))) k = (tt, (spelled names k.2.0 start k.2.2, (spelled names k.3.0 end k.3.2, tt)))
  spelled names t (node (date_trunc u) (next e no_nodes)) k = (tt, (spelled names k.2.0 e k.2.2, tt))
  spelled names t n k = absurd k

  all_spelled : (names : Names) (ts : List Tree) (es : Nodes) → SpellAll names ts es → EachHasSteps es
  all_spelled names [] no_nodes k = tt
  all_spelled names (t ∷ ts) (next e es) k = (spelled names t e k.0, all_spelled names ts es k.1)
  all_spelled names ts es k = absurd k

  branches_spelled : (names : Names) (ps : Fields) (bs : List Tree) (es : Nodes) → SpellBranches names ps bs es → EachHasSteps es
  branches_spelled names ps [] no_nodes k = tt
  branches_spelled names ps [] (next e no_nodes) k = (spelled names k.1.0 e k.1.2, tt)
  branches_spelled names ps (b ∷ bs) (next c (next e es)) k = (spelled names k.3.0 c k.3.2, (spelled names k.4.0 e k.4.2, branches_spelled names ps bs es k.5))
  branches_spelled names ps bs es k = absurd k
