-- Each expression keeps to its bound.
use Rattle.std.proofs.Common.{◌≡◌, ◌≤◌, List, [], ◌∷◌, refl, ap, subst, arith}
use Rattle.std.specs.Prelude.{Some, None, Ok}
use Rattle.bson_value.specs.Depth.{depth}
use Rattle.bson_value.specs.Tree.{Tree}
use Rattle.expr_tree.specs.Bound.{Around, Bound, bound_form, bound, bounds}
use Rattle.expr_tree.specs.Env.{Env}
use Rattle.expr_tree.specs.Eval.{form, eval, evals}
use Rattle.expr_tree.specs.Node.{Head, literal, field, root, var, remove, make, make_list, apply, every, some, choose, if_null, switch, bind, each, filter, reduce, date_part, date_add, date_diff, date_trunc, Node, node, Nodes, no_nodes, next}
use Rattle.expr_tree.specs.Rows.{Meaning}
use Rattle.stage_laws.specs.Depths.{SaysSomething, AreWithin, HasStep, HasSteps, EachHasSteps}
use Rattle.stage_laws.proofs.PartDepths.{Sound, Parts, means, limits, AllSound}
use Rattle.stage_laws.proofs.FormDepths.{apply_fits, make_fits, make_list_fits, choose_fits, given_fits, switch_fits, bind_fits, each_fits, filter_fits, reduce_fits, every_fits, some_fits, part_fits, sum_fits, diff_fits, trunc_fits, field_fits, var_fits}

form_sound : (h : Head) (ps : Parts) → HasStep h → AllSound ps → Sound (form h (means ps)) (bound_form h (limits ps))
form_sound (literal t) ps k h a env w says = omega arith
form_sound (field p) ps k h a env w says = field_fits a env p w k
form_sound (root None) ps k h a env w says = w.document
form_sound (root (Some p)) ps k h a env w says = field_fits a env p w k
form_sound (var x p) ps k h a env w says = var_fits a env x p w says
form_sound remove ps k h a env w says = omega arith
form_sound (make xs) ps k h a env w says = make_fits a env w xs ps h says
form_sound make_list ps k h a env w says = make_list_fits a env w ps h says
form_sound (apply o) ps k h a env w says = apply_fits a env w o ps h says
form_sound every ps k h a env w says = every_fits a env (means ps)
form_sound some ps k h a env w says = some_fits a env (means ps)
form_sound choose ps k h a env w says = choose_fits a env w ps h says
form_sound if_null ps k h a env w says = given_fits a env w ps 0 _ (omega arith) h says
form_sound switch ps k h a env w says = switch_fits a env w ps 0 h says
form_sound (bind xs) ps k h a env w says = bind_fits a env w xs ps h says
form_sound (each x) ps k h a env w says = each_fits a env w x ps h says
form_sound (filter x) ps k h a env w says = filter_fits a env w x ps h says
form_sound reduce ps k h a env w says = reduce_fits a env (means ps)
form_sound (date_part p) ps k h a env w says = part_fits a env p (means ps)
form_sound (date_add u back) ps k h a env w says = sum_fits a env u back (means ps)
form_sound (date_diff u) ps k h a env w says = diff_fits a env u (means ps)
form_sound (date_trunc u) ps k h a env w says = trunc_fits a env u (means ps)

parts : Nodes → Parts
parts no_nodes = []
parts (next n ns) = (eval n, bound n) ∷ parts ns

means_are : (ns : Nodes) → means (parts ns) ≡ evals ns
unfolding parts
means_are no_nodes = refl
means_are (next n ns) = ap (λ (ms : List Meaning). eval n ∷ ms) (means_are ns)

limits_are : (ns : Nodes) → limits (parts ns) ≡ bounds ns
unfolding parts
limits_are no_nodes = refl
limits_are (next n ns) = ap (λ (bs : List Bound). bound n ∷ bs) (limits_are ns)

form_at : (h : Head) (ns : Nodes) → HasStep h → AllSound (parts ns) → Sound (eval (node h ns)) (bound (node h ns))
form_at h ns k s =
    subst (λ (ms : List Meaning). Sound (form h ms) (bound_form h (bounds ns))) (means_are ns)
    (subst (λ (bs : List Bound). Sound (form h (means (parts ns))) (bound_form h bs)) (limits_are ns) (form_sound h (parts ns) k s))

no_sound : AllSound (parts no_nodes)
unfolding parts
no_sound = tt

more_sound : (n : Node) (ns : Nodes) → Sound (eval n) (bound n) → AllSound (parts ns) → AllSound (parts (next n ns))
unfolding parts
more_sound n ns h k = (h, k)

mutual
  pub sound : (e : Node) → HasSteps e → Sound (eval e) (bound e)
  sound (node h ns) k = form_at h ns k.0 (sounds ns k.1)

  sounds : (ns : Nodes) → EachHasSteps ns → AllSound (parts ns)
  sounds no_nodes k = no_sound
  sounds (next n ns) k = more_sound n ns (sound n k.0) (sounds ns k.1)

pub value_within : (e : Node) (a : Around) (env : Env) (t : Tree) → HasSteps e → AreWithin a env → SaysSomething (bound e a) → eval e env ≡ Ok (Some t) → depth t ≤ bound e a
value_within e a env t k w says f = rw f at (sound e k a env w says)
