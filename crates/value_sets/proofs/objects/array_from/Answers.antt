use Rattle.std.proofs.Common.{◌≡◌, ◌+◌, ◌++◌, [], ◌∷◌, map, drop, ap, ◌∙◌, append_assoc}
use Rattle.bson_value.specs.Tree.{Tree}
use Rattle.bson_value.specs.View.{tree_of}
use Rattle.bson_value.specs.ObjectRows.{pair_object as the_pair}
use Rattle.value_sets.proofs.AtPlace.{pair_next}
use Rattle.value_sets.proofs.objects.array_from.Goals as goal

pub loop-i-preserved : goal.loop-i-preserved
loop-i-preserved c =
    let next = pair_next c.args.doc.now c.loop-i.i _ _ c.name.ensures c.value.ensures in
    let pair : Tree = the_pair (c.name.result.now, tree_of c.value.result.now) in
    let added : c.add.new.self ≡ c.loop-i.list ++ pair ∷ [] = c.in_ok-add.ensures.ok ∙ ap (λ (t : Tree). c.loop-i.list ++ t ∷ []) c.in_ok-pair_object.ensures in
    rw added (append_assoc c.loop-i.list (pair ∷ []) (map the_pair (drop (c.loop-i.i + 1) c.args.doc.now)) ∙ (rw next at c.loop-i.invariant))
