use Rattle.std.proofs.Common.{sym, ◌∙◌, add-one}
use Rattle.bson_value.specs.View.{tree_of}
use Rattle.aggregate_command.proofs.Deep.{deep_here, deep_later}
use Rattle.aggregate_command.proofs.results.is_too_deep.Goals as goal

pub returns-then-is_deep : goal.returns-then-is_deep
returns-then-is_deep c =
    sym (deep_here c.args.doc.now c.loop-i.i (tree_of c.value.result.now) c.value.ensures (sym c.if-is_deep.ensures)) ∙ c.loop-i.invariant

pub loop-i-preserved : goal.loop-i-preserved
loop-i-preserved c =
    rw add-one (deep_later c.args.doc.now c.loop-i.i (tree_of c.value.result.now) c.value.ensures (sym c.if-is_deep.ensures) ∙ c.loop-i.invariant)
