use Rattle.std.proofs.Common.{Some, ◌∙◌, rules}
use Rattle.std.specs.Option.{option_map}
use Rattle.bson_value.specs.View.{tree_of}
use Rattle.bson_value.specs.Operands.{alike}
use Rattle.value_sets.proofs.Held.{any_here, any_later}
use Rattle.value_ops.proofs.arrays.has.Goals as goal

pub returns-then-is_eq : goal.returns-then-is_eq
returns-then-is_eq c =
    any_here (λ t. alike (option_map tree_of c.args.operand.now) (Some t)) c.args.list.now c.loop-i.i _ c.value.ensures (search rules) ∙ c.loop-i.invariant

pub loop-i-preserved : goal.loop-i-preserved
loop-i-preserved c =
    any_later (λ t. alike (option_map tree_of c.args.operand.now) (Some t)) c.args.list.now c.loop-i.i _ c.value.ensures (search rules) ∙ c.loop-i.invariant
