-- A command within the limits has at most a hundred stages.
use Rattle.std.proofs.Common.{◌≡◌, ◌≤◌, ℕ, Bool, true, false, cond, List, length, Option, Some, None, refl, arith}
use Rattle.std.specs.Prelude.{nat_lt}
use Rattle.std.proofs.lemmas.Bool.{ltb-false}
use Rattle.stage_tree.specs.Stage.{StageNode, stage, Stages, no_stages, placed, stages_of}
use Rattle.stage_tree.specs.declared.command.BadCommand.{BadCommand}
use Rattle.pipeline_limits.specs.Limits.{stages_in, past_limits}
use Rattle.aggregate_command.specs.Run.{number_of}
use Rattle.aggregate_command.proofs.Ended.{number_is}

number_within : (ss : Stages) → number_of ss ≤ stages_in ss
number_within no_stages = omega arith
number_within (placed (stage h ps) os ss) = omega (arith, number_within ss)

not_past : (b : Bool) (bad : BadCommand) (o : Option BadCommand) → cond b (Some bad) o ≡ None → b ≡ false
not_past true bad o e = absurd cc
not_past false bad o e = refl

pub few_stages : (ss : List (StageNode × List ℕ)) → past_limits (stages_of ss) ≡ None → length ss ≤ 100
few_stages ss within =
    let less = ltb-false 100 (stages_in (stages_of ss)) (not_past (nat_lt 100 (stages_in (stages_of ss))) _ _ within) in
    omega (arith, less, number_within (stages_of ss), number_is ss)
