use Rattle.std.proofs.Common.{◌∙◌, arith}
use Rattle.aggregate_command.proofs.Runs.{ran_place}
use Rattle.aggregate_command.proofs.shards.run_shards.Goals as goal

pub loop-shard-preserved : goal.loop-shard-preserved
loop-shard-preserved g c = record {
  held = c.run_shard.ensures.held ∙ c.loop-shard.invariant.held;
  ran = ran_place _ _ c.args.collection.now c.args.run.now c.loop-shard.shard c.loop-shard.run c.run_shard.new.run c.run_shard.ensures.held c.loop-shard.invariant.ran c.in_ok-run_shard.ensures.ran;
  later = omega (arith, c.run_shard.ensures.cause.later);
}
