use Rattle.std.proofs.Common.{◌∙◌, arith, rules}
use Rattle.aggregate_command.proofs.Runs.{ran_next, ran_end}
use Rattle.aggregate_command.proofs.shards.run_shard.Goals as goal

pub documents-preserved : goal.documents-preserved
documents-preserved g c = record {
  shard = c.next.ensures.shard ∙ c.documents.invariant.shard;
  held = c.next.ensures.alone.held ∙ c.documents.invariant.held;
  same = c.in-Ok-Some.ensures.same;
  ran =
      ran_next _ _ c.args.collection.now c.args.run.now c.args.shard c.documents.reader.shard _ _ c.in-Ok-Some.field-0 c.in-Ok-Some.doc c.documents.run c.push.new.self
      c.next.ensures.alone.held c.documents.invariant.shard c.in-Ok-Some.field-0-is c.in-Ok-Some.ensures.next (search rules) c.documents.invariant.ran (search rules);
  later = omega (arith, c.next.ensures.cause.later);
}

pub returns-in-Ok-None-clause-ran : goal.returns-in-Ok-None-clause-ran
returns-in-Ok-None-clause-ran g c =
    ran_end _ _ c.args.collection.now c.args.run.now c.args.shard c.documents.reader.shard _ c.in-Ok-None.field-0 c.documents.run
    c.documents.invariant.held c.documents.invariant.shard c.in-Ok-None.field-0-is c.in-Ok-None.ensures.next c.documents.invariant.ran
