use Rattle.bson_value.proofs.Replaced.{replaced}
use Rattle.bson_value.proofs.value.replace_pair.Goals as goal

pub returns-clause-rest : goal.returns-clause-rest
returns-clause-rest c = rw c.replace.ensures.after (replaced c.args.pairs.now.items c.args.i c.index_mut.result.now c.args.value c.requires c.index_mut.ensures.value)
