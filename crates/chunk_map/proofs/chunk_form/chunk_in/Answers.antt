use Rattle.std.proofs.Common.{arith}
use Rattle.chunk_map.proofs.InOrder.{place_most}
use Rattle.chunk_map.proofs.chunk_form.chunk_in.Goals as goal

pub overflow_cast-shard : goal.overflow_cast-shard
overflow_cast-shard c = omega (arith, c.place_of-shard.ensures, place_most c.bytes-2.result.now c.args.shards.now, c.requires.few)
