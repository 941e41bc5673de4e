use Rattle.chunk_map.proofs.KeyOrder.{have_one_chunk}
use Rattle.chunk_map.proofs.laws.has_one_chunk.Goals as goal

pub returns : goal.returns
returns c = have_one_chunk c.args.collection.now c.known.ensures
