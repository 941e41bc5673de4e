use Rattle.std.proofs.Common.{ap}
use Rattle.std.specs.Prelude.{option_map}
use Rattle.chunk_map.proofs.Listed.{item_at}
use Rattle.orphan_filter.specs.Reader.{reading_of}
use Rattle.orphan_filter.proofs.Given.{shard_file_good, opened_all}
use Rattle.orphan_filter.proofs.owned_reader.records_of.Goals as goal

pub open-requires : goal.open-requires
open-requires g c =
    let at = item_at c.shards.result.now c.args.place c.index-shards-place.result (rw c.shards.ensures.all c.requires.shard) c.index-shards-place.is in
    shard_file_good _ c.args.collection.now c.args.place c.index-shards-place.result c.requires.good (rw (← c.shards.ensures.all) at)

pub returns-in-None-clause-follows : goal.returns-in-None-clause-follows
returns-in-None-clause-follows g c =
    let at = item_at c.shards.result.now c.args.place c.index-shards-place.result (rw c.shards.ensures.all c.requires.shard) c.index-shards-place.is in
    opened_all reading_of c.open.result _ _ c.args.collection.now c.args.place c.args.given c.index-shards-place.result _ c.open.ensures.alone.held (ap (option_map reading_of) c.in-None.is) (rw (← c.shards.ensures.all) at) c.requires.same c.open.ensures.opened c.open.ensures.given
