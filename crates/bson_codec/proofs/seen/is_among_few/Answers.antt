use Rattle.std.proofs.Common.{◌≡◌, ◌<◌, true, false, sym, arith, add-one}
use Rattle.std.specs.Str.{bytes_eq}
use Rattle.bson_codec.proofs.Known.{none_more, found_at}
use Rattle.bson_codec.proofs.seen.is_among_few.Goals as goal

pub returns-then-eq : goal.returns-then-eq
returns-then-eq c =
    let same : bytes_eq c.name.result.now c.args.name.now ≡ true = cc in
    let lt : c.loop-i.i < 16 = omega arith in
    sym (found_at c.args.name.now c.name.result.now c.args.doc.now c.loop-i.i 16 c.name.ensures same lt)

pub loop-i-preserved : goal.loop-i-preserved
loop-i-preserved c =
    let differs : bytes_eq c.name.result.now c.args.name.now ≡ false = cc in
    rw add-one (none_more c.args.name.now c.name.result.now c.args.doc.now c.loop-i.i c.name.ensures differs c.loop-i.invariant)
