use Rattle.std.proofs.Common.{◌≡◌, true, false, take, ◌∙◌}
use Rattle.std.specs.Prelude.{is_some}
use Rattle.bson_value.specs.Pairs.{find}
use Rattle.bson_codec.proofs.Known.{found_either}
use Rattle.bson_codec.proofs.seen.is_named.Goals as goal

pub returns-then-is_among_few : goal.returns-then-is_among_few
returns-then-is_among_few c =
    let few : is_some (find c.args.name.now (take 16 c.args.doc.now)) ≡ true = cc in
    let was : c.is_among_few.result ≡ true = cc in
    was ∙ rw few at (found_either 16 c.args.name.now c.args.doc.now)

pub returns-else-is_among_few : goal.returns-else-is_among_few
returns-else-is_among_few c =
    let few : is_some (find c.args.name.now (take 16 c.args.doc.now)) ≡ false = cc in
    c.contains_key.ensures ∙ c.requires.names c.args.name.now ∙ rw few at (found_either 16 c.args.name.now c.args.doc.now)
