use Rattle.std.proofs.Common.{◌≡◌, ◌++◌, OnOk, subst}
use Rattle.std.specs.Option.{option_map}
use Rattle.bson_value.specs.View.{tree_of}
use Rattle.key_codec.specs.Keyed.{Part, part_key}
use Rattle.key_codec.proofs.Sights.{seen_part-simple}
use Rattle.key_codec.proofs.part.key_bytes.Goals as goal

pub returns-clause-ok : goal.returns-clause-ok
returns-clause-ok c =
    subst (λ (p : Part). OnOk c.put_part.result (c.put_part.new.out ≡ c.args.out.now ++ part_key p)) (seen_part-simple (c.args.falling, option_map (λ v. tree_of v.now) c.args.value)) c.put_part.ensures.ok
