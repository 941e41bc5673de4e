use Rattle.std.proofs.Common.{◌++◌, ◌∷◌, [], arith, add-one}
use Rattle.bson_value.specs.View.{tree_of}
use Rattle.key_codec.specs.Keyed.{tag, body_key}
use Rattle.key_codec.specs.Seen.{seen}
use Rattle.key_codec.proofs.Elements.{pair_is_at, member_is_at, wrote}
use Rattle.key_codec.proofs.part.+key.Goals as goal

pub put_pairs-put_body-requires : goal.put_pairs-put_body-requires
put_pairs-put_body-requires t c =
    let h = pair_is_at c.args.collation c.args.doc.now c.loop-i.i c.name.result.now (tree_of c.value-value.result.now) c.name.ensures c.value-value.ensures in
    (omega (arith, c.decreases, h.smaller), tt)

pub put_pairs-loop-i-preserved : goal.put_pairs-loop-i-preserved
put_pairs-loop-i-preserved t c =
    let h = pair_is_at c.args.collation c.args.doc.now c.loop-i.i c.name.result.now (tree_of c.value-value.result.now) c.name.ensures c.value-value.ensures in
    rw add-one (wrote c.loop-i.out.items c.put_head.new.out.items c.put_body.new.out.items _ (tag (tree_of c.value-value.result.now) ∷ (c.name.result.now ++ 0 ∷ [])) (body_key (seen c.args.collation (tree_of c.value-value.result.now))) _ _ (rw c.tag_of.ensures at c.in_ok-put_head.ensures) c.in_ok-put_body.ensures h.bytes c.loop-i.invariant)

pub put_members-put_body-requires : goal.put_members-put_body-requires
put_members-put_body-requires t c =
    let h = member_is_at c.args.collation c.args.list.now c.loop-i.i (tree_of c.value-value.result.now) c.value-value.ensures in
    (omega (arith, c.decreases, h.smaller), tt)

pub put_members-loop-i-preserved : goal.put_members-loop-i-preserved
put_members-loop-i-preserved t c =
    let h = member_is_at c.args.collation c.args.list.now c.loop-i.i (tree_of c.value-value.result.now) c.value-value.ensures in
    rw add-one (wrote c.loop-i.out.items c.push.new.self.items c.put_body.new.out.items _ (tag (tree_of c.value-value.result.now) ∷ []) (body_key (seen c.args.collation (tree_of c.value-value.result.now))) _ _ (rw c.tag_of.ensures at c.in_ok-push.ensures.items) c.in_ok-put_body.ensures h.bytes c.loop-i.invariant)
