use Rattle.std.proofs.Common.{◌≡◌, ◌+◌, ◌<◌, true, false, List, [], length, get_or, sym, subst, arith}
use Rattle.std.proofs.lemmas.Option.{slice_get-get_or}
use Rattle.std.specs.List.{AllWithin}
use Rattle.merge_cursor.specs.declared.shards.Progress.TheVariants.{Fresh}
use Rattle.merge_cursor.specs.declared.shards.Shard.{Shard}
use Rattle.merge_cursor.specs.declared.answer.Take.{Take}
use Rattle.merge_cursor.specs.Core.{Core}
use Rattle.merge_cursor.specs.Shards.{is_used_up}
use Rattle.merge_cursor.specs.Answers.{Answers}
use Rattle.merge_cursor.proofs.Taking.{in_order_answers}
use Rattle.merge_cursor.proofs.merge.MergeCore.choose.Goals as goal

pub returns-else-self-len : goal.returns-else-self-len
returns-else-self-len c =
    let value = c.as_slice-else-self.ensures.value in
    let len = c.as_slice-else-self.ensures.len in
    let below : c.skip_used_up-self-inside.result < length c.as_slice-else-self.result.now = omega (arith, c.skip_used_up-self-inside.ensures.within, c.len.ensures, c.if-self-len.false) in
    let within = subst (λ (xs : List Shard). c.skip_used_up-self-inside.result < length xs) value below in
    let used = subst (λ (xs : List Shard). AllWithin (λ s. is_used_up s ≡ true) xs 0 c.skip_used_up-self-inside.result) value c.skip_used_up-self-inside.ensures.before in
    let up = subst (λ (xs : List Shard). AllWithin (λ s. is_used_up s ≡ false) xs c.skip_used_up-self-inside.result (c.skip_used_up-self-inside.result + 1)) value (c.skip_used_up-self-inside.ensures.at below) in
    let core : Core = record { by_key = c.self.inside.by_key; shards = c.self.inside.shards.items; least = c.self.inside.least } in
    let after : Core = record { by_key = c.self.inside.by_key; shards = c.take_front-else-self.new.shards.items; least = c.self.inside.least } in
    subst (λ (q : Core). Answers q c.take_of.result after) c.self.view_is
    (subst (λ (r : Take). Answers core r after) (sym c.take_of.ensures)
    (in_order_answers core c.skip_used_up-self-inside.result c.take_front-else-self.result c.take_front-else-self.new.shards.items (get_or c.self.inside.shards.items c.skip_used_up-self-inside.result (record { waiting = []; progress = Fresh })) c.if-self.false
    (slice_get-get_or c.self.inside.shards.items c.skip_used_up-self-inside.result (record { waiting = []; progress = Fresh }) within) used up c.take_front-else-self.ensures))
