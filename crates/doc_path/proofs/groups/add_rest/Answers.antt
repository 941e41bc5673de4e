use Rattle.std.proofs.Common.{◌∙◌, ap}
use Rattle.doc_path.proofs.Keeping.{rest_more, steps_or}
use Rattle.doc_path.proofs.groups.add_rest.Goals as goal

pub returns : goal.returns
returns c =
    rest_more c.args.step.now c.args.rest c.args.groups.now c.remove.new.self c.insert.new.self c.rests_so_far-rests.result c.push.new.self c.remove.ensures.updates c.in_ok-insert.ensures.updates
    (c.rests_so_far-rests.ensures ∙ ap steps_or c.remove.ensures.value) c.in_ok-push.ensures.items
