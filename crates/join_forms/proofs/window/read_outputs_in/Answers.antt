use Rattle.join_forms.proofs.Turns.{outputs_taken, outputs_refused}
use Rattle.join_forms.proofs.window.read_outputs_in.Goals as goal

pub returns-then-branch : goal.returns-then-branch
returns-then-branch c = outputs_taken c.args.sorted c.args.doc.now c.in_ok-outputs.outputs c.items.result.now c.in_ok-are_apart_in.field-0 c.in_ok-outputs.ensures c.items.ensures c.in_ok-are_apart_in.ensures c.if-branch.true

pub returns-else-branch : goal.returns-else-branch
returns-else-branch c = outputs_refused c.args.sorted c.args.doc.now c.in_ok-outputs.outputs c.items.result.now c.in_ok-are_apart_in.field-0 c.in_ok-outputs.ensures c.items.ensures c.in_ok-are_apart_in.ensures c.if-branch.false
