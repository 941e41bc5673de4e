use Rattle.std.proofs.Common.{sym}
use Rattle.stage_parts.specs.Names.{words, is_known}
use Rattle.stage_parts.proofs.NameTexts.{all_stops, all_goes}
use Rattle.stage_parts.proofs.names.are_known.Goals as goal

pub returns-then-not-is_known : goal.returns-then-not-is_known
returns-then-not-is_known c = all_stops (is_known (words c.args.required.now) (words c.args.optional.now)) c.args.doc.now c.loop-i.i c.name.result.now c.name.ensures (sym c.if-not-is_known.ensures) _ c.loop-i.invariant

pub loop-i-preserved : goal.loop-i-preserved
loop-i-preserved c = all_goes (is_known (words c.args.required.now) (words c.args.optional.now)) c.args.doc.now c.loop-i.i c.name.result.now c.name.ensures (sym c.if-not-is_known.ensures) _ c.loop-i.invariant
