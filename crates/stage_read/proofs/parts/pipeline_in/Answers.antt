use Rattle.std.specs.Option.{option_map}
use Rattle.bson_value.specs.Tree.{trees_of}
use Rattle.bson_value.specs.View.{tree_of}
use Rattle.stage_read.proofs.FieldSteps.{fields_go, fields_stop}
use Rattle.stage_read.proofs.parts.pipeline_in.Goals as goal

pub returns-in-None : goal.returns-in-None
returns-in-None c = fields_stop c.args.doc.now c.loop-i.i c.name-bytes.result.now (tree_of c.value-value.result.now) c.name-bytes.ensures c.value-value.ensures (option_map (λ r. trees_of r.now) c.loop-i.found) _ c.loop-i.invariant c.in-None.ensures

pub loop-i-preserved : goal.loop-i-preserved
loop-i-preserved c = fields_go c.args.doc.now c.loop-i.i c.name-bytes.result.now (tree_of c.value-value.result.now) c.name-bytes.ensures c.value-value.ensures (option_map (λ r. trees_of r.now) c.loop-i.found) _ c.loop-i.invariant _ c.in-Some.ensures
