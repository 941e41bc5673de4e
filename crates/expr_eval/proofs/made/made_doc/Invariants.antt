use Rattle.std.proofs.Common.{◌≡◌, true, drop, []}
use Rattle.bson_value.specs.View.{founds}
use Rattle.expr_tree.specs.Rows.{put_all}
use Rattle.expr_eval.specs.Seen.{HasNames}
use Rattle.expr_eval.proofs.made.made_doc.Given as goal

abbrev pub invariant-loop-name : goal.invariant-loop-name
invariant-loop-name l = (put_all l.doc (drop l.name-index l.names) (founds l.values.items) ≡ put_all [] l.names (founds l.initial.values.items)) × (l.many ≡ true → HasNames l.held l.doc)
