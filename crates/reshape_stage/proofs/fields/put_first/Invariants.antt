use Rattle.std.proofs.Common.{◌≡◌, ◌∷◌, ◌++◌, length}
use Rattle.bson_value.specs.View.{tree_of}
use Rattle.doc_path.proofs.Keeping.{AreApart}
use Rattle.stage_tree.specs.Rows.{id_name}
use Rattle.reshape_stage.proofs.fields.put_first.Given as goal

abbrev pub invariant-loop-name : goal.invariant-loop-name
invariant-loop-name l = record { whole : (id_name, tree_of l.fn.id) ∷ l.fn.rest ≡ l.doc ++ l.fields; apart : AreApart (l.doc ++ l.fields) }

abbrev pub decreases-loop-name : goal.decreases-loop-name
decreases-loop-name l = length l.fields
