use Rattle.std.proofs.Common.{◌≡◌, take}
use Rattle.doc_path.specs.Kept.{steps_in}
use Rattle.doc_path.proofs.keep_path.all_steps.Given as goal

abbrev pub invariant-loop-path : goal.invariant-loop-path
invariant-loop-path l = steps_in l.all.items ≡ take l.path-index l.paths
