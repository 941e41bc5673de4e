use Rattle.std.proofs.Common.{◌≡◌, ℕ, List, take}
use Rattle.bson_value.specs.Paths.{behind}
use Rattle.doc_path.specs.Kept.{steps_in, rests_in}
use Rattle.doc_path.proofs.groups.group.Given as goal

abbrev pub invariant-loop-path : goal.invariant-loop-path
invariant-loop-path l = (n : List ℕ) → rests_in l.groups n ≡ behind n (steps_in (take l.path-index l.paths))
