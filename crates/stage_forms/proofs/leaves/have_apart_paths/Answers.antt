use Rattle.stage_forms.proofs.Walk.{leaf_paths}
use Rattle.stage_forms.proofs.leaves.have_apart_paths.Goals as goal

pub returns : goal.returns
returns c = rw (leaf_paths c.args.found.now) c.are_apart_in.ensures
