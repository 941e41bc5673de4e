-- A stage of a list, and a pipeline of a `$facet`, is smaller than all of them.
use Rattle.std.proofs.Common.{◌≡◌, ℕ, zero, suc, ◌<◌, List, [], ◌∷◌, length, get_or, arith}
use Rattle.stage_tree.specs.Stage.{StageNode, stage_size, stages_size, stages_of, pipes_size, pipes_of}

pub stage-at : (ss : List (StageNode × List ℕ)) (i : ℕ) (s : StageNode × List ℕ) → i < length ss → s ≡ get_or ss i s → stage_size s.0 < stages_size (stages_of ss)
stage-at [] i s lt p = absurd (omega arith)
stage-at (x ∷ ss) zero s lt p = rw p (omega arith)
stage-at (x ∷ ss) (suc i) s lt p = omega (arith, stage-at ss i s (omega arith) p)

pub facet-at : (fs : List (List ℕ × List (StageNode × List ℕ))) (i : ℕ) (f : List ℕ × List (StageNode × List ℕ)) → i < length fs → f ≡ get_or fs i f → stages_size (stages_of f.1) < pipes_size (pipes_of fs)
facet-at [] i f lt p = absurd (omega arith)
facet-at (x ∷ fs) zero f lt p = rw p (omega arith)
facet-at (x ∷ fs) (suc i) f lt p = omega (arith, facet-at fs i f (omega arith) p)
