use Rattle.engine_bench.proofs.keys.+deep.Given as goal

abbrev pub decreases-deep : goal.decreases-deep
decreases-deep l = l.depth
