use Rattle.std.proofs.Common.{[], arith}
use Rattle.expr_tree.specs.Bound.{around}
use Rattle.expr_tree.specs.Env.{env_of}
use Rattle.stage_laws.proofs.ValueDepths.{value_within}
use Rattle.stage_laws.proofs.depths.values_within_bound.Goals as goal

pub returns-clause-value : goal.returns-clause-value
returns-clause-value c = value_within

pub returns-clause-alone : goal.returns-clause-alone
returns-clause-alone c e b d t steps nested says given =
    value_within e (around b []) (env_of d []) t steps (record { document = nested; names = λ x more. omega arith }) says given
