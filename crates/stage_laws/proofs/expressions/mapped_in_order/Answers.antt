use Rattle.std.proofs.Common.{[], map}
use Rattle.bson_value.specs.Operands.{or_null}
use Rattle.expr_tree.specs.Rows.{mapped}
use Rattle.stage_laws.proofs.Outcomes.{values_are, are_values, code_is, map_good, map_bad}
use Rattle.stage_laws.proofs.expressions.mapped_in_order.Goals as goal

pub returns-clause-values : goal.returns-clause-values
returns-clause-values c go ts us =
    (values_are (map go ts) (mapped go [] ts) (map or_null) (map_good go ts) (map_bad go ts) us, are_values (map go ts) (mapped go [] ts) (map or_null) (map_good go ts) (map_bad go ts) us)

pub returns-clause-code : goal.returns-clause-code
returns-clause-code c go ts code = (code_is (map go ts) (mapped go [] ts) (map or_null) (map_good go ts) (map_bad go ts) code, map_bad go ts code)
