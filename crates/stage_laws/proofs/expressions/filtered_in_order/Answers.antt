use Rattle.std.proofs.Common.{[], map}
use Rattle.std.specs.Prelude.{filter}
use Rattle.expr_tree.specs.Rows.{filtered}
use Rattle.stage_laws.specs.Outcomes.{keeps}
use Rattle.stage_laws.proofs.Outcomes.{values_are, are_values, code_is, filter_good, filter_bad}
use Rattle.stage_laws.proofs.expressions.filtered_in_order.Goals as goal

pub returns-clause-values : goal.returns-clause-values
returns-clause-values c go ts us =
    (values_are (map go ts) (filtered go [] ts) (λ vs. filter (λ t. keeps (go t)) ts) (filter_good go ts) (filter_bad go ts) us, are_values (map go ts) (filtered go [] ts) (λ vs. filter (λ t. keeps (go t)) ts) (filter_good go ts) (filter_bad go ts) us)

pub returns-clause-code : goal.returns-clause-code
returns-clause-code c go ts code = (code_is (map go ts) (filtered go [] ts) (λ vs. filter (λ t. keeps (go t)) ts) (filter_good go ts) (filter_bad go ts) code, filter_bad go ts code)
