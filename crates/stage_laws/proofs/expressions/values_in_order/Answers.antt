use Rattle.std.proofs.Common.{List, [], subst, map}
use Rattle.std.specs.Prelude.{Option}
use Rattle.bson_value.specs.Tree.{Tree}
use Rattle.expr_tree.specs.Rows.{all_from}
use Rattle.stage_laws.specs.Outcomes.{AllGive}
use Rattle.stage_laws.proofs.Outcomes.{values_are, code_is, all_good, all_bad}
use Rattle.stage_laws.proofs.expressions.values_in_order.Goals as goal

pub returns-clause-values : goal.returns-clause-values
returns-clause-values c ms env vs =
    (λ e. let r = values_are (map (λ m. m env) ms) (all_from [] ms env) (λ (us : List (Option Tree)). us) (all_good env ms) (all_bad env ms) vs e in subst (AllGive (map (λ m. m env) ms)) r.2 r.1, all_good env ms vs)

pub returns-clause-code : goal.returns-clause-code
returns-clause-code c ms env code =
    (code_is (map (λ m. m env) ms) (all_from [] ms env) (λ (us : List (Option Tree)). us) (all_good env ms) (all_bad env ms) code, all_bad env ms code)
