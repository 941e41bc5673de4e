use Rattle.std.proofs.Common.{ap₂, ◌∙◌}
use Rattle.std.proofs.lemmas.Result.{IfOk-weaker}
use Rattle.clap.specs.Words.{with_rule}
use Rattle.command_words.proofs.parse.command.Goals as goal

pub returns : goal.returns
returns c =
    let places = c.in_ok-with_places.ensures ∙ ap₂ with_rule c.bare.ensures c.places.ensures.rule in
    let budget = c.in_ok-with_budget.ensures ∙ ap₂ with_rule places c.option.ensures.rule in
    let batch = c.in_ok-with_batch.ensures ∙ ap₂ with_rule budget c.option-2.ensures.rule in
    let cache = c.in_ok-with_cache.ensures ∙ ap₂ with_rule batch c.option-3.ensures.rule in
    let arrival = c.in_ok-with_arrival.ensures ∙ ap₂ with_rule cache c.option-4.ensures.rule in
    IfOk-weaker c.with-6.result _ _ (λ r h. h ∙ ap₂ with_rule arrival c.flag.ensures.rule) c.with-6.ensures
