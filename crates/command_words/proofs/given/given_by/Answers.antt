use Rattle.std.proofs.Common.{◌∙◌, codes, refl}
use Rattle.clap.specs.Words.{found_of}
use Rattle.clap.proofs.WalkLemmas.{first_value-rows}
use Rattle.command_words.proofs.given.given_by.Goals as goal

pub returns : goal.returns
returns c = λ g h.
    let places = c.places_of.ensures g h in
    let stats = c.has_stats.ensures g h in
    let budget = c.get_str.ensures ∙ first_value-rows (found_of c.args.matches.now) (codes "budget") ∙ h.budget in
    let batch = c.get_str-2.ensures ∙ first_value-rows (found_of c.args.matches.now) (codes "batch") ∙ h.batch in
    let cache = c.get_str-3.ensures ∙ first_value-rows (found_of c.args.matches.now) (codes "cache") ∙ h.cache in
    let arrival = c.get_str-4.ensures ∙ first_value-rows (found_of c.args.matches.now) (codes "arrival") ∙ h.arrival in
    rw (places, stats, budget, batch, cache, arrival) refl
