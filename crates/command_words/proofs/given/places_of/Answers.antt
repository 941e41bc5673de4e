use Rattle.std.proofs.Common.{◌∙◌, [], ap, codes}
use Rattle.std.specs.Prelude.{unwrap_or}
use Rattle.clap.specs.Words.{found_of}
use Rattle.clap.proofs.WalkLemmas.{raw_values-rows}
use Rattle.command_words.proofs.Getters.{unwrapped}
use Rattle.command_words.proofs.given.places_of.Goals as goal

pub returns : goal.returns
returns c = λ g h. unwrapped c.get_raw.result c.unwrap_or_default.result c.unwrap_or_default.ensures
    ∙ ap (λ o. unwrap_or o []) (c.get_raw.ensures ∙ raw_values-rows (found_of c.args.matches.now) (codes "words")) ∙ h.places
