use Rattle.std.proofs.Common.{◌∙◌, codes}
use Rattle.clap.specs.Words.{found_of}
use Rattle.clap.proofs.WalkLemmas.{first_value-rows}
use Rattle.command_words.proofs.Getters.{flag_is, flag_missing, text_is}
use Rattle.command_words.proofs.given.has_stats.Goals as goal

pub returns-in-Some : goal.returns-in-Some
returns-in-Some c = λ g h.
    c.eq.ensures ∙ flag_is c.in-Some.text.now g.stats
    (text_is c.get_str.result c.in-Some.text _ c.in-Some.is (c.get_str.ensures ∙ first_value-rows (found_of c.args.matches.now) (codes "stats") ∙ h.stats))

pub returns-in-None : goal.returns-in-None
returns-in-None c = λ g h.
    absurd (flag_missing c.get_str.result _ c.in-None.is (c.get_str.ensures ∙ first_value-rows (found_of c.args.matches.now) (codes "stats") ∙ h.stats))
