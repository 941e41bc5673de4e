-- The command that the code gives to `clap`, as `clap`'s own contracts see it, and what they say of a parse.
use Rattle.std.specs.Prelude.{◌≡◌, List, [], ◌∷◌, Bool, true, Some, codes, unwrap_or, if◌then◌else◌}
use Rattle.clap.specs.Walk.{Row, Rule, first_of, all_of}
use Rattle.clap.specs.Kinds.{Kinds}
use Rattle.clap.specs.Faults.{fault_of}
use Rattle.clap.specs.Simple.{App, matches_of, new_rule, new_shape}
use Rattle.clap.specs.declared.builder.action.ArgAction.TheVariants.{Append, SetTrue}
use Rattle.command_words.specs.Given.{Word, Given, place}

abbrev pub place_rule : Rule
place_rule = record (new_rule place) { action = Some Append }

abbrev pub option_rule : Word → Rule
option_rule name = record (new_rule name) { long = Some name }

abbrev pub flag_rule : Word → Rule
flag_rule name = record (new_rule name) { long = Some name; action = Some SetTrue }

abbrev pub rules : List Rule
rules =
    place_rule ∷ option_rule (codes "budget") ∷ option_rule (codes "batch")
    ∷ option_rule (codes "cache") ∷ option_rule (codes "arrival") ∷ flag_rule (codes "stats") ∷ []

abbrev pub bare_app : App
bare_app = record {
  top = record (new_shape (codes "mongopipe")) { no_binary_name = true; disable_help_flag = true };
  subs = [];
}

abbrev pub the_app : App
the_app = record {
  top = record (new_shape (codes "mongopipe")) { rules = rules; no_binary_name = true; disable_help_flag = true };
  subs = [];
}

-- what a parse of these words finds
unfoldable pub rows_for : List Word → List Row
rows_for words = matches_of the_app words

-- the kinds of error that these words have
unfoldable pub faults_of : List Word → Kinds
faults_of words = fault_of the_app words

abbrev pub flag_text : Bool → Word
flag_text b = if b then codes "true" else codes "false"

-- the getters answer what is given
pub record Holds (rows : List Row) (g : Given) : Type 0 where
  pub places : unwrap_or (all_of place rows) [] ≡ g.places
  pub budget : first_of (codes "budget") rows ≡ g.budget
  pub batch : first_of (codes "batch") rows ≡ g.batch
  pub cache : first_of (codes "cache") rows ≡ g.cache
  pub arrival : first_of (codes "arrival") rows ≡ g.arrival
  pub stats : first_of (codes "stats") rows ≡ Some (flag_text g.stats)
