-- What is given, without where it lies in memory.
use Rattle.std.specs.Prelude.{map, option_map}
use Rattle.command_words.specs.declared.given.Given as declared
use Rattle.command_words.specs.Given.{Given}

abbrev pub given_of : declared.Given → Given
given_of g = record {
  places = map (λ w. w.now) g.places.now;
  budget = option_map (λ w. w.now) g.budget;
  batch = option_map (λ w. w.now) g.batch;
  cache = option_map (λ w. w.now) g.cache;
  arrival = option_map (λ w. w.now) g.arrival;
  stats = g.stats;
}
