-- The mode that the words of a command line ask for.
use Rattle.std.specs.Prelude.{ℕ, ◌-◌, ◌*◌, ◌^◌, ◌&&◌, Bool, not, List, [], ◌∷◌, Option, Some, None, option_map, option_and_then, is_some, codes, drop, nat_eq, if◌then◌else◌}
use Rattle.std.specs.Str.{bytes_eq}
use Rattle.std.specs.List.{starts_with}
use Rattle.command_words.specs.declared.arrive.Arrive.{Arrive}
use Rattle.command_words.specs.declared.arrive.Arrive.TheVariants.{Name, Turns, Mix}
use Rattle.command_words.specs.declared.make_part.MakePart.{MakePart}
use Rattle.command_words.specs.declared.make_part.MakePart.TheVariants as part
use Rattle.command_words.specs.declared.run_options.RunOptions.{RunOptions}
use Rattle.command_words.specs.declared.mode.Mode.{Mode}
use Rattle.command_words.specs.declared.mode.Mode.TheVariants.{Run, Explain, Check, Make, Work}
use Rattle.command_words.specs.Numbers.{number_in}
use Rattle.command_words.specs.Given.{Word, Given, given}

-- ---- options

-- the number that an option gives, or its default
abbrev pub number_or : ℕ → ℕ → ℕ → Option Word → Option ℕ
number_or default low high None = Some default
number_or default low high (Some text) = number_in low high text

abbrev pub arrival_of : Word → Option Arrive
arrival_of text =
    if bytes_eq text (codes "name") then Some Name
    else (if bytes_eq text (codes "turns") then Some Turns
    else (if starts_with nat_eq text (codes "mix:") then option_map Mix (number_in 0 (2 ^ 64 - 1) (drop 4 text)) else None))

abbrev pub arrival_or : Option Word → Option Arrive
arrival_or None = Some Name
arrival_or (Some text) = arrival_of text

abbrev pub options_of : ℕ → ℕ → ℕ → Arrive → Bool → RunOptions
options_of kibibytes batch cache arrival stats = record {
  settings = record { budget = 1024 * kibibytes; cache = cache; documents = 2 ^ 40 };
  batch = batch;
  arrival = arrival;
  stats = stats;
}

abbrev pub options_in : Given → Option RunOptions
options_in g =
    option_and_then (λ kibibytes.
    option_and_then (λ batch.
    option_and_then (λ cache.
    option_map (λ arrival. options_of kibibytes batch cache arrival g.stats)
    (arrival_or g.arrival))
    (number_or 100 1 10000 g.cache))
    (number_or 101 1 10000 g.batch))
    (number_or 1024 4 262144 g.budget)

-- no option is there
abbrev pub is_bare : Given → Bool
is_bare g = not (is_some g.budget) && not (is_some g.batch) && not (is_some g.cache) && not (is_some g.arrival) && not g.stats

-- ---- modes

abbrev pub part_of : Word → Option MakePart
part_of name =
    if bytes_eq name (codes "cluster") then Some part.Cluster
    else (if bytes_eq name (codes "command") then Some part.Command
    else (if bytes_eq name (codes "a") then Some part.A
    else (if bytes_eq name (codes "b") then Some part.B
    else (if bytes_eq name (codes "c") then Some part.C else None))))

abbrev pub make : Word → Word → Word → Option Mode
make name number count =
    option_and_then (λ part. option_and_then (λ n. option_map (Make part n)
    (number_in 1 100000 count)) (number_in 0 (2 ^ 64 - 1) number)) (part_of name)

abbrev pub work : Word → Word → RunOptions → Option Mode
work number count options =
    option_and_then (λ n. option_map (λ k. Work n k options)
    (number_in 1 100000 count)) (number_in 0 (2 ^ 64 - 1) number)

-- the mode of a command, by its further positional words
abbrev pub command_mode : Given → Word → List Word → Option Mode
command_mode g command (first ∷ second ∷ []) =
    if bytes_eq command (codes "run") then option_map (Run first second) (options_in g)
    else (if bytes_eq command (codes "explain") && is_bare g then Some (Explain first second)
    else (if bytes_eq command (codes "check") && is_bare g then Some (Check first second)
    else (if bytes_eq command (codes "work") && not g.stats then option_and_then (work first second) (options_in g)
    else None)))
command_mode g command (name ∷ number ∷ count ∷ []) = if bytes_eq command (codes "make") && is_bare g then make name number count else None
command_mode g command _ = None

abbrev pub mode_by : Given → List Word → Option Mode
mode_by g [] = None
mode_by g (command ∷ rest) = command_mode g command rest

abbrev pub mode_in : Given → Option Mode
mode_in g = mode_by g g.places

-- the mode that the words ask for, if any
abbrev pub mode_of : List Word → Option Mode
mode_of words = option_and_then mode_in (given words)
