-- What a command gives of the owned documents (the manual, aggregation pipeline stages).
use Rattle.std.specs.Prelude.{ℕ, suc, List, map, flat_map, Result, Ok, Err}
use Rattle.bson_value.specs.declared.errors.Failure.{Failure}
use Rattle.bson_codec.specs.Spelling.{spelling}
use Rattle.chunk_map.specs.Table.{Table}
use Rattle.chunk_map.specs.Owned.{Files, owned}
use Rattle.stage_tree.specs.Stage.{Stages, no_stages, placed}
use Rattle.stage_tree.specs.Outcome.{World, Ran, ◌>>=◌}
use Rattle.stage_tree.specs.Joining.{owned_in}
use Rattle.stage_tree.specs.Written.{written}
use Rattle.stage_tree.specs.Output.{output}

-- a command: the collection's name, and the stages
abbrev pub Command : Type 0
Command = List ℕ × Stages

abbrev pub number_of : Stages → ℕ
number_of no_stages = 0
number_of (placed s origins ss) = suc (number_of ss)

-- the collections of a cluster, each with the documents that it owns
abbrev pub world_of : Files → Table → World
world_of files collections = map (λ c. (c.name, owned files c)) collections

-- the stages as they are written, one after another, over the owned documents of the collection; and behind them the check of the results
abbrev pub outcome : Command → World → Ran
outcome c world = written c.1 world (owned_in c.0 world) >>= output (number_of c.1)

-- the spellings of the results, joined
abbrev pub spelled : Ran → Result (List ℕ) Failure
spelled (Ok docs) = Ok (flat_map spelling docs)
spelled (Err failure) = Err failure

-- what a command writes, or the failure of a stage or of the check
abbrev pub results : Command → World → Result (List ℕ) Failure
results c world = spelled (outcome c world)
