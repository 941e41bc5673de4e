-- Sort keys: paths, each with a direction (the manual, `$sort`).
use Rattle.std.specs.Prelude.{◌≡◌, ◌≤◌, ℕ, ℤ, pos, negsuc, Bool, true, false, List, length, Option, Some, if◌then◌else◌}
use Rattle.std.specs.Ordering.{int_eq}
use Rattle.bson_value.specs.Path.{IsPathText, pieces}
use Rattle.bson_value.specs.Paths.{Steps}
use Rattle.bson_value.specs.Tree.{Tree}
use Rattle.expr_read.specs.Reading.{only_if, path_in, ◌>>=◌}
use Rattle.stage_tree.specs.Outcome.{Fields}
use Rattle.stage_tree.specs.Stage.{Keys}
use Rattle.stage_parts.specs.Each.{each, Pairwise}
use Rattle.stage_parts.specs.Names.{is_between}
use Rattle.stage_parts.specs.Values.{as_whole}

-- 1 is rising order and -1 falling order
abbrev pub falls : ℤ → Option Bool
falls n = if int_eq n (pos 1) then Some false else only_if (int_eq n (negsuc 0)) (Some true)

abbrev pub direction : Tree → Option Bool
direction t = as_whole t >>= falls

abbrev pub sort_key : List ℕ × Tree → Option (Steps × Bool)
sort_key p = path_in p.0 >>= λ path. direction p.1 >>= λ falling. Some (path, falling)

-- from 1 to 32 paths
abbrev pub sort_keys : Fields → Option Keys
sort_keys ps = only_if (is_between 1 32 (length ps)) (each sort_key ps)

-- the same, as it is written
abbrev pub IsDirection : Tree → Bool → Type 0
IsDirection t true = as_whole t ≡ Some (negsuc 0)
IsDirection t false = as_whole t ≡ Some (pos 1)

pub record IsKey (field : List ℕ × Tree) (key : Steps × Bool) : Type 0 where
  pub is_path : IsPathText field.0
  pub path : pieces field.0 ≡ key.0
  pub direction : IsDirection field.1 key.1

pub record AreKeys (fields : Fields) (keys : Keys) : Type 0 where
  pub some : 1 ≤ length fields
  pub few : length fields ≤ 32
  pub each : Pairwise IsKey fields keys
