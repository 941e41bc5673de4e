-- What a `$project` says of its paths (the manual, `$project`).
use Rattle.std.specs.Prelude.{pos, Bool, true, false, not, ◌&&◌, ◌||◌, ◌==◌, List, [], ◌∷◌, length, Option, Some, None, if◌then◌else◌}
use Rattle.std.specs.List.{list_all}
use Rattle.std.specs.Ordering.{int_eq}
use Rattle.std.specs.Str.{bytes_eq}
use Rattle.bson_value.specs.Paths.{Steps}
use Rattle.bson_value.specs.Tree.{Tree, leaf, int, long, flag}
use Rattle.stage_tree.specs.Rows.{id_name}
use Rattle.stage_forms.specs.Leaves.{Leaves}

-- a number or a flag says whether a path is kept; another value is an expression, to which the path is set
abbrev pub said : Tree → Option Bool
said (leaf (int n)) = Some (not (int_eq n (pos 0)))
said (leaf (long n)) = Some (not (int_eq n (pos 0)))
said (leaf (flag b)) = Some b
said t = None

abbrev pub is_kept : Option Bool → Bool
is_kept (Some b) = b
is_kept None = false

abbrev pub is_removed : Option Bool → Bool
is_removed (Some b) = not b
is_removed None = false

abbrev pub keeps : Tree → Bool
keeps t = is_kept (said t)

abbrev pub removes : Tree → Bool
removes t = is_removed (said t)

-- a path begins with `_id`, and it is `_id`
abbrev pub is_under_id : Steps → Bool
is_under_id [] = false
is_under_id (s ∷ ss) = bytes_eq s id_name

abbrev pub is_id : Steps → Bool
is_id p = length p == 1 && is_under_id p

-- it is an exclusion where the first path but `_id` is removed; where there is no other path, where `_id` is
abbrev pub excludes : Leaves → Bool
excludes [] = false
excludes (l ∷ []) = removes l.1
excludes (l ∷ m ∷ ls) = if is_id l.0 then excludes (m ∷ ls) else removes l.1

-- an exclusion removes all its paths, and may keep `_id`; an inclusion removes none, but for `_id`
abbrev pub fits : Bool → Steps × Tree → Bool
fits true l = removes l.1 || (is_id l.0 && keeps l.1)
fits false l = not (removes l.1) || is_id l.0

-- `_id` stays whole: in an exclusion where it isn't removed, in an inclusion where nothing else is said of it
abbrev pub leaves_id : Bool → Steps × Tree → Bool
leaves_id true l = not (is_id l.0 && removes l.1)
leaves_id false l = not (is_under_id l.0) || (is_id l.0 && keeps l.1)

abbrev pub keeps_id : Bool → Leaves → Bool
keeps_id excl ls = list_all (leaves_id excl) ls

-- the paths of which it is said whether they are kept, but `_id`
abbrev pub listed_path : Option Bool → Steps → List Steps → List Steps
listed_path None p ps = ps
listed_path (Some b) p ps = if is_id p then ps else p ∷ ps

abbrev pub listed : Leaves → List Steps
listed [] = []
listed (l ∷ ls) = listed_path (said l.1) l.0 (listed ls)

-- those that are set
abbrev pub set_path : Option Bool → Steps × Tree → Leaves → Leaves
set_path None l ls = l ∷ ls
set_path (Some b) l ls = ls

abbrev pub computed : Leaves → Leaves
computed [] = []
computed (l ∷ ls) = set_path (said l.1) l (computed ls)
