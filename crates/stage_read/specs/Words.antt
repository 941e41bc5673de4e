-- The words of commands and of stages that hold pipelines, and what may stand where (the manual: `aggregate`, `$facet`,
-- `$unionWith`, `$merge`).
use Rattle.std.specs.Prelude.{ℕ, Bool, true, false, List, ◌||◌, codes}
use Rattle.std.specs.Str.{bytes_eq}
use Rattle.stage_read.specs.declared.place.Place.{Place}
use Rattle.stage_read.specs.declared.place.Place.TheVariants as P

-- ---- fields of a command

abbrev pub is_pipeline : List ℕ → Bool
is_pipeline s = bytes_eq s (codes "pipeline")

-- fields that may stand with any value, and say nothing
abbrev pub is_ignored : List ℕ → Bool
is_ignored s =
    bytes_eq s (codes "cursor") || bytes_eq s (codes "allowDiskUse") || bytes_eq s (codes "comment")
    || bytes_eq s (codes "maxTimeMS") || bytes_eq s (codes "lsid") || bytes_eq s (codes "$db")

-- ---- stages

abbrev pub is_facet : List ℕ → Bool
is_facet s = bytes_eq s (codes "$facet")

abbrev pub is_union : List ℕ → Bool
is_union s = bytes_eq s (codes "$unionWith")

abbrev pub is_merge : List ℕ → Bool
is_merge s = bytes_eq s (codes "$merge")

-- the stages that hold pipelines
abbrev pub holds_pipelines : List ℕ → Bool
holds_pipelines s = is_facet s || is_union s

-- ---- places

-- a `$merge` stands only as the last stage of the command
abbrev pub may_merge : Place → Bool
may_merge P.Last = true
may_merge P.Other = false
may_merge P.Facet = false

-- a `$facet` stands in no other
abbrev pub may_facet : Place → Bool
may_facet P.Last = true
may_facet P.Other = true
may_facet P.Facet = false

-- where the stages of a `$unionWith` stand
abbrev pub in_union : Place → Place
in_union P.Last = P.Other
in_union P.Other = P.Other
in_union P.Facet = P.Facet
