-- What a test looks at, as the calls have it.
use Rattle.std.specs.Prelude.{List, [], ◌∷◌, map, Option, Some}
use Rattle.std.specs.Option.{option_map}
use Rattle.bson_value.specs.Tree.{Tree, doc, pairs_of}
use Rattle.bson_value.specs.View.{tree_of}
use Rattle.bson_value.specs.Paths.{ends, candidates}
use Rattle.expr_tree.specs.Holds.{Seen, found}
use Rattle.query_eval.specs.declared.places.Place.{Place}
use Rattle.query_eval.specs.declared.places.Place.TheVariants as P
use Rattle.query_eval.specs.declared.places.Candidates.{Candidates}
use Rattle.query_eval.specs.declared.places.Candidates.TheVariants as C

abbrev pub ends_at : Place → List (Option Tree)
ends_at (P.One v) = option_map (λ w. tree_of w.now) v ∷ []
ends_at (P.Array v l) = Some (tree_of v.now) ∷ []
ends_at (P.At d p) = ends p.now (doc (pairs_of d.now))

abbrev pub candidates_at : Place → List (Option Tree)
candidates_at (P.One v) = option_map (λ w. tree_of w.now) v ∷ []
candidates_at (P.Array v l) = Some (tree_of v.now) ∷ map Some l.now
candidates_at (P.At d p) = candidates p.now (doc (pairs_of d.now))

abbrev pub seen_at : Place → Seen
seen_at p = found (ends_at p) (candidates_at p)

abbrev pub candidates_in : Candidates → List (Option Tree)
candidates_in (C.One v) = option_map (λ w. tree_of w.now) v ∷ []
candidates_in (C.Array v l) = Some (tree_of v.now) ∷ map Some l.now
candidates_in (C.Many f) = f
