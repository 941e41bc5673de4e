-- The stages that hold no other pipeline and no join, by their names (the manual, Aggregation Stages).
use Rattle.std.specs.Prelude.{ℕ, List, [], ◌∷◌, Option, codes}
use Rattle.bson_value.specs.Pairs.{find}
use Rattle.stage_forms.specs.declared.kind.Kind.{Kind}
use Rattle.stage_forms.specs.declared.kind.Kind.TheVariants as K

unfoldable pub plain_stages : List (List ℕ × Kind)
plain_stages =
    (codes "$match", K.Match)
    ∷ (codes "$project", K.Project)
    ∷ (codes "$addFields", K.AddFields)
    ∷ (codes "$set", K.AddFields)
    ∷ (codes "$unset", K.Unset)
    ∷ (codes "$replaceRoot", K.ReplaceRoot)
    ∷ (codes "$replaceWith", K.ReplaceWith)
    ∷ (codes "$unwind", K.Unwind)
    ∷ (codes "$sort", K.Sort)
    ∷ (codes "$limit", K.Limit)
    ∷ (codes "$skip", K.Skip)
    ∷ (codes "$count", K.Count)
    ∷ []

unfoldable pub kind_named : List ℕ → Option Kind
kind_named name = find name plain_stages
