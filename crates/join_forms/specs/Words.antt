-- The words of the stages that group, join and merge documents (the manual: `$group`, `$setWindowFields`, `$merge`).
use Rattle.std.specs.Prelude.{ℕ, Bool, true, false, List, [], ◌∷◌, Option, codes}
use Rattle.bson_value.specs.Pairs.{find}
use Rattle.bson_value.specs.Tree.{null, leaf}
use Rattle.bson_value.specs.declared.acc_kind.AccKind.{AccKind}
use Rattle.bson_value.specs.declared.acc_kind.AccKind.TheVariants as A
use Rattle.expr_tree.specs.Node.{literal, Node, node, no_nodes}
use Rattle.stage_tree.specs.declared.merge.WhenMatched.{WhenMatched}
use Rattle.stage_tree.specs.declared.merge.WhenMatched.TheVariants as M
use Rattle.stage_tree.specs.declared.merge.WhenUnmatched.{WhenUnmatched}
use Rattle.stage_tree.specs.declared.merge.WhenUnmatched.TheVariants as U

-- the accumulators that take an expression; `$count` takes none
unfoldable pub accumulators : List (List ℕ × AccKind)
accumulators =
    (codes "$sum", A.Sum) ∷ (codes "$min", A.Min) ∷ (codes "$max", A.Max) ∷ (codes "$first", A.First) ∷ (codes "$last", A.Last)
    ∷ (codes "$push", A.Push) ∷ (codes "$addToSet", A.AddToSet) ∷ (codes "$mergeObjects", A.MergeObjects) ∷ []

unfoldable pub kind_named : List ℕ → Option AccKind
kind_named n = find n accumulators

-- a window can have the accumulator
abbrev pub has_window : AccKind → Bool
has_window A.Sum = true
has_window A.Min = true
has_window A.Max = true
has_window A.First = true
has_window A.Last = true
has_window A.Push = true
has_window A.AddToSet = true
has_window A.MergeObjects = false
has_window A.Count = true

-- the expression null: it stands where none is written
abbrev pub nothing : Node
nothing = node (literal (leaf null)) no_nodes

-- the words of `whenMatched` and of `whenNotMatched`
unfoldable pub matched_words : List (List ℕ × WhenMatched)
matched_words = (codes "replace", M.Replace) ∷ (codes "keepExisting", M.KeepExisting) ∷ (codes "merge", M.Merge) ∷ (codes "fail", M.Fail) ∷ []

unfoldable pub matched_named : List ℕ → Option WhenMatched
matched_named n = find n matched_words

unfoldable pub unmatched_words : List (List ℕ × WhenUnmatched)
unmatched_words = (codes "insert", U.Insert) ∷ (codes "discard", U.Discard) ∷ (codes "fail", U.Fail) ∷ []

unfoldable pub unmatched_named : List ℕ → Option WhenUnmatched
unmatched_named n = find n unmatched_words
