-- The depth of a document or list, from what it holds.
use Rattle.std.proofs.Common.{◌≡◌, ℕ, suc, List, sym, ap, ◌∙◌}
use Rattle.bson_value.specs.declared.value.Value.{Value}
use Rattle.bson_value.specs.declared.value.Value.TheVariants as V
use Rattle.bson_value.specs.Tree.{Tree, pairs_of, trees_of, entries, members}
use Rattle.bson_value.specs.Order.{pairs_in, members_in}
use Rattle.bson_value.specs.View.{tree_of}
use Rattle.bson_value.specs.Depth.{depth, pairs_depth, trees_depth}
use Rattle.bson_value.proofs.Distinct.{entries_pairs, members_trees}

pub depth_doc : (v : Value) (d ps : List (List ℕ × Tree)) → v ≡ V.Doc d → ps ≡ entries (pairs_in (tree_of v)) → depth (tree_of v) ≡ suc (pairs_depth (pairs_of ps))
depth_doc v d ps is e = rw is (ap (λ (l : List (List ℕ × Tree)). suc (pairs_depth (pairs_of l))) (sym (rw is at e ∙ entries_pairs d)))

pub depth_list : (v : Value) (l ts : List Tree) → v ≡ V.List l → ts ≡ members (members_in (tree_of v)) → depth (tree_of v) ≡ suc (trees_depth (trees_of ts))
depth_list v l ts is e = rw is (ap (λ (k : List Tree). suc (trees_depth (trees_of k))) (sym (rw is at e ∙ members_trees l)))
