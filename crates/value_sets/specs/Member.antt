-- The tree that a member of a set holds.
use Rattle.bson_value.specs.Tree.{int, long, Tree, leaf}
use Rattle.bson_value.specs.View.{tree_of}
use Rattle.value_sets.specs.declared.member.Held.{Held}
use Rattle.value_sets.specs.declared.member.Held.TheVariants.{Int, Long, Other}

abbrev pub member_tree : Held → Tree
member_tree (Int n) = leaf (int n)
member_tree (Long n) = leaf (long n)
member_tree (Other v) = tree_of v.now
