-- Tests of one candidate or end, as the calls have them.
use Rattle.std.specs.Prelude.{Bool, Option}
use Rattle.bson_value.specs.Tree.{Tree}
use Rattle.bson_value.specs.View.{tree_of}
use Rattle.expr_tree.specs.QueryNode as Node
use Rattle.expr_tree.specs.Holds.{relates, is_there, has_type, has_size}
use Rattle.query_eval.specs.declared.checks.Relation.{Relation}
use Rattle.query_eval.specs.declared.checks.Relation.TheVariants.{Equal, Greater, GreaterOrEqual, Less, LessOrEqual}
use Rattle.query_eval.specs.declared.checks.Check.{Check}
use Rattle.query_eval.specs.declared.checks.Check.TheVariants.{Relates, IsThere, HasType, HasSize}

abbrev pub relation_of : Relation → Node.Relation
relation_of Equal = Node.equal
relation_of Greater = Node.greater
relation_of GreaterOrEqual = Node.greater_or_equal
relation_of Less = Node.less
relation_of LessOrEqual = Node.less_or_equal

abbrev pub passes : Check → Option Tree → Bool
passes (Relates r v) = relates (relation_of r) (tree_of v.now)
passes IsThere = is_there
passes (HasType n) = has_type n
passes (HasSize n) = has_size n
