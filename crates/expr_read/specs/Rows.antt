-- What operators take, as the code has it.
use Rattle.expr_read.specs.declared.row.Kind.{Kind}
use Rattle.expr_read.specs.declared.row.Kind.TheVariants as K
use Rattle.expr_read.specs.declared.row.Row.{Row}
use Rattle.expr_read.specs.declared.row.Row.TheVariants as R
use Rattle.expr_read.specs.declared.row.Shape.{Shape}
use Rattle.expr_read.specs.declared.row.Shape.TheVariants as S
use Rattle.expr_tree.specs.Forms.{Shape as WantedShape, cases, variables, mapped, filtered, reduced, moved, between, cut, Row as Wanted, as_it_is, takes, condition, part_of, has}
use Rattle.expr_tree.specs.Node.{Head, apply, every, some, if_null}

abbrev pub head_of : Kind → Head
head_of (K.Apply o) = apply o
head_of K.And = every
head_of K.Or = some
head_of K.IfNull = if_null

abbrev pub shape_of : Shape → WantedShape
shape_of S.Cases = cases
shape_of S.Variables = variables
shape_of S.Mapped = mapped
shape_of S.Filtered = filtered
shape_of S.Reduced = reduced
shape_of (S.Moved back) = moved back
shape_of S.Between = between
shape_of S.Cut = cut

abbrev pub row_of : Row → Wanted
row_of R.AsItIs = as_it_is
row_of (R.Takes k least most) = takes (head_of k) least most
row_of R.Condition = condition
row_of (R.PartOf p) = part_of p
row_of (R.Has shape) = has (shape_of shape)
