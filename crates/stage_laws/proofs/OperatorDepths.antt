-- How deep what an operator gives is nested, by the depths of its operands.
use Rattle.std.proofs.Common.{ℕ, List}
use Rattle.std.specs.Prelude.{Option, if◌then◌else◌}
use Rattle.std.specs.Ordering.{is_eq, is_ne, is_lt, is_le, is_gt, is_ge}
use Rattle.bson_value.specs.Tree.{Tree}
use Rattle.bson_value.specs.Operators.{operator}
use Rattle.bson_value.specs.declared.op.Op.{Op}
use Rattle.bson_value.specs.declared.op.Op.TheVariants as O
use Rattle.expr_tree.specs.Bound.{gives_part, gives_made}
use Rattle.stage_laws.proofs.Fitting.{Fits}
use Rattle.stage_laws.proofs.ArrayDepths as A
use Rattle.stage_laws.proofs.ArrayDepths.{FirstWithin, AllWithin, made_depth}
use Rattle.stage_laws.proofs.ObjectDepths as D
use Rattle.stage_laws.proofs.ScalarDepths as S

-- the bound of an operator, by those of its first operand and of all
abbrev pub operator_depth : Op → ℕ → ℕ → ℕ
operator_depth o first all = if gives_part o then first else (if gives_made o then made_depth all else 0)

pub operator_fits : (o : Op) (first all : ℕ) (vs : List (Option Tree)) → FirstWithin first vs → AllWithin all vs → Fits (operator_depth o first all) (operator o vs)
operator_fits O.Add n m vs h k = S.add_fits vs
operator_fits O.Subtract n m vs h k = S.subtract_fits vs
operator_fits O.Multiply n m vs h k = S.multiply_fits vs
operator_fits O.Mod n m vs h k = S.mod_fits vs
operator_fits O.Abs n m vs h k = S.abs_fits vs
operator_fits O.Cmp n m vs h k = S.cmp_fits vs
operator_fits O.Eq n m vs h k = S.compared_fits is_eq vs
operator_fits O.Ne n m vs h k = S.compared_fits is_ne vs
operator_fits O.Gt n m vs h k = S.compared_fits is_gt vs
operator_fits O.Gte n m vs h k = S.compared_fits is_ge vs
operator_fits O.Lt n m vs h k = S.compared_fits is_lt vs
operator_fits O.Lte n m vs h k = S.compared_fits is_le vs
operator_fits O.Not n m vs h k = S.not_fits vs
operator_fits O.Size n m vs h k = S.size_fits vs
operator_fits O.In n m vs h k = S.in_fits vs
operator_fits O.ArrayElemAt n m vs h k = A.elem_at_fits n vs h
operator_fits O.First n m vs h k = A.first_fits n vs h
operator_fits O.Last n m vs h k = A.last_fits n vs h
operator_fits O.ConcatArrays n m vs h k = A.concat_fits m vs k
operator_fits O.Slice n m vs h k = A.slice_fits n vs h
operator_fits O.ReverseArray n m vs h k = A.reverse_fits n vs h
operator_fits O.Range n m vs h k = A.range_fits m vs
operator_fits O.IsArray n m vs h k = S.is_array_fits vs
operator_fits O.IsNumber n m vs h k = S.is_number_fits vs
operator_fits O.Type n m vs h k = S.type_fits vs
operator_fits O.SetUnion n m vs h k = A.union_fits m vs k
operator_fits O.SetIntersection n m vs h k = A.intersection_fits m vs k
operator_fits O.SetDifference n m vs h k = A.difference_fits m vs k
operator_fits O.SetIsSubset n m vs h k = S.subset_fits vs
operator_fits O.SetEquals n m vs h k = S.equals_fits vs
operator_fits O.ArrayToObject n m vs h k = D.to_object_fits m vs k
operator_fits O.ObjectToArray n m vs h k = D.to_array_fits m vs k
operator_fits O.MergeObjects n m vs h k = D.merge_fits m vs k
operator_fits O.Concat n m vs h k = S.concat_fits vs
operator_fits O.StrLenBytes n m vs h k = S.bytes_fits vs
operator_fits O.StrLenCp n m vs h k = S.points_fits vs
operator_fits O.SubstrCp n m vs h k = S.substring_fits vs
operator_fits O.Split n m vs h k = D.split_fits m vs
operator_fits O.ToInt n m vs h k = S.to_int_fits vs
operator_fits O.ToLong n m vs h k = S.to_long_fits vs
operator_fits O.ToString n m vs h k = S.to_string_fits vs
