-- What an operator of expressions gives on the values of its operands, missing ones being None (the manual,
-- Aggregation Operators): the row of its family.
use Rattle.std.specs.Prelude.{List, Option}
use Rattle.bson_value.specs.Tree.{Tree}
use Rattle.bson_value.specs.declared.op.Op.{Op}
use Rattle.bson_value.specs.declared.op.Op.TheVariants as O
pub use Rattle.bson_value.specs.Operands.{Outcome}
use Rattle.bson_value.specs.NumberRows.{add_row, subtract_row, multiply_row, mod_row, abs_row}
use Rattle.bson_value.specs.CompareRows.{cmp_row, eq_row, ne_row, gt_row, gte_row, lt_row, lte_row, not_row, is_array_row, is_number_row, type_row}
use Rattle.bson_value.specs.ArrayRows.{size_row, in_row, array_elem_at_row, first_row, last_row, concat_arrays_row, slice_row, reverse_array_row, range_row}
use Rattle.bson_value.specs.SetRows.{set_union_row, set_intersection_row, set_difference_row, set_is_subset_row, set_equals_row}
use Rattle.bson_value.specs.ObjectRows.{array_to_object_row, object_to_array_row, merge_objects_row}
use Rattle.bson_value.specs.TextRows.{concat_row, str_len_bytes_row, str_len_cp_row, substr_cp_row, split_row}
use Rattle.bson_value.specs.ConversionRows.{to_int_row, to_long_row, to_string_row}

abbrev pub operator : Op → List (Option Tree) → Outcome
operator O.Add vs = add_row vs
operator O.Subtract vs = subtract_row vs
operator O.Multiply vs = multiply_row vs
operator O.Mod vs = mod_row vs
operator O.Abs vs = abs_row vs
operator O.Cmp vs = cmp_row vs
operator O.Eq vs = eq_row vs
operator O.Ne vs = ne_row vs
operator O.Gt vs = gt_row vs
operator O.Gte vs = gte_row vs
operator O.Lt vs = lt_row vs
operator O.Lte vs = lte_row vs
operator O.Not vs = not_row vs
operator O.Size vs = size_row vs
operator O.In vs = in_row vs
operator O.ArrayElemAt vs = array_elem_at_row vs
operator O.First vs = first_row vs
operator O.Last vs = last_row vs
operator O.ConcatArrays vs = concat_arrays_row vs
operator O.Slice vs = slice_row vs
operator O.ReverseArray vs = reverse_array_row vs
operator O.Range vs = range_row vs
operator O.IsArray vs = is_array_row vs
operator O.IsNumber vs = is_number_row vs
operator O.Type vs = type_row vs
operator O.SetUnion vs = set_union_row vs
operator O.SetIntersection vs = set_intersection_row vs
operator O.SetDifference vs = set_difference_row vs
operator O.SetIsSubset vs = set_is_subset_row vs
operator O.SetEquals vs = set_equals_row vs
operator O.ArrayToObject vs = array_to_object_row vs
operator O.ObjectToArray vs = object_to_array_row vs
operator O.MergeObjects vs = merge_objects_row vs
operator O.Concat vs = concat_row vs
operator O.StrLenBytes vs = str_len_bytes_row vs
operator O.StrLenCp vs = str_len_cp_row vs
operator O.SubstrCp vs = substr_cp_row vs
operator O.Split vs = split_row vs
operator O.ToInt vs = to_int_row vs
operator O.ToLong vs = to_long_row vs
operator O.ToString vs = to_string_row vs
