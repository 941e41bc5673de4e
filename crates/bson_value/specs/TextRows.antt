-- The rows of texts (the manual, String Expression Operators). A text is its bytes in UTF-8; its characters are code
-- points.
use Rattle.std.specs.Prelude.{ℕ, zero, suc, ◌-◌, Bool, ℤ, pos, negsuc, List, [], ◌∷◌, ◌++◌, map, take, drop, length, nat_eq, Option, Some, None, Ok, Err, if◌then◌else◌}
use Rattle.std.specs.List.{fold, starts_with, onto_first}
use Rattle.std.specs.Str.{chars, encode_utf8_all}
use Rattle.bson_value.specs.Tree.{Tree, leaf, text}
use Rattle.bson_value.specs.declared.eval_code.EvalCode.TheVariants.{WrongType, BadCount}
use Rattle.bson_value.specs.Operands.{Outcome, Operand, both, all, row, needed, text_in, whole_in, wrong_count, gives_text, gives_array}
use Rattle.bson_value.specs.ArrayRows.{length_of}

-- `$concat`
abbrev pub concat_row : List (Option Tree) → Outcome
concat_row vs = row (all (map text_in vs)) (λ ss. gives_text (fold ◌++◌ [] ss))

-- `$strLenBytes`, `$strLenCP`: null and missing are no texts
abbrev pub str_len_bytes_row : List (Option Tree) → Outcome
str_len_bytes_row (v ∷ []) = row (needed WrongType (text_in v)) (λ s. length_of (length s))
str_len_bytes_row _ = wrong_count

abbrev pub str_len_cp_row : List (Option Tree) → Outcome
str_len_cp_row (v ∷ []) = row (needed WrongType (text_in v)) (λ s. length_of (length (chars s)))
str_len_cp_row _ = wrong_count

-- `$substrCP`: the code points from a place on, at most so many
abbrev pub part_of : List ℕ → ℤ → ℤ → Outcome
part_of s (pos i) (pos n) = gives_text (encode_utf8_all (take n (drop i (chars s))))
part_of s (pos i) (negsuc n) = Err BadCount
part_of s (negsuc i) n = Err BadCount

-- null and missing give the empty text in place of null; a place and a number have to be there
abbrev pub or_empty_text : {A : Type 0} → Operand A → (A → Outcome) → Outcome
or_empty_text (Err c) value = Err c
or_empty_text (Ok None) value = gives_text []
or_empty_text (Ok (Some x)) value = value x

abbrev pub substr_cp_row : List (Option Tree) → Outcome
substr_cp_row (t ∷ i ∷ n ∷ []) =
    or_empty_text (both (text_in t) (both (needed WrongType (whole_in i)) (needed WrongType (whole_in n)))) (λ p. part_of p.0 p.1.0 p.1.1)
substr_cp_row _ = wrong_count

-- `$split`: the parts between the separators that are met from the left; so many bytes of one are still to be passed
abbrev pub parts : List ℕ → ℕ → List ℕ → List (List ℕ)
parts sep skip [] = [] ∷ []
parts sep zero (b ∷ bs) = if starts_with nat_eq (b ∷ bs) sep then [] ∷ parts sep (length sep - 1) bs else onto_first b (parts sep zero bs)
parts sep (suc skip) (b ∷ bs) = parts sep skip bs

-- an empty separator stands nowhere
abbrev pub split_by : List ℕ → List ℕ → Outcome
split_by s [] = Err BadCount
split_by s (b ∷ sep) = gives_array (map (λ part. leaf (text part)) (parts (b ∷ sep) 0 s))

abbrev pub split_row : List (Option Tree) → Outcome
split_row (t ∷ sep ∷ []) = row (both (text_in t) (text_in sep)) (λ p. split_by p.0 p.1)
split_row _ = wrong_count
