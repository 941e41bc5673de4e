-- What a value in a stage is: a text, a document, an array, a whole number or a flag.
use Rattle.std.specs.Prelude.{ℕ, ℤ, pos, negsuc, Bool, List, Option, Some, None}
use Rattle.bson_value.specs.Tree.{int, long, text, flag, Tree, leaf, doc, list, entries, members}
use Rattle.expr_read.specs.Reading.{◌>>=◌}
use Rattle.stage_tree.specs.Outcome.{Fields}

abbrev pub as_text : Tree → Option (List ℕ)
as_text (leaf (text s)) = Some s
as_text t = None

-- the fields of a document, and the items of an array
abbrev pub as_fields : Tree → Option Fields
as_fields (doc ps) = Some (entries ps)
as_fields t = None

abbrev pub as_items : Tree → Option (List Tree)
as_items (list ts) = Some (members ts)
as_items t = None

-- a whole number is of 32 or of 64 bits
abbrev pub as_whole : Tree → Option ℤ
as_whole (leaf (int n)) = Some n
as_whole (leaf (long n)) = Some n
as_whole t = None

abbrev pub as_flag : Tree → Option Bool
as_flag (leaf (flag b)) = Some b
as_flag t = None

-- a whole number that isn't negative
abbrev pub natural : ℤ → Option ℕ
natural (pos n) = Some n
natural (negsuc n) = None

abbrev pub as_count : Tree → Option ℕ
as_count t = as_whole t >>= natural
