-- The parts of values that are read.
use Rattle.std.specs.Prelude.{ℕ, List, Option, Some, None}
use Rattle.bson_value.specs.Tree.{Tree, leaf, doc, list, Pairs, no_pairs, pair, Trees}

-- the field of a document of one
abbrev pub only_field : Tree → Option (List ℕ × Tree)
only_field (doc (pair name v no_pairs)) = Some (name, v)
only_field t = None

-- the fields of a document, the items of an array
abbrev pub doc_of : Tree → Option Pairs
doc_of (doc ps) = Some ps
doc_of t = None

abbrev pub list_of : Tree → Option Trees
list_of (list ts) = Some ts
list_of t = None
