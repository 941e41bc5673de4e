-- A value, with what each value within it is read as.
use Rattle.std.specs.Prelude.{ℕ, List, [], ◌∷◌, Option, Some, None}
use Rattle.bson_value.specs.Tree.{Tree}
use Rattle.expr_tree.specs.Node.{Node}
use Rattle.expr_tree.specs.Spells.{Names}

-- the expression that a value is, under the names that are bound
abbrev pub Reading : Type 0
Reading = Names → Option Node

mutual
  pub data Seen : Type 0 where
    seen : Tree → Reading → Parts → Seen

  pub data Parts : Type 0 where
    no_parts : Parts
    named_parts : SeenFields → Parts
    listed_parts : SeenItems → Parts

  pub data SeenFields : Type 0 where
    no_fields : SeenFields
    a_field : List ℕ → Seen → SeenFields → SeenFields

  pub data SeenItems : Type 0 where
    no_items : SeenItems
    an_item : Seen → SeenItems → SeenItems

abbrev pub value_of : Seen → Tree
value_of (seen t r ps) = t

abbrev pub read_as : Seen → Reading
read_as (seen t r ps) = r

abbrev pub listed_fields : SeenFields → List (List ℕ × Seen)
listed_fields no_fields = []
listed_fields (a_field n s fs) = (n, s) ∷ listed_fields fs

abbrev pub listed_items : SeenItems → List Seen
listed_items no_items = []
listed_items (an_item s ss) = s ∷ listed_items ss

-- the fields of a document, the items of an array
abbrev pub fields_in : Seen → Option (List (List ℕ × Seen))
fields_in (seen t r (named_parts fs)) = Some (listed_fields fs)
fields_in (seen t r p) = None

abbrev pub items_in : Seen → Option (List Seen)
items_in (seen t r (listed_parts ss)) = Some (listed_items ss)
items_in (seen t r p) = None
