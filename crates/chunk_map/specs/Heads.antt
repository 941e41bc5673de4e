-- The heads of keys: what decides the order of most keys.
use Rattle.std.specs.Prelude.{ℤ, pos, List, [], ◌∷◌, ◌==◌, ◌||◌, if◌then◌else◌}
use Rattle.std.specs.Ordering.{nat_cmp, int_cmp, ordering_then}
use Rattle.std.specs.declared.cmp.Ordering.{Ordering}
use Rattle.bson_value.specs.Tree.{Tree}
use Rattle.bson_value.specs.Order.{class, number}
use Rattle.chunk_map.specs.declared.head.Head.{Head}

-- the number that a value is compared by: of what is neither a number nor a date, 0
abbrev pub lead : Tree → ℤ
lead t = if class t == 3 || class t == 10 then number t else pos 0

abbrev pub head_of : Tree → Head
head_of t = record { class = class t; number = lead t }

-- the class 0, which no value has, stands before every other
abbrev pub key_head : List Tree → Head
key_head [] = record { class = 0; number = pos 0 }
key_head (t ∷ ts) = head_of t

-- by class, and then by number
abbrev pub heads_order : Head → Head → Ordering
heads_order a b = ordering_then (nat_cmp a.class b.class) (int_cmp a.number b.number)
