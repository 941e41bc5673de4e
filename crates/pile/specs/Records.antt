-- A pile as a list of records, and how slots and bytes stand for it.
use Rattle.std.specs.Prelude.{◌≡◌, refl, ℕ, ◌==◌, ◌+◌, ◌-◌, ◌≤◌, List, [], ◌∷◌, ◌++◌, length, take, drop, slice_index_or, Bool}
use Rattle.std.specs.Ordering.{is_lt, nat_cmp, ordering_then}
use Rattle.std.specs.Cmp.Lexicographic.{slice_cmp}
use Rattle.std.specs.List.{AllByRecursion, IsDistinct}
use Rattle.std.specs.List.Sorted.{IsPermutation, IsSortedBy}
use Rattle.std.specs.Coded.{Coded, code_by, coded×, coded_list, coded_ℕ}
use Rattle.pile.specs.declared.slot.Slot.{Slot}

pub record Record : Type 0 where
  pub key : List ℕ
  pub body : List ℕ
  pub seq : ℕ

abbrev pub record_code : Coded Record
record_code = code_by (List ℕ × (List ℕ × ℕ)) (coded× (coded_list coded_ℕ) (coded× (coded_list coded_ℕ) coded_ℕ)) (λ r. (r.key, (r.body, r.seq))) (λ p. record { key = p.0; body = p.1.0; seq = p.1.1 }) (λ _. refl)

-- the records, in order, and the size of the block in bytes
pub record Contents : Type 0 where
  pub records : List Record
  pub size : ℕ

abbrev pub contents_code : Coded Contents
contents_code = code_by (List Record × ℕ) (coded× (coded_list record_code) coded_ℕ) (λ c. (c.records, c.size)) (λ p. record { records = p.0; size = p.1 }) (λ _. refl)

-- the bytes that a record takes of the block
abbrev pub counted : Record → ℕ
counted r = length r.key + length r.body + 24

abbrev pub counted_sum : List Record → ℕ
counted_sum [] = 0
counted_sum (r ∷ rs) = counted r + counted_sum rs

abbrev pub free_of : Contents → ℕ
free_of c = c.size - counted_sum c.records

-- what a slot stands for over the bytes
abbrev pub record_of : List ℕ → Slot → Record
record_of bytes s = record { key = take s.key (drop s.at bytes); body = take s.body (drop (s.at + s.key) bytes); seq = s.seq }

-- the last slot is the first record
abbrev pub records_of : List ℕ → List Slot → List Record
records_of bytes [] = []
records_of bytes (s ∷ ss) = records_of bytes ss ++ record_of bytes s ∷ []

-- each slot lies within n bytes
abbrev pub AllWithin : ℕ → List Slot → Type 0
AllWithin n ss = AllByRecursion (λ (s : Slot). s.at + s.key + s.body ≤ n) ss

-- the bytes that the slots name
abbrev pub named : List Slot → ℕ
named [] = 0
named (s ∷ ss) = s.key + s.body + named ss

-- the record at the index
abbrev pub record_at : List Record → ℕ → Record
record_at rs i = slice_index_or rs i (record { key = []; body = []; seq = 0 })

-- the order of records: by the bytes of the key, then by number
unfoldable pub record_lt : Record → Record → Bool
record_lt a b = is_lt (ordering_then (slice_cmp nat_cmp a.key b.key) (nat_cmp a.seq b.seq))

abbrev pub slot_lt : List ℕ → Slot → Slot → Bool
slot_lt bytes a b = record_lt (record_of bytes a) (record_of bytes b)

-- no two records have one number
abbrev pub SeqsDiffer : List Record → Type 0
SeqsDiffer rs = IsDistinct (λ a b. a.seq == b.seq) rs

-- where the numbers of rs differ, ordered is the one list of these records that is in order
abbrev pub IsTheOrderOf : List Record → List Record → Type 0
IsTheOrderOf rs ordered = SeqsDiffer rs → (ls : List Record) → IsPermutation rs ls → IsSortedBy record_lt ls → ls ≡ ordered
