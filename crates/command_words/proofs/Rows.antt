-- Rows of matches, looked up by a name.
use Rattle.std.proofs.Common.{◌≡◌, ◌∙◌, Bool, cond, true, false, ◌||◌, refl, sym, ap, subst, List, [], ◌∷◌, ◌++◌, Some, None, slice_get, true≢false}
use Rattle.std.specs.Str.{bytes_eq}
use Rattle.std.specs.Prelude.{unwrap_or}
use Rattle.std.proofs.lemmas.Slice.Eq.{bytes_eq-Decides}
use Rattle.clap.specs.Walk.{Row, Text, all_of, at_row, first_of, has_row, more_values, with_values, without}
use Rattle.clap.specs.declared.builder.value_parser.Reading.{Reading}
use Rattle.clap.specs.declared.parser.matches.ValueSource.{ValueSource}

or_false : (b : Bool) → (b || false) ≡ b
or_false true = refl
or_false false = refl

or_comm : (a b : Bool) → (a || b) ≡ (b || a)
or_comm true true = refl
or_comm true false = refl
or_comm false true = refl
or_comm false false = refl

or_assoc : (a b d : Bool) → ((a || b) || d) ≡ (a || (b || d))
or_assoc true b d = refl
or_assoc false b d = refl

or_again : (a b : Bool) → (a || b) ≡ ((a || b) || a)
or_again true b = refl
or_again false b = sym (or_false b)

left_false : (a b : Bool) → (a || b) ≡ false → a ≡ false
left_false true b e = e
left_false false b e = refl

right_false : (a b : Bool) → (a || b) ≡ false → b ≡ false
right_false true b e = absurd (true≢false e)
right_false false b e = e

missing_row : (id : Text) (change : Row → List Row) (more : List Row) (rows : List Row) → has_row id rows ≡ false → at_row id change more rows ≡ rows ++ more
missing_row id change more [] none = refl
missing_row id change more (r ∷ rs) none =
    rw (left_false (bytes_eq r.id id) (has_row id rs) none) (ap (λ xs. r ∷ xs) (missing_row id change more rs (right_false (bytes_eq r.id id) _ none)))

append_nil : (rows : List Row) → rows ++ [] ≡ rows
append_nil [] = refl
append_nil (r ∷ rs) = ap (λ xs. r ∷ xs) (append_nil rs)

abbrev pub row_with : Text → Reading → ValueSource → List Text → Row
row_with id how s vs = record { id = id; values = vs; count = None; source = Some s; reading = how }

-- where the name has no row, its new row is the last
pub with_new : (id : Text) (how : Reading) (s : ValueSource) (vs : List Text) (rows : List Row) → has_row id rows ≡ false → with_values id how s vs rows ≡ rows ++ row_with id how s vs ∷ []
with_new id how s vs rows none = missing_row id (more_values s vs) _ rows none

pub set_new : (id : Text) (how : Reading) (s : ValueSource) (vs : List Text) (rows : List Row) → has_row id rows ≡ false → with_values id how s vs (without id rows) ≡ rows ++ row_with id how s vs ∷ []
set_new id how s vs rows none =
    ap (λ rs. with_values id how s vs rs) (missing_row id (λ _. []) [] rows none ∙ append_nil rows) ∙ with_new id how s vs rows none

-- ---- a row at the end

pub has_last : (n : Text) (rows : List Row) (r : Row) → has_row n (rows ++ r ∷ []) ≡ (bytes_eq r.id n || has_row n rows)
has_last n [] r = refl
has_last n (x ∷ xs) r =
    ap (λ b. bytes_eq x.id n || b) (has_last n xs r) ∙ sym (or_assoc (bytes_eq x.id n) _ _)
    ∙ ap (λ b. b || has_row n xs) (or_comm (bytes_eq x.id n) (bytes_eq r.id n)) ∙ or_assoc (bytes_eq r.id n) _ _

pub first_last : (n : Text) (rows : List Row) (r : Row) → first_of n (rows ++ r ∷ []) ≡ cond (has_row n rows) (first_of n rows) (cond (bytes_eq r.id n) (slice_get r.values 0) None)
first_last n [] r = go (bytes_eq r.id n) refl
  where
    go : (b : Bool) → bytes_eq r.id n ≡ b → first_of n (r ∷ []) ≡ cond (bytes_eq r.id n) (slice_get r.values 0) None
    go true e = rw e refl
    go false e = rw e refl
first_last n (x ∷ xs) r = go (bytes_eq x.id n) refl (first_last n xs r)
  where
    go : (b : Bool) → bytes_eq x.id n ≡ b → first_of n (xs ++ r ∷ []) ≡ cond (has_row n xs) (first_of n xs) (cond (bytes_eq r.id n) (slice_get r.values 0) None)
        → first_of n (x ∷ (xs ++ r ∷ [])) ≡ cond (has_row n (x ∷ xs)) (first_of n (x ∷ xs)) (cond (bytes_eq r.id n) (slice_get r.values 0) None)
    go true e ih = rw e refl
    go false e ih = rw e ih

pub all_last : (n : Text) (rows : List Row) (r : Row) → bytes_eq r.id n ≡ false → all_of n (rows ++ r ∷ []) ≡ all_of n rows
all_last n [] r other = rw other refl
all_last n (x ∷ xs) r other = go (bytes_eq x.id n) refl (all_last n xs r other)
  where
    go : (b : Bool) → bytes_eq x.id n ≡ b → all_of n (xs ++ r ∷ []) ≡ all_of n xs → all_of n (x ∷ (xs ++ r ∷ [])) ≡ all_of n (x ∷ xs)
    go true e ih = rw e refl
    go false e ih = rw e ih

-- ---- values that join a row

pub has_joined : (id : Text) (how : Reading) (s : ValueSource) (vs : List Text) (rows : List Row) (n : Text) → has_row n (with_values id how s vs rows) ≡ (bytes_eq id n || has_row n rows)
has_joined id how s vs [] n = refl
has_joined id how s vs (r ∷ rs) n = go (bytes_eq r.id id) refl (has_joined id how s vs rs n)
  where
    go : (b : Bool) → bytes_eq r.id id ≡ b → has_row n (with_values id how s vs rs) ≡ (bytes_eq id n || has_row n rs)
        → has_row n (with_values id how s vs (r ∷ rs)) ≡ (bytes_eq id n || (bytes_eq r.id n || has_row n rs))
    go true e ih =
        let same : r.id ≡ id = (bytes_eq-Decides r.id id).0 e in
        rw e (subst (λ (m : Text). (bytes_eq r.id n || has_row n rs) ≡ (bytes_eq m n || (bytes_eq r.id n || has_row n rs))) same (or_again (bytes_eq r.id n) (has_row n rs) ∙ or_comm _ (bytes_eq r.id n)))
    go false e ih = rw e (ap (λ b. bytes_eq r.id n || b) ih ∙ sym (or_assoc (bytes_eq r.id n) _ _)
        ∙ ap (λ b. b || has_row n rs) (or_comm (bytes_eq r.id n) (bytes_eq id n)) ∙ or_assoc (bytes_eq id n) _ _)

pub first_joined : (id : Text) (how : Reading) (s : ValueSource) (vs : List Text) (rows : List Row) (n : Text) → bytes_eq id n ≡ false → first_of n (with_values id how s vs rows) ≡ first_of n rows
first_joined id how s vs [] n other = rw other refl
first_joined id how s vs (r ∷ rs) n other = go (bytes_eq r.id id) (bytes_eq r.id n) refl refl (first_joined id how s vs rs n other)
  where
    go : (a b : Bool) → bytes_eq r.id id ≡ a → bytes_eq r.id n ≡ b → first_of n (with_values id how s vs rs) ≡ first_of n rs
        → first_of n (with_values id how s vs (r ∷ rs)) ≡ first_of n (r ∷ rs)
    go true b e f ih =
        let not_n : bytes_eq r.id n ≡ false = subst (λ (m : Text). bytes_eq m n ≡ false) (sym ((bytes_eq-Decides r.id id).0 e)) other in
        rw (e, not_n) refl
    go false true e f ih = rw (e, f) refl
    go false false e f ih = rw (e, f) ih

pub all_joined : (id : Text) (how : Reading) (s : ValueSource) (vs : List Text) (rows : List Row) → all_of id (with_values id how s vs rows) ≡ Some (unwrap_or (all_of id rows) [] ++ vs)
all_joined id how s vs [] = let same : bytes_eq id id ≡ true = (bytes_eq-Decides id id).1 refl in rw same refl
all_joined id how s vs (r ∷ rs) = go (bytes_eq r.id id) refl (all_joined id how s vs rs)
  where
    go : (b : Bool) → bytes_eq r.id id ≡ b → all_of id (with_values id how s vs rs) ≡ Some (unwrap_or (all_of id rs) [] ++ vs)
        → all_of id (with_values id how s vs (r ∷ rs)) ≡ Some (unwrap_or (all_of id (r ∷ rs)) [] ++ vs)
    go true e ih = rw e (rw e refl)
    go false e ih = rw e (rw e ih)
