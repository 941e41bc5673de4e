-- Steps of reading a routing table.
use Rattle.std.proofs.Common.{◌≡◌, ℕ, zero, suc, ◌+◌, ◌<◌, ◌≤◌, List, [], ◌∷◌, ◌++◌, length, get_or, take, drop, refl, sym, ap, ◌∙◌, arith, append-nil, add-one}
use Rattle.std.specs.Prelude.{Some, None, Ok, slice_get}
use Rattle.std.proofs.lemmas.List.{take-append-drop}
use Rattle.bson_value.specs.Tree.{Tree}
use Rattle.chunk_map.specs.Table.{CollectionRow, Table}
use Rattle.chunk_map.specs.Form.{Answer, Refuses, Fault, row_then, collection_of, rows, collection_fault, checked, refuse_at}
use Rattle.chunk_map.specs.declared.errors.ClusterError.{ClusterError}
use Rattle.chunk_map.proofs.Listed.{drop_get, drop_done, item_at}

pub take_item : {A : Type 0} (xs : List A) (i : ℕ) (x : A) → i < length xs → x ≡ get_or xs i x → take (i + 1) xs ≡ take i xs ++ x ∷ []
take_item [] i x lt e = absurd (omega arith)
take_item (y ∷ ys) zero x lt e = ap (λ a. a ∷ []) (sym e)
take_item (y ∷ ys) (suc i) x lt e = rw add-one (ap (λ l. y ∷ l) (rw add-one at (take_item ys i x (omega arith) e)))

-- ---- collections

pub rows_step : (n i : ℕ) (before : Table) (ts : List Tree) (t : Tree) (c : CollectionRow) → slice_get ts i ≡ Some t → collection_of t ≡ Some c → rows n before (drop i ts) ≡ rows (n + 1) (before ++ c ∷ []) (drop (i + 1) ts)
unfolding rows
rows_step n i before ts t c g e = rw (drop_get ts i t g, e, add-one n) refl

pub rows_refuse : (n i : ℕ) (before : Table) (ts : List Tree) (t : Tree) (e : ClusterError) → slice_get ts i ≡ Some t → ((next : CollectionRow → Answer) → Refuses e (row_then n (collection_of t) next)) → Refuses e (rows n before (drop i ts))
unfolding rows
rows_refuse n i before ts t e g h = rw (drop_get ts i t g) (h (λ c. rows (suc n) (before ++ c ∷ []) (drop (i + 1) ts)))

pub rows_done : (n i : ℕ) (before : Table) (ts : List Tree) → length ts ≤ i → rows n before (drop i ts) ≡ Ok before
unfolding rows
rows_done n i before ts le = rw (drop_done ts i le) refl

-- ---- what is wrong with them

module _ (n : ℕ) (cs : Table) (i : ℕ) (c : CollectionRow) (lt : i < length cs) (at : c ≡ get_or cs i c) where
  pub checked_step : collection_fault (take i cs) c ≡ None → checked n (take i cs) (drop i cs) ≡ checked (n + 1) (take (i + 1) cs) (drop (i + 1) cs)
  unfolding checked
  checked_step f = rw (drop_get cs i c (item_at cs i c lt at), f, take_item cs i c lt at, add-one n) refl

  pub checked_refuse : (f : Fault) → collection_fault (take i cs) c ≡ Some f → checked n (take i cs) (drop i cs) ≡ refuse_at n f.0 f.1
  unfolding checked
  checked_refuse f e = rw (drop_get cs i c (item_at cs i c lt at), e) refl

pub checked_done : (n : ℕ) (cs : Table) (i : ℕ) → length cs ≤ i → checked n (take i cs) (drop i cs) ≡ Ok cs
unfolding checked
checked_done n cs i le =
    let none = drop_done cs i le in
    let all : take i cs ≡ cs = sym (append-nil (take i cs)) ∙ ap (λ (l : Table). take i cs ++ l) (sym none) ∙ take-append-drop i cs in
    rw none (ap (λ (l : Table). Ok l) all)
