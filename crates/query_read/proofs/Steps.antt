-- Readings of documents and arrays, one item after another.
use Rattle.std.proofs.Common.{◌≡◌, ℕ, zero, suc, ◌+◌, ◌<◌, Bool, List, [], ◌∷◌, ◌++◌, drop, refl, sym, ap, ◌∙◌, arith, add-one}
use Rattle.std.specs.Prelude.{Option, Some, None, slice_get}
use Rattle.std.specs.Option.{option_map}
use Rattle.bson_value.specs.Tree.{Tree, tree_size, pair, pairs_of, pairs_size, tree, trees_of, trees_size}
use Rattle.expr_read.specs.declared.errors.FormError.{FormError}
use Rattle.expr_read.specs.declared.errors.FormError.TheVariants.{Form, Memory}
use Rattle.expr_read.specs.Reading.{◌>>=◌}
use Rattle.expr_read.specs.Reads.{Refuses}
use Rattle.expr_tree.specs.QueryNode.{QueryNode}
use Rattle.query_read.specs.Reading.{part_reading, parts_from, queries_from, query_in, test_reading, tests_from}

abbrev pub IsPair : List (List ℕ × Tree) → ℕ → List ℕ → Tree → Type 0
IsPair ps i k t = (option_map (λ (p : List ℕ × Tree). p.0) (slice_get ps i) ≡ Some k) × (option_map (λ (p : List ℕ × Tree). p.1) (slice_get ps i) ≡ Some t)

trees_at : (ts : List Tree) (i : ℕ) (t : Tree) → slice_get ts i ≡ Some t → trees_of (drop i ts) ≡ tree t (trees_of (drop (i + 1) ts))
trees_at [] i t p = absurd cc
trees_at (x ∷ ts) zero t p = let e : x ≡ t = cc in rw (← e) refl
trees_at (x ∷ ts) (suc i) t p = rw add-one (rw add-one at (trees_at ts i t p))

pairs_at : (ps : List (List ℕ × Tree)) (i : ℕ) (k : List ℕ) (t : Tree) → IsPair ps i k t → pairs_of (drop i ps) ≡ pair k t (pairs_of (drop (i + 1) ps))
pairs_at [] i k t p = absurd (let q = p.0 in cc)
pairs_at (x ∷ ps) zero k t p = let a = p.0 in let b = p.1 in let d : x.0 ≡ k = cc in let e : x.1 ≡ t = cc in rw (← d, ← e) refl
pairs_at (x ∷ ps) (suc i) k t p = rw add-one (rw add-one at (pairs_at ps i k t p))

pub item_size : (ts : List Tree) (i : ℕ) (t : Tree) → slice_get ts i ≡ Some t → tree_size t < trees_size (trees_of ts)
item_size [] i t p = absurd cc
item_size (x ∷ ts) zero t p = let e : x ≡ t = cc in rw (← e) (omega arith)
item_size (x ∷ ts) (suc i) t p = omega (arith, item_size ts i t p)

pub field_size : (ps : List (List ℕ × Tree)) (i : ℕ) (t : Tree) → option_map (λ (p : List ℕ × Tree). p.1) (slice_get ps i) ≡ Some t → tree_size t < pairs_size (pairs_of ps)
field_size [] i t p = absurd cc
field_size (x ∷ ps) zero t p = let e : x.1 ≡ t = cc in rw (← e) (omega arith)
field_size (x ∷ ps) (suc i) t p = omega (arith, field_size ps i t p)

-- a list whose first item isn't read has no reading, and one whose first item is read has that of the rest
stays : {A B : Type 0} (e : FormError) (o : Option A) (f : A → Option B) (s : Option B) → (o >>= f) ≡ s → Refuses e o → Refuses e s
stays Memory o f s p h = tt
stays Form o f s p h = sym p ∙ rw h refl

goes : {A B : Type 0} (o : Option A) (f : A → Option B) (s : Option B) (x : A) → (o >>= f) ≡ s → o ≡ Some x → f x ≡ s
goes o f s x p h = rw h at p

module _ (exprs : Bool) (ps : List (List ℕ × Tree)) (i : ℕ) (k : List ℕ) (t : Tree) (at : IsPair ps i k t) (front : List QueryNode) (s : Option (List QueryNode)) (p : parts_from exprs front (pairs_of (drop i ps)) ≡ s) where
  parts_step : (part_reading exprs front k t >>= λ qs. parts_from exprs qs (pairs_of (drop (i + 1) ps))) ≡ s
  parts_step = ap (λ rs. parts_from exprs front rs) (sym (pairs_at ps i k t at)) ∙ p

  pub parts_fail : (e : FormError) → Refuses e (part_reading exprs front k t) → Refuses e s
  parts_fail e h = stays e (part_reading exprs front k t) (λ qs. parts_from exprs qs (pairs_of (drop (i + 1) ps))) s parts_step h

  pub parts_go : (qs : List QueryNode) → part_reading exprs front k t ≡ Some qs → parts_from exprs qs (pairs_of (drop (i + 1) ps)) ≡ s
  parts_go qs h = goes (part_reading exprs front k t) (λ rs. parts_from exprs rs (pairs_of (drop (i + 1) ps))) s qs parts_step h

module _ (put : QueryNode → QueryNode) (ps : List (List ℕ × Tree)) (i : ℕ) (k : List ℕ) (t : Tree) (at : IsPair ps i k t) (front : List QueryNode) (s : Option (List QueryNode)) (p : tests_from put front (pairs_of (drop i ps)) ≡ s) where
  tests_step : (test_reading k t >>= λ q. tests_from put (front ++ put q ∷ []) (pairs_of (drop (i + 1) ps))) ≡ s
  tests_step = ap (λ rs. tests_from put front rs) (sym (pairs_at ps i k t at)) ∙ p

  pub tests_fail : (e : FormError) → Refuses e (test_reading k t) → Refuses e s
  tests_fail e h = stays e (test_reading k t) (λ q. tests_from put (front ++ put q ∷ []) (pairs_of (drop (i + 1) ps))) s tests_step h

  pub tests_go : (q : QueryNode) → test_reading k t ≡ Some q → tests_from put (front ++ put q ∷ []) (pairs_of (drop (i + 1) ps)) ≡ s
  tests_go q h = goes (test_reading k t) (λ r. tests_from put (front ++ put r ∷ []) (pairs_of (drop (i + 1) ps))) s q tests_step h

module _ (exprs : Bool) (ts : List Tree) (i : ℕ) (t : Tree) (at : slice_get ts i ≡ Some t) (front : List QueryNode) (s : Option (List QueryNode)) (p : queries_from exprs front (trees_of (drop i ts)) ≡ s) where
  queries_step : (query_in exprs t >>= λ q. queries_from exprs (front ++ q ∷ []) (trees_of (drop (i + 1) ts))) ≡ s
  queries_step = ap (λ rs. queries_from exprs front rs) (sym (trees_at ts i t at)) ∙ p

  pub queries_fail : (e : FormError) → Refuses e (query_in exprs t) → Refuses e s
  queries_fail e h = stays e (query_in exprs t) (λ q. queries_from exprs (front ++ q ∷ []) (trees_of (drop (i + 1) ts))) s queries_step h

  pub queries_go : (q : QueryNode) → query_in exprs t ≡ Some q → queries_from exprs (front ++ q ∷ []) (trees_of (drop (i + 1) ts)) ≡ s
  queries_go q h = goes (query_in exprs t) (λ r. queries_from exprs (front ++ r ∷ []) (trees_of (drop (i + 1) ts))) s q queries_step h
