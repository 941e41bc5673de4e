-- Readings of lists, one item after another.
use Rattle.std.proofs.Common.{◌≡◌, ℕ, zero, suc, ◌+◌, ◌<◌, Bool, true, false, cond, List, [], ◌∷◌, ◌++◌, drop, refl, sym, ap, ◌∙◌, arith, add-one}
use Rattle.std.specs.Prelude.{Option, Some, None, slice_get}
use Rattle.std.specs.Option.{option_map}
use Rattle.bson_value.specs.Tree.{Tree, tree_size, pairs_of, pairs_size, trees_of, trees_size}
use Rattle.expr_tree.specs.Forms.{Row}
use Rattle.expr_tree.specs.Node.{Node}
use Rattle.expr_tree.specs.Spells.{Names}
use Rattle.expr_read.specs.declared.errors.FormError.{FormError}
use Rattle.expr_read.specs.declared.errors.FormError.TheVariants.{Form, Memory}
use Rattle.expr_read.specs.Reading.{reading, seen_of, by_row, doc_reading, operator_in, fields_seen, items_seen, all_from, named_from, branches_from, branch_reading, only_if, ◌>>=◌}
use Rattle.expr_read.specs.Reads.{Refuses}

pub items_at : (ts : List Tree) (i : ℕ) (t : Tree) → slice_get ts i ≡ Some t → items_seen (drop i ts) ≡ seen_of t ∷ items_seen (drop (i + 1) ts)
items_at [] i t p = absurd cc
items_at (x ∷ ts) zero t p = let e : x ≡ t = cc in rw (← e) refl
items_at (x ∷ ts) (suc i) t p = rw add-one (rw add-one at (items_at ts i t p))

pub fields_at : (ps : List (List ℕ × Tree)) (i : ℕ) (k : List ℕ) (t : Tree) → option_map (λ (p : List ℕ × Tree). p.0) (slice_get ps i) ≡ Some k → option_map (λ (p : List ℕ × Tree). p.1) (slice_get ps i) ≡ Some t → fields_seen (drop i ps) ≡ (k, seen_of t) ∷ fields_seen (drop (i + 1) ps)
fields_at [] i k t p q = absurd cc
fields_at (x ∷ ps) zero k t p q = let d : x.0 ≡ k = cc in let e : x.1 ≡ t = cc in rw (← d, ← e) refl
fields_at (x ∷ ps) (suc i) k t p q = rw add-one (rw add-one at (fields_at ps i k t p q))

pub item_size : (ts : List Tree) (i : ℕ) (t : Tree) → slice_get ts i ≡ Some t → tree_size t < trees_size (trees_of ts)
item_size [] i t p = absurd cc
item_size (x ∷ ts) zero t p = let e : x ≡ t = cc in rw (← e) (omega arith)
item_size (x ∷ ts) (suc i) t p = omega (arith, item_size ts i t p)

pub field_size : (ps : List (List ℕ × Tree)) (i : ℕ) (t : Tree) → option_map (λ (p : List ℕ × Tree). p.1) (slice_get ps i) ≡ Some t → tree_size t < pairs_size (pairs_of ps)
field_size [] i t p = absurd cc
field_size (x ∷ ps) zero t p = let e : x.1 ≡ t = cc in rw (← e) (omega arith)
field_size (x ∷ ps) (suc i) t p = omega (arith, field_size ps i t p)

stays : {A B : Type 0} (e : FormError) (o : Option A) (f : A → Option B) (s : Option B) → (o >>= f) ≡ s → Refuses e o → Refuses e s
stays Memory o f s p h = tt
stays Form o f s p h = sym p ∙ rw h refl

module _ (ts : List Tree) (i : ℕ) (t : Tree) (names : Names) (at : slice_get ts i ≡ Some t) (front : List Node) (s : Option (List Node)) (p : all_from front (items_seen (drop i ts)) names ≡ s) where
  all_at : (reading t names >>= λ n. all_from (front ++ n ∷ []) (items_seen (drop (i + 1) ts)) names) ≡ s
  all_at = ap (λ ss. all_from front ss names) (sym (items_at ts i t at)) ∙ p

  pub all_fails : (e : FormError) → Refuses e (reading t names) → Refuses e s
  all_fails e h = stays e (reading t names) (λ n. all_from (front ++ n ∷ []) (items_seen (drop (i + 1) ts)) names) s all_at h

  pub all_goes : (n : Node) → reading t names ≡ Some n → all_from (front ++ n ∷ []) (items_seen (drop (i + 1) ts)) names ≡ s
  all_goes n h = ap (λ (o : Option Node). o >>= λ m. all_from (front ++ m ∷ []) (items_seen (drop (i + 1) ts)) names) (sym h) ∙ all_at

module _ (ts : List Tree) (i : ℕ) (t : Tree) (names : Names) (at : slice_get ts i ≡ Some t) (front : List (Node × Node)) (s : Option (List (Node × Node))) (p : branches_from front (items_seen (drop i ts)) names ≡ s) where
  branches_at : (branch_reading (seen_of t) names >>= λ n. branches_from (front ++ n ∷ []) (items_seen (drop (i + 1) ts)) names) ≡ s
  branches_at = ap (λ ss. branches_from front ss names) (sym (items_at ts i t at)) ∙ p

  pub branches_fail : (e : FormError) → Refuses e (branch_reading (seen_of t) names) → Refuses e s
  branches_fail e h = stays e (branch_reading (seen_of t) names) (λ n. branches_from (front ++ n ∷ []) (items_seen (drop (i + 1) ts)) names) s branches_at h

  pub branches_go : (n : Node × Node) → branch_reading (seen_of t) names ≡ Some n → branches_from (front ++ n ∷ []) (items_seen (drop (i + 1) ts)) names ≡ s
  branches_go n h = ap (λ (o : Option (Node × Node)). o >>= λ m. branches_from (front ++ m ∷ []) (items_seen (drop (i + 1) ts)) names) (sym h) ∙ branches_at

module _ (is_name : List ℕ → Bool) (ps : List (List ℕ × Tree)) (i : ℕ) (k : List ℕ) (t : Tree) (names : Names) (pk : option_map (λ (p : List ℕ × Tree). p.0) (slice_get ps i) ≡ Some k) (pt : option_map (λ (p : List ℕ × Tree). p.1) (slice_get ps i) ≡ Some t) (front : Names × List Node) (s : Option (Names × List Node)) (p : named_from is_name front (fields_seen (drop i ps)) names ≡ s) where
  named_step : cond (is_name k) (reading t names >>= λ n. named_from is_name (front.0 ++ k ∷ [], front.1 ++ n ∷ []) (fields_seen (drop (i + 1) ps)) names) None ≡ s
  named_step = ap (λ fs. named_from is_name front fs names) (sym (fields_at ps i k t pk pt)) ∙ p

  named_stop : is_name k ≡ false → s ≡ None
  named_stop h = sym named_step ∙ rw h refl

  refused : (b : Bool) → only_if b (Some k) ≡ None → b ≡ false
  refused true h = absurd cc
  refused false h = refl

  pub named_bad : (e : FormError) → Refuses e (only_if (is_name k) (Some k)) → Refuses e s
  named_bad Memory h = tt
  named_bad Form h = named_stop (refused (is_name k) h)

  given : (b : Bool) (x : List ℕ) → only_if b (Some k) ≡ Some x → (b ≡ true) × (k ≡ x)
  given true x h = (refl, cc)
  given false x h = absurd cc

  module _ (x : List ℕ) (h : only_if (is_name k) (Some k) ≡ Some x) where
    named_on : (reading t names >>= λ n. named_from is_name (front.0 ++ x ∷ [], front.1 ++ n ∷ []) (fields_seen (drop (i + 1) ps)) names) ≡ s
    named_on = let g = given (is_name k) x h in rw (g.0, g.1) at named_step

    pub named_fails : (e : FormError) → Refuses e (reading t names) → Refuses e s
    named_fails e r = stays e (reading t names) (λ n. named_from is_name (front.0 ++ x ∷ [], front.1 ++ n ∷ []) (fields_seen (drop (i + 1) ps)) names) s named_on r

    pub named_goes : (n : Node) → reading t names ≡ Some n → named_from is_name (front.0 ++ x ∷ [], front.1 ++ n ∷ []) (fields_seen (drop (i + 1) ps)) names ≡ s
    named_goes n r = ap (λ (o : Option Node). o >>= λ m. named_from is_name (front.0 ++ x ∷ [], front.1 ++ m ∷ []) (fields_seen (drop (i + 1) ps)) names) (sym r) ∙ named_on

-- a document of one operator, and one that makes a document
pub operator_same : (ps : List (List ℕ × Tree)) (row : Row) (t : Tree) (names : Names) → Some (Some row) ≡ operator_in (fields_seen ps) → option_map (λ (p : List ℕ × Tree). p.1) (slice_get ps 0) ≡ Some t → by_row row (seen_of t) names ≡ doc_reading (fields_seen ps) names
operator_same [] row t names h p = absurd cc
operator_same (x ∷ ps) row t names h p = let e : x.1 ≡ t = cc in rw (← h, ← e) refl
