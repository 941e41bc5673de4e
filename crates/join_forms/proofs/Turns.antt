-- A turn of the loop over the fields of a group.
use Rattle.std.proofs.Common.{◌≡◌, ℕ, zero, suc, ◌+◌, Bool, true, false, cond, List, [], ◌∷◌, ◌++◌, drop, map, refl, sym, ap, ◌∙◌}
use Rattle.std.specs.Prelude.{Option, Some, None, slice_get, codes}
use Rattle.std.specs.Option.{option_map}
use Rattle.std.specs.Str.{bytes_eq}
use Rattle.bson_value.specs.Paths.{Steps}
use Rattle.bson_value.specs.Tree.{Tree}
use Rattle.bson_value.specs.declared.acc_kind.AccKind.{AccKind}
use Rattle.expr_read.specs.declared.errors.FormError.{FormError}
use Rattle.expr_read.specs.Reading.{◌>>=◌}
use Rattle.expr_read.specs.Reads.{Refuses}
use Rattle.expr_tree.specs.Spells.{Fields}
use Rattle.expr_tree.specs.View.{node_of}
use Rattle.expr_tree.specs.declared.expr.Expr.{Expr}
use Rattle.join_forms.specs.Reading.{part, parts_from, output, if_apart, outputs_in}
use Rattle.join_forms.specs.Views.{parts_of, outputs_of}
use Rattle.join_forms.proofs.Groups.{Part}
use Rattle.join_forms.proofs.Pieces.{only_if_so, only_if_not}
use Rattle.stage_parts.proofs.Each.{drop_at}
use Rattle.stage_parts.proofs.Options.{stays}
use Rattle.stage_parts.specs.Each.{each}
use Rattle.stage_parts.specs.Paths.{are_apart}
use Rattle.stage_tree.specs.Stage.{WindowHead}
use Rattle.stage_tree.specs.StageView.{window_of}
use Rattle.stage_tree.specs.declared.window.WindowFn.{WindowFn}

map_behind : {A B : Type 0} (f : A → B) (xs : List A) (y : A) → map f (xs ++ y ∷ []) ≡ map f xs ++ f y ∷ []
map_behind f [] y = refl
map_behind f (x ∷ xs) y = ap (λ zs. f x ∷ zs) (map_behind f xs y)

pub outputs_behind : (os : List (Steps × WindowFn)) (o : Steps × WindowFn) → outputs_of (os ++ o ∷ []) ≡ outputs_of os ++ (o.0, window_of o.1) ∷ []
outputs_behind os o = let view : Steps × WindowFn → Steps × WindowHead = λ x. (x.0, window_of x.1) in map_behind view os o

pub parts_behind : (ps : List (List ℕ × AccKind × Expr)) (p : List ℕ × AccKind × Expr) → parts_of (ps ++ p ∷ []) ≡ parts_of ps ++ (p.0, (p.1, node_of p.2)) ∷ []
parts_behind ps p = let view : List ℕ × AccKind × Expr → Part = λ x. (x.0, (x.1, node_of x.2)) in map_behind view ps p

first_parts : (os : List (Steps × WindowFn)) → map (λ (o : Steps × WindowHead). o.0) (outputs_of os) ≡ map (λ (o : Steps × WindowFn). o.0) os
first_parts [] = refl
first_parts (o ∷ os) = ap (λ ps. o.0 ∷ ps) (first_parts os)

-- outputs that were read, and whether their paths are apart
module _ (sorted : Bool) (fs : Fields) (os ps : List (Steps × WindowFn)) (b : Bool) (read : each (output sorted) fs ≡ Some (outputs_of os)) (same : ps ≡ os) (apart : b ≡ are_apart (map (λ (o : Steps × WindowFn). o.0) ps)) where
  answer : are_apart (map (λ (o : Steps × WindowHead). o.0) (outputs_of os)) ≡ b
  answer = ap are_apart (first_parts os) ∙ ap (λ (qs : List (Steps × WindowFn)). are_apart (map (λ (o : Steps × WindowFn). o.0) qs)) (sym same) ∙ sym apart

  pub outputs_taken : b ≡ true → outputs_in sorted fs ≡ Some (outputs_of os)
  outputs_taken e = ap (λ o. o >>= if_apart) read ∙ only_if_so (are_apart (map (λ (o : Steps × WindowHead). o.0) (outputs_of os))) (Some (outputs_of os)) (answer ∙ e)

  pub outputs_refused : b ≡ false → outputs_in sorted fs ≡ None
  outputs_refused e = ap (λ o. o >>= if_apart) read ∙ only_if_not (are_apart (map (λ (o : Steps × WindowHead). o.0) (outputs_of os))) (Some (outputs_of os)) (answer ∙ e)

-- a field of that name
pub named_field : (ps : Fields) (i : ℕ) (k : List ℕ) → option_map (λ (p : List ℕ × Tree). p.0) (slice_get ps i) ≡ Some k → (t : Tree) × (slice_get ps i ≡ Some (k, t))
named_field [] i k e = absurd cc
named_field (x ∷ xs) zero k e = let d : x.0 ≡ k = cc in (x.1, λ j. Some (d j, x.1))
named_field (x ∷ xs) (suc i) k e = named_field xs i k e

module _ (fs : Fields) (i : ℕ) (k : List ℕ) (t : Tree) (here : slice_get fs i ≡ Some (k, t)) (front : List Part) (s : Option (List Part)) (p : parts_from front (drop i fs) ≡ s) where
  step : cond (bytes_eq k (codes "_id")) (parts_from front (drop (i + 1) fs)) (part k t >>= λ q. parts_from (front ++ q ∷ []) (drop (i + 1) fs)) ≡ s
  step = ap (parts_from front) (sym (drop_at fs i (k, t) here)) ∙ p

  pub id_skipped : bytes_eq k (codes "_id") ≡ true → parts_from front (drop (i + 1) fs) ≡ s
  id_skipped e = rw e at step

  taken : bytes_eq k (codes "_id") ≡ false → (part k t >>= λ q. parts_from (front ++ q ∷ []) (drop (i + 1) fs)) ≡ s
  taken e = rw e at step

  pub part_fails : bytes_eq k (codes "_id") ≡ false → (e : FormError) → Refuses e (part k t) → Refuses e s
  part_fails b e h = stays e (part k t) (λ q. parts_from (front ++ q ∷ []) (drop (i + 1) fs)) s (taken b) h

  pub part_goes : bytes_eq k (codes "_id") ≡ false → (q : Part) → part k t ≡ Some q → parts_from (front ++ q ∷ []) (drop (i + 1) fs) ≡ s
  part_goes b q h = ap (λ (o : Option Part). o >>= λ z. parts_from (front ++ z ∷ []) (drop (i + 1) fs)) (sym h) ∙ taken b
