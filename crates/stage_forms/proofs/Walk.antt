-- The walk through nested documents.
use Rattle.std.proofs.Common.{◌≡◌, ℕ, ◌+◌, Bool, true, false, List, [], ◌∷◌, ◌++◌, drop, refl, sym, ap, ◌∙◌}
use Rattle.std.specs.Prelude.{Option, Some, None, slice_get, map}
use denote.Ref.{Bor}
use Rattle.bson_value.specs.Paths.{Steps}
use Rattle.bson_value.specs.declared.value.Value.{Value}
use Rattle.bson_value.specs.Tree.{Tree, leaf, doc, list, Pairs, pairs_of, entries}
use Rattle.expr_read.specs.declared.errors.FormError.{FormError}
use Rattle.expr_read.specs.Reading.{only_if, ◌>>=◌}
use Rattle.expr_read.specs.Reads.{Refuses}
use Rattle.stage_tree.specs.Outcome.{Fields}
use Rattle.stage_parts.specs.Each.{each_from}
use Rattle.stage_parts.proofs.Each.{drop_at, each_append}
use Rattle.stage_parts.proofs.Options.{some_same, only_some, stays}
use Rattle.stage_parts.proofs.Trees.{pairs_again}
use Rattle.stage_forms.specs.Leaves.{Leaves, nests, flat, flat_value, leaf_reading}
use Rattle.stage_forms.specs.Views.{leaves_in, nested}

pub flat_nested : (text : List ℕ) (t : Tree) (ps : Fields) → nested t ≡ Some ps → flat_value text t ≡ flat (text ++ 46 ∷ []) (pairs_of ps)
flat_nested text (leaf l) ps e = absurd cc
flat_nested text (list ts) ps e = absurd cc
flat_nested text (doc qs) ps e =
    let w = only_some (nests (entries qs)) (Some (entries qs)) ps e in
    rw w.0 (ap (flat (text ++ 46 ∷ [])) (sym (pairs_again qs) ∙ ap pairs_of (some_same (entries qs) ps w.1)))

not_some : {A : Type 0} (b : Bool) (x : A) → only_if b (Some x) ≡ None → b ≡ false
not_some true x e = absurd cc
not_some false x e = refl

pub flat_plain : (text : List ℕ) (t : Tree) → nested t ≡ None → flat_value text t ≡ (text, t) ∷ []
flat_plain text (leaf l) e = refl
flat_plain text (list ts) e = refl
flat_plain text (doc qs) e = rw (not_some (nests (entries qs)) (entries qs) e) refl

-- a turn of the loop over a document's fields
module _ (front : List ℕ) (ps : Fields) (i : ℕ) (k : List ℕ) (t : Tree) (at : slice_get ps i ≡ Some (k, t)) (found : Leaves) (s : Option Leaves) (p : each_from leaf_reading found (flat front (pairs_of (drop i ps))) ≡ s) where
  walk_step : (each_from leaf_reading found (flat_value (front ++ k) t) >>= λ more. each_from leaf_reading more (flat front (pairs_of (drop (i + 1) ps)))) ≡ s
  walk_step = sym (each_append leaf_reading found (flat_value (front ++ k) t) (flat front (pairs_of (drop (i + 1) ps)))) ∙ ap (λ qs. each_from leaf_reading found (flat front (pairs_of qs))) (sym (drop_at ps i (k, t) at)) ∙ p

  pub walk_fails : (e : FormError) → Refuses e (each_from leaf_reading found (flat_value (front ++ k) t)) → Refuses e s
  walk_fails e h = stays e (each_from leaf_reading found (flat_value (front ++ k) t)) (λ more. each_from leaf_reading more (flat front (pairs_of (drop (i + 1) ps)))) s walk_step h

  pub walk_goes : (more : Leaves) → each_from leaf_reading found (flat_value (front ++ k) t) ≡ Some more → each_from leaf_reading more (flat front (pairs_of (drop (i + 1) ps))) ≡ s
  walk_goes more h = ap (λ (o : Option Leaves). o >>= λ m. each_from leaf_reading m (flat front (pairs_of (drop (i + 1) ps)))) (sym h) ∙ walk_step

-- the paths of what was found, as the code has them
pub leaf_paths : (ls : List (Steps × Bor Value)) → map (λ l. l.0) (leaves_in ls) ≡ map (λ (l : Steps × Bor Value). l.0) ls
leaf_paths [] = refl
leaf_paths (l ∷ ls) = ap (λ ps. l.0 ∷ ps) (leaf_paths ls)
