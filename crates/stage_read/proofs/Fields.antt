-- The fields of a command: read exactly where they are so.
use Rattle.std.proofs.Common.{◌≡◌, ℕ, Bool, true, false, cond, List, [], ◌∷◌, ◌++◌, refl, sym, ap, ◌∙◌, arith, inl, inr, subst}
use Rattle.std.specs.Prelude.{Option, Some, None, ◌⊎◌, codes}
use Rattle.std.specs.List.{list_all}
use Rattle.std.specs.Option.{option_and_then}
use Rattle.std.specs.Str.{bytes_eq}
use Rattle.bson_value.specs.Tree.{text, Tree, leaf, doc, list, Trees}
use Rattle.expr_tree.specs.Spells.{Fields}
use Rattle.expr_read.specs.Reading.{only_if}
use Rattle.stage_read.specs.Commands.{first_only, field_step, pipeline_from, named_parts, command_parts}
use Rattle.stage_read.specs.Parts.{list_of}
use Rattle.stage_read.specs.Reading.{collection_in}
use Rattle.stage_read.specs.Words.{is_pipeline, is_ignored}
use Rattle.stage_read.specs.Written.{IsCommand}
use Rattle.stage_read.proofs.Bits.{decided, some_same, no_some, both, same_bytes}
use Rattle.stage_read.proofs.Sound.{collection_is}

abbrev pub Ignored : Fields → Type 0
Ignored ps = list_all (λ (p : List ℕ × Tree). is_ignored p.0) ps ≡ true

ignored_on : (p : List ℕ × Tree) (ps : Fields) → is_ignored p.0 ≡ true → Ignored ps → Ignored (p ∷ ps)
ignored_on p ps i h = rw i h

after : (us : Trees) (ps : Fields) (ts : Trees) → pipeline_from (Some us) ps ≡ Some ts → (us ≡ ts) × Ignored ps
after us [] ts e = (some_same us ts e, refl)
after us (p ∷ ps) ts e = elim (decided (is_pipeline p.0)) [
  | inl h ↦ absurd (no_some ts (rw h at e))
  | inr h ↦ elim (decided (is_ignored p.0)) [
    | inl i ↦ let r = after us ps ts (rw (h, i) at e) in (r.0, ignored_on p ps i r.1)
    | inr i ↦ absurd (no_some ts (rw (h, i) at e))
  ]
]

-- the pipeline among fields that say nothing
abbrev pub IsAmong : Fields → Trees → Type 0
IsAmong ps ts = (front : Fields) × (back : Fields) × (ps ≡ front ++ (codes "pipeline", list ts) ∷ back) × Ignored front × Ignored back

found_here : (k : List ℕ) (v : Tree) (ps : Fields) (ts : Trees) → is_pipeline k ≡ true → option_and_then (λ f. pipeline_from f ps) (first_only None (list_of v)) ≡ Some ts → IsAmong ((k, v) ∷ ps) ts
found_here k (leaf l) ps ts h e = absurd (no_some ts e)
found_here k (doc qs) ps ts h e = absurd (no_some ts e)
found_here k (list us) ps ts h e =
    let r = after us ps ts e in
    ([], ps, (λ i. (same_bytes k (codes "pipeline") h i, list (r.0 i)) ∷ ps), refl, r.1)

among : (ps : Fields) (ts : Trees) → pipeline_from None ps ≡ Some ts → IsAmong ps ts
among [] ts e = absurd (no_some ts e)
among (p ∷ ps) ts e = elim (decided (is_pipeline p.0)) [
  | inl h ↦ found_here p.0 p.1 ps ts h (rw h at e)
  | inr h ↦ elim (decided (is_ignored p.0)) [
    | inl i ↦ let r = among ps ts (rw (h, i) at e) in (p ∷ r.0, r.1, ap (λ qs. p ∷ qs) r.2, ignored_on p r.0 i r.3, r.4)
    | inr i ↦ absurd (no_some ts (rw (h, i) at e))
  ]
]

-- a field that says nothing is no pipeline
no_pipeline : (k : List ℕ) → is_ignored k ≡ true → is_pipeline k ≡ false
no_pipeline k i = elim (decided (is_pipeline k)) [
  | inl h ↦ let e : is_ignored (codes "pipeline") ≡ true = rw (same_bytes k (codes "pipeline") h) at i in absurd cc
  | inr h ↦ h
]

behind_read : (ts : Trees) (ps : Fields) → Ignored ps → pipeline_from (Some ts) ps ≡ Some ts
behind_read ts [] h = refl
behind_read ts (p ∷ ps) h =
    let b = both (is_ignored p.0) (list_all (λ (q : List ℕ × Tree). is_ignored q.0) ps) h in
    rw (no_pipeline p.0 b.0, b.0) (behind_read ts ps b.1)

among_read : (front back : Fields) (ts : Trees) → Ignored front → Ignored back → pipeline_from None (front ++ (codes "pipeline", list ts) ∷ back) ≡ Some ts
among_read [] back ts f b = behind_read ts back b
among_read (p ∷ ps) back ts f b =
    let c = both (is_ignored p.0) (list_all (λ (q : List ℕ × Tree). is_ignored q.0) ps) f in
    rw (no_pipeline p.0 c.0, c.0) (among_read ps back ts c.1 b)

parts_of : (o : Option (List ℕ)) (p : Option Trees) (name : List ℕ) (ts : Trees) → named_parts o p ≡ Some (name, ts) → (o ≡ Some name) × (p ≡ Some ts)
parts_of None p name ts e = absurd cc
parts_of (Some c) None name ts e = absurd cc
parts_of (Some c) (Some us) name ts e =
    let d = some_same (c, us) (name, ts) e in
    (ap (λ (q : List ℕ × Trees). Some q.0) d, ap (λ (q : List ℕ × Trees). Some q.1) d)

command_at : (p : List ℕ × Tree) (ps : Fields) (name : List ℕ) (ts : Trees) → bytes_eq p.0 (codes "aggregate") ≡ true → collection_in p.1 ≡ Some name → pipeline_from None ps ≡ Some ts → IsCommand (p ∷ ps) name ts
command_at p ps name ts b c f =
    let d = collection_is p.1 name c in
    let r = among ps ts f in
    record { front = r.0; back = r.1; form = λ i. (same_bytes p.0 (codes "aggregate") b i, d.0 i) ∷ r.2 i; collection = d.1; before = r.3; behind = r.4 }

pub parts_spelled : (fields : Fields) (name : List ℕ) (ts : Trees) → command_parts fields ≡ Some (name, ts) → IsCommand fields name ts
parts_spelled [] name ts e = absurd cc
parts_spelled (p ∷ ps) name ts e = elim (decided (bytes_eq p.0 (codes "aggregate"))) [
  | inl b ↦ let r = parts_of (collection_in p.1) (pipeline_from None ps) name ts (rw b at e) in command_at p ps name ts b r.0 r.1
  | inr b ↦ absurd (no_some (name, ts) (rw b at e))
]

pub parts_read : (fields : Fields) (name : List ℕ) (ts : Trees) → IsCommand fields name ts → command_parts fields ≡ Some (name, ts)
parts_read fields name ts c = rw (c.form, c.collection, among_read c.front c.back ts c.before c.behind) refl
