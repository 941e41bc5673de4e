-- The fields that a group makes, read and written.
use Rattle.std.proofs.Common.{◌≡◌, ℕ, Bool, true, false, cond, List, [], ◌∷◌, ◌++◌, refl, sym, ap, ◌∙◌, subst}
use Rattle.std.specs.Prelude.{Option, Some, None, not, codes}
use Rattle.std.specs.Str.{bytes_eq}
use Rattle.std.proofs.lemmas.List.{append_assoc, append-nil}
use Rattle.bson_value.specs.Tree.{Tree}
use Rattle.bson_value.specs.declared.acc_kind.AccKind.{AccKind}
use Rattle.expr_read.specs.Reading.{only_if, ◌>>=◌}
use Rattle.expr_tree.specs.Node.{Node}
use Rattle.expr_tree.specs.Spells.{Fields}
use Rattle.join_forms.specs.Reading.{one_field, accumulator, accumulator_in, accumulator_value, part, parts_from}
use Rattle.join_forms.specs.Written.{IsAccumulator, IsPart, but_id}
use Rattle.join_forms.proofs.Pieces.{only_if_so, one_found, accumulator_only, accumulator_found}
use Rattle.stage_parts.proofs.Options.{some_same, bind_some, only_some}
use Rattle.stage_parts.specs.Each.{Pairwise}
use Rattle.stage_parts.specs.Names.{is_field_name, field_name}
use Rattle.stage_parts.specs.Values.{as_fields}

abbrev pub Part : Type 0
Part = List ℕ × (AccKind × Node)

part_only : (f : List ℕ × Tree) (p : Part) → IsPart f p → part f.0 f.1 ≡ Some p
part_only f p h =
    ap (λ (o : Option (List ℕ)). o >>= λ m. accumulator_value f.1 >>= λ a. Some (m, a)) (only_if_so (is_field_name f.0) (Some f.0) h.1)
    ∙ ap (λ (o : Option (AccKind × Node)). o >>= λ a. Some (f.0, a)) (ap (λ o. o >>= accumulator_in) h.2.2 ∙ accumulator_only h.2.0 h.2.1 p.1.0 p.1.1 h.2.3)
    ∙ ap (λ m. Some (m, p.1)) h.0

part_found : (f : List ℕ × Tree) (p : Part) → part f.0 f.1 ≡ Some p → IsPart f p
part_found f p e =
    let a = bind_some (field_name f.0) (λ m. accumulator_value f.1 >>= λ x. Some (m, x)) p e in
    let o = only_some (is_field_name f.0) (Some f.0) a.0 a.1 in
    let b = bind_some (accumulator_value f.1) (λ x. Some (a.0, x)) p a.2 in
    let c = bind_some (as_fields f.1) accumulator_in b.0 b.1 in
    let d = bind_some (one_field c.0) (λ q. accumulator q.0 q.1) b.0 c.2 in
    let same = some_same (a.0, b.0) p b.2 in (
      some_same f.0 a.0 o.1 ∙ ap (λ (z : Part). z.0) same,
      o.0,
      (d.0.0, d.0.1, c.1 ∙ ap Some (one_found c.0 d.0 d.1), subst (λ (z : Part). IsAccumulator d.0.0 d.0.1 z.1.0 z.1.1) same (accumulator_found d.0.0 d.0.1 b.0 d.2)),
    )

taken : (f : List ℕ × Tree) (fs : Fields) (front ps : List Part) → ((qs rs : List Part) → Pairwise IsPart (but_id fs) rs → parts_from qs fs ≡ Some (qs ++ rs)) → Pairwise IsPart (f ∷ but_id fs) ps
    → (part f.0 f.1 >>= λ p. parts_from (front ++ p ∷ []) fs) ≡ Some (front ++ ps)
taken f fs front [] law h = absurd h
taken f fs front (p ∷ ps) law h =
    ap (λ (o : Option Part). o >>= λ q. parts_from (front ++ q ∷ []) fs) (part_only f p h.0) ∙ law (front ++ p ∷ []) ps h.1 ∙ ap Some (append_assoc front (p ∷ []) ps)

pub parts_only : (fs : Fields) (front ps : List Part) → Pairwise IsPart (but_id fs) ps → parts_from front fs ≡ Some (front ++ ps)
parts_only [] front [] h = ap Some (sym (append-nil front))
parts_only [] front (p ∷ ps) h = absurd h
parts_only (f ∷ fs) front ps h =
    elim (bytes_eq f.0 (codes "_id")) as (λ b. Pairwise IsPart (cond (not b) (f ∷ but_id fs) (but_id fs)) ps → cond b (parts_from front fs) (part f.0 f.1 >>= λ p. parts_from (front ++ p ∷ []) fs) ≡ Some (front ++ ps)) [
      | true ↦ λ k. parts_only fs front ps k
      | false ↦ λ k. taken f fs front ps (parts_only fs) k
    ] h

pub parts_found : (fs : Fields) (front ps : List Part) → parts_from front fs ≡ Some ps → (rs : List Part) × (front ++ rs ≡ ps) × Pairwise IsPart (but_id fs) rs
parts_found [] front ps e = ([], append-nil front ∙ some_same front ps e, tt)
parts_found (f ∷ fs) front ps e =
    elim (bytes_eq f.0 (codes "_id")) as (λ b. cond b (parts_from front fs) (part f.0 f.1 >>= λ p. parts_from (front ++ p ∷ []) fs) ≡ Some ps → (rs : List Part) × (front ++ rs ≡ ps) × Pairwise IsPart (cond (not b) (f ∷ but_id fs) (but_id fs)) rs) [
      | true ↦ λ k. parts_found fs front ps k
      | false ↦ λ k.
          let b = bind_some (part f.0 f.1) (λ p. parts_from (front ++ p ∷ []) fs) ps k in
          let r = parts_found fs (front ++ b.0 ∷ []) ps b.2 in
          (b.0 ∷ r.0, sym (append_assoc front (b.0 ∷ []) r.0) ∙ r.1, (part_found f b.0 b.1, r.2))
    ] e
