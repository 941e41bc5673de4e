-- The paths of a `$project` that are listed, and those that are set.
use Rattle.std.proofs.Common.{◌≡◌, ℕ, Bool, true, false, List, [], ◌∷◌, ◌++◌, refl, sym, ap, ◌∙◌, inl, inr}
use Rattle.std.specs.Prelude.{Option, Some, None}
use Rattle.std.proofs.lemmas.List.{append_assoc, append-nil}
use Rattle.bson_value.specs.Paths.{Steps}
use Rattle.bson_value.specs.Tree.{Tree}
use Rattle.expr_tree.specs.Node.{Node}
use Rattle.expr_read.specs.Reading.{reading, ◌>>=◌}
use Rattle.expr_read.proofs.Sound.{spelled}
use Rattle.expr_read.proofs.Spelled.{only}
use Rattle.stage_tree.specs.Stage.{Made}
use Rattle.stage_parts.specs.Each.{Pairwise}
use Rattle.stage_parts.proofs.Options.{some_same, bind_some, decided}
use Rattle.stage_forms.specs.Leaves.{Leaves}
use Rattle.stage_forms.specs.Project.{said, is_id, listed, listed_path, computed, set_path}
use Rattle.stage_forms.specs.Reading.{Listed, set_reading, made_from, listed_more, set_more, part_from, parts_from}
use Rattle.stage_forms.specs.Written.{IsSet}

pub set_found : (l : Steps × Tree) (m : Steps × Node) → set_reading l ≡ Some m → IsSet l m
set_found l m e =
    let p = bind_some (reading l.1 []) (λ n. Some (l.0, n)) m e in
    let same = some_same (l.0, p.0) m p.2 in
    (ap (λ (x : Steps × Node). x.0) same, spelled l.1 [] m.1 (p.1 ∙ ap (λ (x : Steps × Node). Some x.1) same))

pub set_only : (l : Steps × Tree) (m : Steps × Node) → IsSet l m → set_reading l ≡ Some m
set_only l m h = ap (λ (o : Option Node). o >>= λ n. Some (l.0, n)) (only m.1 [] l.1 h.1) ∙ ap (λ p. Some (p, m.1)) h.0

-- `$addFields`
pub made_found : (front : Made) (ls : Leaves) (made : Made) → made_from front ls ≡ Some made → (ms : Made) × (front ++ ms ≡ made) × Pairwise IsSet ls ms
made_found front [] made e = ([], append-nil front ∙ some_same front made e, tt)
made_found front (l ∷ ls) made e =
    let p = bind_some (set_reading l) (λ m. made_from (front ++ m ∷ []) ls) made e in
    let r = made_found (front ++ p.0 ∷ []) ls made p.2 in
    (p.0 ∷ r.0, sym (append_assoc front (p.0 ∷ []) r.0) ∙ r.1, (set_found l p.0 p.1, r.2))

pub made_only : (front : Made) (ls : Leaves) (made : Made) → Pairwise IsSet ls made → made_from front ls ≡ Some (front ++ made)
made_only front [] [] h = ap Some (sym (append-nil front))
made_only front [] (m ∷ ms) h = absurd h
made_only front (l ∷ ls) [] h = absurd h
made_only front (l ∷ ls) (m ∷ ms) h =
    ap (λ (o : Option (Steps × Node)). o >>= λ x. made_from (front ++ x ∷ []) ls) (set_only l m h.0) ∙ made_only (front ++ m ∷ []) ls ms h.1 ∙ ap Some (append_assoc front (m ∷ []) ms)

-- what was found behind what there was
abbrev Found : Listed → List Steps → Leaves → Listed → Type 0
Found front ps ls parts = (ms : Made) × (front.0 ++ ps ≡ parts.0) × (front.1 ++ ms ≡ parts.1) × Pairwise IsSet ls ms

found_listed : (b : Bool) (front : Listed) (p : Steps) (ps : List Steps) (ls : Leaves) (parts : Listed) → is_id p ≡ b → Found (listed_more p front) ps ls parts → Found front (listed_path (Some true) p ps) ls parts
found_listed true front p ps ls parts e f = rw e (rw e at f)
found_listed false front p ps ls parts e f =
    let g : Found (front.0 ++ p ∷ [], front.1) ps ls parts = rw e at f in
    rw e (g.0, sym (append_assoc front.0 (p ∷ []) ps) ∙ g.1, g.2, g.3)

part_found : (o : Option Bool) (front : Listed) (l : Steps × Tree) (ps : List Steps) (ls : Leaves) (parts : Listed) (rest : Listed → Option Listed) → ((more : Listed) → rest more ≡ Some parts → Found more ps ls parts)
    → (part_from o front l >>= rest) ≡ Some parts → Found front (listed_path o l.0 ps) (set_path o l ls) parts
part_found (Some true) front l ps ls parts rest next e = found_listed (is_id l.0) front l.0 ps ls parts refl (next (listed_more l.0 front) e)
part_found (Some false) front l ps ls parts rest next e = found_listed (is_id l.0) front l.0 ps ls parts refl (next (listed_more l.0 front) e)
part_found None front l ps ls parts rest next e =
    let p = bind_some (set_reading l >>= λ m. Some (set_more front m)) rest parts e in
    let q = bind_some (set_reading l) (λ m. Some (set_more front m)) p.0 p.1 in
    let r = next (set_more front q.0) (ap rest (some_same (set_more front q.0) p.0 q.2) ∙ p.2) in
    (q.0 ∷ r.0, r.1, sym (append_assoc front.1 (q.0 ∷ []) r.0) ∙ r.2, (set_found l q.0 q.1, r.3))

pub parts_found : (front : Listed) (ls : Leaves) (parts : Listed) → parts_from front ls ≡ Some parts → Found front (listed ls) (computed ls) parts
parts_found front [] parts e = let same = some_same front parts e in ([], append-nil front.0 ∙ ap (λ (x : Listed). x.0) same, append-nil front.1 ∙ ap (λ (x : Listed). x.1) same, tt)
parts_found front (l ∷ ls) parts e = part_found (said l.1) front l (listed ls) (computed ls) parts (λ more. parts_from more ls) (λ more h. parts_found more ls parts h) e

listed_only : (b : Bool) (front : Listed) (p : Steps) (ps : List Steps) (made : Made) (rest : Listed → Option Listed) → is_id p ≡ b → ((more : Listed) → rest more ≡ Some (more.0 ++ ps, more.1 ++ made))
    → rest (listed_more p front) ≡ Some (front.0 ++ listed_path (Some true) p ps, front.1 ++ made)
listed_only true front p ps made rest e next = rw e (next front)
listed_only false front p ps made rest e next = rw e (next (front.0 ++ p ∷ [], front.1) ∙ ap (λ qs. Some (qs, front.1 ++ made)) (append_assoc front.0 (p ∷ []) ps))

part_only : (o : Option Bool) (front : Listed) (l : Steps × Tree) (ps : List Steps) (ls : Leaves) (made : Made) (rest : Listed → Option Listed)
    → ((more : Listed) (ms : Made) → Pairwise IsSet ls ms → rest more ≡ Some (more.0 ++ ps, more.1 ++ ms)) → Pairwise IsSet (set_path o l ls) made
    → (part_from o front l >>= rest) ≡ Some (front.0 ++ listed_path o l.0 ps, front.1 ++ made)
part_only (Some true) front l ps ls made rest next h = listed_only (is_id l.0) front l.0 ps made rest refl (λ more. next more made h)
part_only (Some false) front l ps ls made rest next h = listed_only (is_id l.0) front l.0 ps made rest refl (λ more. next more made h)
part_only None front l ps ls [] rest next h = absurd h
part_only None front l ps ls (m ∷ ms) rest next h =
    ap (λ (o : Option (Steps × Node)). (o >>= λ x. Some (set_more front x)) >>= rest) (set_only l m h.0) ∙ next (set_more front m) ms h.1 ∙ ap (λ ns. Some (front.0 ++ ps, ns)) (append_assoc front.1 (m ∷ []) ms)

pub parts_only : (front : Listed) (ls : Leaves) (made : Made) → Pairwise IsSet (computed ls) made → parts_from front ls ≡ Some (front.0 ++ listed ls, front.1 ++ made)
parts_only front [] [] h = λ i. Some (sym (append-nil front.0) i, sym (append-nil front.1) i)
parts_only front [] (m ∷ ms) h = absurd h
parts_only front (l ∷ ls) made h = part_only (said l.1) front l (listed ls) (computed ls) made (λ more. parts_from more ls) (λ more ms g. parts_only more ls ms g) h
