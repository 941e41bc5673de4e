-- What holds of keeping, by the definitions alone.
use Rattle.std.proofs.Common.{◌≡◌, ℕ, Bool, true, false, cond, List, [], ◌∷◌, ◌++◌, map, refl, sym, ap, ◌∙◌, append_assoc}
use Rattle.std.specs.Prelude.{Option, None, Some, is_some, filter, ◌||◌, ◌&&◌}
use Rattle.std.specs.List.{list_any}
use Rattle.std.specs.Str.{bytes_eq}
use Rattle.std.proofs.lemmas.Slice.Eq.{bytes_eq-Decides}
use Rattle.bson_value.specs.Tree.{Tree, leaf, doc, list, Pairs, pair, pairs_of, entries}
use Rattle.bson_value.specs.Paths.{Steps, behind, rest_behind, kept, is_end, whole_or, keep, keep_pairs, keep_part, field_before}
use Rattle.doc_path.specs.Ways.{stays, holds_values}
use Rattle.doc_path.proofs.Steps.{entries_pairs}

abbrev firsts : List (List ℕ × Tree) → List Steps
firsts ps = map (λ p. p.0 ∷ []) ps

or_true : (b c : Bool) → c ≡ true → b || c ≡ true
or_true true c h = refl
or_true false c h = h

any_kept : (o : Option Steps) (l : List Steps) → list_any is_end l ≡ true → list_any is_end (kept o l) ≡ true
any_kept None l h = h
any_kept (Some t) l h = or_true (is_end t) (list_any is_end l) h

same_name : (n : List ℕ) → bytes_eq n n ≡ true
same_name n = (bytes_eq-Decides n n).1 refl

ends_there : (n : List ℕ) (t : Tree) (xs ys : List (List ℕ × Tree)) → list_any is_end (behind n (firsts (xs ++ (n, t) ∷ ys))) ≡ true
ends_there n t [] ys = ap (λ (b : Bool). list_any is_end (kept (cond b (Some []) None) (behind n (firsts ys)))) (same_name n)
ends_there n t (x ∷ xs) ys = any_kept (rest_behind n (x.0 ∷ [])) (behind n (firsts (xs ++ (n, t) ∷ ys))) (ends_there n t xs ys)

whole_if : (rests : List Steps) (t : Tree) (part : Option Tree) → list_any is_end rests ≡ true → whole_or rests t part ≡ Some t
whole_if [] t part h = absurd cc
whole_if (r ∷ rs) t part h = ap (λ (b : Bool). cond b (Some t) part) h

all_kept : (xs ys : List (List ℕ × Tree)) → keep_pairs (firsts (xs ++ ys)) (pairs_of ys) ≡ pairs_of ys
all_kept xs [] = refl
all_kept xs (y ∷ ys) =
    let paths : List Steps = firsts (xs ++ y ∷ ys) in
    let rests : List Steps = behind y.0 paths in
    let below : keep_pairs paths (pairs_of ys) ≡ pairs_of ys = ap (λ (zs : List (List ℕ × Tree)). keep_pairs (firsts zs) (pairs_of ys)) (sym (append_assoc xs (y ∷ []) ys)) ∙ all_kept (xs ++ y ∷ []) ys in
    ap (λ (o : Option Tree). field_before y.0 o (keep_pairs paths (pairs_of ys))) (whole_if rests y.1 (keep_part rests y.1) (ends_there y.0 y.1 xs ys))
    ∙ ap (pair y.0 y.1) below

pub keep_all_is_same : (ps : List (List ℕ × Tree)) → keep (firsts ps) ps ≡ ps
keep_all_is_same ps = ap entries (all_kept [] ps) ∙ entries_pairs ps

-- ---- the stored order

abbrev names : List (List ℕ × Tree) → List (List ℕ)
names ps = map (λ p. p.0) ps

names_before : (n : List ℕ) (o : Option Tree) (ps : Pairs) → names (entries (field_before n o ps)) ≡ cond (is_some o) (n ∷ names (entries ps)) (names (entries ps))
names_before n None ps = refl
names_before n (Some t) ps = refl

names_filter : (b : Bool) (p : List ℕ × Tree) (ps : List (List ℕ × Tree)) → cond b (p.0 ∷ names ps) (names ps) ≡ names (cond b (p ∷ ps) ps)
names_filter true p ps = refl
names_filter false p ps = refl

part_some : (rests : List Steps) (t : Tree) → is_some (keep_part rests t) ≡ holds_values t
part_some rests (leaf l) = refl
part_some rests (doc ps) = refl
part_some rests (list ts) = refl

whole_some : (b : Bool) (t : Tree) (o : Option Tree) → is_some (cond b (Some t) o) ≡ b || is_some o
whole_some true t o = refl
whole_some false t o = refl

left_some : (rests : List Steps) (t : Tree) → is_some (whole_or rests t (keep_part rests t)) ≡ list_any is_end rests || (list_any (λ _. true) rests && holds_values t)
left_some [] t = refl
left_some (r ∷ rs) t = whole_some (list_any is_end (r ∷ rs)) t (keep_part (r ∷ rs) t) ∙ ap (λ (c : Bool). list_any is_end (r ∷ rs) || c) (part_some (r ∷ rs) t)

in_order : (paths : List Steps) (ps : List (List ℕ × Tree)) → names (entries (keep_pairs paths (pairs_of ps))) ≡ names (filter (stays paths) ps)
in_order paths [] = refl
in_order paths (p ∷ ps) =
    let rests : List Steps = behind p.0 paths in
    names_before p.0 (whole_or rests p.1 (keep_part rests p.1)) (keep_pairs paths (pairs_of ps))
    ∙ ap (λ (b : Bool). cond b (p.0 ∷ names (entries (keep_pairs paths (pairs_of ps)))) (names (entries (keep_pairs paths (pairs_of ps))))) (left_some rests p.1)
    ∙ ap (λ (l : List (List ℕ)). cond (stays paths p) (p.0 ∷ l) l) (in_order paths ps)
    ∙ names_filter (stays paths p) p (filter (stays paths) ps)

pub kept_in_order : (paths : List Steps) (ps : List (List ℕ × Tree)) → names (keep paths ps) ≡ names (filter (stays paths) ps)
kept_in_order paths ps = in_order paths ps
