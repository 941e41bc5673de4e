-- Fields put one after another into a map of borrowed names.
use Rattle.std.proofs.Common.{◌≡◌, ℕ, zero, suc, ◌+◌, Bool, true, false, List, [], ◌∷◌, ◌++◌, map, take, drop, fold, refl, sym, ap, ◌∙◌, add-one}
use Rattle.std.specs.Prelude.{nat_eq, not, ◌||◌, ◌&&◌, Option, Some, None, Result, Ok, Err, slice_get}
use Rattle.std.specs.Option.{unwrap_or}
use Rattle.std.specs.List.{list_any, list_all, IsDistinct, AllByRecursion}
use Rattle.std.specs.Cmp.Lexicographic.{pointwise, bytes_decides, nat_list_eq_equiv}
use Rattle.std.specs.Str.{bytes_eq}
use denote.Ref.{Bor}
use Rattle.indexmap.specs.IndexMap.{insert_entry}
use Rattle.bson_value.specs.Tree.{Tree}
use Rattle.bson_value.specs.Pairs.{find, put}
use Rattle.bson_value.specs.declared.eval_code.EvalCode.{EvalCode}
use Rattle.bson_value.specs.Operands.{Outcome, Operand, operand_map, both, row}
use Rattle.bson_value.specs.ObjectRows.{Fields, merged, gives_doc, object_of, field_first, named, element_field, element_fields, or_no_fields}
use Rattle.value_sets.proofs.AtPlace.{tree_next}
use Rattle.value_sets.specs.Seen.{fields_seen}

abbrev pub same_name : Bor (List ℕ) → Bor (List ℕ) → Bool
same_name x y = pointwise nat_eq x.now y.now

pub put_seen : (es : List (Bor (List ℕ) × Tree)) (k : Bor (List ℕ)) (t : Tree) → fields_seen (insert_entry same_name es k t) ≡ put k.now t (fields_seen es)
put_seen [] k t = refl
put_seen (e ∷ es) k t = by (same_name k e.0) refl (put_seen es k t)
  where
    by : (b : Bool) → same_name k e.0 ≡ b → fields_seen (insert_entry same_name es k t) ≡ put k.now t (fields_seen es) → fields_seen (insert_entry same_name (e ∷ es) k t) ≡ put k.now t (fields_seen (e ∷ es))
    by true h rest = let g : bytes_eq e.0.now k.now ≡ true = nat_list_eq_equiv.symm e.0.now k.now ∙ h in rw (h, g) (ap (λ (n : List ℕ). (n, t) ∷ fields_seen es) ((bytes_decides e.0.now k.now).0 g))
    by false h rest = let g : bytes_eq e.0.now k.now ≡ false = nat_list_eq_equiv.symm e.0.now k.now ∙ h in rw (h, g) (ap (λ (ps : Fields). (e.0.now, e.1) ∷ ps) rest)

apart_at : (k : Bor (List ℕ)) (es : List (Bor (List ℕ) × Tree)) (i : ℕ) (e : Bor (List ℕ) × Tree) → AllByRecursion (λ y. same_name k y ≡ false) (map (λ d. d.0) es) → slice_get es i ≡ Some e → same_name k e.0 ≡ false
apart_at k [] i e h is = absurd cc
apart_at k (d ∷ es) zero e h is = let f : d ≡ e = cc in ap (λ (x : Bor (List ℕ) × Tree). same_name k x.0) (sym f) ∙ h.0
apart_at k (d ∷ es) (suc i) e h is = apart_at k es i e h.1 is

-- a name that is new to those before it
pub new_name : (es : List (Bor (List ℕ) × Tree)) (i : ℕ) (e : Bor (List ℕ) × Tree) → IsDistinct same_name (map (λ d. d.0) es) → slice_get es i ≡ Some e → find e.0.now (fields_seen (take i es)) ≡ None
unfolding IsDistinct
new_name [] i e h is = absurd cc
new_name (d ∷ es) zero e h is = refl
new_name (d ∷ es) (suc i) e h is = rw (apart_at d.0 es i e h.0 is) (new_name es i e h.1 is)

pub no_zero : (bs : List ℕ) → list_all (λ b. not (nat_eq b 0)) bs ≡ not (list_any (λ b. nat_eq b 0) bs)
no_zero [] = refl
no_zero (b ∷ bs) = by (nat_eq b 0) (no_zero bs)
  where
    by : (d : Bool) → list_all (λ c. not (nat_eq c 0)) bs ≡ not (list_any (λ c. nat_eq c 0) bs) → (not d && list_all (λ c. not (nat_eq c 0)) bs) ≡ not (d || list_any (λ c. nat_eq c 0) bs)
    by true rest = refl
    by false rest = rest

-- the fields so far, with those that the rest spells
abbrev pub object_after : Fields → Result Fields EvalCode → Outcome
object_after ps (Err c) = Err c
object_after ps (Ok qs) = gives_doc (merged ps qs)

pub object_start : (r : Result Fields EvalCode) → object_after [] r ≡ object_of r
object_start (Err c) = refl
object_start (Ok qs) = refl

pub object_next : (ps : Fields) (p : List ℕ × Tree) (rest : Result Fields EvalCode) → object_after (put p.0 p.1 ps) rest ≡ object_after ps (field_first (Ok p) rest)
object_next ps p (Err c) = refl
object_next ps p (Ok qs) = refl

-- the fields so far, with those of the rest of the documents
abbrev pub merged_after : Fields → Operand (List Fields) → Outcome
merged_after ps rest = row rest (λ pss. gives_doc (fold merged ps pss))

pub merge_next : (ps : Fields) (x : Option Fields) (rest : Operand (List Fields))
    → merged_after (merged ps (unwrap_or x [])) rest ≡ merged_after ps (operand_map (λ p. p.0 ∷ p.1) (both (or_no_fields (Ok x)) rest))
merge_next ps None (Err c) = refl
merge_next ps (Some qs) (Err c) = refl
merge_next ps None (Ok None) = refl
merge_next ps (Some qs) (Ok None) = refl
merge_next ps None (Ok (Some pss)) = refl
merge_next ps (Some qs) (Ok (Some pss)) = refl

pub fields_more : (es : List (Bor (List ℕ) × Tree)) (i : ℕ) (e : Bor (List ℕ) × Tree) → slice_get es i ≡ Some e → fields_seen (take (i + 1) es) ≡ fields_seen (take i es) ++ (e.0.now, e.1) ∷ []
fields_more es i e is = rw add-one (by es i is)
  where
    by : (ds : List (Bor (List ℕ) × Tree)) (k : ℕ) → slice_get ds k ≡ Some e → fields_seen (take (suc k) ds) ≡ fields_seen (take k ds) ++ (e.0.now, e.1) ∷ []
    by [] k h = absurd cc
    by (d ∷ ds) zero h = let f : d ≡ e = cc in ap (λ (x : Bor (List ℕ) × Tree). (x.0.now, x.1) ∷ []) f
    by (d ∷ ds) (suc k) h = ap (λ (ps : Fields). (d.0.now, d.1) ∷ ps) (by ds k h)

pub object_failed : (ps : Fields) (ts : List Tree) (i : ℕ) (t : Tree) (c : EvalCode) → slice_get ts i ≡ Some t → Err c ≡ named (element_field t) → object_after ps (element_fields (drop i ts)) ≡ object_of (element_fields ts) → object_of (element_fields ts) ≡ Err c
object_failed ps ts i t c is fails so_far = sym so_far ∙ ap (λ (us : List Tree). object_after ps (element_fields us)) (tree_next ts i t is) ∙ ap (λ (r : Result (List ℕ × Tree) EvalCode). object_after ps (field_first r (element_fields (drop (i + 1) ts)))) (sym fails)

pub object_more : (ps : Fields) (ts : List Tree) (i : ℕ) (t : Tree) (p : List ℕ × Tree) → slice_get ts i ≡ Some t → Ok p ≡ named (element_field t) → object_after (put p.0 p.1 ps) (element_fields (drop (i + 1) ts)) ≡ object_after ps (element_fields (drop i ts))
object_more ps ts i t p is found = object_next ps p (element_fields (drop (i + 1) ts)) ∙ ap (λ (r : Result (List ℕ × Tree) EvalCode). object_after ps (field_first r (element_fields (drop (i + 1) ts)))) found ∙ ap (λ (us : List Tree). object_after ps (element_fields us)) (sym (tree_next ts i t is))
