-- Results that are added one after another.
use Rattle.std.proofs.Common.{◌≡◌, ◌≤◌, ◌∙◌, ℕ, zero, suc, Bool, true, false, ◌||◌, List, [], ◌∷◌, ◌++◌, drop, length, Some, sym, refl, ap, append_assoc, append-nil, arith}
use Rattle.std.specs.Prelude.{slice_get, flat_map}
use Rattle.std.specs.List.{list_any}
use Rattle.std.proofs.Math.Bool.{or_assoc, or-false}
use Rattle.std.proofs.lemmas.Bool.{or_parts, or_from}
use Rattle.bson_codec.specs.Spelling.{spelling}
use Rattle.bson_codec.specs.Records.{Document}
use Rattle.stage_tree.specs.Output.{is_too_long, is_too_deep, output}
use Rattle.aggregate_command.specs.declared.results.Results.{Results}
use Rattle.aggregate_command.specs.Gathered.{no_results, spelled_with, with_result, with_results, gathered}
use Rattle.aggregate_command.specs.Run.{spelled}

drop_next : (ds : List Document) (i : ℕ) (d : Document) → slice_get ds i ≡ Some d → drop i ds ≡ d ∷ drop (suc i) ds
drop_next [] i d at = absurd cc
drop_next (x ∷ ds) zero d at = let same : x ≡ d = cc in ap (λ y. y ∷ ds) same
drop_next (x ∷ ds) (suc i) d at = drop_next ds i d at

-- the document at a place is added, and then those behind it
pub added_next : (r s : Results) (ds : List Document) (i : ℕ) (d : Document) → slice_get ds i ≡ Some d → s ≡ with_result r d → with_results s (drop (suc i) ds) ≡ with_results r (drop i ds)
added_next r s ds i d at add = ap (λ t. with_results t (drop (suc i) ds)) add ∙ sym (ap (with_results r) (drop_next ds i d at))

drop_all : (ds : List Document) (i : ℕ) → length ds ≤ i → drop i ds ≡ []
drop_all [] zero past = refl
drop_all [] (suc i) past = refl
drop_all (x ∷ ds) zero past = absurd (omega arith)
drop_all (x ∷ ds) (suc i) past = drop_all ds i (omega arith)

-- and none is left
pub added_all : (r s : Results) (ds : List Document) (i : ℕ) → length ds ≤ i → with_results s (drop i ds) ≡ with_results r ds → s ≡ with_results r ds
added_all r s ds i past left = sym (ap (with_results s) (drop_all ds i past)) ∙ left

-- ---- what was gathered is the check of the documents

-- these results are those with the documents
record AreAdded (r s : Results) (ds : List Document) : Type 0 where
  long : s.too_long ≡ (r.too_long || list_any is_too_long ds)
  deep : s.too_deep ≡ (r.too_deep || list_any is_too_deep ds)
  bytes : s.too_long ≡ false → s.too_deep ≡ false → s.bytes ≡ r.bytes ++ flat_map spelling ds

spelled_one : (refused : Bool) (bytes : List ℕ) (d : Document) → refused ≡ false → spelled_with refused bytes d ≡ bytes ++ spelling d
spelled_one refused bytes d e = ap (λ b. spelled_with b bytes d) e

are_added : (r : Results) (ds : List Document) → AreAdded r (with_results r ds) ds
are_added r [] = record {
  long = sym (or-false r.too_long);
  deep = sym (or-false r.too_deep);
  bytes = λ l e. sym (append-nil r.bytes);
}
are_added r (d ∷ ds) =
    let t : Results = with_result r d in
    let a = are_added t ds in
    record {
      long = a.long ∙ or_assoc r.too_long (is_too_long d) (list_any is_too_long ds);
      deep = a.deep ∙ or_assoc r.too_deep (is_too_deep d) (list_any is_too_deep ds);
      bytes = λ l e.
          let short = or_parts (r.too_long || is_too_long d) (list_any is_too_long ds) (sym a.long ∙ l) in
          let flat = or_parts (r.too_deep || is_too_deep d) (list_any is_too_deep ds) (sym a.deep ∙ e) in
          a.bytes l e
          ∙ ap (λ b. b ++ flat_map spelling ds) (spelled_one ((r.too_long || is_too_long d) || (r.too_deep || is_too_deep d)) r.bytes d (or_from (r.too_long || is_too_long d) (r.too_deep || is_too_deep d) short.0 flat.0))
          ∙ append_assoc r.bytes (spelling d) (flat_map spelling ds);
    }

by_check : (n : ℕ) (long deep : Bool) (s : Results) (ds : List Document) → list_any is_too_long ds ≡ long → list_any is_too_deep ds ≡ deep → s.too_long ≡ long → s.too_deep ≡ deep → (long ≡ false → deep ≡ false → s.bytes ≡ flat_map spelling ds) → gathered n s ≡ spelled (output n ds)
by_check n true deep s ds l d sl sd bytes = rw (l, sl) refl
by_check n false true s ds l d sl sd bytes = rw (l, d, sl, sd) refl
by_check n false false s ds l d sl sd bytes = rw (l, d, sl, sd, bytes refl refl) refl

pub gathered_is : (n : ℕ) (ds : List Document) → gathered n (with_results no_results ds) ≡ spelled (output n ds)
gathered_is n ds =
    let a = are_added no_results ds in
    let s : Results = with_results no_results ds in
    by_check n (list_any is_too_long ds) (list_any is_too_deep ds) s ds refl refl a.long a.deep (λ l d. a.bytes (a.long ∙ l) (a.deep ∙ d))
