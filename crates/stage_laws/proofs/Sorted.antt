-- Documents put among sorted ones, one after another: the stable rearrangement in order, and the only one.
use Rattle.std.proofs.Common.{◌≡◌, Bool, true, false, cond, List, [], ◌∷◌, ◌++◌, refl, sym, ap, ◌∙◌, append_assoc}
use Rattle.std.specs.Prelude.{filter}
use Rattle.std.specs.Cmp.{IsTotalOrder, IsStrictWeakOrder, on_total, then_total, tied_back}
use Rattle.std.specs.List.{AllByRecursion}
use Rattle.std.specs.List.Sorted.{ties, IsSorted, IsStable, IsPermutation}
use Rattle.std.specs.Ordering.{is_lt, ordering_reverse}
use Rattle.std.specs.declared.cmp.Ordering.{Ordering}
use Rattle.std.proofs.lemmas.List.{append-nil}
use Rattle.std.proofs.lemmas.List.Elements.{filter-append}
use Rattle.std.proofs.lemmas.List.MinMax.{ranks_by}
use Rattle.std.proofs.lemmas.List.Sorted.{IsPermutation-refl, IsPermutation-cons, IsPermutation-trans, IsPermutation-middle, IsPermutation-append_left}
use Rattle.bson_value.proofs.Preorder.{found_total}
use Rattle.bson_value.specs.SortValue.{sort_value}
use Rattle.bson_value.specs.Tree.{doc, pairs_of}
use Rattle.merge_cursor.proofs.Ordered.{Rising, all_weaker, none_pass, low_chain, before_tied, before_later, before_differs, rising_same}
use Rattle.stage_tree.specs.Outcome.{Fields}
use Rattle.stage_tree.specs.Sorting.{directed, sort_order, among, sorted_onto}
use Rattle.stage_tree.specs.Stage.{Keys}
use Rattle.stage_laws.proofs.InOrder.{sorted_from, rising_from, turn_filter, swapped}

directed_total : {K : Type 0} {R : K → K → Ordering} (falling : Bool) → IsTotalOrder R → IsTotalOrder (λ x y. directed falling (R x y))
directed_total false o = o
directed_total true o = record {
  antisymm = λ x y. ap ordering_reverse (o.antisymm x y);
  trans = λ x y z e f. sym (o.antisymm z x) ∙ o.trans z y x (o.antisymm z y ∙ f) (o.antisymm y x ∙ e);
  congr = λ x y z e. ap ordering_reverse (o.congr x y z (tied_back o y x (o.antisymm y x ∙ e)));
}

pub sort_total : (ks : Keys) → IsTotalOrder (sort_order ks)
sort_total [] = record { antisymm = λ x y. refl; trans = λ x y z e f. e; congr = λ x y z e. refl }
sort_total (k ∷ ks) = then_total (directed_total k.1 (on_total (λ (d : Fields). sort_value k.1 k.0 (doc (pairs_of d))) found_total)) (sort_total ks)

module _ (ks : Keys) where
  abbrev pub before : Fields → Fields → Bool
  before d e = is_lt (sort_order ks d e)

  pub order : IsStrictWeakOrder before
  order = ranks_by (sort_total ks) (λ (d : Fields). d)

  among_all : (P : Fields → Type 0) (d : Fields) (es : List Fields) → P d → AllByRecursion P es → AllByRecursion P (among ks d es)
  among_all P d [] p h = (p, tt)
  among_all P d (e ∷ es) p h =
      elim (before d e) as (λ b. AllByRecursion P (cond b (d ∷ e ∷ es) (e ∷ among ks d es))) [
        | true ↦ (p, h)
        | false ↦ (h.0, among_all P d es p h.1)
      ]

  among_rising : (d : Fields) (es : List Fields) → Rising before order es → Rising before order (among ks d es)
  among_rising d [] h = (tt, tt)
  among_rising d (e ∷ es) h =
      elim (before d e) as (λ b. before d e ≡ b → Rising before order (cond b (d ∷ e ∷ es) (e ∷ among ks d es))) [
        | true ↦ λ q. let low : before e d ≡ false = order.one_way d e q in ((low, low_chain before order d e es low h.0), h)
        | false ↦ λ q. (among_all (λ w. before w e ≡ false) d es q h.0, among_rising d es h.1)
      ] refl

  pub onto_rising : (ds es : List Fields) → Rising before order es → Rising before order (sorted_onto ks es ds)
  onto_rising [] es h = h
  onto_rising (d ∷ ds) es h = onto_rising ds (among ks d es) (among_rising d es h)

  -- what ties with d ties with none behind it
  none_tied : (z d e : Fields) (es : List Fields) → Rising before order (e ∷ es) → before d e ≡ true → ties before z d ≡ true → filter (ties before z) (e ∷ es) ≡ []
  none_tied z d e es h q t =
      let differs : (w : Fields) → before d w ≡ true → ties before z w ≡ false = λ w r. before_differs before order z w (before_tied before order z d w t r) in
      none_pass (ties before z) (e ∷ es) (differs e q, all_weaker (λ w. before w e ≡ false) (λ w. ties before z w ≡ false) (λ w r. differs w (before_later before order d e w q r)) es h.0)

  among_filter : (z d : Fields) (es : List Fields) → Rising before order es → filter (ties before z) (among ks d es) ≡ filter (ties before z) (es ++ d ∷ [])
  among_filter z d [] h = refl
  among_filter z d (e ∷ es) h =
      elim (before d e) as (λ b. before d e ≡ b → filter (ties before z) (cond b (d ∷ e ∷ es) (e ∷ among ks d es)) ≡ filter (ties before z) (e ∷ es ++ d ∷ [])) [
        | true ↦ λ q. turn_filter (ties before z) d (e ∷ es) (none_tied z d e es h q)
        | false ↦ λ q. ap (λ (us : List Fields). cond (ties before z e) (e ∷ us) us) (among_filter z d es h.1)
      ] refl

  pub onto_filter : (z : Fields) (ds es : List Fields) → Rising before order es → filter (ties before z) (sorted_onto ks es ds) ≡ filter (ties before z) (es ++ ds)
  onto_filter z [] es h = ap (filter (ties before z)) (sym (append-nil es))
  onto_filter z (d ∷ ds) es h =
      onto_filter z ds (among ks d es) (among_rising d es h)
      ∙ filter-append (ties before z) (among ks d es) ds
      ∙ ap (λ (us : List Fields). us ++ filter (ties before z) ds) (among_filter z d es h)
      ∙ sym (filter-append (ties before z) (es ++ d ∷ []) ds)
      ∙ ap (filter (ties before z)) (append_assoc es (d ∷ []) ds)

  among_permuted : (d : Fields) (es : List Fields) → IsPermutation (d ∷ es) (among ks d es)
  among_permuted d [] = IsPermutation-refl (d ∷ [])
  among_permuted d (e ∷ es) =
      elim (before d e) as (λ b. IsPermutation (d ∷ e ∷ es) (cond b (d ∷ e ∷ es) (e ∷ among ks d es))) [
        | true ↦ IsPermutation-refl (d ∷ e ∷ es)
        | false ↦ IsPermutation-trans (d ∷ e ∷ es) (e ∷ d ∷ es) (e ∷ among ks d es) (swapped d e es) (IsPermutation-cons e (d ∷ es) (among ks d es) (among_permuted d es))
      ]

  pub onto_permuted : (ds es : List Fields) → IsPermutation (es ++ ds) (sorted_onto ks es ds)
  onto_permuted [] es = rw (append-nil es) (IsPermutation-refl es)
  onto_permuted (d ∷ ds) es =
      IsPermutation-trans (es ++ d ∷ ds) (d ∷ es ++ ds) (sorted_onto ks (among ks d es) ds) (IsPermutation-middle es d ds)
      (IsPermutation-trans (d ∷ es ++ ds) (among ks d es ++ ds) (sorted_onto ks (among ks d es) ds) (IsPermutation-append_left ds (d ∷ es) (among ks d es) (among_permuted d es)) (onto_permuted ds (among ks d es)))

  pub is_sorted : (ds : List Fields) → IsSorted (sort_order ks) (sorted_onto ks [] ds)
  is_sorted ds = sorted_from before order (sorted_onto ks [] ds) (onto_rising ds [] tt)

  pub is_stable : (ds : List Fields) → IsStable (sort_order ks) ds (sorted_onto ks [] ds)
  is_stable ds z = onto_filter z ds [] tt

  pub is_only : (ds es : List Fields) → IsSorted (sort_order ks) es → IsStable (sort_order ks) ds es → es ≡ sorted_onto ks [] ds
  is_only ds es up same = rising_same before order es (sorted_onto ks [] ds) (rising_from before order es up) (onto_rising ds [] tt) (λ z. same z ∙ sym (onto_filter z ds [] tt))

  pub takes_more : (es ds : List Fields) → IsSorted (sort_order ks) es → sorted_onto ks es ds ≡ sorted_onto ks [] (es ++ ds)
  takes_more es ds up =
      let rise = rising_from before order es up in
      is_only (es ++ ds) (sorted_onto ks es ds) (sorted_from before order (sorted_onto ks es ds) (onto_rising ds es rise)) (λ z. onto_filter z ds es rise)
