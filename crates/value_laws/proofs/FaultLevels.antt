-- What is wrong with a value, by how deep it nests.
use Rattle.std.proofs.Common.{◌≡◌, ℕ, zero, suc, ◌+◌, ◌^◌, ◌<◌, true, false, List, [], ◌∷◌, ◌++◌, length, drop, Result, Ok, Err, refl, sym, ap, subst, ◌∙◌, arith, inl, inr, length-append}
use Rattle.std.specs.Prelude.{◌⊎◌, is_some}
use Rattle.std.specs.Fmt.{decimal}
use Rattle.std.specs.Str.{bytes_eq}
use Rattle.bson_value.specs.Proper.{AreBytes}
use Rattle.bson_value.specs.Pairs.{find}
use Rattle.bson_value.specs.Tree as T
use Rattle.bson_value.specs.Tree.{Leaf, Tree, pairs_of, entries, trees_of, members}
use Rattle.bson_value.specs.declared.bad.BadBson.{BadBson}
use Rattle.bson_value.specs.declared.bad.BadWhy.{BadWhy}
use Rattle.bson_value.specs.declared.bad.BadWhy.TheVariants.{Truncated, BadLength, ArrayName, TwiceNamed}
use Rattle.bson_codec.specs.Spelling.{element, tree_kind, tree_bytes, kind_byte, leaf_kind}
use Rattle.bson_codec.specs.Reading.{bad, ◌>>=◌, Reader, new_name, pair_at, pairs_at, place_name, member_at, members_at, doc_at, list_at, leaf_at, leaf_value_at, nested, value_at, read_at}
use Rattle.bson_codec.specs.declared.kind.Kind.{Kind}
use Rattle.bson_codec.specs.declared.kind.Kind.TheVariants as K
use Rattle.bson_codec.proofs.Elements.{length-element}
use Rattle.bson_codec.proofs.Fields.{AreBytes-drop}
use Rattle.bson_codec.proofs.Heads.{AreBytes-behind}
use Rattle.bson_codec.proofs.Trees.{Takes, Again, pair_takes, pair_again, member_takes, member_again}
use Rattle.bson_codec.proofs.Members.{place_is_name}
use Rattle.bson_codec.proofs.Values.{value_takes, value_again, pairs_entries, trees_members}
use Rattle.value_laws.specs.Faults.{Fault, elements_of, IsGood, IsBadScalar, IsBadElement, IsBadHolder, IsBadValue, IsBadInner, IsFirstFault}
use Rattle.value_laws.specs.Faults.IsBadElement.{wrong_name, bad_value}
use Rattle.value_laws.specs.Faults.IsBadValue.{bad_scalar, bad_holder}
use Rattle.value_laws.proofs.FaultFields.{err_is, ok_not_err, leaf_fails, leaf_decided, none_of_doc, none_of_list}
use Rattle.value_laws.proofs.FaultElements.{head, head_decided, element_fails, head_ok}
use Rattle.value_laws.proofs.FaultNames.{wrong_twice, twice_wrong, not_twice, good_once, wrong_place, place_wrong, not_wrong_place, good_place, IsGoodDoc, pair_push, pair_last, pairs-push, IsGoodList, member_push, member_last, trees-push, few_members}
use Rattle.value_laws.proofs.FaultLoops.{IsLoop}
use Rattle.value_laws.proofs.FaultHolders.{IsHeld, hold_fails, hold_decided}

-- what a reader says of values is what is wrong with them
pub record IsReader (d : ℕ) (of_value : Kind → ℕ → List ℕ → Fault → Type 0) (read : Reader) : Type 0 where
  pub takes : Takes d read
  pub again : Again d read
  pub fails : (k : Kind) (at : ℕ) (left : List ℕ) (f : Fault) → of_value k at left f → read k at left ≡ Err f.bad
  pub decides : (k : Kind) (at : ℕ) (left : List ℕ) → AreBytes left → ((f : Fault) × of_value k at left f) ⊎ ((r : Tree × List ℕ) × (read k at left ≡ Ok r))

-- where a value stands behind its name
value_place : (at : ℕ) (k : Kind) (name : List ℕ) → at + length (element k name []) ≡ at + length name + 2
value_place at k name = omega (arith, length-element k name [])

after_fits : (k : Kind) (name after left : List ℕ) → element k name after ≡ left → AreBytes left → AreBytes after
after_fits k name after left e fits = AreBytes-behind (0 ∷ []) after (AreBytes-behind (kind_byte k ∷ name) (0 ∷ after) (subst AreBytes (sym e) fits))

no_doc : (l : Leaf) → leaf_kind l ≡ K.Doc → ⊥
no_doc T.least e = cc
no_doc T.null e = cc
no_doc (T.int n) e = cc
no_doc (T.long n) e = cc
no_doc (T.text s) e = cc
no_doc (T.bin k s) e = cc
no_doc (T.id s) e = cc
no_doc (T.flag b) e = cc
no_doc (T.date n) e = cc
no_doc (T.stamp n) e = cc
no_doc T.greatest e = cc

no_list : (l : Leaf) → leaf_kind l ≡ K.List → ⊥
no_list T.least e = cc
no_list T.null e = cc
no_list (T.int n) e = cc
no_list (T.long n) e = cc
no_list (T.text s) e = cc
no_list (T.bin k s) e = cc
no_list (T.id s) e = cc
no_list (T.flag b) e = cc
no_list (T.date n) e = cc
no_list (T.stamp n) e = cc
no_list T.greatest e = cc

kinds_differ : K.List ≡ K.Doc → ⊥
kinds_differ e = cc

doc_parts : (d : ℕ) (done : Tree) → IsGood d K.Doc done → (ps : List (List ℕ × Tree)) × (T.doc (pairs_of ps) ≡ done) × IsGoodDoc d ps
doc_parts d (T.leaf l) h = absurd (no_doc l h.kind)
doc_parts d (T.doc ps) h = (entries ps, ap T.doc (pairs_entries ps), (rw (pairs_entries ps) h.proper, rw (pairs_entries ps) (omega (arith, h.deep))))
doc_parts d (T.list ts) h = absurd (kinds_differ h.kind)

list_parts : (d : ℕ) (done : Tree) → IsGood d K.List done → (ts : List Tree) × (T.list (trees_of ts) ≡ done) × IsGoodList d ts
list_parts d (T.leaf l) h = absurd (no_list l h.kind)
list_parts d (T.doc ps) h = absurd (kinds_differ (sym h.kind))
list_parts d (T.list ts) h = (members ts, ap T.list (trees_members ts), (rw (trees_members ts) h.proper, rw (trees_members ts) (omega (arith, h.deep))))

module _ (d : ℕ) (of_value : Kind → ℕ → List ℕ → Fault → Type 0) (read : Reader) (reader : IsReader d of_value read) where
  value_wrong : (at : ℕ) (k : Kind) (name after : List ℕ) (f : Fault) → of_value k (at + length (element k name [])) after f → read k (at + length name + 2) after ≡ Err f.bad
  value_wrong at k name after f w = reader.fails k (at + length name + 2) after f (subst (λ (p : ℕ). of_value k p after f) (value_place at k name) w)

  -- ---- the pairs of a document

  abbrev doc : List (List ℕ × Tree) → Tree
  doc before = T.doc (pairs_of before)

  abbrev pair_text : List (List ℕ × Tree) → List ℕ × Tree → List ℕ
  pair_text before p = element (tree_kind p.1) p.0 (tree_bytes p.1)

  module _ (before : List (List ℕ × Tree)) (at : ℕ) where
    abbrev pair_then : Kind → List ℕ × List ℕ → Result ((List ℕ × Tree) × List ℕ) BadBson
    pair_then k m = new_name (at + 1) before m >>= λ n. read k (at + length n.0 + 2) n.1 >>= λ v. Ok ((n.0, v.0), v.1)

    pair_fails : (left : List ℕ) (f : Fault) → IsBadElement of_value (doc before) at left f → pair_at read before at left ≡ Err f.bad
    unfolding pair_at
    pair_fails left f w =
        element_fails of_value (doc before) at pair_then
        (λ k name after why h. let t = wrong_twice before name why h in rw t.0 (ap (λ (v : BadWhy). bad (at + 1) v) t.1))
        (λ k name after c good v. rw (not_twice before name good, value_wrong at k name after c v) refl) left f w

    pair_decides : (left : List ℕ) → AreBytes left → 0 < length left → ((f : Fault) × IsBadElement of_value (doc before) at left f) ⊎ ((p : (List ℕ × Tree) × List ℕ) × (pair_at read before at left ≡ Ok p))
    unfolding pair_at
    pair_decides left fits nonempty =
        elim (head_decided of_value (doc before) at left nonempty) [
          | inl h ↦ inl h
          | inr h ↦ elim (is_some (find h.name before)) as (λ t. is_some (find h.name before) ≡ t → ((f : Fault) × IsBadElement of_value (doc before) at left f) ⊎ ((p : (List ℕ × Tree) × List ℕ) × (pair_at read before at left ≡ Ok p))) [
            | true ↦ λ t. inl (_, wrong_name h.kind h.name h.after TwiceNamed h.parts h.good (twice_wrong before h.name t) refl)
            | false ↦ λ t. elim (reader.decides h.kind (at + length h.name + 2) h.after (after_fits h.kind h.name h.after left h.parts fits)) [
              | inl w ↦ inl (w.0, bad_value h.kind h.name h.after h.parts h.good (good_once before h.name t) (subst (λ (p : ℕ). of_value h.kind p h.after w.0) (sym (value_place at h.kind h.name)) w.1))
              | inr r ↦ inr (((h.name, r.0.0), r.0.1), ap (head at pair_then) (sym h.parts) ∙ head_ok at pair_then h.kind h.name h.after h.good ∙ rw (t, r.1) refl)
            ]
          ] refl
        ]

  pairs_loop : IsLoop doc pair_text (pair_at read) (pairs_at read)
  unfolding pairs_at
  pairs_loop = record {
    stops = λ n before at. elim n as (λ m. pairs_at read m before at [] ≡ Ok before) [ zero ↦ refl | suc m ↦ refl ];
    goes = λ n before at b bytes. refl;
    none = refl;
    more = pairs-push;
    some = λ before p. omega (arith, length-element (tree_kind p.1) p.0 (tree_bytes p.1));
  }

  doc_held : IsHeld doc pair_text (pair_at read) (pairs_at read) (IsGoodDoc d) of_value d K.Doc
  doc_held = record {
    loop = pairs_loop;
    none = (tt, omega arith);
    front = λ before p good. let l = pair_last d before p good in (l.doc, l.front_deep);
    again = λ before p at rest good small. let l = pair_last d before p good in
        let size : length (elements_of (doc (before ++ p ∷ []))) ≡ length (elements_of (doc before)) + length (pair_text before p) = ap length (pairs-push before p) ∙ length-append (elements_of (doc before)) (pair_text before p) in
        pair_again d read reader.again before at p.0 p.1 rest l.name l.new l.proper l.deep (omega (arith, size, small, length-element (tree_kind p.1) p.0 (tree_bytes p.1)));
    takes = λ before at bytes p fits good e. let t = pair_takes d read reader.takes before at bytes p fits e in
        record { parts = sym t.parts; good = pair_push d before p.0 (record { doc = good.0; front_deep = good.1; name = t.name; new = t.new; proper = t.proper; deep = t.deep }); rest = t.rest };
    fails = pair_fails;
    decides = pair_decides;
    parts = doc_parts d;
    makes = λ ps good. record { kind = refl; proper = good.0; deep = omega (arith, good.1) };
  }

  -- ---- the members of a list

  abbrev list : List Tree → Tree
  list before = T.list (trees_of before)

  abbrev member_text : List Tree → Tree → List ℕ
  member_text before t = element (tree_kind t) (decimal (length before)) (tree_bytes t)

  abbrev member_step : List Tree → ℕ → List ℕ → Result (Tree × List ℕ) BadBson
  member_step before = member_at read (length before)

  module _ (before : List Tree) (at : ℕ) where
    abbrev member_then : Kind → List ℕ × List ℕ → Result (Tree × List ℕ) BadBson
    member_then k m = place_name (at + 1) (length before) m >>= λ n. read k (at + length n.0 + 2) n.1

    member_fails : (left : List ℕ) (f : Fault) → IsBadElement of_value (list before) at left f → member_step before at left ≡ Err f.bad
    unfolding member_at
    member_fails left f w =
        element_fails of_value (list before) at member_then
        (λ k name after why h. let t = wrong_place before name why h in rw t.0 (ap (λ (v : BadWhy). bad (at + 1) v) t.1))
        (λ k name after c good v. rw (not_wrong_place before name good, value_wrong at k name after c v) refl) left f w

    member_decides : (left : List ℕ) → AreBytes left → 0 < length left → ((f : Fault) × IsBadElement of_value (list before) at left f) ⊎ ((p : Tree × List ℕ) × (member_step before at left ≡ Ok p))
    unfolding member_at
    member_decides left fits nonempty =
        elim (head_decided of_value (list before) at left nonempty) [
          | inl h ↦ inl h
          | inr h ↦ elim (bytes_eq h.name (decimal (length before))) as (λ t. bytes_eq h.name (decimal (length before)) ≡ t → ((f : Fault) × IsBadElement of_value (list before) at left f) ⊎ ((p : Tree × List ℕ) × (member_step before at left ≡ Ok p))) [
            | false ↦ λ t. inl (_, wrong_name h.kind h.name h.after ArrayName h.parts h.good (place_wrong before h.name t) refl)
            | true ↦ λ t. elim (reader.decides h.kind (at + length h.name + 2) h.after (after_fits h.kind h.name h.after left h.parts fits)) [
              | inl w ↦ inl (w.0, bad_value h.kind h.name h.after h.parts h.good (good_place before h.name t) (subst (λ (p : ℕ). of_value h.kind p h.after w.0) (sym (value_place at h.kind h.name)) w.1))
              | inr r ↦ inr (r.0, ap (head at member_then) (sym h.parts) ∙ head_ok at member_then h.kind h.name h.after h.good ∙ rw t r.1)
            ]
          ] refl
        ]

  members_loop : IsLoop list member_text member_step (members_at read)
  unfolding members_at
  members_loop = record {
    stops = λ n before at. elim n as (λ m. members_at read m before at [] ≡ Ok before) [ zero ↦ refl | suc m ↦ refl ];
    goes = λ n before at b bytes. refl;
    none = refl;
    more = λ before t. let z : 0 + length before ≡ length before = omega arith in trees-push 0 before t ∙ ap (λ (i : ℕ). elements_of (list before) ++ element (tree_kind t) (decimal i) (tree_bytes t)) z;
    some = λ before t. omega (arith, length-element (tree_kind t) (decimal (length before)) (tree_bytes t));
  }

  list_held : IsHeld list member_text member_step (members_at read) (IsGoodList d) of_value d K.List
  list_held = record {
    loop = members_loop;
    none = (tt, omega arith);
    front = λ before t good. (member_last d before t good).0;
    again = λ before t at rest good small. let l = member_last d before t good in
        let size : length (elements_of (list (before ++ t ∷ []))) ≡ length (elements_of (list before)) + length (member_text before t) = ap length (members_loop.more before t) ∙ length-append (elements_of (list before)) (member_text before t) in
        member_again d read reader.again (length before) at t rest (place_is_name (length before) (omega (arith, size, small, few_members 0 before))) l.1 l.2 (omega (arith, size, small, length-element (tree_kind t) (decimal (length before)) (tree_bytes t)));
    takes = λ before at bytes p fits good e. let t = member_takes d read reader.takes (length before) at bytes p fits e in
        record { parts = sym t.parts; good = member_push d before p.0 good t.proper t.deep; rest = t.rest };
    fails = member_fails;
    decides = member_decides;
    parts = list_parts d;
    makes = λ ts good. record { kind = refl; proper = good.0; deep = omega (arith, good.1) };
  }

-- ---- documents and lists

leaf_value_fails : (k : Kind) (at : ℕ) (left : List ℕ) (why : BadWhy) (seen : ℕ) → IsBadScalar k left why seen → leaf_value_at k at left ≡ bad at why
leaf_value_fails k at left why seen h = rw (leaf_fails k at left why seen h) refl

-- a value that is neither document nor list
nested_scalar : (read : Reader) (k : Kind) (at : ℕ) (left : List ℕ) (why : BadWhy) (seen : ℕ) → IsBadScalar k left why seen → nested read k at left ≡ leaf_value_at k at left
nested_scalar read K.Doc at left why seen h = absurd (none_of_doc left why seen h)
nested_scalar read K.List at left why seen h = absurd (none_of_list left why seen h)
nested_scalar read K.Text at left why seen h = refl
nested_scalar read K.Bin at left why seen h = refl
nested_scalar read K.Id at left why seen h = refl
nested_scalar read K.Flag at left why seen h = refl
nested_scalar read K.Date at left why seen h = refl
nested_scalar read K.Null at left why seen h = refl
nested_scalar read K.Int at left why seen h = refl
nested_scalar read K.Stamp at left why seen h = refl
nested_scalar read K.Long at left why seen h = refl
nested_scalar read K.Least at left why seen h = refl
nested_scalar read K.Greatest at left why seen h = refl

leaf_value_ok : (k : Kind) (at : ℕ) (left : List ℕ) (r : Leaf × List ℕ) → leaf_at k at left ≡ Ok r → leaf_value_at k at left ≡ Ok (T.leaf r.0, r.1)
leaf_value_ok k at left r e = rw e refl

nested_leaf : (read : Reader) (k : Kind) (at : ℕ) (left : List ℕ) (r : Leaf × List ℕ) → leaf_at k at left ≡ Ok r → nested read k at left ≡ Ok (T.leaf r.0, r.1)
unfolding leaf_at
nested_leaf read K.Doc at left r e = absurd cc
nested_leaf read K.List at left r e = absurd cc
nested_leaf read K.Text at left r e = leaf_value_ok K.Text at left r e
nested_leaf read K.Bin at left r e = leaf_value_ok K.Bin at left r e
nested_leaf read K.Id at left r e = leaf_value_ok K.Id at left r e
nested_leaf read K.Flag at left r e = leaf_value_ok K.Flag at left r e
nested_leaf read K.Date at left r e = leaf_value_ok K.Date at left r e
nested_leaf read K.Null at left r e = leaf_value_ok K.Null at left r e
nested_leaf read K.Int at left r e = leaf_value_ok K.Int at left r e
nested_leaf read K.Stamp at left r e = leaf_value_ok K.Stamp at left r e
nested_leaf read K.Long at left r e = leaf_value_ok K.Long at left r e
nested_leaf read K.Least at left r e = leaf_value_ok K.Least at left r e
nested_leaf read K.Greatest at left r e = leaf_value_ok K.Greatest at left r e

module _ (d : ℕ) (of_value : Kind → ℕ → List ℕ → Fault → Type 0) (read : Reader) (reader : IsReader d of_value read) where
  abbrev docs : List (List ℕ × Tree) → Tree
  docs before = T.doc (pairs_of before)

  pub doc_fails : (early : BadWhy) (most at : ℕ) (left : List ℕ) (f : Fault) → IsBadHolder of_value d K.Doc early most at left f → doc_at read early most at left ≡ Err f.bad
  unfolding doc_at
  doc_fails early most at left f h = hold_fails (doc d of_value read reader) (pair_text d of_value read reader) (pair_at read) (pairs_at read) (IsGoodDoc d) of_value d K.Doc (doc_held d of_value read reader) early most at left f h

  pub doc_decided : (early : BadWhy) (most at : ℕ) (left : List ℕ) → AreBytes left → ((f : Fault) × IsBadHolder of_value d K.Doc early most at left f) ⊎ ((r : List (List ℕ × Tree) × List ℕ) × (doc_at read early most at left ≡ Ok r))
  unfolding doc_at
  doc_decided early most at left fits = hold_decided (doc d of_value read reader) (pair_text d of_value read reader) (pair_at read) (pairs_at read) (IsGoodDoc d) of_value d K.Doc (doc_held d of_value read reader) early most at left fits

  list_fails : (at : ℕ) (left : List ℕ) (f : Fault) → IsBadHolder of_value d K.List BadLength (2 ^ 31) at left f → list_at read at left ≡ Err f.bad
  unfolding list_at
  list_fails at left f h = hold_fails (list d of_value read reader) (member_text d of_value read reader) (member_step d of_value read reader) (members_at read) (IsGoodList d) of_value d K.List (list_held d of_value read reader) BadLength (2 ^ 31) at left f h

  list_decided : (at : ℕ) (left : List ℕ) → AreBytes left → ((f : Fault) × IsBadHolder of_value d K.List BadLength (2 ^ 31) at left f) ⊎ ((r : List Tree × List ℕ) × (list_at read at left ≡ Ok r))
  unfolding list_at
  list_decided at left fits = hold_decided (list d of_value read reader) (member_text d of_value read reader) (member_step d of_value read reader) (members_at read) (IsGoodList d) of_value d K.List (list_held d of_value read reader) BadLength (2 ^ 31) at left fits

  abbrev of_inner : Kind → ℕ → List ℕ → Fault → Type 0
  of_inner k at left f = IsBadHolder of_value d k BadLength (2 ^ 31) at left f

  inner_fails : (k : Kind) (at : ℕ) (left : List ℕ) (f : Fault) → IsBadValue of_inner k at left f → nested read k at left ≡ Err f.bad
  inner_fails k at left f (bad_scalar why seen h w) = nested_scalar read k at left why seen h ∙ leaf_value_fails k at left why seen h ∙ ap (λ (g : Fault). Err g.bad) w
  inner_fails k at left f (bad_holder (inl e) h) =
      subst (λ (j : Kind). nested read j at left ≡ Err f.bad) e (rw (doc_fails BadLength (2 ^ 31) at left f (subst (λ (j : Kind). of_inner j at left f) (sym e) h)) refl)
  inner_fails k at left f (bad_holder (inr e) h) =
      subst (λ (j : Kind). nested read j at left ≡ Err f.bad) e (rw (list_fails at left f (subst (λ (j : Kind). of_inner j at left f) (sym e) h)) refl)

  abbrev InnerDecided : Kind → ℕ → List ℕ → Type 0
  InnerDecided k at left = ((f : Fault) × IsBadValue of_inner k at left f) ⊎ ((r : Tree × List ℕ) × (nested read k at left ≡ Ok r))

  held_doc : (at : ℕ) (left : List ℕ) → AreBytes left → InnerDecided K.Doc at left
  held_doc at left fits =
      elim (doc_decided BadLength (2 ^ 31) at left fits) [
        | inl w ↦ inl (w.0, bad_holder (inl refl) w.1)
        | inr r ↦ inr ((T.doc (pairs_of r.0.0), r.0.1), rw r.1 refl)
      ]

  held_list : (at : ℕ) (left : List ℕ) → AreBytes left → InnerDecided K.List at left
  held_list at left fits =
      elim (list_decided at left fits) [
        | inl w ↦ inl (w.0, bad_holder (inr refl) w.1)
        | inr r ↦ inr ((T.list (trees_of r.0.0), r.0.1), rw r.1 refl)
      ]

  inner_decided : (k : Kind) (at : ℕ) (left : List ℕ) → AreBytes left → InnerDecided k at left
  inner_decided k at left fits =
      elim (leaf_decided k at left) [
        | inl s ↦ elim s [
          | inl w ↦ inl (_, bad_scalar w.0 w.1 w.2 refl)
          | inr r ↦ inr ((T.leaf r.0.0, r.0.1), nested_leaf read k at left r.0 r.1)
        ]
        | inr h ↦ elim h [
          | inl e ↦ subst (λ (j : Kind). InnerDecided j at left) e (held_doc at left fits)
          | inr e ↦ subst (λ (j : Kind). InnerDecided j at left) e (held_list at left fits)
        ]
      ]

-- ---- level by level

flat_fails : (k : Kind) (at : ℕ) (left : List ℕ) (f : Fault) → IsBadValue (IsBadInner 0) k at left f → leaf_value_at k at left ≡ Err f.bad
unfolding leaf_at
flat_fails k at left f (bad_scalar why seen h w) = leaf_value_fails k at left why seen h ∙ ap (λ (g : Fault). Err g.bad) w
flat_fails k at left f (bad_holder (inl e) w) = subst (λ (j : Kind). leaf_value_at j at left ≡ Err f.bad) e (ap (λ (g : Fault). Err g.bad) w)
flat_fails k at left f (bad_holder (inr e) w) = subst (λ (j : Kind). leaf_value_at j at left ≡ Err f.bad) e (ap (λ (g : Fault). Err g.bad) w)

flat_decided : (k : Kind) (at : ℕ) (left : List ℕ) → ((f : Fault) × IsBadValue (IsBadInner 0) k at left f) ⊎ ((r : Tree × List ℕ) × (leaf_value_at k at left ≡ Ok r))
flat_decided k at left =
    elim (leaf_decided k at left) [
      | inl s ↦ elim s [
        | inl w ↦ inl (_, bad_scalar w.0 w.1 w.2 refl)
        | inr r ↦ inr ((T.leaf r.0.0, r.0.1), rw r.1 refl)
      ]
      | inr h ↦ inl (_, bad_holder h refl)
    ]

level : (d : ℕ) → IsReader d (IsBadValue (IsBadInner d)) (value_at d)
unfolding value_at
level zero = record { takes = value_takes 0; again = value_again 0; fails = flat_fails; decides = λ k at left fits. flat_decided k at left }
level (suc d) = record {
  takes = value_takes (suc d);
  again = value_again (suc d);
  fails = inner_fails d (IsBadValue (IsBadInner d)) (value_at d) (level d);
  decides = inner_decided d (IsBadValue (IsBadInner d)) (value_at d) (level d);
}

-- ---- the document at a place

pub fault_stands : (start : ℕ) (bytes : List ℕ) (f : Fault) → IsFirstFault start bytes f → read_at start bytes ≡ Err f.bad
unfolding read_at
fault_stands start bytes f h = doc_fails 99 (IsBadValue (IsBadInner 99)) (value_at 99) (level 99) Truncated 16777216 start (drop start bytes) f h

-- at each place there is a fault or a document
pub fault_or_read : (start : ℕ) (bytes : List ℕ) → AreBytes bytes → ((f : Fault) × IsFirstFault start bytes f) ⊎ ((r : List (List ℕ × Tree) × List ℕ) × (read_at start bytes ≡ Ok r))
unfolding read_at
fault_or_read start bytes fits = doc_decided 99 (IsBadValue (IsBadInner 99)) (value_at 99) (level 99) Truncated 16777216 start (drop start bytes) (AreBytes-drop start bytes fits)

pub stands_fault : (start : ℕ) (bytes : List ℕ) (b : BadBson) → AreBytes bytes → read_at start bytes ≡ Err b → (f : Fault) × (f.bad ≡ b) × IsFirstFault start bytes f
stands_fault start bytes b fits e =
    elim (fault_or_read start bytes fits) [
      | inl w ↦ (w.0, err_is w.0.bad b (sym (fault_stands start bytes w.0 w.1) ∙ e), w.1)
      | inr r ↦ absurd (ok_not_err r.0 b (sym r.1 ∙ e))
    ]
