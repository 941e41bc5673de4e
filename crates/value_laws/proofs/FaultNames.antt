-- Wrong names, and one element more.
use Rattle.std.proofs.Common.{◌≡◌, ℕ, zero, suc, ◌+◌, ◌<◌, ◌≤◌, Bool, true, false, cond, List, [], ◌∷◌, ◌++◌, length, map, get_or, refl, sym, ap, subst, ◌∙◌, append_assoc, append-nil, arith, length-append, true≢false}
use Rattle.std.specs.Prelude.{Some, None, is_some}
use Rattle.std.specs.Fmt.{decimal}
use Rattle.std.specs.List.{Contains}
use Rattle.std.specs.Str.{bytes_eq}
use Rattle.std.proofs.lemmas.Slice.Eq.{bytes_eq-Decides}
use Rattle.bson_value.specs.Depth.{depth, pairs_depth, trees_depth}
use Rattle.bson_value.specs.Tree as T
use Rattle.bson_value.specs.Tree.{Tree, pairs_of, entries, trees_of, members}
use Rattle.bson_value.specs.Pairs.{find}
use Rattle.bson_value.specs.Proper.{IsName, IsProper, IsDoc, IsList}
use Rattle.bson_value.proofs.Distinct.{entries_pairs, members_trees, IsDoc-put, IsDoc-cons, IsDoc-parts, find_none, differs}
use Rattle.bson_value.proofs.Lists.{IsList-push}
use Rattle.bson_value.specs.declared.bad.BadWhy.{BadWhy}
use Rattle.bson_value.specs.declared.bad.BadWhy.TheVariants.{ArrayName, TwiceNamed}
use Rattle.bson_codec.specs.Spelling.{element, tree_kind, tree_bytes, pairs_bytes, trees_bytes}
use Rattle.bson_codec.proofs.Elements.{length-element}
use Rattle.bson_codec.proofs.Loops.{put_new}
use Rattle.value_laws.specs.Faults.{IsWrongName}
use Rattle.value_laws.specs.Faults.IsWrongName.{twice, not_its_place}

-- ---- a name among others

is_contained : {A : Type 0} (n : List ℕ) (ps : List (List ℕ × A)) → is_some (find n ps) ≡ true → Contains (map (λ p. p.0) ps) n
is_contained n [] e = absurd cc
is_contained n (p ∷ ps) e =
    elim (bytes_eq p.0 n) as (λ t. bytes_eq p.0 n ≡ t → is_some (cond t (Some p.1) (find n ps)) ≡ true → Contains (map (λ p. p.0) (p ∷ ps)) n) [
      | true ↦ λ t h. (0, omega arith, (bytes_eq-Decides p.0 n).0 t)
      | false ↦ λ t h. let c = is_contained n ps h in (suc c.0, omega (arith, c.1), c.2)
    ] refl e

contained_at : {A : Type 0} (n : List ℕ) (ps : List (List ℕ × A)) (k : ℕ) → k < length (map (λ p. p.0) ps) → get_or (map (λ p. p.0) ps) k n ≡ n → is_some (find n ps) ≡ true
contained_at n [] k low e = absurd (omega arith)
contained_at n (p ∷ ps) zero low e = rw ((bytes_eq-Decides p.0 n).1 e) refl
contained_at n (p ∷ ps) (suc k) low e =
    elim (bytes_eq p.0 n) as (λ t. is_some (cond t (Some p.1) (find n ps)) ≡ true) [
      | true ↦ refl
      | false ↦ contained_at n ps k (omega arith) e
    ]

pairs_same : (ps : T.Pairs) (before : List (List ℕ × Tree)) → T.doc ps ≡ T.doc (pairs_of before) → entries ps ≡ before
pairs_same ps before e = let s : ps ≡ pairs_of before = cc in ap entries s ∙ entries_pairs before

trees_same : (ts : T.Trees) (before : List Tree) → T.list ts ≡ T.list (trees_of before) → members ts ≡ before
trees_same ts before e = let s : ts ≡ trees_of before = cc in ap members s ∙ members_trees before

module _ (before : List (List ℕ × Tree)) (n : List ℕ) where
  abbrev doc : Tree
  doc = T.doc (pairs_of before)

  pub wrong_twice : (why : BadWhy) → IsWrongName doc n why → (is_some (find n before) ≡ true) × (TwiceNamed ≡ why)
  wrong_twice why (twice ps e c w) = let d = subst (λ (l : List (List ℕ × Tree)). Contains (map (λ p. p.0) l) n) (pairs_same ps before e) c in (contained_at n before d.0 d.1 d.2, w)
  wrong_twice why (not_its_place ts e ne w) = absurd cc

  pub twice_wrong : is_some (find n before) ≡ true → IsWrongName doc n TwiceNamed
  twice_wrong e = twice (pairs_of before) refl (subst (λ (l : List (List ℕ × Tree)). Contains (map (λ p. p.0) l) n) (sym (entries_pairs before)) (is_contained n before e)) refl

  pub not_twice : ((why : BadWhy) → ¬ IsWrongName doc n why) → is_some (find n before) ≡ false
  not_twice h =
      elim (is_some (find n before)) as (λ t. is_some (find n before) ≡ t → t ≡ false) [
        | true ↦ λ e. absurd (h TwiceNamed (twice_wrong e))
        | false ↦ λ e. refl
      ] refl

  pub good_once : is_some (find n before) ≡ false → (why : BadWhy) → ¬ IsWrongName doc n why
  good_once e why w = true≢false (sym (wrong_twice why w).0 ∙ e)

module _ (before : List Tree) (n : List ℕ) where
  abbrev list : Tree
  list = T.list (trees_of before)

  abbrev is_place : Bool
  is_place = bytes_eq n (decimal (length before))

  pub wrong_place : (why : BadWhy) → IsWrongName list n why → (is_place ≡ false) × (ArrayName ≡ why)
  wrong_place why (twice ps e c w) = absurd cc
  wrong_place why (not_its_place ts e ne w) = (
    elim is_place as (λ t. is_place ≡ t → t ≡ false) [
      | true ↦ λ t. absurd (ne ((bytes_eq-Decides n (decimal (length before))).0 t ∙ ap (λ (l : List Tree). decimal (length l)) (sym (trees_same ts before e))))
      | false ↦ λ t. refl
    ] refl,
    w,
  )

  pub place_wrong : is_place ≡ false → IsWrongName list n ArrayName
  place_wrong e = not_its_place (trees_of before) refl (λ s. true≢false (sym ((bytes_eq-Decides n (decimal (length before))).1 (s ∙ ap (λ (l : List Tree). decimal (length l)) (members_trees before))) ∙ e)) refl

  pub not_wrong_place : ((why : BadWhy) → ¬ IsWrongName list n why) → is_place ≡ true
  not_wrong_place h =
      elim is_place as (λ t. is_place ≡ t → t ≡ true) [
        | true ↦ λ e. refl
        | false ↦ λ e. absurd (h ArrayName (place_wrong e))
      ] refl

  pub good_place : is_place ≡ true → (why : BadWhy) → ¬ IsWrongName list n why
  good_place e why w = true≢false (sym e ∙ (wrong_place why w).0)

-- ---- one pair more

pub record IsLastPair (d : ℕ) (before : List (List ℕ × Tree)) (p : List ℕ × Tree) : Type 0 where
  pub doc : IsDoc before
  pub front_deep : pairs_depth (pairs_of before) ≤ d
  pub name : IsName p.0
  pub new : find p.0 before ≡ None
  pub proper : IsProper p.1
  pub deep : depth p.1 ≤ d

abbrev pub IsGoodDoc : ℕ → List (List ℕ × Tree) → Type 0
IsGoodDoc d ps = IsDoc ps × (pairs_depth (pairs_of ps) ≤ d)

depth-push : (d : ℕ) (ps : List (List ℕ × Tree)) (p : List ℕ × Tree) → pairs_depth (pairs_of ps) ≤ d → depth p.1 ≤ d → pairs_depth (pairs_of (ps ++ p ∷ [])) ≤ d
depth-push d [] p h k = omega arith
depth-push d (q ∷ ps) p h k = let r : pairs_depth (pairs_of (ps ++ p ∷ [])) ≤ d = depth-push d ps p (omega (arith, h)) k in omega (arith, r, h)

depth-front : (d : ℕ) (ps : List (List ℕ × Tree)) (p : List ℕ × Tree) → pairs_depth (pairs_of (ps ++ p ∷ [])) ≤ d → (pairs_depth (pairs_of ps) ≤ d) × (depth p.1 ≤ d)
depth-front d [] p h = (omega arith, omega (arith, h))
depth-front d (q ∷ ps) p h = let r = depth-front d ps p (omega (arith, h)) in (omega (arith, r.0, h), r.1)

pub pair_push : (d : ℕ) (before : List (List ℕ × Tree)) (p : List ℕ × Tree) → IsLastPair d before p → IsGoodDoc d (before ++ p ∷ [])
pair_push d before p h = (subst IsDoc (put_new p.0 p.1 before h.new) (IsDoc-put p.0 p.1 before h.name h.proper h.doc), depth-push d before p h.front_deep h.deep)

none_parts : (n : List ℕ) (xs : List (List ℕ × Tree)) (p : List ℕ × Tree) → find n (xs ++ p ∷ []) ≡ None → (find n xs ≡ None) × (bytes_eq p.0 n ≡ false)
none_parts n [] p e = (refl, (find_none n n p [] e).0)
none_parts n (x ∷ xs) p e =
    let q = find_none n n x (xs ++ p ∷ []) e in
    let r = none_parts n xs p q.1 in
    (rw q.0 r.0, r.1)

last_of_doc : (before : List (List ℕ × Tree)) (p : List ℕ × Tree) → IsDoc (before ++ p ∷ []) → IsDoc before × IsName p.0 × (find p.0 before ≡ None) × IsProper p.1
last_of_doc [] p h = let q = IsDoc-parts p.0 p.1 [] h in (tt, q.name, refl, q.value)
last_of_doc (x ∷ xs) p h =
    let q = IsDoc-parts x.0 x.1 (xs ++ p ∷ []) h in
    let r = last_of_doc xs p q.rest in
    let n = none_parts x.0 xs p q.new in
    let apart : bytes_eq x.0 p.0 ≡ false = differs p.0 x.0 n.1 in
    (IsDoc-cons x.0 x.1 xs (record { name = q.name; new = n.0; value = q.value; rest = r.0 }), r.1, rw apart r.2, r.3)

pub pair_last : (d : ℕ) (before : List (List ℕ × Tree)) (p : List ℕ × Tree) → IsGoodDoc d (before ++ p ∷ []) → IsLastPair d before p
pair_last d before p h =
    let r = last_of_doc before p h.0 in
    let s = depth-front d before p h.1 in
    record { doc = r.0; front_deep = s.0; name = r.1; new = r.2; proper = r.3; deep = s.1 }

pub pairs-push : (ps : List (List ℕ × Tree)) (p : List ℕ × Tree) → pairs_bytes (pairs_of (ps ++ p ∷ [])) ≡ pairs_bytes (pairs_of ps) ++ element (tree_kind p.1) p.0 (tree_bytes p.1)
pairs-push [] p = append-nil (element (tree_kind p.1) p.0 (tree_bytes p.1))
pairs-push (q ∷ ps) p =
    ap (λ (l : List ℕ). element (tree_kind q.1) q.0 (tree_bytes q.1) ++ l) (pairs-push ps p)
    ∙ sym (append_assoc (element (tree_kind q.1) q.0 (tree_bytes q.1)) (pairs_bytes (pairs_of ps)) (element (tree_kind p.1) p.0 (tree_bytes p.1)))

-- ---- one member more

abbrev pub IsGoodList : ℕ → List Tree → Type 0
IsGoodList d ts = IsList ts × (trees_depth (trees_of ts) ≤ d)

trees-depth-push : (d : ℕ) (ts : List Tree) (t : Tree) → trees_depth (trees_of ts) ≤ d → depth t ≤ d → trees_depth (trees_of (ts ++ t ∷ [])) ≤ d
trees-depth-push d [] t h k = omega arith
trees-depth-push d (u ∷ ts) t h k = let r : trees_depth (trees_of (ts ++ t ∷ [])) ≤ d = trees-depth-push d ts t (omega (arith, h)) k in omega (arith, r, h)

pub member_push : (d : ℕ) (before : List Tree) (t : Tree) → IsGoodList d before → IsProper t → depth t ≤ d → IsGoodList d (before ++ t ∷ [])
member_push d before t h proper deep = (IsList-push before t h.0 proper, trees-depth-push d before t h.1 deep)

pub member_last : (d : ℕ) (before : List Tree) (t : Tree) → IsGoodList d (before ++ t ∷ []) → IsGoodList d before × IsProper t × (depth t ≤ d)
member_last d [] t h = ((tt, omega arith), h.0.0, omega (arith, h.1))
member_last d (u ∷ ts) t h = let r = member_last d ts t (h.0.1, omega (arith, h.1)) in ((((h.0.0, r.0.0)), omega (arith, r.0.1, h.1)), r.1, r.2)

pub trees-push : (i : ℕ) (ts : List Tree) (t : Tree) → trees_bytes i (trees_of (ts ++ t ∷ [])) ≡ trees_bytes i (trees_of ts) ++ element (tree_kind t) (decimal (i + length ts)) (tree_bytes t)
trees-push i [] t = let z : i ≡ i + 0 = omega arith in append-nil (element (tree_kind t) (decimal i) (tree_bytes t)) ∙ ap (λ (m : ℕ). element (tree_kind t) (decimal m) (tree_bytes t)) z
trees-push i (u ∷ ts) t =
    let k : suc i + length ts ≡ i + suc (length ts) = omega arith in
    ap (λ (l : List ℕ). element (tree_kind u) (decimal i) (tree_bytes u) ++ l) (trees-push (suc i) ts t ∙ ap (λ (m : ℕ). trees_bytes (suc i) (trees_of ts) ++ element (tree_kind t) (decimal m) (tree_bytes t)) k)
    ∙ sym (append_assoc (element (tree_kind u) (decimal i) (tree_bytes u)) (trees_bytes (suc i) (trees_of ts)) (element (tree_kind t) (decimal (i + suc (length ts))) (tree_bytes t)))

-- a list has no more members than bytes
pub few_members : (i : ℕ) (ts : List Tree) → length ts ≤ length (trees_bytes i (trees_of ts))
few_members i [] = omega arith
few_members i (t ∷ ts) =
    omega (arith, few_members (suc i) ts, length-append (element (tree_kind t) (decimal i) (tree_bytes t)) (trees_bytes (suc i) (trees_of ts)), length-element (tree_kind t) (decimal i) (tree_bytes t))
