-- A cluster file is read as the routing table that it spells, and refused by its first refusal.
use Rattle.std.proofs.Common.{◌≡◌, ℕ, suc, ◌+◌, List, [], ◌∷◌, ◌++◌, length, refl, sym, ap, subst, ◌∙◌, append_assoc, append-nil, arith, inl, inr}
use Rattle.std.specs.Prelude.{Option, Some, None, Result, Ok, Err, ◌==◌, ◌⊎◌, ◌↔◌, codes}
use Rattle.bson_value.specs.Tree.{Tree, list, trees_of}
use Rattle.bson_value.proofs.Distinct.{members_trees}
use Rattle.bson_codec.specs.Records.{Document, FileFault, bytes_fault, trailing, document_of}
use Rattle.chunk_map.specs.Table.{CollectionRow, Table}
use Rattle.chunk_map.specs.Form.{Answer, Fault, list_of, field_at, list_at, is_one, some_few, if_one, collections_in, collection_of, row_then, rows, collection_fault, unless, checked, rows_checked, cluster_of, table_of, table}
use Rattle.chunk_map.specs.Spelled.{SpellCollections, Lists, AreApart, refusal, IsFormless, IsBadRow, IsBadForm, IsBadDocument, fault_why, IsRefused, IsCluster}
use Rattle.chunk_map.specs.declared.errors.BadCluster.{BadCluster}
use Rattle.chunk_map.specs.declared.errors.ClusterWhy.TheVariants as W
use Rattle.chunk_map.proofs.Sizes.{bind_some, if_some, few_are}
use Rattle.chunk_map.proofs.Shapes.{is_true, one_if, list_few, list_is, two_fields}
use Rattle.chunk_map.proofs.Collections.{collection_spells, spells_collection, formless, none_spelled, decided}
use Rattle.chunk_map.proofs.Faults.{apart_good, good_apart, unless_ok, fault_says, says_fault}

ok_is : (a b : Table) → (let done : Table → Answer = λ x. Ok x in done a ≡ done b) → a ≡ b
ok_is a b e = cc

err_is : (a b : BadCluster) → (let fails : BadCluster → Answer = λ x. Err x in fails a ≡ fails b) → a ≡ b
err_is a b e = cc

-- ---- the list of collections

pub lists : (d : Document) (ts : List Tree) → collections_in d ≡ Some ts → Lists d ts
unfolding collections_in
lists d ts e =
    let two = if_some (length d == 2) _ ts e in
    let one = bind_some (λ t. if_one t d) (field_at 0 (codes "cluster") d) ts two.1 in
    let first = if_some (is_one one.0) _ ts one.2 in
    let few = bind_some (some_few 100) (list_at 1 (codes "collections") d) ts first.1 in
    let l = bind_some list_of (field_at 1 (codes "collections") d) few.0 few.1 in
    let size = few_are 100 few.0 ts few.2 in
    let u : l.0 ≡ list (trees_of few.0) = list_is l.0 few.0 l.2 in
    let fields = two_fields d (codes "cluster") (codes "collections") one.0 l.0 two.0 one.1 l.1 in
    subst (Lists d) size.2 (record {
      one = one.0;
      is_one = is_true (is_one one.0) first.0;
      fields = fields ∙ (λ i. (codes "cluster", one.0) ∷ (codes "collections", u i) ∷ []);
      some = size.0;
      few = size.1;
    })

pub listed : (d : Document) (ts : List Tree) → Lists d ts → collections_in d ≡ Some ts
unfolding collections_in
listed d ts h = rw (h.fields, members_trees) (one_if (is_one h.one) _ h.is_one ∙ list_few 100 ts (h.some, h.few))

unlisted : (d : Document) → ((ts : List Tree) → ¬ Lists d ts) → collections_in d ≡ None
unlisted d none = elim (decided (collections_in d)) [ inl e ↦ e | inr h ↦ absurd (none h.0 (lists d h.0 h.1)) ]

-- ---- the collections

row_ok : (n : ℕ) (o : Option CollectionRow) (next : CollectionRow → Answer) (cs : Table) → row_then n o next ≡ Ok cs → (c : CollectionRow) × (o ≡ Some c) × (next c ≡ Ok cs)
row_ok n (Some c) next cs e = (c, refl, e)
row_ok n None next cs e = absurd cc

row_bad : (n : ℕ) (o : Option CollectionRow) (next : CollectionRow → Answer) (b : BadCluster) → row_then n o next ≡ Err b → ((o ≡ None) × (refusal n 0 W.Form ≡ b)) ⊎ ((c : CollectionRow) × (o ≡ Some c) × (next c ≡ Err b))
row_bad n (Some c) next b e = inr (c, refl, e)
row_bad n None next b e = inl (refl, err_is (refusal n 0 W.Form) b e)

rows_spell : (n : ℕ) (before : Table) (ts : List Tree) (cs : Table) → rows n before ts ≡ Ok cs → (more : Table) × SpellCollections ts more × (before ++ more ≡ cs)
unfolding rows
rows_spell n before [] cs e = ([], tt, append-nil before ∙ ok_is before cs e)
rows_spell n before (t ∷ ts) cs e =
    let a = row_ok n (collection_of t) (λ c. rows (suc n) (before ++ c ∷ []) ts) cs e in
    let r = rows_spell (suc n) (before ++ a.0 ∷ []) ts cs a.2 in
    (a.0 ∷ r.0, (collection_spells t a.0 a.1, r.1), sym (append_assoc before (a.0 ∷ []) r.0) ∙ r.2)

spell_rows : (n : ℕ) (before : Table) (ts : List Tree) (cs : Table) → SpellCollections ts cs → rows n before ts ≡ Ok (before ++ cs)
unfolding rows
spell_rows n before [] [] h = ap (λ (l : Table). Ok l) (sym (append-nil before))
spell_rows n before [] (c ∷ cs) h = absurd h
spell_rows n before (t ∷ ts) [] h = absurd h
spell_rows n before (t ∷ ts) (c ∷ cs) h = rw (spells_collection t c h.0) (spell_rows (suc n) (before ++ c ∷ []) ts cs h.1 ∙ ap (λ (l : Table). Ok l) (append_assoc before (c ∷ []) cs))

record BadRows (n : ℕ) (ts : List Tree) (b : BadCluster) : Type 0 where
  pub front : List Tree
  pub tree : Tree
  pub back : List Tree
  pub split : front ++ tree ∷ back ≡ ts
  pub spelled : Table
  pub each : SpellCollections front spelled
  pub none : collection_of tree ≡ None
  pub is : refusal (n + length front) 0 W.Form ≡ b

rows_bad : (n : ℕ) (before : Table) (ts : List Tree) (b : BadCluster) → rows n before ts ≡ Err b → BadRows n ts b
unfolding rows
rows_bad n before [] b e = absurd cc
rows_bad n before (t ∷ ts) b e =
    elim (row_bad n (collection_of t) (λ c. rows (suc n) (before ++ c ∷ []) ts) b e) [
      | inl h ↦ record { front = []; tree = t; back = ts; split = refl; spelled = []; each = tt; none = h.0; is = ap (λ (k : ℕ). refusal k 0 W.Form) (let k : n + 0 ≡ n = omega arith in k) ∙ h.1 }
      | inr h ↦
          let r = rows_bad (suc n) (before ++ h.0 ∷ []) ts b h.2 in
          let k : n + length (t ∷ r.front) ≡ suc n + length r.front = omega arith in
          record {
            front = t ∷ r.front;
            tree = r.tree;
            back = r.back;
            split = ap (λ (l : List Tree). t ∷ l) r.split;
            spelled = h.0 ∷ r.spelled;
            each = (collection_spells t h.0 h.1, r.each);
            none = r.none;
            is = ap (λ (j : ℕ). refusal j 0 W.Form) k ∙ r.is;
          }
    ]

bad_rows : (n : ℕ) (before : Table) (front : List Tree) (t : Tree) (back : List Tree) (rs : Table) → SpellCollections front rs → collection_of t ≡ None → rows n before (front ++ t ∷ back) ≡ Err (refusal (n + length front) 0 W.Form)
unfolding rows
bad_rows n before [] t back [] h e = let k : n ≡ n + 0 = omega arith in rw e (ap (λ (j : ℕ). Err (refusal j 0 W.Form)) k)
bad_rows n before [] t back (c ∷ rs) h e = absurd h
bad_rows n before (u ∷ front) t back [] h e = absurd h
bad_rows n before (u ∷ front) t back (c ∷ rs) h e =
    let k : suc n + length front ≡ n + length (u ∷ front) = omega arith in
    rw (spells_collection u c h.0) (bad_rows (suc n) (before ++ c ∷ []) front t back rs h.1 e ∙ ap (λ (j : ℕ). Err (refusal j 0 W.Form)) k)

-- ---- what is wrong with them

apart_ok : (n : ℕ) (before cs ds : Table) → checked n before cs ≡ Ok ds → AreApart before cs × (before ++ cs ≡ ds)
unfolding checked
apart_ok n before [] ds e = (tt, append-nil before ∙ ok_is before ds e)
apart_ok n before (c ∷ cs) ds e =
    let a = unless_ok n (collection_fault before c) (checked (suc n) (before ++ c ∷ []) cs) ds e in
    let g = apart_good before c a.0 in
    let r = apart_ok (suc n) (before ++ c ∷ []) cs ds a.1 in
    ((record { apart = g.0; chunks = g.1 }, r.0), sym (append_assoc before (c ∷ []) cs) ∙ r.1)

ok_apart : (n : ℕ) (before cs : Table) → AreApart before cs → checked n before cs ≡ Ok (before ++ cs)
unfolding checked
ok_apart n before [] h = ap (λ (l : Table). Ok l) (sym (append-nil before))
ok_apart n before (c ∷ cs) h = rw (good_apart before c h.0.apart h.0.chunks) (ok_apart (suc n) (before ++ c ∷ []) cs h.1 ∙ ap (λ (l : Table). Ok l) (append_assoc before (c ∷ []) cs))

record BadRow (n : ℕ) (before cs : Table) (b : BadCluster) : Type 0 where
  pub mid : Table
  pub row : CollectionRow
  pub after : Table
  pub split : mid ++ row ∷ after ≡ cs
  pub apart : AreApart before mid
  pub fault : Fault
  pub faulty : collection_fault (before ++ mid) row ≡ Some fault
  pub is : refusal (n + length mid) fault.0 fault.1 ≡ b

apart_bad : (n : ℕ) (before cs : Table) (b : BadCluster) → checked n before cs ≡ Err b → BadRow n before cs b
unfolding checked
apart_bad n before [] b e = absurd cc
apart_bad n before (c ∷ cs) b e =
    elim (unless_bad n (collection_fault before c) (checked (suc n) (before ++ c ∷ []) cs) b e) [
      | inl h ↦ record {
        mid = [];
        row = c;
        after = cs;
        split = refl;
        apart = tt;
        fault = h.0;
        faulty = ap (λ (l : Table). collection_fault l c) (append-nil before) ∙ h.1;
        is = ap (λ (k : ℕ). refusal k h.0.0 h.0.1) (let k : n + 0 ≡ n = omega arith in k) ∙ h.2;
      }
      | inr h ↦
          let r = apart_bad (suc n) (before ++ c ∷ []) cs b h.1 in
          let g = apart_good before c h.0 in
          let k : n + length (c ∷ r.mid) ≡ suc n + length r.mid = omega arith in
          record {
            mid = c ∷ r.mid;
            row = r.row;
            after = r.after;
            split = ap (λ (l : Table). c ∷ l) r.split;
            apart = (record { apart = g.0; chunks = g.1 }, r.apart);
            fault = r.fault;
            faulty = ap (λ (l : Table). collection_fault l r.row) (sym (append_assoc before (c ∷ []) r.mid)) ∙ r.faulty;
            is = ap (λ (j : ℕ). refusal j r.fault.0 r.fault.1) k ∙ r.is;
          }
    ]
  where
    unless_bad : (n : ℕ) (o : Option Fault) (next : Answer) (b : BadCluster) → unless n o next ≡ Err b → ((f : Fault) × (o ≡ Some f) × (refusal n f.0 f.1 ≡ b)) ⊎ ((o ≡ None) × (next ≡ Err b))
    unless_bad n None next b e = inr (refl, e)
    unless_bad n (Some f) next b e = inl (f, refl, err_is (refusal n f.0 f.1) b e)

bad_apart : (n : ℕ) (before mid : Table) (c : CollectionRow) (after : Table) (f : Fault) → AreApart before mid → collection_fault (before ++ mid) c ≡ Some f → checked n before (mid ++ c ∷ after) ≡ Err (refusal (n + length mid) f.0 f.1)
unfolding checked
bad_apart n before [] c after f h e =
    let t : collection_fault before c ≡ Some f = ap (λ (l : Table). collection_fault l c) (sym (append-nil before)) ∙ e in
    let k : n ≡ n + 0 = omega arith in
    rw t (ap (λ (j : ℕ). Err (refusal j f.0 f.1)) k)
bad_apart n before (d ∷ mid) c after f h e =
    let t : collection_fault ((before ++ d ∷ []) ++ mid) c ≡ Some f = ap (λ (l : Table). collection_fault l c) (append_assoc before (d ∷ []) mid) ∙ e in
    let k : suc n + length mid ≡ n + length (d ∷ mid) = omega arith in
    rw (good_apart before d h.0.apart h.0.chunks) (bad_apart (suc n) (before ++ d ∷ []) mid c after f h.1 t ∙ ap (λ (j : ℕ). Err (refusal j f.0 f.1)) k)

-- ---- the whole file

file_ok : (r : Result Document FileFault) (cs : Table) → table_of r ≡ Ok cs → (d : Document) × (r ≡ Ok d) × (cluster_of (collections_in d) ≡ Ok cs)
file_ok (Ok d) cs e = (d, refl, e)
file_ok (Err (bytes_fault b)) cs e = absurd cc
file_ok (Err (trailing at)) cs e = absurd cc

list_ok : (o : Option (List Tree)) (cs : Table) → cluster_of o ≡ Ok cs → (ts : List Tree) × (o ≡ Some ts) × (rows_checked (rows 1 [] ts) ≡ Ok cs)
list_ok (Some ts) cs e = (ts, refl, e)
list_ok None cs e = absurd cc

names_ok : (r : Answer) (cs : Table) → rows_checked r ≡ Ok cs → (rs : Table) × (r ≡ Ok rs) × (checked 1 [] rs ≡ Ok cs)
names_ok (Ok rs) cs e = (rs, refl, e)
names_ok (Err b) cs e = absurd cc

cluster_good : (bytes : List ℕ) (cs : Table) → table bytes ≡ Ok cs → IsCluster bytes cs
unfolding table
cluster_good bytes cs e =
    let a = file_ok (document_of bytes) cs e in
    let b = list_ok (collections_in a.0) cs a.2 in
    let c = names_ok (rows 1 [] b.0) cs b.2 in
    let r = rows_spell 1 [] b.0 c.0 c.1 in
    let n = apart_ok 1 [] c.0 cs c.2 in
    record {
      document = a.0;
      whole = a.1;
      spells = record { trees = b.0; lists = lists a.0 b.0 b.1; each = subst (SpellCollections b.0) (r.2 ∙ n.1) r.1; apart = subst (AreApart []) n.1 n.0 };
    }

good_cluster : (bytes : List ℕ) (cs : Table) → IsCluster bytes cs → table bytes ≡ Ok cs
unfolding table
good_cluster bytes cs h =
    let s = h.spells in
    rw (h.whole, listed h.document s.trees s.lists, spell_rows 1 [] s.trees cs s.each) (ok_apart 1 [] cs s.apart)

fault_again : (f : FileFault) → table_of (Err f) ≡ Err (refusal 0 0 (fault_why f))
fault_again (bytes_fault b) = refl
fault_again (trailing at) = refl

file_bad : (r : Result Document FileFault) (b : BadCluster) → table_of r ≡ Err b → ((f : FileFault) × (r ≡ Err f) × (refusal 0 0 (fault_why f) ≡ b)) ⊎ ((d : Document) × (r ≡ Ok d) × (cluster_of (collections_in d) ≡ Err b))
file_bad (Ok d) b e = inr (d, refl, e)
file_bad (Err f) b e = inl (f, refl, err_is (refusal 0 0 (fault_why f)) b (sym (fault_again f) ∙ e))

list_bad : (o : Option (List Tree)) (b : BadCluster) → cluster_of o ≡ Err b → ((o ≡ None) × (refusal 0 0 W.Form ≡ b)) ⊎ ((ts : List Tree) × (o ≡ Some ts) × (rows_checked (rows 1 [] ts) ≡ Err b))
list_bad (Some ts) b e = inr (ts, refl, e)
list_bad None b e = inl (refl, err_is (refusal 0 0 W.Form) b e)

names_bad : (r : Answer) (b : BadCluster) → rows_checked r ≡ Err b → (r ≡ Err b) ⊎ ((rs : Table) × (r ≡ Ok rs) × (checked 1 [] rs ≡ Err b))
names_bad (Ok rs) b e = inr (rs, refl, e)
names_bad (Err c) b e = inl e

module _ (bytes : List ℕ) (d : Document) (whole : document_of bytes ≡ Ok d) where
  refused_rows : (ts : List Tree) (b : BadCluster) → Lists d ts → rows 1 [] ts ≡ Err b → IsRefused bytes b
  refused_rows ts b l e =
      let r = rows_bad 1 [] ts b e in
      let f : IsFormless d (1 + length r.front) = record {
        trees = ts;
        lists = l;
        front = r.front;
        tree = r.tree;
        back = r.back;
        split = r.split;
        rows = r.spelled;
        each = r.each;
        none = none_spelled r.tree r.none;
        place = omega arith;
      } in
      subst (IsRefused bytes) r.is (inr (d, whole, inl (inr f, refl, refl)))

  refused_names : (ts : List Tree) (rs : Table) (b : BadCluster) → Lists d ts → rows 1 [] ts ≡ Ok rs → checked 1 [] rs ≡ Err b → IsRefused bytes b
  refused_names ts rs b l s e =
      let r = rows_spell 1 [] ts rs s in
      let n = apart_bad 1 [] rs b e in
      let f : IsBadRow d (1 + length n.mid) n.fault.0 n.fault.1 = record {
        trees = ts;
        lists = l;
        rows = rs;
        each = subst (SpellCollections ts) r.2 r.1;
        before = n.mid;
        row = n.row;
        after = n.after;
        split = n.split;
        apart = n.apart;
        fault = fault_says n.mid n.row n.fault n.faulty;
        place = omega arith;
      } in
      subst (IsRefused bytes) n.is (inr (d, whole, inr f))

  refused_list : (b : BadCluster) → cluster_of (collections_in d) ≡ Err b → IsRefused bytes b
  refused_list b e =
      elim (list_bad (collections_in d) b e) [
        | inl h ↦ subst (IsRefused bytes) h.1 (inr (d, whole, inl (inl (refl, λ ts l. let f = listed d ts l in let g = h.0 in absurd cc), refl, refl)))
        | inr h ↦
            let l = lists d h.0 h.1 in
            elim (names_bad (rows 1 [] h.0) b h.2) [
              | inl r ↦ refused_rows h.0 b l r
              | inr r ↦ refused_names h.0 r.0 b l r.1 r.2
            ]
      ]

cluster_bad : (bytes : List ℕ) (b : BadCluster) → table bytes ≡ Err b → IsRefused bytes b
unfolding table
cluster_bad bytes b e = elim (file_bad (document_of bytes) b e) [ inl h ↦ inl h | inr h ↦ refused_list bytes h.0 h.1 b h.2 ]

document_formless : (d : Document) (k : ℕ) → IsBadForm d k → cluster_of (collections_in d) ≡ Err (refusal k 0 W.Form)
document_formless d k (inl h) = rw (unlisted d h.1) (ap (λ (j : ℕ). Err (refusal j 0 W.Form)) (sym h.0))
document_formless d k (inr f) =
    let r : rows 1 [] f.trees ≡ Err (refusal (1 + length f.front) 0 W.Form) = ap (rows 1 []) (sym f.split) ∙ bad_rows 1 [] f.front f.tree f.back f.rows f.each (formless f.tree f.none) in
    let n : 1 + length f.front ≡ k = omega (arith, f.place) in
    rw (listed d f.trees f.lists, r) (ap (λ (j : ℕ). Err (refusal j 0 W.Form)) n)

document_bad : (d : Document) (b : BadCluster) → IsBadDocument d b.collection b.chunk b.why → cluster_of (collections_in d) ≡ Err b
document_bad d b (inl h) =
    let whole : refusal b.collection 0 W.Form ≡ b = λ i. record { collection = b.collection; chunk = sym h.1 i; why = sym h.2 i } in
    document_formless d b.collection h.0 ∙ ap (λ (c : BadCluster). Err c) whole
document_bad d b (inr f) =
    let n : 1 + length f.before ≡ b.collection = omega (arith, f.place) in
    rw (listed d f.trees f.lists, spell_rows 1 [] f.trees f.rows f.each)
    (ap (checked 1 []) (sym f.split) ∙ bad_apart 1 [] f.before f.row f.after (b.chunk, b.why) f.apart (says_fault f.before f.row b.chunk b.why f.fault) ∙ ap (λ (j : ℕ). Err (refusal j b.chunk b.why)) n)

bad_cluster : (bytes : List ℕ) (b : BadCluster) → IsRefused bytes b → table bytes ≡ Err b
unfolding table
bad_cluster bytes b (inl h) = rw h.1 (fault_again h.0 ∙ ap (λ (c : BadCluster). Err c) h.2)
bad_cluster bytes b (inr h) = rw h.1 (document_bad h.0 b h.2)

pub good_tables : (bytes : List ℕ) (cs : Table) → (table bytes ≡ Ok cs) ↔ IsCluster bytes cs
good_tables bytes cs = (cluster_good bytes cs, good_cluster bytes cs)

pub bad_tables : (bytes : List ℕ) (b : BadCluster) → (table bytes ≡ Err b) ↔ IsRefused bytes b
bad_tables bytes b = (cluster_bad bytes b, bad_cluster bytes b)
