-- A tree is read as a shard, a chunk or a collection exactly where it spells one.
use Rattle.std.proofs.Common.{◌≡◌, ℕ, Bool, true, false, cond, List, [], ◌∷◌, map, length, refl, sym, ap, subst, ◌∙◌, arith}
use Rattle.std.specs.Prelude.{Option, Some, None, option_and_then, IsTrue, nat_le, ◌&&◌, ◌==◌, codes}
use Rattle.std.specs.Str.{bytes_eq}
use Rattle.std.proofs.lemmas.Bool.{eqb-true, le-leb}
use Rattle.std.proofs.lemmas.Slice.Eq.{bytes_eq-Decides}
use Rattle.bson_value.specs.Path.{pieces}
use Rattle.bson_value.specs.Paths.{Steps}
use Rattle.bson_value.specs.Tree as T
use Rattle.bson_value.specs.Tree.{Tree, leaf, doc, list, text, pairs_of, trees_of}
use Rattle.bson_codec.specs.Records.{Document}
use Rattle.bson_codec.proofs.Values.{pairs_entries, trees_members}
use Rattle.chunk_map.specs.Table.{ShardRow, shard_row}
use Rattle.chunk_map.specs.Form.{text_of, doc_of, list_of, field_at, text_at, some_few, with_first, all_of, is_one, is_shard_name, is_file_name, is_path_text, shard_if, shard_in, shard_of, only_shard, path_in, same_names, values_in}
use Rattle.chunk_map.specs.Spelled.{Each, IsFew, SpellsShard, SpellsPath, SpellsKey}
use Rattle.chunk_map.proofs.Listed.{some_is}
use Rattle.chunk_map.proofs.PathTexts.{text_is_path, path_is_text}
use Rattle.chunk_map.proofs.Sizes.{bind_some, if_some, both, few_are, first_of_all}

pub is_true : (b : Bool) → b ≡ true → IsTrue b
is_true b e = e

pub true_if : {A : Type 0} (a b : Bool) (o : Option A) → IsTrue a → IsTrue b → cond (a && b) o None ≡ o
true_if true true o p q = refl
true_if true false o p q = absurd cc
true_if false b o p q = absurd cc

pub one_if : {A : Type 0} (a : Bool) (o : Option A) → IsTrue a → cond a o None ≡ o
one_if true o p = refl
one_if false o p = absurd cc

-- ---- values of a kind

pub text_is : (t : Tree) (s : List ℕ) → text_of t ≡ Some s → t ≡ leaf (text s)
text_is (leaf (T.text n)) s e = ap (λ (k : List ℕ). leaf (text k)) (some_is n s e)
text_is (leaf T.least) s e = absurd cc
text_is (leaf T.null) s e = absurd cc
text_is (leaf (T.int n)) s e = absurd cc
text_is (leaf (T.long n)) s e = absurd cc
text_is (leaf (T.bin k n)) s e = absurd cc
text_is (leaf (T.id n)) s e = absurd cc
text_is (leaf (T.flag b)) s e = absurd cc
text_is (leaf (T.date n)) s e = absurd cc
text_is (leaf (T.stamp n)) s e = absurd cc
text_is (leaf T.greatest) s e = absurd cc
text_is (doc ps) s e = absurd cc
text_is (list ts) s e = absurd cc

pub doc_is : (t : Tree) (d : Document) → doc_of t ≡ Some d → t ≡ doc (pairs_of d)
doc_is (doc ps) d e = ap doc (sym (pairs_entries ps) ∙ ap pairs_of (some_is (T.entries ps) d e))
doc_is (leaf l) d e = absurd cc
doc_is (list ts) d e = absurd cc

pub list_is : (t : Tree) (ts : List Tree) → list_of t ≡ Some ts → t ≡ list (trees_of ts)
list_is (list us) ts e = ap list (sym (trees_members us) ∙ ap trees_of (some_is (T.members us) ts e))
list_is (leaf l) ts e = absurd cc
list_is (doc ps) ts e = absurd cc

-- ---- documents of two fields

pub pair_if : (n : List ℕ) (p : List ℕ × Tree) (t : Tree) → cond (bytes_eq p.0 n) (Some p.1) None ≡ Some t → p ≡ (n, t)
pair_if n p t e =
    let a = if_some (bytes_eq p.0 n) (Some p.1) t e in
    let b : p.0 ≡ n = (bytes_eq-Decides p.0 n).0 a.0 in
    let c : p.1 ≡ t = some_is p.1 t a.1 in
    λ i. (b i, c i)

pub two_fields : (d : Document) (n m : List ℕ) (t u : Tree) → (length d == 2) ≡ true → field_at 0 n d ≡ Some t → field_at 1 m d ≡ Some u → d ≡ (n, t) ∷ (m, u) ∷ []
two_fields [] n m t u two e f = absurd cc
two_fields (p ∷ []) n m t u two e f = absurd cc
two_fields (p ∷ q ∷ []) n m t u two e f = let a = pair_if n p t e in let b = pair_if m q u f in λ i. a i ∷ b i ∷ []
two_fields (p ∷ q ∷ r ∷ d) n m t u two e f = let a : length (p ∷ q ∷ r ∷ d) ≡ 2 = eqb-true _ _ two in absurd (omega (arith, a))

pub one_item : (ts : List Tree) (s : ShardRow) → only_shard ts ≡ Some s → (t : Tree) × (ts ≡ t ∷ []) × (shard_of t ≡ Some s)
one_item [] s e = absurd cc
one_item (t ∷ []) s e = (t, refl, e)
one_item (t ∷ u ∷ ts) s e =
    let a = if_some (length (t ∷ u ∷ ts) == 1) _ s e in
    let b : length (t ∷ u ∷ ts) ≡ 1 = eqb-true _ _ a.0 in
    absurd (omega (arith, b))

-- ---- shards

shard_fields : (d : Document) (s : ShardRow) → shard_in d ≡ Some s → SpellsShard (doc (pairs_of d)) s
shard_fields d s e =
    let two = if_some (length d == 2) _ s e in
    let name = bind_some (λ name. option_and_then (λ file. shard_if name file) (text_at 1 (codes "file") d)) (text_at 0 (codes "name") d) s two.1 in
    let file = bind_some (λ file. shard_if name.0 file) (text_at 1 (codes "file") d) s name.2 in
    let n = bind_some text_of (field_at 0 (codes "name") d) name.0 name.1 in
    let f = bind_some text_of (field_at 1 (codes "file") d) file.0 file.1 in
    let fields = two_fields d (codes "name") (codes "file") n.0 f.0 two.0 n.1 f.1 in
    let made = if_some (is_shard_name name.0 && is_file_name file.0) (Some (shard_row name.0 file.0)) s file.2 in
    let tests = both (is_shard_name name.0) (is_file_name file.0) made.0 in
    let row : shard_row name.0 file.0 ≡ s = some_is (shard_row name.0 file.0) s made.1 in
    let t : n.0 ≡ leaf (text name.0) = text_is n.0 name.0 n.2 in
    let u : f.0 ≡ leaf (text file.0) = text_is f.0 file.0 f.2 in
    subst (SpellsShard (doc (pairs_of d))) row (record {
      fields = ap (λ (x : Document). doc (pairs_of x)) (fields ∙ (λ i. (codes "name", t i) ∷ (codes "file", u i) ∷ []));
      name = is_true (is_shard_name name.0) tests.0;
      file = is_true (is_file_name file.0) tests.1;
    })

pub shard_spells : (t : Tree) (s : ShardRow) → shard_of t ≡ Some s → SpellsShard t s
unfolding shard_of
shard_spells t s e =
    let a = bind_some shard_in (doc_of t) s e in
    subst (λ (x : Tree). SpellsShard x s) (sym (doc_is t a.0 a.1)) (shard_fields a.0 s a.2)

pub spells_shard : (t : Tree) (s : ShardRow) → SpellsShard t s → shard_of t ≡ Some s
unfolding shard_of
spells_shard t s h = rw h.fields (true_if (is_shard_name s.name) (is_file_name s.file) (Some (shard_row s.name s.file)) h.name h.file)

-- ---- lists of them

pub list_few : {A : Type 0} (most : ℕ) (xs : List A) → IsFew most xs → some_few most xs ≡ Some xs
list_few most xs h = true_if (nat_le 1 (length xs)) (nat_le (length xs) most) (Some xs) (is_true _ (le-leb _ _ h.0)) (is_true _ (le-leb _ _ h.1))

module _ {A B : Type 0} (f : A → Option B) (R : A → B → Type 0) where
  each_of : ((x : A) (y : B) → f x ≡ Some y → R x y) → (xs : List A) (ys : List B) → all_of f xs ≡ Some ys → Each R xs ys
  each_of h [] ys e = subst (Each R []) (some_is [] ys e) tt
  each_of h (x ∷ xs) ys e =
      let a = bind_some (λ y. with_first y (all_of f xs)) (f x) ys e in
      let b = first_of_all a.0 (all_of f xs) ys a.2 in
      subst (Each R (x ∷ xs)) b.2 (h x a.0 a.1, each_of h xs b.0 b.1)

  all_each : ((x : A) (y : B) → R x y → f x ≡ Some y) → (xs : List A) (ys : List B) → Each R xs ys → all_of f xs ≡ Some ys
  all_each h [] [] e = refl
  all_each h [] (y ∷ ys) e = absurd e
  all_each h (x ∷ xs) [] e = absurd e
  all_each h (x ∷ xs) (y ∷ ys) e = rw (h x y e.0, all_each h xs ys e.1) refl

  pub few_each : (most : ℕ) → ((x : A) (y : B) → f x ≡ Some y → R x y) → (xs : List A) (ys : List B) → option_and_then (all_of f) (some_few most xs) ≡ Some ys → IsFew most xs × Each R xs ys
  few_each most h xs ys e =
      let a = bind_some (all_of f) (some_few most xs) ys e in
      let b = few_are most xs a.0 a.1 in
      ((b.0, b.1), each_of h xs ys (ap (all_of f) b.2 ∙ a.2))

  pub each_few : (most : ℕ) → ((x : A) (y : B) → R x y → f x ≡ Some y) → (xs : List A) (ys : List B) → IsFew most xs → Each R xs ys → option_and_then (all_of f) (some_few most xs) ≡ Some ys
  each_few most h xs ys few e = rw (list_few most xs few) (all_each h xs ys e)

-- ---- paths of a key

pub path_spells : (p : List ℕ × Tree) (path : Steps) → path_in p ≡ Some path → SpellsPath p path
path_spells p path e =
    let a = if_some (is_one p.1 && is_path_text p.0) (Some (pieces p.0)) path e in
    let b = both (is_one p.1) (is_path_text p.0) a.0 in
    record { one = is_true (is_one p.1) b.0; text = text_is_path p.0 b.1; steps = some_is (pieces p.0) path a.1 }

pub spells_path : (p : List ℕ × Tree) (path : Steps) → SpellsPath p path → path_in p ≡ Some path
spells_path p path h = true_if (is_one p.1) (is_path_text p.0) (Some (pieces p.0)) h.one (is_true _ (path_is_text p.0 h.text)) ∙ ap (λ (s : Steps). Some s) h.steps

-- ---- values at a key's paths

names_same : (key d : Document) → same_names key d ≡ true → map (λ p. p.0) key ≡ map (λ p. p.0) d
names_same [] [] e = refl
names_same [] (q ∷ d) e = absurd cc
names_same (p ∷ key) [] e = absurd cc
names_same (p ∷ key) (q ∷ d) e =
    let h = both (bytes_eq p.0 q.0) (same_names key d) e in
    let a : p.0 ≡ q.0 = (bytes_eq-Decides p.0 q.0).0 h.0 in
    let b = names_same key d h.1 in
    λ i. a i ∷ b i

same_named : (key d : Document) → map (λ p. p.0) key ≡ map (λ p. p.0) d → same_names key d ≡ true
same_named [] [] e = refl
same_named [] (q ∷ d) e = absurd cc
same_named (p ∷ key) [] e = absurd cc
same_named (p ∷ key) (q ∷ d) e =
    let a : p.0 ≡ q.0 = cc in
    let b : map (λ (r : List ℕ × Tree). r.0) key ≡ map (λ (r : List ℕ × Tree). r.0) d = cc in
    rw ((bytes_eq-Decides p.0 q.0).1 a) (same_named key d b)

pub values_spell : (key d : Document) (vs : List Tree) → values_in key d ≡ Some vs → SpellsKey key d vs
unfolding values_in
values_spell key d vs e =
    let a = if_some (same_names key d) (Some (map (λ (p : List ℕ × Tree). p.1) d)) vs e in
    record { names = names_same key d a.0; values_are = some_is _ vs a.1 }

pub spell_values : (key d : Document) (vs : List Tree) → SpellsKey key d vs → values_in key d ≡ Some vs
unfolding values_in
spell_values key d vs h = rw (same_named key d h.names) (ap (λ (l : List Tree). Some l) h.values_are)
