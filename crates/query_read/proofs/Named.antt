-- Names: those of the words and tests of queries, and those that are paths.
use Rattle.std.proofs.Common.{◌≡◌, ℕ, Bool, true, false, cond, List, [], ◌∷◌, refl, sym, ap, ◌∙◌, inl, inr}
use Rattle.std.specs.Prelude.{Option, Some, None, ◌⊎◌, ◌==◌, ◌&&◌, codes}
use Rattle.std.specs.List.{list_all, AllByRecursion, onto_first}
use Rattle.std.specs.Option.{is_some}
use Rattle.std.specs.Str.{bytes_eq}
use Rattle.std.proofs.lemmas.Bool.{eqb-true}
use Rattle.std.proofs.lemmas.List.Elements.{recursion_from_All}
use Rattle.std.proofs.lemmas.Slice.Eq.{bytes_eq-Decides}
use Rattle.bson_value.specs.Pairs.{find}
use Rattle.bson_value.specs.Path.{IsStep, IsPathText, pieces}
use Rattle.bson_value.specs.Paths.{Steps}
use Rattle.expr_read.specs.Reading.{path_in}
use Rattle.expr_tree.specs.Forms.{has_sign}
use Rattle.expr_read.proofs.PathTexts.{both, path_is}
use Rattle.query_read.specs.declared.words.Connective.{Connective}
use Rattle.query_read.specs.declared.words.Connective.TheVariants as C
use Rattle.query_read.specs.declared.words.Operator.{Operator}
use Rattle.query_read.specs.declared.words.Operator.TheVariants as O
use Rattle.query_read.specs.declared.words.Word.{Word}
use Rattle.query_read.specs.declared.words.Word.TheVariants as W
use Rattle.query_read.specs.Words.{words, operators, word_named, operator_named}

pub decided : (b : Bool) → (b ≡ true) ⊎ (b ≡ false)
decided true = inl refl
decided false = inr refl

pub some_same : {A : Type 0} (x y : A) → Some x ≡ Some y → x ≡ y
some_same x y e = cc

abbrev pub join_name : Connective → List ℕ
join_name C.And = codes "$and"
join_name C.Or = codes "$or"
join_name C.Nor = codes "$nor"

abbrev pub word_name : Word → List ℕ
word_name (W.Joins c) = join_name c
word_name W.Counts = codes "$expr"

abbrev pub operator_name : Operator → List ℕ
operator_name O.Eq = codes "$eq"
operator_name O.Ne = codes "$ne"
operator_name O.Gt = codes "$gt"
operator_name O.Gte = codes "$gte"
operator_name O.Lt = codes "$lt"
operator_name O.Lte = codes "$lte"
operator_name O.In = codes "$in"
operator_name O.Nin = codes "$nin"
operator_name O.Exists = codes "$exists"
operator_name O.Type = codes "$type"
operator_name O.Size = codes "$size"
operator_name O.All = codes "$all"
operator_name O.ElemMatch = codes "$elemMatch"
operator_name O.Not = codes "$not"

-- what is found in a table that is right
found_named : {A : Type 0} (name : A → List ℕ) (k : List ℕ) (rows : List (List ℕ × A)) (x : A) → list_all (λ r. bytes_eq r.0 (name r.1)) rows ≡ true → find k rows ≡ Some x → k ≡ name x
found_named name k [] x h e = absurd cc
found_named name k (r ∷ rows) x h e =
    let b = both (bytes_eq r.0 (name r.1)) (list_all (λ q. bytes_eq q.0 (name q.1)) rows) h in
    elim (decided (bytes_eq r.0 k)) [
      | inl same ↦ sym ((bytes_eq-Decides r.0 k).0 same) ∙ (bytes_eq-Decides r.0 (name r.1)).0 b.0 ∙ ap name (some_same r.1 x (rw same at e))
      | inr other ↦ found_named name k rows x b.1 (rw other at e)
    ]

pub operator_is : (k : List ℕ) (o : Operator) → operator_named k ≡ Some o → k ≡ operator_name o
unfolding operator_named operators
operator_is k o e = found_named operator_name k operators o refl e

pub word_is : (k : List ℕ) (w : Word) → word_named k ≡ Some w → k ≡ word_name w
unfolding word_named words
word_is k w e = found_named word_name k words w refl e

pub word_signed : (w : Word) → has_sign (word_name w) ≡ true
word_signed (W.Joins C.And) = refl
word_signed (W.Joins C.Or) = refl
word_signed (W.Joins C.Nor) = refl
word_signed W.Counts = refl

pub operator_signed : (o : Operator) → has_sign (operator_name o) ≡ true
operator_signed O.Eq = refl
operator_signed O.Ne = refl
operator_signed O.Gt = refl
operator_signed O.Gte = refl
operator_signed O.Lt = refl
operator_signed O.Lte = refl
operator_signed O.In = refl
operator_signed O.Nin = refl
operator_signed O.Exists = refl
operator_signed O.Type = refl
operator_signed O.Size = refl
operator_signed O.All = refl
operator_signed O.ElemMatch = refl
operator_signed O.Not = refl

pub named : (o : Operator) → operator_named (operator_name o) ≡ Some o
unfolding operator_named operators
named O.Eq = refl
named O.Ne = refl
named O.Gt = refl
named O.Gte = refl
named O.Lt = refl
named O.Lte = refl
named O.In = refl
named O.Nin = refl
named O.Exists = refl
named O.Type = refl
named O.Size = refl
named O.All = refl
named O.ElemMatch = refl
named O.Not = refl

-- a test's name is no word of a query document
pub operator_no_word : (o : Operator) → word_named (operator_name o) ≡ None
unfolding word_named words
operator_no_word O.Eq = refl
operator_no_word O.Ne = refl
operator_no_word O.Gt = refl
operator_no_word O.Gte = refl
operator_no_word O.Lt = refl
operator_no_word O.Lte = refl
operator_no_word O.In = refl
operator_no_word O.Nin = refl
operator_no_word O.Exists = refl
operator_no_word O.Type = refl
operator_no_word O.Size = refl
operator_no_word O.All = refl
operator_no_word O.ElemMatch = refl
operator_no_word O.Not = refl

first_step : (ps : Steps) → AllByRecursion IsStep (onto_first 36 ps) → ⊥
first_step [] a = a.0.no_dollar refl
first_step (p ∷ ps) a = a.0.no_dollar refl

pub no_sign : (n : List ℕ) → IsPathText n → has_sign n ≡ false
no_sign [] h = refl
no_sign (b ∷ bs) h = elim (decided (b == 36)) [
  | inl s ↦ absurd (signed bs (rw (eqb-true b 36 s) at h))
  | inr s ↦ s
]
  where
    signed : (bs : List ℕ) → IsPathText (36 ∷ bs) → ⊥
    signed bs h = first_step (pieces bs) (recursion_from_All IsStep (pieces (36 ∷ bs)) h.steps.each)

true_not_false : {b : Bool} → b ≡ true → b ≡ false → ⊥
true_not_false p q = absurd cc

-- a path is no word, and a name with a sign is no path
pub path_no_word : (n : List ℕ) → IsPathText n → word_named n ≡ None
path_no_word n h = go (word_named n) refl
  where
    go : (o : Option Word) → word_named n ≡ o → word_named n ≡ None
    go None e = e
    go (Some w) e = absurd (true_not_false (ap has_sign (word_is n w e) ∙ word_signed w) (no_sign n h))

pub signed_no_path : (n : List ℕ) → has_sign n ≡ true → path_in n ≡ None
signed_no_path n s = go (path_in n) refl
  where
    go : (o : Option Steps) → path_in n ≡ o → path_in n ≡ None
    go None e = e
    go (Some p) e = absurd (true_not_false s (no_sign n (path_is n p e).0))

pub named_some : (n : List ℕ) → is_some (operator_named n) ≡ true → (o : Operator) × (operator_named n ≡ Some o)
named_some n h = go (operator_named n) refl h
  where
    go : (o : Option Operator) → operator_named n ≡ o → is_some o ≡ true → (x : Operator) × (operator_named n ≡ Some x)
    go None e h = absurd cc
    go (Some x) e h = (x, e)
