-- Fields of a stage's document and their values, read and written.
use Rattle.std.proofs.Common.{◌≡◌, ℕ, Bool, true, false, cond, List, [], ◌∷◌, refl, sym, ap, ◌∙◌, arith, inl, inr, subst}
use Rattle.std.specs.Prelude.{Option, Some, None, ◌⊎◌, ◌&&◌, codes}
use Rattle.std.specs.Str.{bytes_eq}
use Rattle.std.proofs.lemmas.Bool.{false_from_ne_true}
use Rattle.std.proofs.lemmas.Slice.Eq.{bytes_eq-Decides}
use Rattle.bson_value.specs.Pairs.{find}
use Rattle.bson_value.specs.Paths.{Steps}
use Rattle.bson_value.specs.Tree.{Tree}
use Rattle.bson_value.specs.declared.acc_kind.AccKind.{AccKind}
use Rattle.bson_value.specs.declared.acc_kind.AccKind.TheVariants.{Count}
use Rattle.expr_read.proofs.PathTexts.{path_is, path_read}
use Rattle.expr_read.proofs.Sound.{spelled}
use Rattle.expr_read.proofs.Spelled.{only}
use Rattle.expr_read.specs.Reading.{reading, only_if, path_in, ◌>>=◌}
use Rattle.expr_tree.specs.Node.{Node}
use Rattle.expr_tree.specs.Spells.{Fields, At, Spells}
use Rattle.join_forms.specs.Reading.{form_in, read_at, maybe, otherwise, expr_value, collection_value, one_field, two_fields, two_items, has_none, is_empty_doc, argument, accumulator}
use Rattle.join_forms.specs.Words.{accumulators, kind_named, nothing}
use Rattle.join_forms.specs.Written.{IsForm, AtMaybe, AtOr, IsPathValue, IsCollection, IsAccumulator}
use Rattle.stage_parts.proofs.Options.{some_same, bind_some, only_some, decided}
use Rattle.stage_parts.specs.Names.{has_only, is_collection_name, collection_name}
use Rattle.stage_parts.specs.Paths.{path_text}
use Rattle.stage_parts.specs.Values.{as_text, as_fields}

-- ---- names

pub same_name : (n m : List ℕ) → bytes_eq n m ≡ true → n ≡ m
same_name n m e = (bytes_eq-Decides n m).0 e

pub equal_name : (n m : List ℕ) → n ≡ m → bytes_eq n m ≡ true
equal_name n m e = (bytes_eq-Decides n m).1 e

pub other_name : (n m : List ℕ) → ¬ (n ≡ m) → bytes_eq n m ≡ false
other_name n m h = false_from_ne_true (bytes_eq n m) (λ e. h (same_name n m e))

pub unlike : {P : Type 0} (b : Bool) → b ≡ true → b ≡ false → P
unlike true p q = absurd cc
unlike false p q = absurd cc

-- ---- where it is so

pub only_if_so : {A : Type 0} (b : Bool) (o : Option A) → b ≡ true → only_if b o ≡ o
only_if_so b o e = rw e refl

pub only_if_not : {A : Type 0} (b : Bool) (o : Option A) → b ≡ false → only_if b o ≡ None
only_if_not b o e = rw e refl

-- ---- fields

pub form_only : (required optional : List (List ℕ)) (t : Tree) (ps : Fields) → IsForm required optional t ps → form_in required optional t ≡ Some ps
form_only required optional t ps h = ap (λ o. o >>= λ qs. only_if (has_only required optional qs) (Some qs)) h.0 ∙ only_if_so (has_only required optional ps) (Some ps) h.1

pub form_found : (required optional : List (List ℕ)) (t : Tree) (ps : Fields) → form_in required optional t ≡ Some ps → IsForm required optional t ps
form_found required optional t ps e =
    let b = bind_some (as_fields t) (λ qs. only_if (has_only required optional qs) (Some qs)) ps e in
    let o = only_some (has_only required optional b.0) (Some b.0) ps b.2 in
    let same = some_same b.0 ps o.1 in
    (b.1 ∙ ap Some same, subst (λ qs. has_only required optional qs ≡ true) same o.0)

module _ {A : Type 0} (f : Tree → Option A) (Is : A → Tree → Type 0) (n : List ℕ) (ps : Fields) (x : A) where
  pub at_only : ((t : Tree) → Is x t → f t ≡ Some x) → At n ps (Is x) → read_at f n ps ≡ Some x
  at_only law h = ap (λ o. o >>= f) h.1 ∙ law h.0 h.2

  pub at_found : ((t : Tree) → f t ≡ Some x → Is x t) → read_at f n ps ≡ Some x → At n ps (Is x)
  at_found law e = let b = bind_some (find n ps) f x e in (b.0, b.1, law b.0 b.2)

  pub otherwise_only : (other : A) → ((t : Tree) → Is x t → f t ≡ Some x) → AtOr other n ps Is x → otherwise other f (find n ps) ≡ Some x
  otherwise_only other law (inl h) = ap (otherwise other f) h.1 ∙ law h.0 h.2
  otherwise_only other law (inr h) = ap (otherwise other f) h.0 ∙ ap Some (sym h.1)

  otherwise_at : (other : A) → ((t : Tree) → f t ≡ Some x → Is x t) → (o : Option Tree) → find n ps ≡ o → otherwise other f o ≡ Some x → AtOr other n ps Is x
  otherwise_at other law None p e = inr (p, sym (some_same other x e))
  otherwise_at other law (Some t) p e = inl (t, p, law t e)

  pub otherwise_found : (other : A) → ((t : Tree) → f t ≡ Some x → Is x t) → otherwise other f (find n ps) ≡ Some x → AtOr other n ps Is x
  otherwise_found other law e = otherwise_at other law (find n ps) refl e

module _ {A : Type 0} (f : Tree → Option A) (Is : A → Tree → Type 0) (n : List ℕ) (ps : Fields) where
  pub maybe_only : ((x : A) (t : Tree) → Is x t → f t ≡ Some x) → (o : Option A) → AtMaybe n ps Is o → maybe f (find n ps) ≡ Some o
  maybe_only law None h = ap (maybe f) h
  maybe_only law (Some x) h = ap (maybe f) h.1 ∙ ap (λ (o : Option A). o >>= λ y. Some (Some y)) (law x h.0 h.2)

  maybe_at : ((x : A) (t : Tree) → f t ≡ Some x → Is x t) → (o : Option A) (w : Option Tree) → find n ps ≡ w → maybe f w ≡ Some o → AtMaybe n ps Is o
  maybe_at law o None p e = subst (AtMaybe n ps Is) (some_same None o e) p
  maybe_at law o (Some t) p e = let b = bind_some (f t) (λ x. Some (Some x)) o e in subst (AtMaybe n ps Is) (some_same (Some b.0) o b.2) (t, p, law b.0 t b.1)

  pub maybe_found : ((x : A) (t : Tree) → f t ≡ Some x → Is x t) → (o : Option A) → maybe f (find n ps) ≡ Some o → AtMaybe n ps Is o
  maybe_found law o e = maybe_at law o (find n ps) refl e

-- ---- values

pub path_only : (p : Steps) (t : Tree) → IsPathValue p t → path_text t ≡ Some p
path_only p t h = ap (λ o. o >>= path_in) h.1 ∙ path_read h.0 p h.2.0 h.2.1

pub path_found : (p : Steps) (t : Tree) → path_text t ≡ Some p → IsPathValue p t
path_found p t e = let b = bind_some (as_text t) path_in p e in (b.0, b.1, path_is b.0 p b.2)

pub collection_only : (c : List ℕ) (t : Tree) → IsCollection c t → collection_value t ≡ Some c
collection_only c t h = ap (λ o. o >>= collection_name) h.0 ∙ only_if_so (is_collection_name c) (Some c) h.1

pub collection_found : (c : List ℕ) (t : Tree) → collection_value t ≡ Some c → IsCollection c t
collection_found c t e =
    let b = bind_some (as_text t) collection_name c e in
    let o = only_some (is_collection_name b.0) (Some b.0) c b.2 in
    let same = some_same b.0 c o.1 in
    (b.1 ∙ ap Some same, subst (λ s. is_collection_name s ≡ true) same o.0)

pub expr_only : (e : Node) (t : Tree) → Spells [] t e → expr_value t ≡ Some e
expr_only e t h = only e [] t h

pub expr_found : (e : Node) (t : Tree) → expr_value t ≡ Some e → Spells [] t e
expr_found e t h = spelled t [] e h

no_fields : (o : Option Fields) → has_none o ≡ true → o ≡ Some []
no_fields None e = absurd cc
no_fields (Some []) e = refl
no_fields (Some (p ∷ ps)) e = absurd cc

pub empty_found : (t : Tree) → is_empty_doc t ≡ true → as_fields t ≡ Some []
empty_found t e = no_fields (as_fields t) e

pub empty_only : (t : Tree) → as_fields t ≡ Some [] → is_empty_doc t ≡ true
empty_only t e = ap has_none e

pub one_found : (ps : Fields) (p : List ℕ × Tree) → one_field ps ≡ Some p → ps ≡ p ∷ []
one_found [] p e = absurd cc
one_found (q ∷ []) p e = ap (λ r. r ∷ []) (some_same q p e)
one_found (q ∷ r ∷ ps) p e = absurd cc

pub two_found : (ts : List Tree) (p : Tree × Tree) → two_items ts ≡ Some p → ts ≡ p.0 ∷ p.1 ∷ []
two_found [] p e = absurd cc
two_found (a ∷ []) p e = absurd cc
two_found (a ∷ b ∷ []) p e = ap (λ (r : Tree × Tree). r.0 ∷ r.1 ∷ []) (some_same (a, b) p e)
two_found (a ∷ b ∷ c ∷ ts) p e = absurd cc

-- ---- accumulators

count_is_none : kind_named (codes "$count") ≡ None
unfolding kind_named accumulators
count_is_none = refl

named_not : (x n : List ℕ) (k : AccKind) → kind_named x ≡ None → kind_named n ≡ Some k → ¬ (n ≡ x)
named_not x n k p q e = no_some (sym p ∙ ap kind_named (sym e) ∙ q)
  where
    no_some : None ≡ Some k → ⊥
    no_some h = absurd cc

pub accumulator_only : (n : List ℕ) (t : Tree) (k : AccKind) (e : Node) → IsAccumulator n t k e → accumulator n t ≡ Some (k, e)
accumulator_only n t k e (inl h) =
    rw (other_name n (codes "$count") (named_not (codes "$count") n k count_is_none h.0)) (ap (λ o. argument o t) h.0 ∙ ap (λ o. o >>= λ x. Some (k, x)) (expr_only e t h.1))
accumulator_only n t k e (inr h) = rw (equal_name n (codes "$count") h.0) (only_if_so (is_empty_doc t) (Some (Count, nothing)) (empty_only t h.1) ∙ (λ i. Some (sym h.2 i, sym h.3 i)))

argument_found : (o : Option AccKind) (t : Tree) (a : AccKind × Node) → argument o t ≡ Some a → (o ≡ Some a.0) × Spells [] t a.1
argument_found None t a e = absurd cc
argument_found (Some k) t a e =
    let b = bind_some (expr_value t) (λ x. Some (k, x)) a e in
    let same = some_same (k, b.0) a b.2 in
    (ap (λ (z : AccKind × Node). Some z.0) same, subst (Spells [] t) (ap (λ (z : AccKind × Node). z.1) same) (expr_found b.0 t b.1))

pub accumulator_found : (n : List ℕ) (t : Tree) (a : AccKind × Node) → accumulator n t ≡ Some a → IsAccumulator n t a.0 a.1
accumulator_found n t a e = elim (decided (bytes_eq n (codes "$count"))) [
  | inl c ↦
      let o = only_some (is_empty_doc t) (Some (Count, nothing)) a (rw c at e) in
      let same = some_same (Count, nothing) a o.1 in
      inr (same_name n (codes "$count") c, empty_found t o.0, sym (ap (λ (z : AccKind × Node). z.0) same), sym (ap (λ (z : AccKind × Node). z.1) same))
  | inr c ↦ inl (argument_found (kind_named n) t a (rw c at e))
]

-- a word that names no accumulator
pub not_accumulator : (x n : List ℕ) (t : Tree) (k : AccKind) (e : Node) → kind_named x ≡ None → bytes_eq x (codes "$count") ≡ false → IsAccumulator n t k e → ¬ (n ≡ x)
not_accumulator x n t k e p q (inl h) = named_not x n k p h.0
not_accumulator x n t k e p q (inr h) = λ s. unlike (bytes_eq x (codes "$count")) (equal_name x (codes "$count") (sym s ∙ h.0)) q
