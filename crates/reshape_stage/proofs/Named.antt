-- Fields that stay by their names, and the field that comes first.
use Rattle.std.proofs.Common.{◌≡◌, ℕ, zero, suc, ◌<◌, Bool, true, false, cond, List, [], ◌∷◌, ◌++◌, map, length, refl, sym, ap, ◌∙◌, arith, append_assoc, append-nil, subst}
use Rattle.std.specs.Prelude.{Option, Some, None, ◌||◌, slice_get, slice_set}
use Rattle.std.specs.List.{list_any, remove}
use Rattle.std.specs.Option.{option_map, option_map_or}
use Rattle.std.specs.Str.{bytes_eq}
use Rattle.std.proofs.lemmas.Slice.Eq.{bytes_eq-Decides}
use Rattle.bson_value.specs.Tree.{Tree, Pairs, no_pairs, pair, pairs_of, entries}
use Rattle.bson_value.specs.Pairs.{find, put, without, with_value, IsAt}
use Rattle.bson_value.specs.Proper.{IsDoc}
use Rattle.bson_value.specs.Paths.{Steps, behind, rest_behind, kept, is_end, whole_or, field_before, keep, keep_pairs, keep_part}
use Rattle.doc_path.proofs.Keeping.{AreApart, apart_doc, apart_changed}
use Rattle.stage_tree.specs.Rows.{steps_of}
use Rattle.reshape_stage.specs.Seen.{kept_if}

abbrev pub is_named : List (List ℕ) → List ℕ → Bool
is_named ns m = list_any (λ n. bytes_eq n m) ns

-- the fields of these names
abbrev pub named : List (List ℕ) → List (List ℕ × Tree) → List (List ℕ × Tree)
named ns [] = []
named ns (p ∷ ps) = cond (is_named ns p.0) (p ∷ named ns ps) (named ns ps)

-- paths of one step lead to a field, or none does
ends_or_none : (b : Bool) (rs : List Steps) (named : Bool) (t : Tree) (part : Option Tree) →
    ((part' : Option Tree) → whole_or rs t part' ≡ cond named (Some t) None) → whole_or (kept (cond b (Some []) None) rs) t part ≡ cond (b || named) (Some t) None
ends_or_none true rs named t part h = refl
ends_or_none false rs named t part h = h part

whole_named : (ns : List (List ℕ)) (m : List ℕ) (t : Tree) (part : Option Tree) → whole_or (behind m (steps_of ns)) t part ≡ cond (is_named ns m) (Some t) None
whole_named [] m t part = refl
whole_named (n ∷ ns) m t part = ends_or_none (bytes_eq n m) (behind m (steps_of ns)) (is_named ns m) t part (whole_named ns m t)

field_named : (b : Bool) (p : List ℕ × Tree) (qs : Pairs) → entries (field_before p.0 (cond b (Some p.1) None) qs) ≡ cond b (p ∷ entries qs) (entries qs)
field_named true p qs = refl
field_named false p qs = refl

pub keep_is_named : (ns : List (List ℕ)) (ps : List (List ℕ × Tree)) → keep (steps_of ns) ps ≡ named ns ps
keep_is_named ns [] = refl
keep_is_named ns (p ∷ ps) =
    ap (λ (o : Option Tree). entries (field_before p.0 o (keep_pairs (steps_of ns) (pairs_of ps)))) (whole_named ns p.0 p.1 (keep_part (behind p.0 (steps_of ns)) p.1))
    ∙ field_named (is_named ns p.0) p (keep_pairs (steps_of ns) (pairs_of ps))
    ∙ ap (λ (qs : List (List ℕ × Tree)). cond (is_named ns p.0) (p ∷ qs) qs) (keep_is_named ns ps)

-- ---- a name is there once

gone_here : (k : List ℕ) (p : List ℕ × Tree) (ps : List (List ℕ × Tree)) (b : Bool) → bytes_eq p.0 k ≡ b → find p.0 ps ≡ None → find k (without k ps) ≡ None → find k (cond b ps (p ∷ without k ps)) ≡ None
gone_here k p ps true e h rest = ap (λ (n : List ℕ). find n ps) (sym ((bytes_eq-Decides p.0 k).0 e)) ∙ h
gone_here k p ps false e h rest = rw e rest

pub find_apart : (k : List ℕ) (ps : List (List ℕ × Tree)) → AreApart ps → find k (without k ps) ≡ None
find_apart k [] h = refl
find_apart k (p ∷ ps) h = gone_here k p ps (bytes_eq p.0 k) refl h.0 (find_apart k ps h.1)

pub find_gone : (k : List ℕ) (ps : List (List ℕ × Tree)) → IsDoc ps → find k (without k ps) ≡ None
find_gone k ps h = find_apart k ps (apart_doc ps h)

-- ---- the first field

first_name : (k : List ℕ) (p : List ℕ × Tree) (ps : List (List ℕ × Tree)) → IsAt k (p ∷ ps) 0 → (k, p.1) ∷ ps ≡ p ∷ ps
first_name k p ps at = sym (at.puts p.1) ∙ at.stays p.1

pub first_stays : (k : List ℕ) (ps : List (List ℕ × Tree)) → IsAt k ps 0 → ps ≡ option_map_or (λ v. (k, v) ∷ without k ps) (find k ps) ps
first_stays k [] at = absurd (omega (arith, at.within))
first_stays k (p ∷ ps) at =
    sym (first_name k p ps at) ∙ sym (ap (λ (o : Option Tree). option_map_or (λ v. (k, v) ∷ without k (p ∷ ps)) o (p ∷ ps)) at.found ∙ ap (λ (qs : List (List ℕ × Tree)). (k, p.1) ∷ qs) at.drops)

none_first : (k : List ℕ) (p : List ℕ × Tree) (ps : List (List ℕ × Tree)) (b : Bool) → cond b (Some p.1) (find k ps) ≡ None → (find k ps ≡ None → without k ps ≡ ps) → cond b ps (p ∷ without k ps) ≡ p ∷ ps
none_first k p ps true h rest = absurd cc
none_first k p ps false h rest = ap (λ (l : List (List ℕ × Tree)). p ∷ l) (rest h)

without_none : (k : List ℕ) (ps : List (List ℕ × Tree)) → find k ps ≡ None → without k ps ≡ ps
without_none k [] h = refl
without_none k (p ∷ ps) h = none_first k p ps (bytes_eq p.0 k) h (without_none k ps)

pub none_stays : (k : List ℕ) (ps new : List (List ℕ × Tree)) → None ≡ find k ps → new ≡ without k ps → new ≡ option_map_or (λ v. (k, v) ∷ without k ps) (find k ps) ps
none_stays k ps new h e = e ∙ without_none k ps (sym h) ∙ ap (λ (o : Option Tree). option_map_or (λ v. (k, v) ∷ without k ps) o ps) h

-- ---- loops over the fields of a document

pub begun_named : (ns : List (List ℕ)) (d k f : List (List ℕ × Tree)) → k ≡ [] → f ≡ d → named ns d ≡ k ++ named ns f
begun_named ns d k f e h = rw (e, h) refl

one_named : (b : Bool) (n : List ℕ) (t : Tree) (rest : List (List ℕ × Tree)) → cond b ((n, t) ∷ rest) rest ≡ entries (field_before n (kept_if b t) no_pairs) ++ rest
one_named true n t rest = refl
one_named false n t rest = refl

pub turn_named : (ns : List (List ℕ)) (whole kept fields : List (List ℕ × Tree)) (n : List ℕ) (t : Tree) (b : Bool) (rest new : List (List ℕ × Tree)) →
    whole ≡ kept ++ named ns fields → fields ≡ (n, t) ∷ rest → b ≡ is_named ns n → new ≡ kept ++ entries (field_before n (kept_if b t) no_pairs) → whole ≡ new ++ named ns rest
turn_named ns whole kept fields n t b rest new inv e is made =
    inv ∙ ap (λ (l : List (List ℕ × Tree)). kept ++ named ns l) e
    ∙ ap (λ (c : Bool). kept ++ cond c ((n, t) ∷ named ns rest) (named ns rest)) (sym is)
    ∙ ap (λ (l : List (List ℕ × Tree)). kept ++ l) (one_named b n t (named ns rest))
    ∙ sym (append_assoc kept (entries (field_before n (kept_if b t) no_pairs)) (named ns rest))
    ∙ ap (λ (l : List (List ℕ × Tree)). l ++ named ns rest) (sym made)

pub turn_moved : (whole doc fields : List (List ℕ × Tree)) (n : List ℕ) (t : Tree) (rest new : List (List ℕ × Tree)) → whole ≡ doc ++ fields → fields ≡ (n, t) ∷ rest → new ≡ doc ++ (n, t) ∷ [] → whole ≡ new ++ rest
turn_moved whole doc fields n t rest new inv e made = rw made (inv ∙ ap (λ (l : List (List ℕ × Tree)). doc ++ l) e ∙ sym (append_assoc doc ((n, t) ∷ []) rest))

pub moved_apart : (doc fields : List (List ℕ × Tree)) (n : List ℕ) (t : Tree) (rest new : List (List ℕ × Tree)) → AreApart (doc ++ fields) → fields ≡ (n, t) ∷ rest → new ≡ doc ++ (n, t) ∷ [] → AreApart (new ++ rest)
moved_apart doc fields n t rest new h e made = rw made (apart_changed doc n t t rest (subst (λ (l : List (List ℕ × Tree)). AreApart (doc ++ l)) e h))

module _ (n : List ℕ) (t : Tree) (rest : List (List ℕ × Tree)) (m : List ℕ) (none doc fields : List (List ℕ × Tree)) (e : m ≡ n) (empty : none ≡ []) (made : doc ≡ none ++ (m, t) ∷ []) (is : fields ≡ rest) where
  pub front_whole : (n, t) ∷ rest ≡ doc ++ fields
  front_whole = rw (made, empty, is, e) refl

  pub front_apart : find n rest ≡ None → IsDoc rest → AreApart (doc ++ fields)
  front_apart h d = subst AreApart front_whole (h, apart_doc rest d)
