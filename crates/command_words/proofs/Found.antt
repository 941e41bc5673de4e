-- What a parse finds is what the words give.
use Rattle.std.proofs.Common.{◌≡◌, ◌∙◌, Bool, cond, true, false, not, ◌&&◌, ◌||◌, refl, sym, ap, ap₂, subst, List, [], ◌∷◌, ◌++◌, Option, Some, None, codes, fold, take, drop, true≢false, append_assoc, Result, Ok, Err, IfOk, IfErr, ⊎_elim}
use Rattle.std.specs.Prelude.{unwrap_or}
use Rattle.std.specs.List.{list_all}
use Rattle.std.specs.Option.{option_map_or}
use Rattle.std.specs.Str.{bytes_eq}
use Rattle.std.proofs.lemmas.Slice.Eq.{bytes_eq-Decides}
use Rattle.clap.specs.Kinds.{Kinds, FailsBy, HasKind}
use Rattle.clap.specs.Values.{kind_of}
use Rattle.clap.specs.Matches.{found_of}
use Rattle.clap.specs.Walk.{Row, Rule, Text, all_of, first_of, has_row, rows_of, with_default}
use Rattle.clap.specs.declared.error.Error.{Error}
use Rattle.clap.specs.declared.error.kind.ErrorKind.TheVariants.{OutOfMemory}
use Rattle.clap.specs.declared.parser.matches.ArgMatches.{ArgMatches}
use Rattle.clap.specs.declared.parser.matches.ValueSource.TheVariants.{DefaultValue}
use Rattle.command_words.specs.App.{Holds, faults_of, flag_text, rows_for}
use Rattle.command_words.specs.Given.{Given, Piece, given, given_by, has, is_word, kind_of as word_kind, once, pieces, place, places, value}
use Rattle.command_words.proofs.Walked.{is_nil}
use Rattle.command_words.proofs.Parsed.{all_fit, c, faults_read, passes, put_all, put_one, rows_read}
use Rattle.command_words.proofs.Rows.{all_last, first_joined, first_last, row_with, with_new}
use Rattle.command_words.proofs.Uses.{AllUses, AreUses, IsUse, no_first, pieces_use, shown}

-- ---- pieces fit just where none comes twice

bytes_sym : (x y : Text) (a b : Bool) → bytes_eq x y ≡ a → bytes_eq y x ≡ b → a ≡ b
bytes_sym x y true true e f = refl
bytes_sym x y false false e f = refl
bytes_sym x y true false e f = sym ((bytes_eq-Decides y x).1 (sym ((bytes_eq-Decides x y).0 e))) ∙ f
bytes_sym x y false true e f = sym e ∙ (bytes_eq-Decides x y).1 (sym ((bytes_eq-Decides y x).0 f))

and_swap : (x y z : Bool) → (x && (y && z)) ≡ (y && (x && z))
and_swap true true z = refl
and_swap true false z = refl
and_swap false true z = refl
and_swap false false z = refl

step : (a b e r h f : Bool) → (e ≡ true → a ≡ b) → ((b || not (e || r)) && ((a || not h) && f)) ≡ ((a || not (e || h)) && ((b || not r) && f))
step true true true r h f same = refl
step false false true r h f same = refl
step true false true r h f same = absurd (true≢false (same refl))
step false true true r h f same = absurd (true≢false (sym (same refl)))
step a b false r h f same = and_swap (b || not r) (a || not h) f

-- no piece but a positional word has a row
abbrev fresh : List Row → List Piece → Bool
fresh rows [] = true
fresh rows (p ∷ ps) = (bytes_eq p.0 place || not (has_row p.0 rows)) && fresh rows ps

end_true : (b : Bool) → true ≡ ((b || true) && true)
end_true true = refl
end_true false = refl

fresh_put : (rows : List Row) (p : Piece) → IsUse p → passes p rows ≡ true → (ps : List Piece) → fresh (put_one rows p) ps ≡ ((bytes_eq p.0 place || not (has p.0 ps)) && fresh rows ps)
fresh_put rows p u ok [] = end_true (bytes_eq p.0 place)
fresh_put rows p u ok (q ∷ qs) =
    ap₂ (λ x y. (bytes_eq q.0 place || not x) && y) (u.adds rows ok q.0) (fresh_put rows p u ok qs)
    ∙ step (bytes_eq p.0 place) (bytes_eq q.0 place) (bytes_eq p.0 q.0) (has_row q.0 rows) (has p.0 qs) (fresh rows qs) (λ e. ap (λ n. bytes_eq n place) ((bytes_eq-Decides p.0 q.0).0 e))
    ∙ ap (λ e. (bytes_eq p.0 place || not (e || has p.0 qs)) && ((bytes_eq q.0 place || not (has_row q.0 rows)) && fresh rows qs)) (bytes_sym p.0 q.0 _ _ refl refl)

and_false : (b : Bool) → (b && false) ≡ false
and_false true = refl
and_false false = refl

arranged : (o x f : Bool) → (o && (x && f)) ≡ ((x && o) && f)
arranged true true f = refl
arranged true false f = refl
arranged false true f = refl
arranged false false f = refl

fit_is : (ps : List Piece) → AllUses ps → (rows : List Row) → all_fit rows ps ≡ (once ps && fresh rows ps)
fit_is [] all rows = refl
fit_is (p ∷ ps) all rows = go (passes p rows) refl (fit_is ps all.1 (put_one rows p))
  where
    go : (b : Bool) → passes p rows ≡ b → all_fit (put_one rows p) ps ≡ (once ps && fresh (put_one rows p) ps)
        → (passes p rows && all_fit (put_one rows p) ps) ≡ (((bytes_eq p.0 place || not (has p.0 ps)) && once ps) && ((bytes_eq p.0 place || not (has_row p.0 rows)) && fresh rows ps))
    go true e ih =
        ap (λ b. b && all_fit (put_one rows p) ps) e ∙ ih ∙ ap (λ f. once ps && f) (fresh_put rows p all.0 e ps)
        ∙ arranged (once ps) (bytes_eq p.0 place || not (has p.0 ps)) (fresh rows ps)
        ∙ ap (λ b. ((bytes_eq p.0 place || not (has p.0 ps)) && once ps) && (b && fresh rows ps)) (sym e ∙ all.0.fits rows)
    go false e ih =
        ap (λ b. b && all_fit (put_one rows p) ps) e
        ∙ sym (ap (λ b. ((bytes_eq p.0 place || not (has p.0 ps)) && once ps) && (b && fresh rows ps)) (sym (all.0.fits rows) ∙ e) ∙ and_false _)

none_yet : (ps : List Piece) → fresh [] ps ≡ true
none_yet [] = refl
none_yet (p ∷ ps) = ap₂ (λ a b. a && b) (or_true (bytes_eq p.0 place)) (none_yet ps)
  where
    or_true : (b : Bool) → (b || true) ≡ true
    or_true true = refl
    or_true false = refl

and_true : (b : Bool) → (b && true) ≡ b
and_true true = refl
and_true false = refl

fit_once : (ps : List Piece) → AllUses ps → all_fit [] ps ≡ once ps
fit_once ps all = fit_is ps all [] ∙ ap (λ b. once ps && b) (none_yet ps) ∙ and_true (once ps)

-- ---- the rows that pieces leave

abbrev shown_in : Text → List Piece → Option Text
shown_in n [] = None
shown_in n (p ∷ ps) = cond (bytes_eq p.0 n) (shown p) (shown_in n ps)

left : (a b : Bool) → (a && b) ≡ true → a ≡ true
left true b e = refl
left false b e = e

right : (a b : Bool) → (a && b) ≡ true → b ≡ true
right true b e = e
right false b e = absurd (true≢false (sym e))

joins : (r e : Bool) (f s x : Option Text) → cond (e || r) (cond r f (cond e s None)) x ≡ cond r f (cond e s x)
joins true true f s x = refl
joins true false f s x = refl
joins false true f s x = refl
joins false false f s x = refl

at_end : (n : Text) (rows : List Row) → first_of n rows ≡ cond (has_row n rows) (first_of n rows) None
at_end n rows = go (has_row n rows) refl
  where
    go : (b : Bool) → has_row n rows ≡ b → first_of n rows ≡ cond (has_row n rows) (first_of n rows) None
    go true e = rw e refl
    go false e = rw e (no_first n rows e)

first_after : (n : Text) → bytes_eq place n ≡ false → (ps : List Piece) → AllUses ps → (rows : List Row) → all_fit rows ps ≡ true
    → first_of n (put_all rows ps) ≡ cond (has_row n rows) (first_of n rows) (shown_in n ps)
first_after n free [] all rows ok = at_end n rows
first_after n free (p ∷ ps) all rows ok =
    let now : passes p rows ≡ true = left (passes p rows) _ ok in
    first_after n free ps all.1 (put_one rows p) (right (passes p rows) _ ok)
    ∙ ap₂ (λ b o. cond b o (shown_in n ps)) (all.0.adds rows now n) (all.0.firsts rows now n free)
    ∙ joins (has_row n rows) (bytes_eq p.0 n) (first_of n rows) (shown p) (shown_in n ps)

or_shift : (e r h : Bool) → ((e || r) || h) ≡ (r || (e || h))
or_shift true true h = refl
or_shift true false h = refl
or_shift false true h = refl
or_shift false false h = refl

or_end : (b : Bool) → b ≡ (b || false)
or_end true = refl
or_end false = refl

has_after : (n : Text) (ps : List Piece) → AllUses ps → (rows : List Row) → all_fit rows ps ≡ true → has_row n (put_all rows ps) ≡ (has_row n rows || has n ps)
has_after n [] all rows ok = or_end (has_row n rows)
has_after n (p ∷ ps) all rows ok =
    let now : passes p rows ≡ true = left (passes p rows) _ ok in
    has_after n ps all.1 (put_one rows p) (right (passes p rows) _ ok) ∙ ap (λ b. b || has n ps) (all.0.adds rows now n)
    ∙ or_shift (bytes_eq p.0 n) (has_row n rows) (has n ps)

abbrev all_in : List Row → List Text
all_in rows = unwrap_or (all_of place rows) []

join_places : (a : Bool) (o : Option (List Text)) (vs ps : List Text) → unwrap_or (cond a (Some (unwrap_or o [] ++ vs)) o) [] ++ ps ≡ unwrap_or o [] ++ cond a (vs ++ ps) ps
join_places true o vs ps = append_assoc (unwrap_or o []) vs ps
join_places false o vs ps = refl

nil_end : (xs : List Text) → xs ≡ xs ++ []
nil_end [] = refl
nil_end (x ∷ xs) = ap (λ ys. x ∷ ys) (nil_end xs)

places_after : (ps : List Piece) → AllUses ps → (rows : List Row) → all_fit rows ps ≡ true → all_in (put_all rows ps) ≡ all_in rows ++ places ps
places_after [] all rows ok = nil_end (all_in rows)
places_after (p ∷ ps) all rows ok =
    let now : passes p rows ≡ true = left (passes p rows) _ ok in
    places_after ps all.1 (put_one rows p) (right (passes p rows) _ ok) ∙ ap (λ o. unwrap_or o [] ++ places ps) (all.0.alls rows now)
    ∙ join_places (bytes_eq p.0 place) (all_of place rows) p.1 (places ps)

-- ---- defaults: that of the flag alone

idle_default : (a : Rule) → a.defaults ≡ [] → (rows : List Row) → with_default rows a ≡ rows
idle_default a none rows = rw none (go (has_row a.id rows))
  where
    go : (b : Bool) → cond b rows rows ≡ rows
    go true = refl
    go false = refl

AreIdle : List Rule → Type 0
AreIdle [] = Unit {0}
AreIdle (a ∷ more) = (a.defaults ≡ []) × AreIdle more

fold_idle : (rules rest : List Rule) → AreIdle rules → (rows : List Row) → fold with_default rows (rules ++ rest) ≡ fold with_default rows rest
unfolding AreIdle
fold_idle [] rest idle rows = refl
fold_idle (a ∷ more) rest idle rows = ap (λ rs. fold with_default rs (more ++ rest)) (idle_default a idle.0 rows) ∙ fold_idle more rest idle.1 rows

abbrev defaulted : List Row → List Row
defaulted rows = fold with_default rows (drop 5 c)

defaults_are : (rows : List Row) → fold with_default rows c ≡ defaulted rows
unfolding AreIdle
defaults_are rows = fold_idle (take 5 c) (drop 5 c) (refl, (refl, (refl, (refl, (refl, tt))))) rows

first_defaulted : (n : Text) (rows : List Row) → bytes_eq (codes "stats") n ≡ false → first_of n (defaulted rows) ≡ first_of n rows
first_defaulted n rows other = go (has_row (codes "stats") rows) refl
  where
    go : (b : Bool) → has_row (codes "stats") rows ≡ b → first_of n (defaulted rows) ≡ first_of n rows
    go true e = rw e refl
    go false e = rw e (first_joined (codes "stats") _ DefaultValue (codes "false" ∷ []) rows n other)

all_defaulted : (rows : List Row) → all_of place (defaulted rows) ≡ all_of place rows
all_defaulted rows = go (has_row (codes "stats") rows) refl
  where
    go : (b : Bool) → has_row (codes "stats") rows ≡ b → all_of place (defaulted rows) ≡ all_of place rows
    go true e = rw e refl
    go false e = rw e (ap (all_of place) (with_new (codes "stats") _ DefaultValue (codes "false" ∷ []) rows e) ∙ all_last place rows (row_with (codes "stats") _ DefaultValue (codes "false" ∷ [])) refl)

flag_defaulted : (rows : List Row) → first_of (codes "stats") (defaulted rows) ≡ cond (has_row (codes "stats") rows) (first_of (codes "stats") rows) (Some (codes "false"))
flag_defaulted rows = go (has_row (codes "stats") rows) refl
  where
    go : (b : Bool) → has_row (codes "stats") rows ≡ b → first_of (codes "stats") (defaulted rows) ≡ cond (has_row (codes "stats") rows) (first_of (codes "stats") rows) (Some (codes "false"))
    go true e = rw e refl
    go false e = rw e (ap (first_of (codes "stats")) (with_new (codes "stats") _ DefaultValue (codes "false" ∷ []) rows e)
        ∙ first_last (codes "stats") rows (row_with (codes "stats") _ DefaultValue (codes "false" ∷ [])) ∙ rw e refl)

-- ---- the getters

shown_option : (n : Text) → bytes_eq n (codes "stats") ≡ false → (ps : List Piece) → shown_in n ps ≡ value n ps
shown_option n other [] = refl
shown_option n other (p ∷ ps) = go (bytes_eq p.0 n) refl (shown_option n other ps)
  where
    go : (b : Bool) → bytes_eq p.0 n ≡ b → shown_in n ps ≡ value n ps → shown_in n (p ∷ ps) ≡ value n (p ∷ ps)
    go true e ih =
        let plain : bytes_eq p.0 (codes "stats") ≡ false = subst (λ (m : Text). bytes_eq m (codes "stats") ≡ false) (sym ((bytes_eq-Decides p.0 n).0 e)) other in
        rw (e, plain) refl
    go false e ih = rw e ih

shown_flag : (ps : List Piece) → shown_in (codes "stats") ps ≡ cond (has (codes "stats") ps) (Some (codes "true")) None
shown_flag [] = refl
shown_flag (p ∷ ps) = go (bytes_eq p.0 (codes "stats")) refl (shown_flag ps)
  where
    go : (b : Bool) → bytes_eq p.0 (codes "stats") ≡ b → shown_in (codes "stats") ps ≡ cond (has (codes "stats") ps) (Some (codes "true")) None
        → shown_in (codes "stats") (p ∷ ps) ≡ cond (has (codes "stats") (p ∷ ps)) (Some (codes "true")) None
    go true e ih = rw e refl
    go false e ih = rw e ih

flag_shows : (b : Bool) → cond b (cond b (Some (codes "true")) None) (Some (codes "false")) ≡ Some (flag_text b)
flag_shows true = refl
flag_shows false = refl

module _ (ps : List Piece) (all : AllUses ps) (ok : all_fit [] ps ≡ true) where
  option_holds : (n : Text) → bytes_eq place n ≡ false → bytes_eq (codes "stats") n ≡ false → bytes_eq n (codes "stats") ≡ false → first_of n (defaulted (put_all [] ps)) ≡ value n ps
  option_holds n free other plain = first_defaulted n (put_all [] ps) other ∙ first_after n free ps all [] ok ∙ shown_option n plain ps

  flag_holds : first_of (codes "stats") (defaulted (put_all [] ps)) ≡ Some (flag_text (has (codes "stats") ps))
  flag_holds =
      flag_defaulted (put_all [] ps)
      ∙ ap₂ (λ b o. cond b o (Some (codes "false"))) (has_after (codes "stats") ps all [] ok) (first_after (codes "stats") refl ps all [] ok ∙ shown_flag ps)
      ∙ flag_shows (has (codes "stats") ps)

  holds : Holds (defaulted (put_all [] ps)) (given_by ps)
  holds = record {
    places = ap (λ o. unwrap_or o []) (all_defaulted (put_all [] ps)) ∙ places_after ps all [] ok;
    budget = option_holds (codes "budget") refl refl refl;
    batch = option_holds (codes "batch") refl refl refl;
    cache = option_holds (codes "cache") refl refl refl;
    arrival = option_holds (codes "arrival") refl refl refl;
    stats = flag_holds;
  }

-- ---- the two clauses

module _ (ws : List Text) (good : list_all is_word ws ≡ true) where
  gives : (ps : List Piece) → pieces word_kind place ws None ≡ Some ps → once ps ≡ true → given ws ≡ Some (given_by ps)
  gives ps e o = rw (good, e, o) refl

  gives_none : (o : Option (List Piece)) → pieces word_kind place ws None ≡ o → AreUses o → option_map_or (all_fit []) o false ≡ false → given ws ≡ None
  gives_none None e all fails = rw (good, e) refl
  gives_none (Some ps) e all fails = let twice : once ps ≡ false = sym (fit_once ps all) ∙ fails in rw (good, e, twice) refl

  finds : (rows : List Row) → rows ≡ rows_for ws → (o : Option (List Piece)) → pieces word_kind place ws None ≡ o → AreUses o → option_map_or (all_fit []) o false ≡ true → (g : Given) × (given ws ≡ Some g) × Holds rows g
  finds rows at None e all ok = absurd (true≢false (sym ok))
  finds rows at (Some ps) e all ok = (
    given_by ps,
    gives ps e (sym (fit_once ps all) ∙ ok),
    subst (λ rs. Holds rs (given_by ps)) (sym (at ∙ rows_read ws ps good e ∙ defaults_are (put_all [] ps))) (holds ps all ok),
  )

  refusal : (e : Error) (ks : Kinds) → HasKind ks e → (kind_of e ≡ OutOfMemory → ⊥) → is_nil ks ≡ false
  refusal e [] h other = absurd (⊎_elim other (λ none. none) h)
  refusal e (k ∷ ks) h other = refl

  pub found_by : (r : Result ArgMatches Error) → FailsBy (faults_of ws) r → IfOk r (λ m. rows_of (found_of m) ≡ rows_for ws)
      → IfOk r (λ m. (g : Given) × (given ws ≡ Some g) × Holds (rows_of (found_of m)) g)
  found_by (Ok m) h rows =
      finds (rows_of (found_of m)) rows _ refl (pieces_use ws None tt) (sym (faults_read ws good) ∙ ap is_nil h)
  found_by (Err e) h rows = tt

  pub refused_by : (r : Result ArgMatches Error) → FailsBy (faults_of ws) r → IfErr r (λ e. (kind_of e ≡ OutOfMemory → ⊥) → given ws ≡ None)
  refused_by (Ok m) h = tt
  refused_by (Err e) h = λ other. gives_none _ refl (pieces_use ws None tt) (sym (faults_read ws good) ∙ refusal e (faults_of ws) h other)
