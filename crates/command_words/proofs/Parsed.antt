-- A parse of the program's command finds no fault just where the words have pieces that fit, and finds what these put.
use Rattle.std.proofs.Common.{◌≡◌, ◌∙◌, ℕ, Bool, cond, true, false, not, ◌&&◌, ◌||◌, ◌==◌, refl, sym, ap, subst, List, [], ◌∷◌, Option, Some, None, is_some, codes, fold, ◌⊎◌, inl, inr, true≢false, option_and_then}
use Rattle.std.specs.List.{list_all}
use Rattle.std.specs.Option.{option_map_or}
use Rattle.std.specs.Str.{bytes_eq}
use Rattle.std.proofs.lemmas.Slice.Eq.{bytes_eq-Decides}
use Rattle.clap.specs.Lexer.{long_of, long_of_rest, strip_byte}
use Rattle.clap.specs.Words.{App, is_simple, matches_of}
use Rattle.clap.specs.Simple.{Shape, built, entered, filled, with_index}
use Rattle.clap.specs.Walk.{Held, Rule, Row, Text, nothing_held, finished, idle, walk, walk_from, walked, with_default}
use Rattle.clap.specs.Faults.{check_fault, defaults_fault, entered_fault, fault_of, given_default_fault, is_simple_and_free, level_fault, settle_fault, walk_fault}
use Rattle.clap.specs.Kinds.{Kinds, or_else}
use Rattle.command_words.specs.App.{the_app, faults_of, rows_for, place_rule, option_rule, flag_rule}
use Rattle.command_words.specs.Given.{Kind, Piece, after_hyphen, name_and_value, long_name, is_word, unknown, flag, option, kind_of, pieces, place}
use Rattle.command_words.proofs.Walked.{AllWords, IsPlainWord, IsLongWord, Knows, Leaves, both_from, end_of, ends_from, fits, is_nil, pass, put, puts, rest_is}

abbrev pub the_built : Shape
the_built = (built the_app).top

abbrev pub c : List Rule
c = the_built.rules

abbrev pub the_place : Rule
the_place = with_index 1 (filled place_rule)

-- ---- the names that the command knows

abbrev pub KnowsName : Text → Kind → Type 0
KnowsName = Knows the_built the_place refl refl refl refl refl

valued : (id : Text) → KnowsName id option → (name : Text) → bytes_eq id name ≡ true → KnowsName name option
valued id h name e = subst (λ (n : Text). KnowsName n option) ((bytes_eq-Decides id name).0 e) h

abbrev kind_by : Bool → Bool → Bool → Bool → Bool → Kind
kind_by a b d e f = cond a option (cond b option (cond d option (cond e option (cond f flag unknown))))

budget_known : KnowsName (codes "budget") option
budget_known = (filled (option_rule (codes "budget")), refl, (refl, refl, refl), refl, refl, refl)

batch_known : KnowsName (codes "batch") option
batch_known = (filled (option_rule (codes "batch")), refl, (refl, refl, refl), refl, refl, refl)

cache_known : KnowsName (codes "cache") option
cache_known = (filled (option_rule (codes "cache")), refl, (refl, refl, refl), refl, refl, refl)

arrival_known : KnowsName (codes "arrival") option
arrival_known = (filled (option_rule (codes "arrival")), refl, (refl, refl, refl), refl, refl, refl)

stats_known : KnowsName (codes "stats") flag
stats_known = (filled (flag_rule (codes "stats")), refl, (refl, refl, refl), refl)

knows_by : (name : Text) (a b d e f : Bool) → bytes_eq (codes "budget") name ≡ a → bytes_eq (codes "batch") name ≡ b → bytes_eq (codes "cache") name ≡ d
    → bytes_eq (codes "arrival") name ≡ e → bytes_eq (codes "stats") name ≡ f → KnowsName name (kind_by a b d e f)
knows_by name true b d e f pa pb pd pe pf = valued _ budget_known name pa
knows_by name false true d e f pa pb pd pe pf = valued _ batch_known name pb
knows_by name false false true e f pa pb pd pe pf = valued _ cache_known name pd
knows_by name false false false true f pa pb pd pe pf = valued _ arrival_known name pe
knows_by name false false false false true pa pb pd pe pf = subst (λ (n : Text). KnowsName n flag) ((bytes_eq-Decides (codes "stats") name).0 pf) stats_known
knows_by name false false false false false pa pb pd pe pf = rw (pa, pb, pd, pe, pf) refl

pub knows : (name : Text) → KnowsName name (kind_of name)
knows name = knows_by name _ _ _ _ _ refl refl refl refl refl

-- ---- faults after the walk, of which there are none

or_else_end : (a : Kinds) → or_else a [] ≡ a
or_else_end [] = refl
or_else_end (k ∷ ks) = refl

chain : (W B S D K : Kinds) → B ≡ [] → D ≡ [] → K ≡ [] → or_else W (or_else B (or_else S (or_else D K))) ≡ or_else W S
chain W B S D K b d k = rw (b, d, k, or_else_end S) refl

level_is : (s : Shape) (h : Held) (ws : List Text) (below : Kinds) → below ≡ [] → ((rows : List Row) → defaults_fault rows s.rules ≡ []) → ((rows : List Row) → check_fault s rows false ≡ [])
    → level_fault s [] h ws false below ≡ or_else (walk_fault s [] (walk_from h) ws) (settle_fault s.rules s.args_override_self (fold (walked s.rules []) (walk_from h) ws).held)
level_is s h ws below b d k = chain _ _ _ _ _ b (d _) (k (finished s.rules (walk s.rules [] h ws).held))

HasNoDefaultFault : List Rule → Type 0
HasNoDefaultFault [] = Unit {0}
HasNoDefaultFault (a ∷ rest) = (given_default_fault a a.defaults ≡ []) × HasNoDefaultFault rest

picks : (b : Bool) (x : Kinds) → x ≡ [] → cond b [] x ≡ []
picks true x e = refl
picks false x e = e

no_defaults : (rules : List Rule) → HasNoDefaultFault rules → (rows : List Row) → defaults_fault rows rules ≡ []
unfolding defaults_fault HasNoDefaultFault
no_defaults [] h rows = refl
no_defaults (a ∷ rest) h rows = ap (λ k. or_else k (defaults_fault (with_default rows a) rest)) (picks _ _ h.0) ∙ no_defaults rest h.1 (with_default rows a)

no_entry : (stop : Option (Text × List Text)) → is_some (entered (built the_app) stop) ≡ false
no_entry None = refl
no_entry (Some p) = refl

no_entry_fault : (stop : Option (Text × List Text)) → entered_fault (built the_app) stop ≡ []
no_entry_fault None = refl
no_entry_fault (Some p) = refl

the_defaults : HasNoDefaultFault c
unfolding HasNoDefaultFault
the_defaults = (refl, (refl, (refl, (refl, (refl, (refl, tt))))))

by_level : (ws : List Text) (stop : Option (Text × List Text))
    → level_fault the_built [] nothing_held ws (is_some (entered (built the_app) stop)) (entered_fault (built the_app) stop)
    ≡ or_else (walk_fault the_built [] (walk_from nothing_held) ws) (settle_fault c false (fold (walked c []) (walk_from nothing_held) ws).held)
by_level ws stop =
    ap (λ b. level_fault the_built [] nothing_held ws b (entered_fault (built the_app) stop)) (no_entry stop)
    ∙ level_is the_built nothing_held ws (entered_fault (built the_app) stop) (no_entry_fault stop) (no_defaults c the_defaults) (λ rows. refl)

-- ---- words

and_then_same : {A B : Type 0} (f g : A → Option B) → ((x : A) → f x ≡ g x) → (o : Option A) → option_and_then f o ≡ option_and_then g o
and_then_same f g h None = refl
and_then_same f g h (Some x) = h x

hyphen_is : (w : Text) → after_hyphen w ≡ strip_byte 45 w
hyphen_is [] = refl
hyphen_is (x ∷ xs) = refl

name_is : (w : Text) → name_and_value w ≡ long_of_rest w
name_is [] = refl
name_is (x ∷ xs) = refl

long_is : (w : Text) → long_name w ≡ long_of w
long_is w =
    and_then_same name_and_value long_of_rest name_is (option_and_then after_hyphen (after_hyphen w))
    ∙ ap (option_and_then long_of_rest) (and_then_same after_hyphen (strip_byte 45) hyphen_is (after_hyphen w) ∙ ap (option_and_then (strip_byte 45)) (hyphen_is w))

end_is_no_name : (w : Text) (b : Bool) → bytes_eq w (45 ∷ 45 ∷ []) ≡ b → is_some (long_name w) ≡ true → bytes_eq w (45 ∷ 45 ∷ []) ≡ false
end_is_no_name w false e some = e
end_is_no_name w true e some =
    absurd (true≢false (sym some ∙ ap (λ (v : Text). is_some (long_name v)) ((bytes_eq-Decides w (45 ∷ 45 ∷ [])).0 e)))

long_word : (w : Text) (o : Option (Text × Option Text)) → long_name w ≡ o → is_some (long_name w) ≡ true → IsLongWord w
long_word w None e some = absurd (true≢false (sym some ∙ ap is_some e))
long_word w (Some p) e some = record {
  name = p.0;
  value = p.1;
  no_end = end_is_no_name w _ refl some;
  is = sym (long_is w) ∙ e;
  long = e;
}

word_by : (x : ℕ) (xs : Text) (b : Bool) → (x == 45) ≡ b → (not (x == 45) || is_some (long_name (x ∷ xs))) ≡ true → IsPlainWord (x ∷ xs) ⊎ IsLongWord (x ∷ xs)
word_by x xs false e good = inl (record {
  no_end = rw e refl;
  plain = rw e refl;
  no_long = rw e refl;
  no_short = rw e refl;
})
word_by x xs true e good = inr (long_word (x ∷ xs) _ refl (sym (ap (λ b. not b || is_some (long_name (x ∷ xs))) e) ∙ good))

a_word : (w : Text) → is_word w ≡ true → IsPlainWord w ⊎ IsLongWord w
a_word [] good = absurd (true≢false (sym good))
a_word (x ∷ xs) good = word_by x xs _ refl good

first_holds : (a b : Bool) → (a && b) ≡ true → a ≡ true
first_holds true b e = refl
first_holds false b e = e

second_holds : (a b : Bool) → (a && b) ≡ true → b ≡ true
second_holds true b e = e
second_holds false b e = absurd (true≢false (sym e))

words_are : (ws : List Text) → list_all is_word ws ≡ true → AllWords the_built the_place refl refl refl refl refl ws
words_are [] all = tt
words_are (w ∷ ws) all = (a_word w (first_holds (is_word w) _ all), words_are ws (second_holds (is_word w) _ all))

-- ---- the whole parse

-- each piece passes in turn
abbrev pub all_fit : List Row → List Piece → Bool
all_fit rows ps = fits the_built the_place refl refl refl refl refl rows ps

-- what a piece leaves, and what all leave
abbrev pub put_one : List Row → Piece → List Row
put_one rows p = put the_built the_place refl refl refl refl refl rows p

abbrev pub put_all : List Row → List Piece → List Row
put_all rows ps = puts the_built the_place refl refl refl refl refl kind_of knows rows ps

abbrev pub passes : Piece → List Row → Bool
passes p rows = pass the_built the_place refl refl refl refl refl p rows

pub faults_read : (ws : List Text) → list_all is_word ws ≡ true → is_nil (faults_of ws) ≡ option_map_or (all_fit []) (pieces kind_of place ws None) false
unfolding faults_of
faults_read ws all =
    ap is_nil (by_level ws _ ∙ rest_is the_built the_place refl refl refl refl refl (walk_from nothing_held) ws)
    ∙ (both_from the_built the_place refl refl refl refl refl kind_of knows ws (words_are ws all)).0 idle (λ w. refl) (λ w h. refl) [] None

pub rows_read : (ws : List Text) (ps : List Piece) → list_all is_word ws ≡ true → pieces kind_of place ws None ≡ Some ps → rows_for ws ≡ fold with_default (put_all [] ps) c
unfolding rows_for
rows_read ws ps all e = ap (λ rows. fold with_default rows c) (subst (λ o. Leaves the_built the_place refl refl refl refl refl kind_of knows (end_of the_built the_place refl refl refl refl refl kind_of knows (walk_from nothing_held) ws) [] o) e
    ((ends_from the_built the_place refl refl refl refl refl kind_of knows ws (words_are ws all)).0 idle (λ w. refl) (λ w h. refl) [] None))

-- ---- the clauses of a parse

is_simple-the_app : is_simple the_app ≡ true
is_simple-the_app = refl

is_free-the_app : is_simple_and_free the_app ≡ true
is_free-the_app = refl

module _ {X : Type 0} where
  pub rows_from : (a : App) (words : List Text) (rows : List Row) → a ≡ the_app → (is_simple a ≡ true → (rows ≡ matches_of a words) × X) → rows ≡ rows_for words
  unfolding rows_for
  rows_from a words rows e h =
      let app : (is_simple the_app ≡ true → (rows ≡ matches_of the_app words) × X) = subst (λ (b : App). is_simple b ≡ true → (rows ≡ matches_of b words) × X) e h in
      (app is_simple-the_app).0

pub faults_from : (P : Kinds → Type 0) (a : App) (words : List Text) → a ≡ the_app → (is_simple_and_free a ≡ true → P (fault_of a words)) → P (faults_of words)
unfolding faults_of
faults_from P a words e h = subst (λ (b : App). is_simple_and_free b ≡ true → P (fault_of b words)) e h is_free-the_app
