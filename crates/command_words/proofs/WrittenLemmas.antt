-- Words are read from the left just as they are written.
use Rattle.std.proofs.Common.{◌≡◌, ◌∙◌, ◌↔◌, ℕ, Bool, cond, true, false, not, ◌&&◌, ◌||◌, ◌==◌, refl, sym, ap, ap₂, subst, List, [], ◌∷◌, ◌++◌, ◌+◌, Option, Some, None, is_some, codes, take, drop, one-add, suc-add, map, flat_map, true≢false, option_map, option_and_then, append-nil, if◌then◌else◌}
use Rattle.std.specs.Prelude.{unwrap_or}
use Rattle.std.specs.List.{AllByRecursion, list_all, list_any, before_first, after_first, position_or_len}
use Rattle.std.specs.Str.{bytes_eq}
use Rattle.std.proofs.lemmas.Bool.{eqb-true}
use Rattle.std.proofs.lemmas.Slice.Eq.{bytes_eq-Decides}
use Rattle.command_words.specs.declared.mode.Mode.{Mode}
use Rattle.command_words.specs.Given.{Given, Kind, Piece, Word, after_name, after_word, and_then, given, given_by, is_word, kind_of, long_name, name_and_value, once, option, pieces, place, single, unknown}
use Rattle.command_words.specs.Given as read
use Rattle.command_words.specs.Words.{mode_in, mode_of}
use Rattle.command_words.specs.Written.{IsCommandLine, IsGood, IsMode, Item, apart, flag, is_plain, joined, piece_of, positional, written}

some_is : {A : Type 0} {x y : A} → Some x ≡ Some y → x ≡ y
some_is {A} {x} {y} e = ap (λ o. unwrap_or o x) e

some_not_none : {A : Type 0} (x : A) → None ≡ Some x → ⊥
some_not_none x e = true≢false (sym (ap is_some e))

-- ---- a long word

abbrev is_equals : ℕ → Bool
is_equals c = c == 61

abbrev behind : Option Word → Word
behind None = []
behind (Some v) = 61 ∷ v

abbrev value_in : Word → Option Word
value_in t = if list_any is_equals t then Some (after_first is_equals t) else None

take_more : (n c : ℕ) (cs : Word) → take (1 + n) (c ∷ cs) ≡ c ∷ take n cs
take_more n c cs = rw (one-add n) refl

drop_more : (n c : ℕ) (cs : Word) → drop (1 + n + 1) (c ∷ cs) ≡ drop (n + 1) cs
drop_more n c cs = rw (one-add n) (rw (suc-add n 1) refl)

cut : (t : Word) → before_first is_equals t ++ behind (value_in t) ≡ t
cut [] = refl
cut (c ∷ cs) = go (c == 61) refl (cut cs)
  where
    go : (b : Bool) → (c == 61) ≡ b → before_first is_equals cs ++ behind (value_in cs) ≡ cs → before_first is_equals (c ∷ cs) ++ behind (value_in (c ∷ cs)) ≡ c ∷ cs
    go true e ih = rw e (ap (λ x. x ∷ cs) (sym (eqb-true c 61 e)))
    go false e ih = rw e (ap₂ (λ t u. t ++ behind (cond (list_any is_equals cs) (Some u) None)) (take_more (position_or_len is_equals cs) c cs) (drop_more (position_or_len is_equals cs) c cs) ∙ ap (λ t. c ∷ t) ih)

-- a long word is its hyphens, its name and what stands behind
long_text : (w name : Word) (v : Option Word) → long_name w ≡ Some (name, v) → w ≡ codes "--" ++ name ++ behind v
long_text [] name v e = absurd (some_not_none _ e)
long_text (c ∷ cs) name v e = first (c == 45) refl
  where
    third : (x : ℕ) (d : ℕ) (more : Word) → c ≡ 45 → d ≡ 45 → name_and_value (x ∷ more) ≡ Some (name, v) → c ∷ d ∷ x ∷ more ≡ codes "--" ++ name ++ behind v
    third x d more ec ed h =
        let is : (before_first is_equals (x ∷ more), value_in (x ∷ more)) ≡ (name, v) = some_is h in
        ap₂ (λ a b. a ∷ b ∷ x ∷ more) ec ed ∙ ap (λ t. 45 ∷ 45 ∷ t) (sym (cut (x ∷ more)) ∙ ap (λ (p : Word × Option Word). p.0 ++ behind p.1) is)

    second : (d : ℕ) (ds : Word) (b : Bool) → (d == 45) ≡ b → c ≡ 45 → option_and_then name_and_value (cond b (Some ds) None) ≡ Some (name, v) → c ∷ d ∷ ds ≡ codes "--" ++ name ++ behind v
    second d ds false ed ec h = absurd (some_not_none _ h)
    second d [] true ed ec h = absurd (some_not_none _ h)
    second d (x ∷ more) true ed ec h = third x d more ec (eqb-true d 45 ed) h

    rest : (ds : Word) → cs ≡ ds → c ≡ 45 → option_and_then name_and_value (option_and_then read.after_hyphen (Some ds)) ≡ Some (name, v) → c ∷ cs ≡ codes "--" ++ name ++ behind v
    rest [] is ec h = absurd (some_not_none _ h)
    rest (d ∷ ds) is ec h = ap (λ t. c ∷ t) is ∙ second d ds (d == 45) refl ec h

    first : (b : Bool) → (c == 45) ≡ b → c ∷ cs ≡ codes "--" ++ name ++ behind v
    first false ec = absurd (some_not_none _ (sym (ap (λ b. option_and_then name_and_value (option_and_then read.after_hyphen (cond b (Some cs) None))) ec) ∙ e))
    first true ec = rest cs refl (eqb-true c 45 ec) (sym (ap (λ b. option_and_then name_and_value (option_and_then read.after_hyphen (cond b (Some cs) None))) ec) ∙ e)

or_none : (b : Bool) → (b || false) ≡ b
or_none true = refl
or_none false = refl

plain_word : (w : Word) → is_word w ≡ true → long_name w ≡ None → is_plain w ≡ true
plain_word [] good e = good
plain_word (c ∷ cs) good e = sym (or_none (not (c == 45))) ∙ sym (ap (λ o. not (c == 45) || is_some o) e) ∙ good

-- ---- from words to items

abbrev Known : Option Word → Type 0
Known None = Unit {0}
Known (Some name) = kind_of name ≡ option

abbrev with_waiting : Option Word → List Word → List Word
with_waiting None ws = ws
with_waiting (Some name) ws = (codes "--" ++ name) ∷ ws

record AreItems (ws : List Word) (ps : List Piece) : Type 0 where
  items : List Item
  good : AllByRecursion IsGood items
  words_are : flat_map written items ≡ ws
  pieces_are : map piece_of items ≡ ps

abbrev Reads : (Option Word → Option (List Piece)) → List Word → Type 0
Reads rest ws = (waiting : Option Word) → Known waiting → (ps : List Piece) → rest waiting ≡ Some ps → AreItems (with_waiting waiting ws) ps

add : (i : Item) (front ws whole : List Word) (ps : List Piece) → IsGood i → written i ≡ front → front ++ ws ≡ whole → AreItems ws ps → AreItems whole (piece_of i ∷ ps)
add i front ws whole ps g w j a = record {
  items = i ∷ a.items;
  good = (g, a.good);
  words_are = ap₂ (λ x y. x ++ y) w a.words_are ∙ j;
  pieces_are = ap (λ qs. piece_of i ∷ qs) a.pieces_are;
}

-- one piece more
pieced : (i : Item) (front ws whole : List Word) (o : Option (List Piece)) (ps : List Piece) → IsGood i → written i ≡ front → front ++ ws ≡ whole
    → ((qs : List Piece) → o ≡ Some qs → AreItems ws qs) → and_then (piece_of i) o ≡ Some ps → AreItems whole ps
pieced i front ws whole None ps g w j h e = absurd (some_not_none _ e)
pieced i front ws whole (Some qs) ps g w j h e = subst (AreItems whole) (some_is e) (add i front ws whole qs g w j (h qs refl))

flag_text : (name : Word) → codes "--" ++ name ++ [] ≡ codes "--" ++ name
flag_text name = ap (λ t. codes "--" ++ t) (append-nil name)

module _ (w : Word) (ws : List Word) (rest : Option Word → Option (List Piece)) (h : Reads rest ws) where
  free : (qs : List Piece) → rest None ≡ Some qs → AreItems ws qs
  free qs e = h None tt qs e

  named : (k : Kind) (name : Word) (v : Option Word) → kind_of name ≡ k → w ≡ codes "--" ++ name ++ behind v → (ps : List Piece) → after_name k name v rest ≡ Some ps → AreItems (w ∷ ws) ps
  named unknown name v k is ps e = absurd (some_not_none _ e)
  named read.flag name (Some v) k is ps e = absurd (some_not_none _ e)
  named read.flag name None k is ps e = pieced (flag name) ((codes "--" ++ name) ∷ []) ws (w ∷ ws) (rest None) ps k refl (ap (λ x. x ∷ ws) (sym (is ∙ flag_text name))) free e
  named option name (Some v) k is ps e = pieced (joined name v) (w ∷ []) ws (w ∷ ws) (rest None) ps k (ap (λ x. x ∷ []) (sym is)) refl free e
  named option name None k is ps e = subst (λ x. AreItems (x ∷ ws) ps) (sym (is ∙ flag_text name)) (h (Some name) k ps e)

  read_word : (waiting : Option Word) → Known waiting → is_word w ≡ true → (o : Option (Word × Option Word)) → long_name w ≡ o → (ps : List Piece)
      → after_word kind_of place waiting o w rest ≡ Some ps → AreItems (with_waiting waiting (w ∷ ws)) ps
  read_word (Some n) known good (Some p) is ps e = absurd (some_not_none _ e)
  read_word (Some n) known good None is ps e = pieced (apart n w) ((codes "--" ++ n) ∷ w ∷ []) ws ((codes "--" ++ n) ∷ w ∷ ws) (rest None) ps (known, plain_word w good is) refl refl free e
  read_word None known good (Some p) is ps e = named (kind_of p.0) p.0 p.1 refl (long_text w p.0 p.1 is) ps e
  read_word None known good None is ps e = pieced (positional w) (w ∷ []) ws (w ∷ ws) (rest None) ps (plain_word w good is) refl refl free e

left : (a b : Bool) → (a && b) ≡ true → a ≡ true
left true b e = refl
left false b e = e

right : (a b : Bool) → (a && b) ≡ true → b ≡ true
right true b e = e
right false b e = absurd (true≢false (sym e))

items_of : (ws : List Word) → list_all is_word ws ≡ true → Reads (pieces kind_of place ws) ws
unfolding pieces
items_of [] good None known ps e = record { items = []; good = tt; words_are = refl; pieces_are = some_is e }
items_of [] good (Some n) known ps e = absurd (some_not_none _ e)
items_of (w ∷ ws) good waiting known ps e =
    read_word w ws (pieces kind_of place ws) (items_of ws (right (is_word w) _ good)) waiting known (left (is_word w) _ good) (long_name w) refl ps e

-- ---- from items to words

plain_is : (w : Word) → is_plain w ≡ true → (long_name w ≡ None) × (is_word w ≡ true)
plain_is [] e = absurd (true≢false (sym e))
plain_is (c ∷ cs) e = go (c == 45) refl
  where
    go : (b : Bool) → (c == 45) ≡ b → (long_name (c ∷ cs) ≡ None) × (is_word (c ∷ cs) ≡ true)
    go true f = absurd (true≢false (sym (ap not (sym f) ∙ e)))
    go false f = (rw f refl, rw f refl)

long_is_word : (w : Word) (p : Word × Option Word) → long_name w ≡ Some p → is_word w ≡ true
long_is_word [] p e = absurd (some_not_none _ e)
long_is_word (c ∷ cs) p e = ap (λ o. not (c == 45) || is_some o) e ∙ or_true (not (c == 45))
  where
    or_true : (b : Bool) → (b || true) ≡ true
    or_true true = refl
    or_true false = refl

abbrev is_option : Kind → Bool
is_option unknown = false
is_option read.flag = false
is_option option = true

abbrev is_flag : Kind → Bool
is_flag unknown = false
is_flag read.flag = true
is_flag option = false

-- what holds of the four options holds of each name that is one
option_by : (P : Word → Type 0) → P (codes "budget") → P (codes "batch") → P (codes "cache") → P (codes "arrival")
    → (name : Word) (a b d e f : Bool) → bytes_eq (codes "budget") name ≡ a → bytes_eq (codes "batch") name ≡ b → bytes_eq (codes "cache") name ≡ d → bytes_eq (codes "arrival") name ≡ e
    → cond a option (cond b option (cond d option (cond e option (cond f read.flag unknown)))) ≡ option → P name
option_by P p1 p2 p3 p4 name true b d e f pa pb pd pe h = subst P ((bytes_eq-Decides (codes "budget") name).0 pa) p1
option_by P p1 p2 p3 p4 name false true d e f pa pb pd pe h = subst P ((bytes_eq-Decides (codes "batch") name).0 pb) p2
option_by P p1 p2 p3 p4 name false false true e f pa pb pd pe h = subst P ((bytes_eq-Decides (codes "cache") name).0 pd) p3
option_by P p1 p2 p3 p4 name false false false true f pa pb pd pe h = subst P ((bytes_eq-Decides (codes "arrival") name).0 pe) p4
option_by P p1 p2 p3 p4 name false false false false true pa pb pd pe h = absurd (true≢false (sym (ap is_option h)))
option_by P p1 p2 p3 p4 name false false false false false pa pb pd pe h = absurd (true≢false (sym (ap is_option h)))

flag_by : (P : Word → Type 0) → P (codes "stats") → (name : Word) (a b d e f : Bool) → bytes_eq (codes "stats") name ≡ f
    → cond a option (cond b option (cond d option (cond e option (cond f read.flag unknown)))) ≡ read.flag → P name
flag_by P p name true b d e f pf h = absurd (true≢false (sym (ap is_flag h)))
flag_by P p name false true d e f pf h = absurd (true≢false (sym (ap is_flag h)))
flag_by P p name false false true e f pf h = absurd (true≢false (sym (ap is_flag h)))
flag_by P p name false false false true f pf h = absurd (true≢false (sym (ap is_flag h)))
flag_by P p name false false false false true pf h = subst P ((bytes_eq-Decides (codes "stats") name).0 pf) p
flag_by P p name false false false false false pf h = absurd (true≢false (sym (ap is_flag h)))

abbrev ReadsBack : Word → Type 0
ReadsBack name = (long_name (codes "--" ++ name) ≡ Some (name, None)) × ((v : Word) → long_name (codes "--" ++ name ++ 61 ∷ v) ≡ Some (name, Some v))

option_reads : (name : Word) → kind_of name ≡ option → ReadsBack name
option_reads name k = option_by ReadsBack (refl, λ v. refl) (refl, λ v. refl) (refl, λ v. refl) (refl, λ v. refl) name _ _ _ _ _ refl refl refl refl k

flag_reads : (name : Word) → kind_of name ≡ read.flag → long_name (codes "--" ++ name) ≡ Some (name, None)
flag_reads name k = flag_by (λ n. long_name (codes "--" ++ n) ≡ Some (n, None)) refl name (bytes_eq (codes "budget") name) (bytes_eq (codes "batch") name) (bytes_eq (codes "cache") name) (bytes_eq (codes "arrival") name) _ refl k

step : (waiting : Option Word) (w : Word) (ws : List Word) (o : Option (Word × Option Word)) → long_name w ≡ o
    → pieces kind_of place (w ∷ ws) waiting ≡ after_word kind_of place waiting o w (pieces kind_of place ws)
unfolding pieces
step None w ws o e = ap (λ x. after_word kind_of place None x w (pieces kind_of place ws)) e
step (Some n) w ws o e = ap (λ x. after_word kind_of place (Some n) x w (pieces kind_of place ws)) e

long_step : (w : Word) (ws : List Word) (name : Word) (v : Option Word) (k : Kind) → long_name w ≡ Some (name, v) → kind_of name ≡ k
    → pieces kind_of place (w ∷ ws) None ≡ after_name k name v (pieces kind_of place ws)
long_step w ws name v k e is = step None w ws (Some (name, v)) e ∙ ap (λ x. after_name x name v (pieces kind_of place ws)) is

abbrev AreRead : List Word → List Piece → Type 0
AreRead ws ps = (pieces kind_of place ws None ≡ Some ps) × (list_all is_word ws ≡ true)

both : (a b : Bool) → a ≡ true → b ≡ true → (a && b) ≡ true
both a b e f = rw (e, f) refl

item_read : (i : Item) (ws : List Word) (ps : List Piece) → IsGood i → AreRead ws ps → AreRead (written i ++ ws) (piece_of i ∷ ps)
item_read (positional w) ws ps good r =
    let plain = plain_is w good in
    (step None w ws None plain.0 ∙ ap (and_then (place, w ∷ [])) r.0, both _ _ plain.1 r.1)
item_read (apart name v) ws ps good r =
    let plain = plain_is v good.1 in
    let long = (option_reads name good.0).0 in (
      long_step (codes "--" ++ name) (v ∷ ws) name None option long good.0 ∙ step (Some name) v ws None plain.0 ∙ ap (and_then (name, v ∷ [])) r.0,
      both _ _ (long_is_word (codes "--" ++ name) _ long) (both _ _ plain.1 r.1),
    )
item_read (joined name v) ws ps good r =
    let long = (option_reads name good).1 v in (
      long_step (codes "--" ++ name ++ 61 ∷ v) ws name (Some v) option long good ∙ ap (and_then (name, v ∷ [])) r.0,
      both _ _ (long_is_word (codes "--" ++ name ++ 61 ∷ v) _ long) r.1,
    )
item_read (flag name) ws ps good r =
    let long = flag_reads name good in (
      long_step (codes "--" ++ name) ws name None read.flag long good ∙ ap (and_then (name, [])) r.0,
      both _ _ (long_is_word (codes "--" ++ name) _ long) r.1,
    )

items_read : (items : List Item) → AllByRecursion IsGood items → AreRead (flat_map written items) (map piece_of items)
unfolding pieces
items_read [] good = (refl, refl)
items_read (i ∷ items) good = item_read i (flat_map written items) (map piece_of items) good.0 (items_read items good.1)

-- ---- both ways

module _ (ws : List Word) (g : Given) where
  line_of : (good : Bool) → list_all is_word ws ≡ good → (o : Option (List Piece)) → pieces kind_of place ws None ≡ o → (once_only : Option Bool) → option_map once o ≡ once_only
      → cond good (option_map given_by (option_and_then single o)) None ≡ Some g → IsCommandLine ws g
  line_of false good o is only h e = absurd (some_not_none _ e)
  line_of true good None is only h e = absurd (some_not_none _ e)
  line_of true good (Some ps) is None h e = absurd (some_not_none _ (sym h))
  line_of true good (Some ps) is (Some false) h e =
      let twice : once ps ≡ false = some_is h in
      absurd (some_not_none _ (sym (ap (λ b. option_map given_by (cond b (Some ps) None)) twice) ∙ e))
  line_of true good (Some ps) is (Some true) h e =
      let single_is : once ps ≡ true = some_is h in
      let a = items_of ws good None tt ps is in record {
        items = a.items;
        good = a.good;
        words_are = a.words_are;
        once = ap once a.pieces_are ∙ single_is;
        gives = ap given_by a.pieces_are ∙ some_is (sym (ap (λ b. option_map given_by (cond b (Some ps) None)) single_is) ∙ e);
      }

  given_of_line : (items : List Item) → AllByRecursion IsGood items → flat_map written items ≡ ws → once (map piece_of items) ≡ true → given_by (map piece_of items) ≡ g → given ws ≡ Some g
  given_of_line items good is single_is gives =
      let r = subst (λ us. AreRead us (map piece_of items)) is (items_read items good) in
      rw (r.1, r.0, single_is, gives) refl

  pub given_is : (given ws ≡ Some g) ↔ IsCommandLine ws g
  given_is = (
    λ e. line_of (list_all is_word ws) refl (pieces kind_of place ws None) refl (option_map once (pieces kind_of place ws None)) refl e,
    λ l. given_of_line l.items l.good l.words_are l.once l.gives,
  )

pub mode_is : (ws : List Word) (m : Mode) → (mode_of ws ≡ Some m) ↔ IsMode ws m
mode_is ws m = (λ e. go (given ws) refl e, λ h. ap (option_and_then mode_in) ((given_is ws h.0).1 h.1) ∙ h.2)
  where
    go : (o : Option Given) → given ws ≡ o → option_and_then mode_in o ≡ Some m → IsMode ws m
    go None is e = absurd (some_not_none _ e)
    go (Some g) is e = (g, (given_is ws g).0 is, e)
