-- `clap`'s walk over words finds no fault just where the words have pieces that fit one after another, and leaves
-- what these put.
use Rattle.std.proofs.Common.{◌≡◌, ◌∙◌, Bool, true, false, ◌&&◌, refl, sym, ap, ap₂, subst, List, [], ◌∷◌, Option, Some, None, ◌⊎◌, inl, inr, fold}
use Rattle.std.specs.Option.{option_map_or}
use Rattle.std.specs.Str.{bytes_eq}
use Rattle.clap.specs.Lexer.{long_of, short_of}
use Rattle.clap.specs.Facts.{unwrap_or_range}
use Rattle.clap.specs.Walk.{Held, Row, Rule, Text, Waiting, Walk, action_of, idle, option as wait_option, positional, value, arg_by_id, arg_by_index, arg_by_long, is_append, most_values, plain_word, settled_rows, subcommand_met, takes_several, takes_values, used, used_by_id, walked}
use Rattle.clap.specs.Simple.{Shape}
use Rattle.clap.specs.Kinds.{Kinds, or_else}
use Rattle.clap.specs.Faults.{settle_fault, turn_fault, use_fault, walk_fault}
use Rattle.command_words.specs.Given.{Kind, unknown, flag, option, Piece, and_then, after_name, after_option, after_flag, after_word, long_name, pieces}

abbrev pub is_nil : Kinds → Bool
is_nil [] = true
is_nil (k ∷ ks) = false

and_false : (b : Bool) → (b && false) ≡ false
and_false true = refl
and_false false = refl

and_true : (b : Bool) → (b && true) ≡ b
and_true true = refl
and_true false = refl

or_else_nil : (a b : Kinds) → is_nil (or_else a b) ≡ (is_nil a && is_nil b)
or_else_nil [] b = refl
or_else_nil (k ∷ ks) b = refl

or_else_end : (a : Kinds) → or_else a [] ≡ a
or_else_end [] = refl
or_else_end (k ∷ ks) = refl

or_else_assoc : (a b d : Kinds) → or_else (or_else a b) d ≡ or_else a (or_else b d)
or_else_assoc [] b d = refl
or_else_assoc (k ∷ ks) b d = refl

-- the word is `--name` or `--name=value`, or begins with no hyphen
pub record IsPlainWord (w : Text) : Type 0 where
  pub no_end : bytes_eq w (45 ∷ 45 ∷ []) ≡ false
  pub plain : long_name w ≡ None
  pub no_long : long_of w ≡ None
  pub no_short : short_of w ≡ None

pub record IsLongWord (w : Text) : Type 0 where
  pub name : Text
  pub value : Option Text
  pub no_end : bytes_eq w (45 ∷ 45 ∷ []) ≡ false
  pub is : long_of w ≡ Some (name, value)
  pub long : long_name w ≡ Some (name, value)

abbrev pub held : List Row → Option Piece → Held
held rows pend = record { rows = rows; pending = pend; skip = 0 }

abbrev pub at : List Row → Option Piece → Waiting → Walk
at rows pend waiting = record { held = held rows pend; waiting = waiting; position = 1; is_trailing = false; stopped = None }

module _ (s : Shape) (place : Rule) (once : s.args_override_self ≡ false) (first : arg_by_index s.rules 1 ≡ Some place)
    (single : takes_several place ≡ false) (appends : is_append (action_of place) ≡ true) (no_trail : place.trailing_var_arg ≡ false) where
  abbrev c : List Rule
  c = s.rules

  -- what is left to fail, from a walk on
  pub rest_fault : Walk → List Text → Kinds
  rest_fault w [] = settle_fault c s.args_override_self w.held
  rest_fault w (x ∷ xs) = or_else (turn_fault s [] w x) (rest_fault (walked c [] w x) xs)

  pub rest_is : (w : Walk) (ws : List Text) → or_else (walk_fault s [] w ws) (settle_fault c s.args_override_self (fold (walked c []) w ws).held) ≡ rest_fault w ws
  unfolding walk_fault rest_fault
  rest_is w [] = refl
  rest_is w (x ∷ xs) = or_else_assoc (turn_fault s [] w x) _ _ ∙ ap (or_else (turn_fault s [] w x)) (rest_is (walked c [] w x) xs)

  -- one use passes, and each in turn
  abbrev pub pass : Piece → List Row → Bool
  pass p rows = is_nil (settle_fault c s.args_override_self (held rows (Some p)))

  abbrev pub put : List Row → Piece → List Row
  put rows p = used_by_id (arg_by_id c p.0) p.1 rows

  abbrev pub fits : List Row → List Piece → Bool
  fits rows [] = true
  fits rows (p ∷ ps) = pass p rows && fits (put rows p) ps

  abbrev pub fits_all : List Row → Option (List Piece) → Bool
  fits_all rows o = option_map_or (fits rows) o false

  abbrev pub settled_ok : List Row → Option Piece → Bool
  settled_ok rows pend = is_nil (settle_fault c s.args_override_self (held rows pend))

  fits_cons : (p : Piece) (rows : List Row) (o : Option (List Piece)) → fits_all rows (and_then p o) ≡ (pass p rows && fits_all (put rows p) o)
  fits_cons p rows None = sym (and_false (pass p rows))
  fits_cons p rows (Some ps) = refl

  abbrev again : Bool
  again = s.args_override_self

  -- ---- a word that begins with no hyphen

  module _ (waiting : Waiting) (free : (w : Text) → subcommand_met [] waiting w ≡ None) where
    module _ (values : (w : Text) (h : Held) → plain_word c waiting w h ≡ (h, value)) (rows : List Row) (pend : Option Piece) (w : Text) (p : IsPlainWord w) where
      plain_turn : turn_fault s [] (at rows pend waiting) w ≡ settle_fault c again (held rows pend)
      plain_turn = rw (free w, p.no_end, p.no_long, p.no_short, values w (held rows pend), first, single, and_false _) refl

      plain_walked : walked c [] (at rows pend waiting) w ≡ at (settled_rows c pend rows) (Some (place.id, w ∷ [])) positional
      unfolding walked
      plain_walked = rw (free w, p.no_end, p.no_long, p.no_short, values w (held rows pend), first, single, appends, no_trail, and_false _) refl

    -- ---- a long word

    module _ (rows : List Row) (pend : Option Piece) (w : Text) (no_end : bytes_eq w (45 ∷ 45 ∷ []) ≡ false) where
      unknown_turn : (name : Text) (v : Option Text) → long_of w ≡ Some (name, v) → arg_by_long c name ≡ None → is_nil (turn_fault s [] (at rows pend waiting) w) ≡ false
      unknown_turn name v is found = rw (free w, no_end, is, found) refl

      module _ (a : Rule) (found : arg_by_long c a.id ≡ Some a) where
        option_turn : (v : Text) → takes_values a ≡ true → long_of w ≡ Some (a.id, Some v)
            → turn_fault s [] (at rows pend waiting) w ≡ or_else (settle_fault c again (held rows pend)) (use_fault again a (v ∷ []) (settled_rows c pend rows))
        option_turn v takes is = rw (free w, no_end, is, found, takes) (or_else_end _)

        option_walked : (v : Text) → takes_values a ≡ true → long_of w ≡ Some (a.id, Some v)
            → walked c [] (at rows pend waiting) w ≡ at (used a (v ∷ []) (settled_rows c pend rows)) None idle
        unfolding walked
        option_walked v takes is = rw (free w, no_end, is, found, takes) refl

        start_turn : takes_values a ≡ true → long_of w ≡ Some (a.id, None) → turn_fault s [] (at rows pend waiting) w ≡ settle_fault c again (held rows pend)
        start_turn takes is = rw (free w, no_end, is, found, takes) (or_else_end _)

        start_walked : takes_values a ≡ true → long_of w ≡ Some (a.id, None)
            → walked c [] (at rows pend waiting) w ≡ at (settled_rows c pend rows) (Some (a.id, [])) (wait_option a.id)
        unfolding walked
        start_walked takes is = rw (free w, no_end, is, found, takes) refl

        flag_turn : takes_values a ≡ false → long_of w ≡ Some (a.id, None)
            → turn_fault s [] (at rows pend waiting) w ≡ or_else (settle_fault c again (held rows pend)) (use_fault again a [] (settled_rows c pend rows))
        flag_turn takes is = rw (free w, no_end, is, found, takes) (or_else_end _)

        flag_walked : takes_values a ≡ false → long_of w ≡ Some (a.id, None) → walked c [] (at rows pend waiting) w ≡ at (used a [] (settled_rows c pend rows)) None idle
        unfolding walked
        flag_walked takes is = rw (free w, no_end, is, found, takes) refl

        flag_value_turn : (v : Text) → takes_values a ≡ false → long_of w ≡ Some (a.id, Some v) → is_nil (turn_fault s [] (at rows pend waiting) w) ≡ false
        flag_value_turn v takes is = rw (free w, no_end, is, found, takes) refl

  -- ---- the value of an option

  module _ (a : Rule) (by_id : arg_by_id c a.id ≡ Some a) (most : most_values a ≡ 1) (same : bytes_eq a.id a.id ≡ true) (rows : List Row) where
    value_turn : (w : Text) → IsPlainWord w → turn_fault s [] (at rows (Some (a.id, [])) (wait_option a.id)) w ≡ []
    value_turn w p = rw (p.no_end, p.no_long, p.no_short) refl

    value_walked : (w : Text) → IsPlainWord w → walked c [] (at rows (Some (a.id, [])) (wait_option a.id)) w ≡ at rows (Some (a.id, w ∷ [])) idle
    unfolding walked
    value_walked w p = rw (p.no_end, p.no_long, p.no_short, by_id, same, most) refl

    -- no value came
    starved : (unwrap_or_range a.range).start_inclusive ≡ 1 → is_nil (settle_fault c again (held rows (Some (a.id, [])))) ≡ false
    starved least = rw (by_id, least) refl

    pass_is : (vs : List Text) → pass (a.id, vs) rows ≡ is_nil (use_fault again a vs rows)
    pass_is vs = ap (λ o. is_nil (option_map_or (λ b. use_fault again b vs rows) o [])) by_id

    put_is : (vs : List Text) → put rows (a.id, vs) ≡ used a vs rows
    put_is vs = ap (λ o. used_by_id o vs rows) by_id

  -- ---- the whole list

  abbrev IsNamed : Rule → Text → Type 0
  IsNamed a name = (arg_by_long c name ≡ Some a) × (arg_by_id c name ≡ Some a) × (bytes_eq name name ≡ true)

  abbrev pub Knows : Text → Kind → Type 0
  Knows name unknown = arg_by_long c name ≡ None
  Knows name flag = (a : Rule) × (a.id ≡ name) × IsNamed a name × (takes_values a ≡ false)
  Knows name option = (a : Rule) × (a.id ≡ name) × IsNamed a name × (takes_values a ≡ true) × (most_values a ≡ 1) × ((unwrap_or_range a.range).start_inclusive ≡ 1)

  abbrev pub AllWords : List Text → Type 0
  AllWords [] = Unit {0}
  AllWords (w ∷ ws) = (IsPlainWord w ⊎ IsLongWord w) × AllWords ws

  module _ (kind_of : Text → Kind) (knows : (name : Text) → Knows name (kind_of name)) where
    abbrev read : List Text → Option Text → Option (List Piece)
    read = pieces kind_of place.id

    nil_first : (a b : Kinds) (x y : Bool) → is_nil a ≡ x → is_nil b ≡ y → is_nil (or_else a b) ≡ (x && y)
    nil_first a b x y e f = or_else_nil a b ∙ ap₂ (λ u v. u && v) e f

    and_assoc : (x y z : Bool) → ((x && y) && z) ≡ (x && (y && z))
    and_assoc true y z = refl
    and_assoc false y z = refl

    -- the words from here on have a reading that fits
    abbrev Main : List Text → Type 0
    Main ws = (waiting : Waiting) → ((w : Text) → subcommand_met [] waiting w ≡ None) → ((w : Text) (h : Held) → plain_word c waiting w h ≡ (h, value))
        → (rows : List Row) (pend : Option Piece)
        → is_nil (rest_fault (at rows pend waiting) ws) ≡ (settled_ok rows pend && fits_all (settled_rows c pend rows) (read ws None))

    abbrev Waits : List Text → Type 0
    Waits ws = (a : Rule) → IsNamed a a.id → most_values a ≡ 1 → (unwrap_or_range a.range).start_inclusive ≡ 1
        → (rows : List Row) → is_nil (rest_fault (at rows (Some (a.id, [])) (wait_option a.id)) ws) ≡ fits_all rows (read ws (Some a.id))

    module _ (w : Text) (ws : List Text) (main : Main ws) (waits : Waits ws) where
      abbrev main_idle : (rows : List Row) (pend : Option Piece) → is_nil (rest_fault (at rows pend idle) ws) ≡ (settled_ok rows pend && fits_all (settled_rows c pend rows) (read ws None))
      main_idle = main idle (λ w. refl) (λ w h. refl)

      module _ (waiting : Waiting) (free : (w : Text) → subcommand_met [] waiting w ≡ None) (rows : List Row) (pend : Option Piece) where
        abbrev ok : Bool
        ok = settled_ok rows pend

        abbrev now : List Row
        now = settled_rows c pend rows

        plain_step : ((w : Text) (h : Held) → plain_word c waiting w h ≡ (h, value)) → IsPlainWord w
            → is_nil (or_else (turn_fault s [] (at rows pend waiting) w) (rest_fault (walked c [] (at rows pend waiting) w) ws)) ≡ (ok && fits_all now (and_then (place.id, w ∷ []) (read ws None)))
        plain_step values p = nil_first _ _ _ _ (ap is_nil (plain_turn waiting free values rows pend w p))
            (ap (λ v. is_nil (rest_fault v ws)) (plain_walked waiting free values rows pend w p)
            ∙ main positional (λ w. refl) (λ w h. refl) now (Some (place.id, w ∷ [])) ∙ sym (fits_cons (place.id, w ∷ []) now (read ws None)))

        -- a use with its values in the same word
        used_step : (a : Rule) (vs : List Text) → arg_by_id c a.id ≡ Some a → most_values a ≡ most_values a
            → turn_fault s [] (at rows pend waiting) w ≡ or_else (settle_fault c again (held rows pend)) (use_fault again a vs now)
            → walked c [] (at rows pend waiting) w ≡ at (used a vs now) None idle
            → is_nil (or_else (turn_fault s [] (at rows pend waiting) w) (rest_fault (walked c [] (at rows pend waiting) w) ws)) ≡ (ok && fits_all now (and_then (a.id, vs) (read ws None)))
        used_step a vs by_id _ turn walk =
            nil_first _ _ _ _ (ap is_nil turn ∙ or_else_nil _ _) (ap (λ v. is_nil (rest_fault v ws)) walk ∙ main_idle (used a vs now) None)
            ∙ and_assoc ok _ _
            ∙ ap (λ b. ok && b) (ap₂ (λ b r. b && fits_all r (read ws None))
            (sym (ap (λ o. is_nil (option_map_or (λ b. use_fault again b vs now) o [])) by_id)) (sym (ap (λ o. used_by_id o vs now) by_id))
            ∙ sym (fits_cons (a.id, vs) now (read ws None)))

        fails_step : is_nil (turn_fault s [] (at rows pend waiting) w) ≡ false
            → is_nil (or_else (turn_fault s [] (at rows pend waiting) w) (rest_fault (walked c [] (at rows pend waiting) w) ws)) ≡ (ok && false)
        fails_step e = or_else_nil _ _ ∙ ap (λ b. b && is_nil (rest_fault (walked c [] (at rows pend waiting) w) ws)) e ∙ sym (and_false ok)

        module _ (no_end : bytes_eq w (45 ∷ 45 ∷ []) ≡ false) where
          option_step : (a : Rule) (v : Option Text) → IsNamed a a.id → takes_values a ≡ true → most_values a ≡ 1 → (unwrap_or_range a.range).start_inclusive ≡ 1 → long_of w ≡ Some (a.id, v)
              → is_nil (or_else (turn_fault s [] (at rows pend waiting) w) (rest_fault (walked c [] (at rows pend waiting) w) ws)) ≡ (ok && fits_all now (after_option a.id v (read ws)))
          option_step a (Some v) named takes most least is =
              used_step a (v ∷ []) named.1 refl (option_turn waiting free rows pend w no_end a named.0 v takes is) (option_walked waiting free rows pend w no_end a named.0 v takes is)
          option_step a None named takes most least is =
              nil_first _ _ _ _ (ap is_nil (start_turn waiting free rows pend w no_end a named.0 takes is))
              (ap (λ v. is_nil (rest_fault v ws)) (start_walked waiting free rows pend w no_end a named.0 takes is) ∙ waits a named most least now)

          flag_step : (a : Rule) (v : Option Text) → IsNamed a a.id → takes_values a ≡ false → long_of w ≡ Some (a.id, v)
              → is_nil (or_else (turn_fault s [] (at rows pend waiting) w) (rest_fault (walked c [] (at rows pend waiting) w) ws)) ≡ (ok && fits_all now (after_flag a.id v (read ws)))
          flag_step a (Some v) named takes is = fails_step (flag_value_turn waiting free rows pend w no_end a named.0 v takes is)
          flag_step a None named takes is =
              used_step a [] named.1 refl (flag_turn waiting free rows pend w no_end a named.0 takes is) (flag_walked waiting free rows pend w no_end a named.0 takes is)

          long_step : (k : Kind) (name : Text) (v : Option Text) → Knows name k → long_of w ≡ Some (name, v)
              → is_nil (or_else (turn_fault s [] (at rows pend waiting) w) (rest_fault (walked c [] (at rows pend waiting) w) ws)) ≡ (ok && fits_all now (after_name k name v (read ws)))
          long_step unknown name v known is = fails_step (unknown_turn waiting free rows pend w no_end name v is known)
          long_step flag name v known is =
              subst (λ n. IsNamed known.0 n → long_of w ≡ Some (n, v) → is_nil (or_else (turn_fault s [] (at rows pend waiting) w) (rest_fault (walked c [] (at rows pend waiting) w) ws)) ≡ (ok && fits_all now (after_flag n v (read ws))))
              known.1 (λ named at_name. flag_step known.0 v named known.3 at_name) known.2 is
          long_step option name v known is =
              subst (λ n. IsNamed known.0 n → long_of w ≡ Some (n, v) → is_nil (or_else (turn_fault s [] (at rows pend waiting) w) (rest_fault (walked c [] (at rows pend waiting) w) ws)) ≡ (ok && fits_all now (after_option n v (read ws))))
              known.1 (λ named at_name. option_step known.0 v named known.3 known.4 known.5 at_name) known.2 is

    -- nothing fits where an option still waits and a long word comes
    starved_step : (a : Rule) (w : Text) (ws : List Text) → Main ws → Waits ws → IsNamed a a.id → most_values a ≡ 1 → (unwrap_or_range a.range).start_inclusive ≡ 1 → (rows : List Row) → (l : IsLongWord w)
        → is_nil (rest_fault (at rows (Some (a.id, [])) (wait_option a.id)) (w ∷ ws)) ≡ false
    unfolding rest_fault
    starved_step a w ws main waits named most least rows l =
        long_step w ws main waits (wait_option a.id) (λ w. refl) rows (Some (a.id, [])) l.no_end (kind_of l.name) l.name l.value (knows l.name) l.is
        ∙ ap (λ b. b && fits_all (settled_rows c (Some (a.id, [])) rows) (after_name (kind_of l.name) l.name l.value (read ws))) (starved a named.1 most named.2 rows least)

    free_word : (w : Text) (ws : List Text) (rows : List Row) (pend : Option Piece) (o : Option (Text × Option Text)) → long_name w ≡ o
        → (settled_ok rows pend && fits_all (settled_rows c pend rows) (read (w ∷ ws) None)) ≡ (settled_ok rows pend && fits_all (settled_rows c pend rows) (after_word kind_of place.id None o w (read ws)))
    unfolding pieces
    free_word w ws rows pend o e = ap (λ o. settled_ok rows pend && fits_all (settled_rows c pend rows) (after_word kind_of place.id None o w (read ws))) e

    waited_word : (w : Text) (ws : List Text) (rows : List Row) (name : Text) (o : Option (Text × Option Text)) → long_name w ≡ o
        → fits_all rows (read (w ∷ ws) (Some name)) ≡ fits_all rows (after_word kind_of place.id (Some name) o w (read ws))
    unfolding pieces
    waited_word w ws rows name o e = ap (λ o. fits_all rows (after_word kind_of place.id (Some name) o w (read ws))) e

    pub both_from : (ws : List Text) → AllWords ws → Main ws × Waits ws
    unfolding rest_fault pieces
    both_from [] all = (
      λ waiting free values rows pend. sym (and_true _),
      λ a named most least rows. starved a named.1 most named.2 rows least,
    )
    both_from (w ∷ ws) all =
        let rest = both_from ws all.1 in (
          λ waiting free values rows pend. elim all.0 [
            | inl p ↦ plain_step w ws rest.0 rest.1 waiting free rows pend values p ∙ sym (free_word w ws rows pend None p.plain)
            | inr l ↦ long_step w ws rest.0 rest.1 waiting free rows pend l.no_end (kind_of l.name) l.name l.value (knows l.name) l.is ∙ sym (free_word w ws rows pend (Some (l.name, l.value)) l.long)
          ],
          λ a named most least rows. elim all.0 [
            | inl p ↦ nil_first _ _ _ _ (ap is_nil (value_turn a named.1 most named.2 rows w p))
                (ap (λ v. is_nil (rest_fault v ws)) (value_walked a named.1 most named.2 rows w p)
                ∙ rest.0 idle (λ w. refl) (λ w h. refl) rows (Some (a.id, w ∷ [])) ∙ sym (fits_cons (a.id, w ∷ []) rows (read ws None))) ∙ sym (waited_word w ws rows a.id None p.plain)
            | inr l ↦ starved_step a w ws rest.0 rest.1 named most least rows l ∙ sym (waited_word w ws rows a.id (Some (l.name, l.value)) l.long)
          ],
        )

    -- ---- what the walk leaves, where the words have a reading

    abbrev pub puts : List Row → List Piece → List Row
    puts rows [] = rows
    puts rows (p ∷ ps) = puts (put rows p) ps

    abbrev pub end_of : Walk → List Text → List Row
    end_of w ws = settled_rows c (fold (walked c []) w ws).held.pending (fold (walked c []) w ws).held.rows

    abbrev pub Leaves : List Row → List Row → Option (List Piece) → Type 0
    Leaves end rows None = Unit {0}
    Leaves end rows (Some ps) = end ≡ puts rows ps

    leaves_cons : (end : List Row) (p : Piece) (rows : List Row) (o : Option (List Piece)) → Leaves end (put rows p) o → Leaves end rows (and_then p o)
    leaves_cons end p rows None h = tt
    leaves_cons end p rows (Some ps) h = h

    along_walk : (v v' : Walk) (ws : List Text) (rows : List Row) (o : Option (List Piece)) → v ≡ v' → Leaves (end_of v' ws) rows o → Leaves (end_of v ws) rows o
    along_walk v v' ws rows o e h = subst (λ x. Leaves (end_of x ws) rows o) (sym e) h

    abbrev Ends : List Text → Type 0
    Ends ws = (waiting : Waiting) → ((w : Text) → subcommand_met [] waiting w ≡ None) → ((w : Text) (h : Held) → plain_word c waiting w h ≡ (h, value))
        → (rows : List Row) (pend : Option Piece) → Leaves (end_of (at rows pend waiting) ws) (settled_rows c pend rows) (read ws None)

    abbrev EndsWaiting : List Text → Type 0
    EndsWaiting ws = (a : Rule) → IsNamed a a.id → most_values a ≡ 1 → (rows : List Row)
        → Leaves (end_of (at rows (Some (a.id, [])) (wait_option a.id)) ws) rows (read ws (Some a.id))

    module _ (w : Text) (ws : List Text) (ends : Ends ws) (waits : EndsWaiting ws)
        (waiting : Waiting) (free : (w : Text) → subcommand_met [] waiting w ≡ None) (rows : List Row) (pend : Option Piece) (no_end : bytes_eq w (45 ∷ 45 ∷ []) ≡ false) where
      abbrev settled_now : List Row
      settled_now = settled_rows c pend rows

      ends_used : (a : Rule) (vs : List Text) → arg_by_id c a.id ≡ Some a → walked c [] (at rows pend waiting) w ≡ at (used a vs settled_now) None idle
          → Leaves (end_of (walked c [] (at rows pend waiting) w) ws) settled_now (and_then (a.id, vs) (read ws None))
      ends_used a vs by_id walk = leaves_cons _ (a.id, vs) settled_now (read ws None) (subst (λ r. Leaves (end_of (walked c [] (at rows pend waiting) w) ws) r (read ws None))
          (sym (ap (λ o. used_by_id o vs settled_now) by_id))
          (along_walk _ _ ws _ _ walk (ends idle (λ w. refl) (λ w h. refl) (used a vs settled_now) None)))

      ends_option : (a : Rule) (v : Option Text) → IsNamed a a.id → takes_values a ≡ true → most_values a ≡ 1 → long_of w ≡ Some (a.id, v)
          → Leaves (end_of (walked c [] (at rows pend waiting) w) ws) settled_now (after_option a.id v (read ws))
      ends_option a (Some v) named takes most is = ends_used a (v ∷ []) named.1 (option_walked waiting free rows pend w no_end a named.0 v takes is)
      ends_option a None named takes most is = along_walk _ _ ws _ _ (start_walked waiting free rows pend w no_end a named.0 takes is) (waits a named most settled_now)

      ends_flag : (a : Rule) (v : Option Text) → IsNamed a a.id → takes_values a ≡ false → long_of w ≡ Some (a.id, v)
          → Leaves (end_of (walked c [] (at rows pend waiting) w) ws) settled_now (after_flag a.id v (read ws))
      ends_flag a (Some v) named takes is = tt
      ends_flag a None named takes is = ends_used a [] named.1 (flag_walked waiting free rows pend w no_end a named.0 takes is)

      ends_long : (k : Kind) (name : Text) (v : Option Text) → Knows name k → long_of w ≡ Some (name, v)
          → Leaves (end_of (walked c [] (at rows pend waiting) w) ws) settled_now (after_name k name v (read ws))
      ends_long unknown name v known is = tt
      ends_long flag name v known is =
          subst (λ n. IsNamed known.0 n → long_of w ≡ Some (n, v) → Leaves (end_of (walked c [] (at rows pend waiting) w) ws) settled_now (after_flag n v (read ws)))
          known.1 (λ named at_name. ends_flag known.0 v named known.3 at_name) known.2 is
      ends_long option name v known is =
          subst (λ n. IsNamed known.0 n → long_of w ≡ Some (n, v) → Leaves (end_of (walked c [] (at rows pend waiting) w) ws) settled_now (after_option n v (read ws)))
          known.1 (λ named at_name. ends_option known.0 v named known.3 known.4 at_name) known.2 is

    leaves_word : (end : List Row) (w : Text) (ws : List Text) (rows : List Row) (waits : Option Text) (o : Option (Text × Option Text)) → long_name w ≡ o
        → Leaves end rows (after_word kind_of place.id waits o w (read ws)) → Leaves end rows (after_word kind_of place.id waits (long_name w) w (read ws))
    leaves_word end w ws rows waits o e h = subst (λ p. Leaves end rows (after_word kind_of place.id waits p w (read ws))) (sym e) h

    pub ends_from : (ws : List Text) → AllWords ws → Ends ws × EndsWaiting ws
    unfolding pieces
    ends_from [] all = (λ waiting free values rows pend. refl, λ a named most rows. tt)
    ends_from (w ∷ ws) all =
        let rest = ends_from ws all.1 in (
          λ waiting free values rows pend. elim all.0 [
            | inl p ↦ leaves_word _ w ws (settled_rows c pend rows) None None p.plain (leaves_cons _ (place.id, w ∷ []) (settled_rows c pend rows) (read ws None)
                (along_walk _ _ ws _ _ (plain_walked waiting free values rows pend w p) (rest.0 positional (λ w. refl) (λ w h. refl) (settled_rows c pend rows) (Some (place.id, w ∷ [])))))
            | inr l ↦ leaves_word _ w ws (settled_rows c pend rows) None (Some (l.name, l.value)) l.long
                (ends_long w ws rest.0 rest.1 waiting free rows pend l.no_end (kind_of l.name) l.name l.value (knows l.name) l.is)
          ],
          λ a named most rows. elim all.0 [
            | inl p ↦ leaves_word _ w ws rows (Some a.id) None p.plain (leaves_cons _ (a.id, w ∷ []) rows (read ws None)
                (along_walk _ _ ws _ _ (value_walked a named.1 most named.2 rows w p) (rest.0 idle (λ w. refl) (λ w h. refl) rows (Some (a.id, w ∷ [])))))
            | inr l ↦ leaves_word _ w ws rows (Some a.id) (Some (l.name, l.value)) l.long tt
          ],
        )
