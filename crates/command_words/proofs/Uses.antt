-- What one piece asks of the rows before it, and what it adds to them.
use Rattle.std.proofs.Common.{◌≡◌, ◌∙◌, Bool, cond, true, false, not, ◌&&◌, ◌||◌, refl, sym, ap, subst, List, [], ◌∷◌, ◌++◌, Option, Some, None, codes, slice_get, true≢false}
use Rattle.std.specs.Prelude.{unwrap_or}
use Rattle.std.specs.Str.{bytes_eq}
use Rattle.std.proofs.lemmas.Slice.Eq.{bytes_eq-Decides}
use Rattle.clap.specs.Kinds.{or_else}
use Rattle.clap.specs.Walk.{Row, Text, all_of, first_of, has_row, with_values, without}
use Rattle.clap.specs.declared.builder.value_parser.Reading.{Reading}
use Rattle.clap.specs.declared.error.kind.ErrorKind.TheVariants as kind
use Rattle.clap.specs.declared.parser.matches.ValueSource.TheVariants.{CommandLine}
use Rattle.command_words.specs.Given.{Kind, Piece, and_then, after_name, after_word, flag, kind_of, long_name, option, pieces, place, unknown}
use Rattle.command_words.proofs.Walked.{is_nil}
use Rattle.command_words.proofs.Parsed.{passes, put_one}
use Rattle.command_words.proofs.Rows.{all_joined, all_last, first_joined, first_last, has_joined, has_last, row_with, set_new}

-- the text that a getter answers of the piece
abbrev pub shown : Piece → Option Text
shown p = cond (bytes_eq p.0 (codes "stats")) (Some (codes "true")) (slice_get p.1 0)

-- a piece is used as an option, a flag or a positional word is
pub record IsUse (p : Piece) : Type 0 where
  pub fits : (rows : List Row) → passes p rows ≡ (bytes_eq p.0 place || not (has_row p.0 rows))
  pub adds : (rows : List Row) → passes p rows ≡ true → (n : Text) → has_row n (put_one rows p) ≡ (bytes_eq p.0 n || has_row n rows)
  pub firsts : (rows : List Row) → passes p rows ≡ true → (n : Text) → bytes_eq place n ≡ false
      → first_of n (put_one rows p) ≡ cond (has_row n rows) (first_of n rows) (cond (bytes_eq p.0 n) (shown p) None)
  pub alls : (rows : List Row) → passes p rows ≡ true
      → all_of place (put_one rows p) ≡ cond (bytes_eq p.0 place) (Some (unwrap_or (all_of place rows) [] ++ p.1)) (all_of place rows)

flip : (b : Bool) → not b ≡ true → b ≡ false
flip true e = absurd (true≢false (sym e))
flip false e = refl

conflict : (b : Bool) → is_nil (or_else (cond (b && not false) (kind.ArgumentConflict ∷ []) []) []) ≡ not b
conflict true = refl
conflict false = refl

-- an option or a flag, which passes where it has no row yet, and then makes one
module _ (p : Piece) (how : Reading) (vs : List Text) (fit : (rows : List Row) → passes p rows ≡ not (has_row p.0 rows))
    (puts : (rows : List Row) → put_one rows p ≡ with_values p.0 how CommandLine vs (without p.0 rows))
    (other : bytes_eq p.0 place ≡ false) (first : slice_get vs 0 ≡ shown p) where
  made : (rows : List Row) → passes p rows ≡ true → put_one rows p ≡ rows ++ row_with p.0 how CommandLine vs ∷ []
  made rows ok = puts rows ∙ set_new p.0 how CommandLine vs rows (flip _ (sym (fit rows) ∙ ok))

  set_use : IsUse p
  set_use = record {
    fits = λ rows. fit rows ∙ ap (λ b. b || not (has_row p.0 rows)) (sym other);
    adds = λ rows ok n. ap (λ rs. has_row n rs) (made rows ok) ∙ has_last n rows (row_with p.0 how CommandLine vs);
    firsts = λ rows ok n free. ap (λ rs. first_of n rs) (made rows ok) ∙ first_last n rows (row_with p.0 how CommandLine vs)
        ∙ ap (λ o. cond (has_row n rows) (first_of n rows) (cond (bytes_eq p.0 n) o None)) first;
    alls = λ rows ok. ap (λ rs. all_of place rs) (made rows ok) ∙ all_last place rows (row_with p.0 how CommandLine vs) other
        ∙ ap (λ b. cond b (Some (unwrap_or (all_of place rows) [] ++ p.1)) (all_of place rows)) (sym other);
  }

budget_use : (v : Text) → IsUse (codes "budget", v ∷ [])
budget_use v = set_use (codes "budget", v ∷ []) _ (v ∷ []) (λ rows. conflict (has_row (codes "budget") rows)) (λ rows. refl) refl refl

batch_use : (v : Text) → IsUse (codes "batch", v ∷ [])
batch_use v = set_use (codes "batch", v ∷ []) _ (v ∷ []) (λ rows. conflict (has_row (codes "batch") rows)) (λ rows. refl) refl refl

cache_use : (v : Text) → IsUse (codes "cache", v ∷ [])
cache_use v = set_use (codes "cache", v ∷ []) _ (v ∷ []) (λ rows. conflict (has_row (codes "cache") rows)) (λ rows. refl) refl refl

arrival_use : (v : Text) → IsUse (codes "arrival", v ∷ [])
arrival_use v = set_use (codes "arrival", v ∷ []) _ (v ∷ []) (λ rows. conflict (has_row (codes "arrival") rows)) (λ rows. refl) refl refl

stats_use : IsUse (codes "stats", [])
stats_use = set_use (codes "stats", []) _ (codes "true" ∷ []) (λ rows. conflict (has_row (codes "stats") rows)) (λ rows. refl) refl refl

pub no_first : (n : Text) (rows : List Row) → has_row n rows ≡ false → first_of n rows ≡ None
no_first n [] none = refl
no_first n (r ∷ rs) none = go (bytes_eq r.id n) refl (no_first n rs)
  where
    go : (b : Bool) → bytes_eq r.id n ≡ b → (has_row n rs ≡ false → first_of n rs ≡ None) → first_of n (r ∷ rs) ≡ None
    go true e ih = absurd (true≢false (sym (ap (λ b. b || has_row n rs) e) ∙ none))
    go false e ih = rw e (ih (sym (ap (λ b. b || has_row n rs) e) ∙ none))

place_first : (v : Text) (rows : List Row) (n : Text) → bytes_eq place n ≡ false
    → first_of n (put_one rows (place, v ∷ [])) ≡ cond (has_row n rows) (first_of n rows) (cond (bytes_eq place n) (shown (place, v ∷ [])) None)
place_first v rows n free = first_joined place _ CommandLine (v ∷ []) rows n free ∙ go (has_row n rows) refl
  where
    go : (b : Bool) → has_row n rows ≡ b → first_of n rows ≡ cond (has_row n rows) (first_of n rows) (cond (bytes_eq place n) (shown (place, v ∷ [])) None)
    go true e = rw e refl
    go false e = rw (e, free) (no_first n rows e)

place_use : (v : Text) → IsUse (place, v ∷ [])
place_use v = record {
  fits = λ rows. refl;
  adds = λ rows ok n. has_joined place _ CommandLine (v ∷ []) rows n;
  firsts = λ rows ok n free. place_first v rows n free;
  alls = λ rows ok. all_joined place _ CommandLine (v ∷ []) rows;
}

-- ---- each piece of words is a use

abbrev pub AllUses : List Piece → Type 0
AllUses [] = Unit {0}
AllUses (p ∷ ps) = IsUse p × AllUses ps

abbrev pub AreUses : Option (List Piece) → Type 0
AreUses None = Unit {0}
AreUses (Some ps) = AllUses ps

uses_cons : (p : Piece) (o : Option (List Piece)) → IsUse p → AreUses o → AreUses (and_then p o)
uses_cons p None u h = tt
uses_cons p (Some ps) u h = (u, h)

abbrev UsesOf : Text → Kind → Type 0
UsesOf name unknown = Unit {0}
UsesOf name flag = IsUse (name, [])
UsesOf name option = (v : Text) → IsUse (name, v ∷ [])

uses_by : (name : Text) (a b d e f : Bool) → bytes_eq (codes "budget") name ≡ a → bytes_eq (codes "batch") name ≡ b → bytes_eq (codes "cache") name ≡ d
    → bytes_eq (codes "arrival") name ≡ e → bytes_eq (codes "stats") name ≡ f → UsesOf name (cond a option (cond b option (cond d option (cond e option (cond f flag unknown)))))
uses_by name true b d e f pa pb pd pe pf = subst (λ (n : Text). (v : Text) → IsUse (n, v ∷ [])) ((bytes_eq-Decides (codes "budget") name).0 pa) budget_use
uses_by name false true d e f pa pb pd pe pf = subst (λ (n : Text). (v : Text) → IsUse (n, v ∷ [])) ((bytes_eq-Decides (codes "batch") name).0 pb) batch_use
uses_by name false false true e f pa pb pd pe pf = subst (λ (n : Text). (v : Text) → IsUse (n, v ∷ [])) ((bytes_eq-Decides (codes "cache") name).0 pd) cache_use
uses_by name false false false true f pa pb pd pe pf = subst (λ (n : Text). (v : Text) → IsUse (n, v ∷ [])) ((bytes_eq-Decides (codes "arrival") name).0 pe) arrival_use
uses_by name false false false false true pa pb pd pe pf = subst (λ (n : Text). IsUse (n, [])) ((bytes_eq-Decides (codes "stats") name).0 pf) stats_use
uses_by name false false false false false pa pb pd pe pf = tt

uses_of : (name : Text) → UsesOf name (kind_of name)
uses_of name = uses_by name _ _ _ _ _ refl refl refl refl refl

-- an option that waits is known
abbrev Waits : Option Text → Type 0
Waits None = Unit {0}
Waits (Some n) = (v : Text) → IsUse (n, v ∷ [])

after_uses : (k : Kind) (name : Text) (v : Option Text) (rest : Option Text → Option (List Piece)) → UsesOf name k
    → ((o : Option Text) → Waits o → AreUses (rest o)) → AreUses (after_name k name v rest)
after_uses unknown name v rest u h = tt
after_uses flag name (Some v) rest u h = tt
after_uses flag name None rest u h = uses_cons (name, []) (rest None) u (h None tt)
after_uses option name (Some v) rest u h = uses_cons (name, v ∷ []) (rest None) (u v) (h None tt)
after_uses option name None rest u h = h (Some name) u

word_uses : (w : Text) (waiting : Option Text) (o : Option (Text × Option Text)) (rest : Option Text → Option (List Piece)) → Waits waiting
    → ((o : Option Text) → Waits o → AreUses (rest o)) → AreUses (after_word kind_of place waiting o w rest)
word_uses w (Some n) (Some p) rest u h = tt
word_uses w (Some n) None rest u h = uses_cons (n, w ∷ []) (rest None) (u w) (h None tt)
word_uses w None (Some p) rest u h = after_uses (kind_of p.0) p.0 p.1 rest (uses_of p.0) h
word_uses w None None rest u h = uses_cons (place, w ∷ []) (rest None) (place_use w) (h None tt)

pub pieces_use : (ws : List Text) (waiting : Option Text) → Waits waiting → AreUses (pieces kind_of place ws waiting)
unfolding pieces
pieces_use [] None u = tt
pieces_use [] (Some n) u = tt
pieces_use (w ∷ ws) waiting u = word_uses w waiting (long_name w) _ u (λ o v. pieces_use ws o v)
