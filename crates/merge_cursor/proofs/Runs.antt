-- What each event keeps holds after a whole schedule.
use Rattle.std.proofs.Common.{◌≡◌, ℕ, List, [], ◌∷◌, ◌++◌, refl, sym, ap, subst, ◌∙◌, append_assoc, append-nil}
use Rattle.std.specs.Prelude.{Option, replicate}
use Rattle.merge_cursor.specs.declared.item.Keyed.{Keyed}
use Rattle.bson_value.specs.declared.errors.Failure.{Failure}
use Rattle.merge_cursor.specs.Core.{Core}
use Rattle.merge_cursor.specs.Schedule.{Event, asks, arrives, ends, takes, Asks, Arrives, Ends, Takes, Step, Run}
use Rattle.merge_cursor.specs.Laws.{taken, given, add_to, failures, failures_of, ListsJoin}

-- each event keeps I, where G holds of the lists after it
pub record IsKept (G : List (List Keyed) → Type 0) (I : Core → List (List Keyed) → List Keyed → Type 0) : Type 0 where
  pub down : (ls : List (List Keyed)) (i : ℕ) (b : List Keyed) → G (add_to ls i b) → G ls
  pub asked : (old : Core) (i : ℕ) (new : Core) (ls : List (List Keyed)) (tk : List Keyed) → G ls → Asks old i new → I old ls tk → I new ls tk
  pub arrived : (old : Core) (i : ℕ) (b : List Keyed) (new : Core) (ls : List (List Keyed)) (tk : List Keyed) → G (add_to ls i b) → Arrives old i b new → I old ls tk → I new (add_to ls i b) tk
  pub ended : (old : Core) (i : ℕ) (f : Option Failure) (new : Core) (ls : List (List Keyed)) (tk : List Keyed) → G ls → Ends old i f new → I old ls tk → I new ls tk
  pub took : (old : Core) (x : Keyed) (new : Core) (ls : List (List Keyed)) (tk : List Keyed) → G ls → Takes old x new → I old ls tk → I new ls (tk ++ x ∷ [])

module _ (G : List (List Keyed) → Type 0) (I : Core → List (List Keyed) → List Keyed → Type 0) (k : IsKept G I) where
  pub given_down : (es : List Event) (ls : List (List Keyed)) → G (given es ls) → G ls
  given_down [] ls g = g
  given_down (asks i ∷ es) ls g = given_down es ls g
  given_down (arrives i b ∷ es) ls g = k.down ls i b (given_down es (add_to ls i b) g)
  given_down (ends i f ∷ es) ls g = given_down es ls g
  given_down (takes x ∷ es) ls g = given_down es ls g

  pub run_keeps : (es : List Event) (old new : Core) (ls : List (List Keyed)) (tk : List Keyed) → Run old es new → G (given es ls) → I old ls tk → I new (given es ls) (tk ++ taken es)
  run_keeps [] old new ls tk r g h = rw (r, append-nil tk) h
  run_keeps (asks i ∷ es) old new ls tk r g h = run_keeps es r.0 new ls tk r.2 g (k.asked old i r.0 ls tk (given_down es ls g) r.1 h)
  run_keeps (arrives i b ∷ es) old new ls tk r g h = run_keeps es r.0 new (add_to ls i b) tk r.2 g (k.arrived old i b r.0 ls tk (given_down es (add_to ls i b) g) r.1 h)
  run_keeps (ends i f ∷ es) old new ls tk r g h = run_keeps es r.0 new ls tk r.2 g (k.ended old i f r.0 ls tk (given_down es ls g) r.1 h)
  run_keeps (takes x ∷ es) old new ls tk r g h =
      subst (λ (ys : List Keyed). I new (given es ls) ys) (append_assoc tk (x ∷ []) (taken es)) (run_keeps es r.0 new ls (tk ++ x ∷ []) r.2 g (k.took old x r.0 ls tk (given_down es ls g) r.1 h))

pub taken-append : (es later : List Event) → taken (es ++ later) ≡ taken es ++ taken later
taken-append [] later = refl
taken-append (asks i ∷ es) later = taken-append es later
taken-append (arrives i b ∷ es) later = taken-append es later
taken-append (ends i f ∷ es) later = taken-append es later
taken-append (takes x ∷ es) later = ap (λ (ys : List Keyed). x ∷ ys) (taken-append es later)

given-append : (es later : List Event) (ls : List (List Keyed)) → given (es ++ later) ls ≡ given later (given es ls)
given-append [] later ls = refl
given-append (asks i ∷ es) later ls = given-append es later ls
given-append (arrives i b ∷ es) later ls = given-append es later (add_to ls i b)
given-append (ends i f ∷ es) later ls = given-append es later ls
given-append (takes x ∷ es) later ls = given-append es later ls

pub lists-append : ListsJoin
lists-append n es later = given-append es later (replicate n [])

pub failures-append : (es later : List Event) → failures (es ++ later) ≡ failures es ++ failures later
failures-append [] later = refl
failures-append (asks i ∷ es) later = failures-append es later
failures-append (arrives i b ∷ es) later = failures-append es later
failures-append (ends i f ∷ es) later = ap (λ (ys : List Failure). failures_of f ++ ys) (failures-append es later) ∙ sym (append_assoc (failures_of f) (failures es) (failures later))
failures-append (takes x ∷ es) later = failures-append es later

-- one event more
pub run_more : (es : List Event) (old mid new : Core) (e : Event) → Run old es mid → Step mid e new → Run old (es ++ e ∷ []) new
run_more [] old mid new e r s = (new, subst (λ (c : Core). Step c e new) r s, refl)
run_more (d ∷ es) old mid new e r s = (r.0, r.1, run_more es r.0 mid new e r.2 s)

-- one schedule after another
pub run_on : (es later : List Event) (old mid new : Core) → Run old es mid → Run mid later new → Run old (es ++ later) new
run_on [] later old mid new r s = subst (λ (c : Core). Run c later new) r s
run_on (d ∷ es) later old mid new r s = (r.0, r.1, run_on es later r.0 mid new r.2 s)
