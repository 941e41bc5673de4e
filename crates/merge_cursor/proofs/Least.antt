-- The failure that is kept is the least that was given.
use Rattle.std.proofs.Common.{◌≡◌, ℕ, Bool, true, false, cond, List, [], ◌∷◌, ◌++◌, length, get_or, refl, sym, subst, ◌∙◌, arith, append_assoc, append-nil}
use Rattle.std.specs.Prelude.{Option, Some, None, nat_lt, nat_eq, ◌&&◌, ◌||◌}
use Rattle.std.specs.List.{All}
use Rattle.std.proofs.lemmas.List.Elements.{Contains-push, Contains-append_left, All-push}
use Rattle.bson_value.specs.declared.errors.Failure.{Failure}
use Rattle.bson_value.specs.Codes.{code_number}
use Rattle.merge_cursor.specs.Core.{Core, failure_before, lesser}
use Rattle.merge_cursor.specs.Schedule.{Event, asks, arrives, ends, takes, Run, start}
use Rattle.merge_cursor.specs.Laws.{failures, failures_of, IsLeast, HasLeast}

abbrev Before : ℕ → ℕ → ℕ → ℕ → Bool
Before a b c d = nat_lt a c || (nat_eq a c && nat_lt b d)

before_self : (a b : ℕ) → Before a b a b ≡ false
before_self a b = grind arith

before_chain : (a b c d e f : ℕ) → Before a b e f ≡ false → Before c d e f ≡ true → Before a b c d ≡ false
before_chain a b c d e f h k = grind arith

not_before_self : (f : Failure) → failure_before f f ≡ false
not_before_self f = before_self f.stage (code_number f.code)

not_before_chain : (x g h : Failure) → failure_before x h ≡ false → failure_before g h ≡ true → failure_before x g ≡ false
not_before_chain x g h = before_chain x.stage (code_number x.code) g.stage (code_number g.code) h.stage (code_number h.code)

-- with the failure that another end gives
least_more : (fs : List Failure) (m f : Option Failure) → IsLeast fs m → IsLeast (fs ++ failures_of f) (lesser m f)
least_more fs None None e = append-nil fs ∙ e
least_more fs None (Some g) e = (Contains-push fs g, All-push (λ x. failure_before x g ≡ false) fs g (subst (All (λ x. failure_before x g ≡ false)) (sym e) (λ k d high. absurd (omega arith))) (not_before_self g))
least_more fs (Some h) None (c, a) = (Contains-append_left fs [] h c, subst (All (λ x. failure_before x h ≡ false)) (sym (append-nil fs)) a)
least_more fs (Some h) (Some g) (c, a) =
    elim (failure_before g h) as (λ b. failure_before g h ≡ b → IsLeast (fs ++ g ∷ []) (cond b (Some g) (Some h))) [
      | true ↦ λ e. (Contains-push fs g, All-push (λ x. failure_before x g ≡ false) fs g (λ k d high. not_before_chain (get_or fs k d) g h (a k d high) e) (not_before_self g))
      | false ↦ λ e. (Contains-append_left fs (g ∷ []) h c, All-push (λ x. failure_before x h ≡ false) fs g a e)
    ] refl

least_kept : (es : List Event) (old new : Core) (fs : List Failure) → Run old es new → IsLeast fs old.least → IsLeast (fs ++ failures es) new.least
least_kept [] old new fs r h = rw (r, append-nil fs) h
least_kept (asks i ∷ es) old new fs r h = least_kept es r.0 new fs r.2 (rw r.1.then h)
least_kept (arrives i b ∷ es) old new fs r h = least_kept es r.0 new fs r.2 (rw r.1.then h)
least_kept (ends i f ∷ es) old new fs r h = subst (λ (gs : List Failure). IsLeast gs new.least) (append_assoc fs (failures_of f) (failures es)) (least_kept es r.0 new (fs ++ failures_of f) r.2 (rw r.1.then (least_more fs old.least f h)))
least_kept (takes x ∷ es) old new fs r h = least_kept es r.0 new fs r.2 (rw r.1.then h)

pub least_of_schedule : (c : Core) → HasLeast c c.least
least_of_schedule c events r = least_kept events (start c.by_key (length c.shards)) c [] r refl
