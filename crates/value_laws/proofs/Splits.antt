-- What is split at a separator.
use Rattle.std.proofs.Common.{◌≡◌, ◌≢◌, ℕ, zero, suc, ◌-◌, ◌<◌, ◌≤◌, Bool, true, false, List, [], ◌∷◌, ◌++◌, length, take, drop, append_assoc, refl, sym, ap, ◌∙◌, arith}
use Rattle.std.specs.Prelude.{nat_eq, if◌then◌else◌}
use Rattle.std.specs.List.{starts_with, onto_first, flat_map, join_by, All}
use Rattle.std.specs.Str.Pattern.{LacksTextAt}
use Rattle.std.specs.Cmp.Lexicographic.{bytes_decides}
use Rattle.std.proofs.lemmas.List.{take-append-drop, length-append}
use Rattle.std.proofs.lemmas.List.Elements.{All-nil, All-cons, All-head, All-tail}
use Rattle.std.proofs.Math.Seq.{take-append_seam, drop-append_seam}
use Rattle.bson_value.specs.TextRows.{parts}

skipped : (sep : List ℕ) (n : ℕ) (bs : List ℕ) → parts sep n bs ≡ parts sep 0 (drop n bs)
skipped sep zero bs = refl
skipped sep (suc n) [] = refl
skipped sep (suc n) (b ∷ bs) = skipped sep n bs

begins : (bs sep rest : List ℕ) → bs ≡ sep ++ rest → starts_with nat_eq bs sep ≡ true
begins bs sep rest e = (bytes_decides sep (take (length sep) bs)).1 (sym (ap (take (length sep)) e ∙ take-append_seam sep rest))

front : (bs sep : List ℕ) → starts_with nat_eq bs sep ≡ true → sep ++ drop (length sep) bs ≡ bs
front bs sep e = ap (λ s. s ++ drop (length sep) bs) ((bytes_decides sep (take (length sep) bs)).0 e) ∙ take-append-drop (length sep) bs

lacks : (bs sep : List ℕ) (b : Bool) → LacksTextAt sep bs 0 → starts_with nat_eq bs sep ≡ b → b ≡ false
lacks bs sep true h e = absurd (h (drop (length sep) bs) (sym (front bs sep e)))
lacks bs sep false h e = refl

past : (n : ℕ) (b : ℕ) (bs : List ℕ) → 0 < n → drop (n - 1) bs ≡ drop n (b ∷ bs)
past zero b bs h = absurd (omega arith)
past (suc n) b bs h = let e : suc n - 1 ≡ n = omega arith in rw e refl

some_of : {A : Type 0} (xs : List A) → xs ≢ [] → 0 < length xs
some_of [] h = absurd (h refl)
some_of (x ∷ xs) h = omega arith

pub last_part : (sep bs : List ℕ) → ((k : ℕ) → k ≤ length bs → LacksTextAt sep bs k) → parts sep 0 bs ≡ bs ∷ []
last_part sep [] absent = refl
last_part sep (b ∷ bs) absent = rw (lacks (b ∷ bs) sep _ (absent 0 (omega arith)) refl, last_part sep bs (λ k le. absent (suc k) (omega arith))) refl

first_here : (sep rest : List ℕ) (b : ℕ) (bs : List ℕ) → 0 < length sep → b ∷ bs ≡ sep ++ rest → parts sep 0 (b ∷ bs) ≡ [] ∷ parts sep 0 rest
first_here sep rest b bs some e =
    rw (begins (b ∷ bs) sep rest e)
    (ap (λ (ps : List (List ℕ)). [] ∷ ps) (skipped sep (length sep - 1) bs ∙ ap (parts sep 0) (past (length sep) b bs some ∙ ap (drop (length sep)) e ∙ drop-append_seam sep rest)))

pub first_part : (sep before after : List ℕ) → sep ≢ [] → ((k : ℕ) → k < length before → LacksTextAt sep (before ++ (sep ++ after)) k)
    → parts sep 0 (before ++ (sep ++ after)) ≡ before ∷ parts sep 0 after
first_part [] [] after some absent = absurd (some refl)
first_part (s ∷ sep) [] after some absent = first_here (s ∷ sep) after s (sep ++ after) (omega arith) refl
first_part sep (b ∷ before) after some absent =
    rw (lacks (b ∷ (before ++ (sep ++ after))) sep _ (absent 0 (omega arith)) refl, first_part sep before after some (λ k lt. absent (suc k) (omega arith))) refl

-- ---- the parts joined

abbrev joined : List ℕ → List (List ℕ) → List ℕ
joined sep ps = join_by (λ (part : List ℕ). part) sep ps

joined-behind : (sep : List ℕ) (ps : List (List ℕ)) → ps ≢ [] → flat_map (λ part. sep ++ part) ps ≡ sep ++ joined sep ps
joined-behind sep [] some = absurd (some refl)
joined-behind sep (p ∷ ps) some = append_assoc sep p (flat_map (λ part. sep ++ part) ps)

joined-onto : (sep : List ℕ) (b : ℕ) (ps : List (List ℕ)) → ps ≢ [] → joined sep (onto_first b ps) ≡ b ∷ joined sep ps
joined-onto sep b [] some = absurd (some refl)
joined-onto sep b (p ∷ ps) some = refl

cons_some : {A : Type 0} (x : A) (xs : List A) → x ∷ xs ≢ []
cons_some x xs e = cc

onto_some : (b : ℕ) (ps : List (List ℕ)) → onto_first b ps ≢ []
onto_some b [] = cons_some _ _
onto_some b (p ∷ ps) = cons_some _ _

either_some : (c : Bool) (b : ℕ) (ps qs : List (List ℕ)) → (if c then [] ∷ ps else onto_first b qs) ≢ []
either_some true b ps qs = cons_some _ _
either_some false b ps qs = onto_some b qs

parts_some : (bs sep : List ℕ) (n : ℕ) → parts sep n bs ≢ []
parts_some [] sep zero = cons_some _ _
parts_some [] sep (suc n) = cons_some _ _
parts_some (b ∷ bs) sep zero = either_some (starts_with nat_eq (b ∷ bs) sep) b _ _
parts_some (b ∷ bs) sep (suc n) = parts_some bs sep n

step : (sep : List ℕ) (b : ℕ) (bs : List ℕ) → 0 < length sep → ((n : ℕ) → joined sep (parts sep n bs) ≡ drop n bs)
    → (c : Bool) → starts_with nat_eq (b ∷ bs) sep ≡ c → joined sep (if c then [] ∷ parts sep (length sep - 1) bs else onto_first b (parts sep 0 bs)) ≡ b ∷ bs
step sep b bs some rest true e =
    joined-behind sep (parts sep (length sep - 1) bs) (parts_some bs sep (length sep - 1))
    ∙ ap (λ s. sep ++ s) (rest (length sep - 1) ∙ past (length sep) b bs some) ∙ front (b ∷ bs) sep e
step sep b bs some rest false e = joined-onto sep b (parts sep 0 bs) (parts_some bs sep 0) ∙ ap (λ s. b ∷ s) (rest 0)

joined_from : (bs sep : List ℕ) → 0 < length sep → (n : ℕ) → joined sep (parts sep n bs) ≡ drop n bs
joined_from [] sep some zero = refl
joined_from [] sep some (suc n) = refl
joined_from (b ∷ bs) sep some zero = step sep b bs some (joined_from bs sep some) _ refl
joined_from (b ∷ bs) sep some (suc n) = joined_from bs sep some n

pub parts_join : (sep bs : List ℕ) → sep ≢ [] → joined sep (parts sep 0 bs) ≡ bs
parts_join sep bs some = joined_from bs sep (some_of sep some) 0

-- ---- no part has the separator

abbrev Lacks : List ℕ → List ℕ → Type 0
Lacks sep part = (k : ℕ) → k ≤ length part → LacksTextAt sep part k

empty_lacks : (sep : List ℕ) → 0 < length sep → Lacks sep []
empty_lacks sep some zero le rest e = absurd (omega (arith, ap length e, length-append sep rest))
empty_lacks sep some (suc k) le rest e = absurd (omega arith)

longer_lacks : (sep : List ℕ) (b : ℕ) (p : List ℕ) → LacksTextAt sep (b ∷ p) 0 → Lacks sep p → Lacks sep (b ∷ p)
longer_lacks sep b p here behind zero le = here
longer_lacks sep b p here behind (suc k) le = behind k (omega arith)

front_lacks : (sep : List ℕ) (b : ℕ) (bs p more : List ℕ) → bs ≡ p ++ more → starts_with nat_eq (b ∷ bs) sep ≡ false → LacksTextAt sep (b ∷ p) 0
front_lacks sep b bs p more e h rest k =
    let starts : starts_with nat_eq (b ∷ bs) sep ≡ true = begins (b ∷ bs) sep (rest ++ more) (ap (λ s. b ∷ s) e ∙ ap (λ s. s ++ more) k ∙ append_assoc sep rest more) in
    absurd (cc)

onto_lacks : (sep : List ℕ) (b : ℕ) (bs : List ℕ) (ps : List (List ℕ)) → ps ≢ [] → joined sep ps ≡ bs → starts_with nat_eq (b ∷ bs) sep ≡ false → All (Lacks sep) ps → All (Lacks sep) (onto_first b ps)
onto_lacks sep b bs [] some e h all = absurd (some refl)
onto_lacks sep b bs (p ∷ ps) some e h all =
    All-cons (Lacks sep) (b ∷ p) ps (longer_lacks sep b p (front_lacks sep b bs p (flat_map (λ part. sep ++ part) ps) (sym e) h) (All-head (Lacks sep) p ps all)) (All-tail (Lacks sep) p ps all)

lack_step : (sep : List ℕ) (b : ℕ) (bs : List ℕ) → 0 < length sep → ((n : ℕ) → All (Lacks sep) (parts sep n bs)) → (c : Bool) → starts_with nat_eq (b ∷ bs) sep ≡ c
    → All (Lacks sep) (if c then [] ∷ parts sep (length sep - 1) bs else onto_first b (parts sep 0 bs))
lack_step sep b bs some rest true e = All-cons (Lacks sep) [] (parts sep (length sep - 1) bs) (empty_lacks sep some) (rest (length sep - 1))
lack_step sep b bs some rest false e = onto_lacks sep b bs (parts sep 0 bs) (parts_some bs sep 0) (joined_from bs sep some 0) e (rest 0)

alone_lacks : (sep : List ℕ) → 0 < length sep → All (Lacks sep) ([] ∷ [])
alone_lacks sep some = All-cons (Lacks sep) [] [] (empty_lacks sep some) (All-nil (Lacks sep))

lack_from : (bs sep : List ℕ) → 0 < length sep → (n : ℕ) → All (Lacks sep) (parts sep n bs)
lack_from [] sep some zero = alone_lacks sep some
lack_from [] sep some (suc n) = alone_lacks sep some
lack_from (b ∷ bs) sep some zero = lack_step sep b bs some (lack_from bs sep some) _ refl
lack_from (b ∷ bs) sep some (suc n) = lack_from bs sep some n

pub parts_lack : (sep bs : List ℕ) → sep ≢ [] → All (Lacks sep) (parts sep 0 bs)
parts_lack sep bs some = lack_from bs sep (some_of sep some) 0
