-- The parts between separators.
use Rattle.std.proofs.Common.{◌≡◌, ℕ, zero, suc, ◌+◌, ◌-◌, ◌<◌, ◌≤◌, Bool, true, false, List, [], ◌∷◌, ◌++◌, length, take, drop, map, append_assoc, refl, sym, ap, ◌∙◌, arith}
use Rattle.std.specs.Prelude.{nat_eq}
use Rattle.std.specs.List.{starts_with}
use Rattle.std.specs.Str.{IsUtf8}
use Rattle.std.proofs.lemmas.Str.{IsUtf8-drop}
use Rattle.std.specs.Str.Pattern.{LacksTextAt}
use Rattle.std.proofs.lemmas.List.{length-append}
use Rattle.std.specs.Cmp.Lexicographic.{bytes_decides}
use Rattle.bson_value.specs.Tree.{Tree, leaf, text}
use Rattle.std.specs.Prelude.{Some}
use Rattle.std.specs.Str.Pattern.{FindsText}
use Rattle.bson_value.specs.TextRows.{parts}
use Rattle.value_ops.proofs.CodePoints.{take-drop, take-front}

skipped : (sep : List ℕ) (n : ℕ) (bs : List ℕ) → parts sep n bs ≡ parts sep 0 (drop n bs)
skipped sep zero bs = refl
skipped sep (suc n) [] = refl
skipped sep (suc n) (b ∷ bs) = skipped sep n bs

begins : (bs sep rest : List ℕ) → bs ≡ sep ++ rest → starts_with nat_eq bs sep ≡ true
begins bs sep rest e = (bytes_decides sep (take (length sep) bs)).1 (sym (ap (take (length sep)) e ∙ take-front sep rest))

lacks : (bs sep : List ℕ) (b : Bool) → LacksTextAt sep bs 0 → starts_with nat_eq bs sep ≡ b → b ≡ false
lacks bs sep true h e = absurd (h (drop (length sep) bs) (sym (take-drop (length sep) bs) ∙ ap (λ s. s ++ drop (length sep) bs) (sym ((bytes_decides sep (take (length sep) bs)).0 e))))
lacks bs sep false h e = refl

pub part_found : (sep : List ℕ) (i j : ℕ) (bs : List ℕ) → 0 < length sep → j ≡ i + length sep → ((k : ℕ) → k < i → LacksTextAt sep bs k) → drop i bs ≡ sep ++ drop j bs
    → parts sep 0 bs ≡ take i bs ∷ parts sep 0 (drop j bs)
part_found sep zero j [] some ends absent here = absurd (omega (arith, ap length here, length-append sep (drop j [])))
part_found sep zero j (b ∷ bs) some ends absent here =
    rw (begins (b ∷ bs) sep (drop j (b ∷ bs)) here) (ap (λ (ps : List (List ℕ)). [] ∷ ps) (skipped sep (length sep - 1) bs ∙ ap (parts sep 0) (past (length sep) j some (omega (arith, ends)))))
  where
    past : (n m : ℕ) → 0 < n → m ≡ n → drop (n - 1) bs ≡ drop m (b ∷ bs)
    past zero m h e = absurd (omega arith)
    past (suc n) m h e = let f : suc n - 1 ≡ n = omega arith in rw (e, f) refl
part_found sep (suc i) j [] some ends absent here = absurd (omega (arith, ap length here, length-append sep (drop j [])))
part_found sep (suc i) j (b ∷ bs) some ends absent here =
    let k : j ≡ suc (i + length sep) = omega (arith, ends) in
    let found : parts sep 0 bs ≡ take i bs ∷ parts sep 0 (drop (i + length sep) bs) = part_found sep i (i + length sep) bs some refl (λ m lt. absent (suc m) (omega arith)) (rw k at here) in
    rw (k, lacks (b ∷ bs) sep _ (absent 0 (omega arith)) refl, found) refl

pub last_part : (sep bs : List ℕ) → ((k : ℕ) → k ≤ length bs → LacksTextAt sep bs k) → parts sep 0 bs ≡ bs ∷ []
last_part sep [] absent = refl
last_part sep (b ∷ bs) absent = rw (lacks (b ∷ bs) sep _ (absent 0 (omega arith)) refl, last_part sep bs (λ k le. absent (suc k) (omega arith))) refl

abbrev pub shown : List ℕ → Tree
shown part = leaf (text part)

-- as `split_once` finds it
pub next_part : (sep bs part more : List ℕ) (list : List Tree) → 0 < length sep
    → (i : ℕ) × (j : ℕ) × FindsText sep bs (Some (i, j)) × (part ≡ take i bs) × (more ≡ drop j bs) × (i ≤ j) × (length part ≡ i) × (length more + j ≡ length bs)
    → (list ++ shown part ∷ []) ++ map shown (parts sep 0 more) ≡ list ++ map shown (parts sep 0 bs)
next_part sep bs part more list some f =
    append_assoc list (shown part ∷ []) (map shown (parts sep 0 more))
    ∙ ap (λ (ts : List Tree). list ++ ts) (rw (f.3, f.4) (sym (ap (map shown) (part_found sep f.0 f.1 bs some f.2.1.ends f.2.0 f.2.1.split))))

pub rest_is_text : (sep bs part more : List ℕ) → IsUtf8 bs
    → (i : ℕ) × (j : ℕ) × FindsText sep bs (Some (i, j)) × (part ≡ take i bs) × (more ≡ drop j bs) × (i ≤ j) × (length part ≡ i) × (length more + j ≡ length bs)
    → IsUtf8 more
rest_is_text sep bs part more u f = rw (f.4, f.2.1.ends) (IsUtf8-drop bs (f.0 + length sep) u f.2.1.after)
