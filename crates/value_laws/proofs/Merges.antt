-- Merged documents.
use Rattle.std.proofs.Common.{◌≡◌, ℕ, zero, suc, ◌≤◌, Bool, true, false, List, [], ◌∷◌, ◌++◌, map, take, length, reverse, refl, sym, ap, ◌∙◌, arith}
use Rattle.std.specs.Prelude.{Option, Some, None, if◌then◌else◌}
use Rattle.std.specs.Option.{option_or}
use Rattle.std.specs.Str.{bytes_eq}
use Rattle.std.proofs.lemmas.List.{reverse-append}
use Rattle.std.proofs.lemmas.Slice.Eq.{bytes_eq-Decides}
use Rattle.bson_value.specs.Tree.{Tree}
use Rattle.bson_value.specs.Pairs.{find, put}
use Rattle.bson_value.specs.ObjectRows.{Fields, merged}

abbrev names : Fields → List (List ℕ)
names ps = map (λ p. p.0) ps

take_names : (ps : Fields) → take (length ps) (names ps) ≡ names ps
take_names [] = refl
take_names (p ∷ ps) = ap (λ (ns : List (List ℕ)). p.0 ∷ ns) (take_names ps)

-- ---- one field put

front_if : (b : Bool) (k : List ℕ) (x : Tree) (p : List ℕ × Tree) (ps : Fields) → bytes_eq p.0 k ≡ b → take (length ps) (names (put k x ps)) ≡ names ps
    → take (suc (length ps)) (names (if b then (k, x) ∷ ps else p ∷ put k x ps)) ≡ p.0 ∷ names ps
front_if true k x p ps e rest = ap (λ (ns : List (List ℕ)). k ∷ ns) (take_names ps) ∙ ap (λ (n : List ℕ). n ∷ names ps) (sym ((bytes_eq-Decides p.0 k).0 e))
front_if false k x p ps e rest = ap (λ (ns : List (List ℕ)). p.0 ∷ ns) rest

front_names : (ps : Fields) (k : List ℕ) (x : Tree) → take (length ps) (names (put k x ps)) ≡ names ps
front_names [] k x = refl
front_names (p ∷ ps) k x = front_if (bytes_eq p.0 k) k x p ps refl (front_names ps k x)

longer_if : (b : Bool) (k : List ℕ) (x : Tree) (p : List ℕ × Tree) (ps : Fields) → length ps ≤ length (put k x ps) → suc (length ps) ≤ length (if b then (k, x) ∷ ps else p ∷ put k x ps)
longer_if true k x p ps rest = omega arith
longer_if false k x p ps rest = omega arith

longer : (ps : Fields) (k : List ℕ) (x : Tree) → length ps ≤ length (put k x ps)
longer [] k x = omega arith
longer (p ∷ ps) k x = longer_if (bytes_eq p.0 k) k x p ps (longer ps k x)

shorter : {A : Type 0} (n m : ℕ) (xs : List A) → n ≤ m → take n (take m xs) ≡ take n xs
shorter zero m xs h = refl
shorter (suc n) zero xs h = absurd (omega arith)
shorter (suc n) (suc m) [] h = refl
shorter {A} (suc n) (suc m) (x ∷ xs) h = ap (λ (ys : List A). x ∷ ys) (shorter n m xs (omega arith))

pub kept : (qs ps : Fields) → take (length ps) (names (merged ps qs)) ≡ names ps
kept [] ps = take_names ps
kept (q ∷ qs) ps =
    sym (shorter (length ps) (length (put q.0 q.1 ps)) (names (merged (put q.0 q.1 ps) qs)) (longer ps q.0 q.1))
    ∙ ap (take (length ps)) (kept qs (put q.0 q.1 ps)) ∙ front_names ps q.0 q.1

-- ---- what a name has

put_new_if : (b : Bool) (k : List ℕ) (x : Tree) (p : List ℕ × Tree) (ps : Fields) → (if b then Some p.1 else find k ps) ≡ None → (find k ps ≡ None → put k x ps ≡ ps ++ (k, x) ∷ [])
    → (if b then (k, x) ∷ ps else p ∷ put k x ps) ≡ p ∷ (ps ++ (k, x) ∷ [])
put_new_if true k x p ps e rest = absurd (cc)
put_new_if false k x p ps e rest = ap (λ (rs : Fields). p ∷ rs) (rest e)

put_new : (ps : Fields) (k : List ℕ) (x : Tree) → find k ps ≡ None → put k x ps ≡ ps ++ (k, x) ∷ []
put_new [] k x e = refl
put_new (p ∷ ps) k x e = put_new_if (bytes_eq p.0 k) k x p ps e (put_new ps k x)

merged_last : (qs ps : Fields) (k : List ℕ) (x : Tree) → merged ps (qs ++ (k, x) ∷ []) ≡ put k x (merged ps qs)
merged_last [] ps k x = refl
merged_last (q ∷ qs) ps k x = merged_last qs (put q.0 q.1 ps) k x

pub new : (ps qs : Fields) (k : List ℕ) (x : Tree) → find k (merged ps qs) ≡ None → merged ps (qs ++ (k, x) ∷ []) ≡ merged ps qs ++ (k, x) ∷ []
new ps qs k x e = merged_last qs ps k x ∙ put_new (merged ps qs) k x e

pick : (b : Bool) (x : Tree) (a c : Option Tree) → c ≡ a → (if b then Some x else c) ≡ (if b then Some x else a)
pick true x a c e = refl
pick false x a c e = e

-- the two tests agree where both names are k
covered : (b c : Bool) (x y : Tree) (a : Option Tree) → c ≡ b → (if b then Some x else a) ≡ (if b then Some x else (if c then Some y else a))
covered true c x y a e = refl
covered false c x y a e = rw e refl

-- the order of the tests is the same where not both hold
apart : (b c : Bool) (x y : Tree) (a : Option Tree) → (b ≡ true → c ≡ false) → (if c then Some y else (if b then Some x else a)) ≡ (if b then Some x else (if c then Some y else a))
apart true c x y a h = rw (h refl) refl
apart false c x y a h = refl

differ : (p k n : List ℕ) (c : Bool) → bytes_eq p k ≡ false → bytes_eq k n ≡ true → bytes_eq p n ≡ c → c ≡ false
differ p k n true h e f = let same : bytes_eq p k ≡ true = (bytes_eq-Decides p k).1 ((bytes_eq-Decides p n).0 f ∙ sym ((bytes_eq-Decides k n).0 e)) in absurd (cc)
differ p k n false h e f = refl

found_if : (b : Bool) (n k : List ℕ) (x : Tree) (p : List ℕ × Tree) (ps : Fields) → bytes_eq p.0 k ≡ b → find n (put k x ps) ≡ (if bytes_eq k n then Some x else find n ps)
    → find n (if b then (k, x) ∷ ps else p ∷ put k x ps) ≡ (if bytes_eq k n then Some x else (if bytes_eq p.0 n then Some p.1 else find n ps))
found_if true n k x p ps e rest = covered (bytes_eq k n) (bytes_eq p.0 n) x p.1 (find n ps) (ap (λ (m : List ℕ). bytes_eq m n) ((bytes_eq-Decides p.0 k).0 e))
found_if false n k x p ps e rest =
    pick (bytes_eq p.0 n) p.1 (if bytes_eq k n then Some x else find n ps) (find n (put k x ps)) rest
    ∙ apart (bytes_eq k n) (bytes_eq p.0 n) x p.1 (find n ps) (λ h. differ p.0 k n (bytes_eq p.0 n) e h refl)

found_put : (ps : Fields) (n k : List ℕ) (x : Tree) → find n (put k x ps) ≡ (if bytes_eq k n then Some x else find n ps)
found_put [] n k x = refl
found_put (p ∷ ps) n k x = found_if (bytes_eq p.0 k) n k x p ps refl (found_put ps n k x)

found_last_if : (b : Bool) (n : List ℕ) (y : Tree) (ps : Fields) (q : List ℕ × Tree) (o : Option Tree) → option_or (find n (ps ++ q ∷ [])) o ≡ option_or (find n ps) (if bytes_eq q.0 n then Some q.1 else o)
    → option_or (if b then Some y else find n (ps ++ q ∷ [])) o ≡ option_or (if b then Some y else find n ps) (if bytes_eq q.0 n then Some q.1 else o)
found_last_if true n y ps q o rest = refl
found_last_if false n y ps q o rest = rest

alone : (b : Bool) (x : Tree) (o : Option Tree) → option_or (if b then Some x else None) o ≡ (if b then Some x else o)
alone true x o = refl
alone false x o = refl

found_last : (ps : Fields) (n : List ℕ) (q : List ℕ × Tree) (o : Option Tree) → option_or (find n (ps ++ q ∷ [])) o ≡ option_or (find n ps) (if bytes_eq q.0 n then Some q.1 else o)
found_last [] n q o = alone (bytes_eq q.0 n) q.1 o
found_last (p ∷ ps) n q o = found_last_if (bytes_eq p.0 n) n p.1 ps q o (found_last ps n q o)

pub last_value : (qs ps : Fields) (n : List ℕ) → find n (merged ps qs) ≡ option_or (find n (reverse qs)) (find n ps)
last_value [] ps n = refl
last_value (q ∷ qs) ps n =
    last_value qs (put q.0 q.1 ps) n ∙ ap (option_or (find n (reverse qs))) (found_put ps n q.0 q.1)
    ∙ sym (ap (λ (rs : Fields). option_or (find n rs) (find n ps)) (reverse-append (q ∷ []) qs) ∙ found_last (reverse qs) n q (find n ps))
