-- The last of equal names, in names that are joined.
use Rattle.std.proofs.Common.{◌≡◌, ℕ, zero, suc, ◌≤◌, min, List, [], ◌∷◌, ◌++◌, length, drop, map, refl, arith}
use Rattle.expr_tree.specs.Env.{last_of, paired}
use Rattle.expr_eval.specs.Seen.{later_of}

pub last_of-append : {A : Type 0} (x : List ℕ) (found : A) (ns ms : List (List ℕ × A)) → last_of x found (ns ++ ms) ≡ last_of x (last_of x found ns) ms
last_of-append x found [] ms = refl
last_of-append x found (n ∷ ns) ms = last_of-append x (later_of x n found) ns ms

paired-none : {A : Type 0} (ns : List (List ℕ)) → paired {A = A} ns [] ≡ []
paired-none [] = refl
paired-none (n ∷ ns) = refl

-- where one of the lists has ended, nothing is paired
pub paired-ended : {A B : Type 0} (f : A → B) (ns : List (List ℕ)) (vs : List A) (i : ℕ) → min (length ns) (length vs) ≤ i → paired (drop i ns) (map f (drop i vs)) ≡ []
paired-ended f [] vs zero h = refl
paired-ended f [] vs (suc i) h = refl
paired-ended f (n ∷ ns) [] zero h = refl
paired-ended f (n ∷ ns) [] (suc i) h = paired-none (drop i ns)
paired-ended f (n ∷ ns) (v ∷ vs) zero h = absurd (omega arith)
paired-ended f (n ∷ ns) (v ∷ vs) (suc i) h = paired-ended f ns vs i (omega arith)
