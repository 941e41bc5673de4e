-- Every item of a list read, one after another.
use Rattle.std.specs.Prelude.{◌≡◌, List, [], ◌∷◌, ◌++◌, Option, Some, None}
use Rattle.expr_read.specs.Reading.{◌>>=◌}

-- behind those that there are
abbrev pub each_from : {A B : Type 0} → (A → Option B) → List B → List A → Option (List B)
each_from f front [] = Some front
each_from f front (x ∷ xs) = f x >>= λ y. each_from f (front ++ y ∷ []) xs

abbrev pub each : {A B : Type 0} → (A → Option B) → List A → Option (List B)
each f xs = each_from f [] xs

-- item by item, this holds of the one and the other
abbrev pub Pairwise : {A B : Type 0} → (A → B → Type 0) → List A → List B → Type 0
Pairwise Is [] [] = Unit {0}
Pairwise Is [] (y ∷ ys) = ⊥
Pairwise Is (x ∷ xs) [] = ⊥
Pairwise Is (x ∷ xs) (y ∷ ys) = Is x y × Pairwise Is xs ys
