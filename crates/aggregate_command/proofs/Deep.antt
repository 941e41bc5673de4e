-- Whether a value of a document, from a place on, is nested too deep.
use Rattle.std.proofs.Common.{◌≡◌, ap, ℕ, zero, suc, true, false, [], ◌∷◌, drop, Some, arith}
use Rattle.std.specs.Prelude.{slice_get, nat_lt, option_map}
use Rattle.std.proofs.lemmas.Bool.{ltb-true, ltb-false, lt-ltb}
use Rattle.bson_value.specs.Tree.{Tree}
use Rattle.bson_value.specs.Depth.{depth}
use Rattle.bson_codec.specs.Records.{Document}
use Rattle.stage_tree.specs.Output.{is_too_deep}

pub deep_here : (d : Document) (i : ℕ) (t : Tree) → option_map (λ p. p.1) (slice_get d i) ≡ Some t → nat_lt 99 (depth t) ≡ true → is_too_deep (drop i d) ≡ true
deep_here [] i t at deep = absurd cc
deep_here (p ∷ d) zero t at deep =
    let same : p.1 ≡ t = cc in
    let more = ltb-true 99 (depth t) deep in
    lt-ltb 100 _ (omega (arith, ap depth same, more))
deep_here (p ∷ d) (suc i) t at deep = deep_here d i t at deep

pub deep_later : (d : Document) (i : ℕ) (t : Tree) → option_map (λ p. p.1) (slice_get d i) ≡ Some t → nat_lt 99 (depth t) ≡ false → is_too_deep (drop (suc i) d) ≡ is_too_deep (drop i d)
deep_later [] i t at flat = absurd cc
deep_later (p ∷ d) zero t at flat =
    let same : p.1 ≡ t = cc in
    let less = ltb-false 99 (depth t) flat in
    grind (arith, ap depth same, less)
deep_later (p ∷ d) (suc i) t at flat = deep_later d i t at flat
