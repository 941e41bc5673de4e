-- An element is looked for end after end.
use Rattle.std.proofs.Common.{◌≡◌, true, false, List, [], ◌∷◌, ◌++◌, refl, sym, ap, ◌∙◌}
use Rattle.std.specs.Prelude.{Option, Ok, Err, if◌then◌else◌}
use Rattle.std.specs.List.{flat_map}
use Rattle.bson_value.specs.Tree.{Tree}
use Rattle.expr_tree.specs.Rows.{◌>>=◌}
use Rattle.expr_tree.specs.Holds.{Verdict, some_element, elements}
use Rattle.query_eval.specs.Elements.{some_end_element}

joined : (r a b us : Verdict) → a ≡ (b >>= λ x. if x then Ok true else us) →
    (r >>= λ x. if x then Ok true else a) ≡ ((r >>= λ x. if x then Ok true else b) >>= λ x. if x then Ok true else us)
joined (Err c) a b us h = refl
joined (Ok true) a b us h = refl
joined (Ok false) a b us h = h

some_append : (go : Tree → Verdict) (ts us : List Tree) → some_element go (ts ++ us) ≡ (some_element go ts >>= λ b. if b then Ok true else some_element go us)
some_append go [] us = refl
some_append go (t ∷ ts) us = joined (go t) (some_element go (ts ++ us)) (some_element go ts) (some_element go us) (some_append go ts us)

pub end_by_end : (go : Tree → Verdict) (os : List (Option Tree)) → some_end_element go os ≡ some_element go (flat_map elements os)
end_by_end go [] = refl
end_by_end go (o ∷ os) =
    ap (λ (v : Verdict). some_element go (elements o) >>= λ b. if b then Ok true else v) (end_by_end go os)
    ∙ sym (some_append go (elements o) (flat_map elements os))
