-- How an item is told from others, by a proof.
use Rattle.std.specs.Prelude.{ℕ, List, refl}
use Rattle.std.specs.Coded.{Coded, code_by, coded×, coded_ℕ, coded_list}
use Rattle.bson_value.specs.Tree.{Tree}
use Rattle.bson_value.specs.Code.{tree_code}
use Rattle.merge_cursor.specs.declared.item.Keyed.{Keyed}

abbrev pub keyed_code : Coded Keyed
keyed_code =
    code_by (List ℕ × List (List ℕ × Tree)) (coded× (coded_list coded_ℕ) (coded_list (coded× (coded_list coded_ℕ) tree_code))) (λ k. (k.key, k.doc)) (λ p. record { key = p.0; doc = p.1 }) (λ _. refl)
