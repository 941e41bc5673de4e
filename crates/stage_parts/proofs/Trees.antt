-- What a value is, both ways.
use Rattle.std.proofs.Common.{◌≡◌, ℕ, ℤ, List, [], ◌∷◌, refl, sym, ap, ◌∙◌}
use Rattle.std.specs.Prelude.{Some, None}
use Rattle.bson_value.specs.Tree.{Leaf, least, null, int, long, text, bin, id, flag, date, stamp, greatest, Tree, leaf, doc, list, Pairs, no_pairs, pair, Trees, no_trees, tree, pairs_of, trees_of, entries, members}
use Rattle.stage_tree.specs.Outcome.{Fields}
use Rattle.stage_parts.specs.Values.{as_text, as_fields, as_items}
use Rattle.stage_parts.proofs.Options.{some_same}

pub entries_pairs : (ps : Fields) → entries (pairs_of ps) ≡ ps
entries_pairs [] = refl
entries_pairs (p ∷ ps) = ap (λ qs. p ∷ qs) (entries_pairs ps)

pub members_trees : (ts : List Tree) → members (trees_of ts) ≡ ts
members_trees [] = refl
members_trees (t ∷ ts) = ap (λ us. t ∷ us) (members_trees ts)

pub pairs_again : (ps : Pairs) → pairs_of (entries ps) ≡ ps
pairs_again no_pairs = refl
pairs_again (pair n t ps) = ap (pair n t) (pairs_again ps)

pub trees_again : (ts : Trees) → trees_of (members ts) ≡ ts
trees_again no_trees = refl
trees_again (tree t ts) = ap (tree t) (trees_again ts)

pub text_is : (t : Tree) (s : List ℕ) → as_text t ≡ Some s → t ≡ leaf (text s)
text_is (leaf (text r)) s e = ap (λ x. leaf (text x)) (some_same r s e)
text_is (leaf least) s e = absurd cc
text_is (leaf null) s e = absurd cc
text_is (leaf (int n)) s e = absurd cc
text_is (leaf (long n)) s e = absurd cc
text_is (leaf (bin k b)) s e = absurd cc
text_is (leaf (id b)) s e = absurd cc
text_is (leaf (flag b)) s e = absurd cc
text_is (leaf (date n)) s e = absurd cc
text_is (leaf (stamp n)) s e = absurd cc
text_is (leaf greatest) s e = absurd cc
text_is (doc ps) s e = absurd cc
text_is (list ts) s e = absurd cc

pub fields_is : (t : Tree) (ps : Fields) → as_fields t ≡ Some ps → t ≡ doc (pairs_of ps)
fields_is (leaf l) ps e = absurd cc
fields_is (list ts) ps e = absurd cc
fields_is (doc qs) ps e = ap doc (sym (pairs_again qs) ∙ ap pairs_of (some_same (entries qs) ps e))

pub items_is : (t : Tree) (ts : List Tree) → as_items t ≡ Some ts → t ≡ list (trees_of ts)
items_is (leaf l) ts e = absurd cc
items_is (doc ps) ts e = absurd cc
items_is (list us) ts e = ap list (sym (trees_again us) ∙ ap trees_of (some_same (members us) ts e))

pub fields_of_doc : (ps : Fields) → as_fields (doc (pairs_of ps)) ≡ Some ps
fields_of_doc ps = ap Some (entries_pairs ps)

pub items_of_list : (ts : List Tree) → as_items (list (trees_of ts)) ≡ Some ts
items_of_list ts = ap Some (members_trees ts)
