-- Keys: byte order is the order of the parts.
use Rattle.std.proofs.Common.{◌≡◌, ◌↔◌, ℕ, suc, ◌-◌, ◌*◌, ◌<◌, ◌≤◌, ℤ, pos, negsuc, Bool, true, false, List, [], ◌∷◌, ◌++◌, length, map, Option, Some, None, refl, sym, ap, subst, ◌∙◌, append_assoc, arith, if◌then◌else◌, ◌==◌}
use Rattle.std.specs.Ordering.{nat_cmp}
use Rattle.std.specs.declared.cmp.Ordering.TheVariants.{Less, Equal, Greater}
use Rattle.std.proofs.lemmas.Bool.Decides.{nat_tests}
use Rattle.std.proofs.lemmas.Cmp.{tied_itself, nat_list_cmp_total}
use Rattle.std.proofs.lemmas.List.{append-nil, length-map}
use Rattle.std.proofs.lemmas.Map.Lookups.{exact_bytes}
use Rattle.bson_value.specs.Tree.{Tree, leaf, int, long}
use Rattle.bson_value.specs.Order.{class, bytes_order, found_order}
use Rattle.key_codec.specs.Keyed.{Part, tag, magnitude_key, signed_key, body_key, found_key, part_key, keyed, directed_order, parts_order}
use Rattle.key_codec.specs.Fits.{FoundFits, PartsFit, AreAlike}
use Rattle.key_codec.proofs.Numbers.{length-magnitude}
use Rattle.key_codec.proofs.Tells.{Tells, then_Equal, byte_tells, joined, joined_if, cmp_equal}
use Rattle.key_codec.proofs.Turned.{AreOctets, turned_tells}
use Rattle.key_codec.proofs.Trees.{tree_tells, class_some, AreOctets-tree}

pub AreOctets-found : (v : Option Tree) → FoundFits v → AreOctets (found_key v)
unfolding found_key
AreOctets-found None h = (omega arith, tt)
AreOctets-found (Some t) h = AreOctets-tree t h

-- the mark against a value
mark_cmp : (c : ℕ) → 0 < c → nat_cmp 3 (2 * c) ≡ (if c == 1 then Greater else Less)
mark_cmp c h = grind (arith, nat_tests)

cmp_mark : (c : ℕ) → 0 < c → nat_cmp (2 * c) 3 ≡ (if c == 1 then Less else Greater)
cmp_mark c h = grind (arith, nat_tests)

uneven : (c : ℕ) → 3 ≡ 2 * c → ⊥
uneven c e = omega arith

-- two bytes that differ
differ : (a b : ℕ) (u v : List ℕ) → (a ≡ b → ⊥) → Tells (nat_cmp a b) (a ∷ u) (b ∷ v)
differ a b u v n =
    subst (λ o. Tells o (a ∷ u) (b ∷ v)) (then_Equal (nat_cmp a b))
    (joined_if (nat_cmp a b) Equal (a ∷ []) (b ∷ []) u v (byte_tells a b) (λ e. absurd (n (cmp_equal a b e))))

pub found_tells : (v w : Option Tree) → FoundFits v → FoundFits w → Tells (found_order v w) (found_key v) (found_key w)
unfolding found_key
found_tells None None h g = record { at = λ x y. refl }
found_tells None (Some u) h g = subst (λ o. Tells o (3 ∷ []) (tag u ∷ body_key u)) (mark_cmp (class u) (class_some u g)) (differ 3 (tag u) [] (body_key u) (uneven (class u)))
found_tells (Some t) None h g = subst (λ o. Tells o (tag t ∷ body_key t) (3 ∷ [])) (cmp_mark (class t) (class_some t h)) (differ (tag t) 3 (body_key t) [] (λ e. uneven (class t) (sym e)))
found_tells (Some t) (Some u) h g = tree_tells t u h g

-- one part, whatever follows it
pub part_tells : (d : Bool) (v w : Option Tree) → FoundFits v → FoundFits w → Tells (directed_order (d, v) (d, w)) (part_key (d, v)) (part_key (d, w))
unfolding found_key part_key
part_tells true v w h g = turned_tells (found_order v w) (found_key v) (found_key w) (AreOctets-found v h) (AreOctets-found w g) (found_tells v w h g)
part_tells false v w h g = found_tells v w h g

parts_tell : (ps qs : List Part) → map (λ p. p.0) ps ≡ map (λ p. p.0) qs → PartsFit ps → PartsFit qs → Tells (parts_order ps qs) (keyed ps) (keyed qs)
unfolding keyed part_key
parts_tell [] [] e h g = record { at = λ x y. refl }
parts_tell [] (q ∷ qs) e h g = absurd cc
parts_tell (p ∷ ps) [] e h g = absurd cc
parts_tell (p ∷ ps) (q ∷ qs) e h g =
    let d : p.0 ≡ q.0 = cc in
    let ds : map (λ p. p.0) ps ≡ map (λ p. p.0) qs = cc in
    joined (subst (λ b. Tells (directed_order p (b, q.1)) (part_key p) (part_key (b, q.1))) d (part_tells p.0 p.1 q.1 h.0 g.0)) (parts_tell ps qs ds h.1 g.1)

pub keys_tell : (ps qs : List Part) → AreAlike ps qs → Tells (parts_order ps qs) (keyed ps) (keyed qs)
keys_tell ps qs h = parts_tell ps qs h.directions h.left h.right

pub keys_ordered : (ps qs : List Part) → AreAlike ps qs → bytes_order (keyed ps) (keyed qs) ≡ parts_order ps qs
keys_ordered ps qs h = rw (append-nil, append-nil) at ((keys_tell ps qs h).at [] []) ∙ then_Equal (parts_order ps qs)

pub keys_equal : (ps qs : List Part) → AreAlike ps qs → (keyed ps ≡ keyed qs) ↔ (parts_order ps qs ≡ Equal)
keys_equal ps qs h = (λ e. sym (keys_ordered ps qs h) ∙ (ap (bytes_order (keyed ps)) (sym e) ∙ tied_itself nat_list_cmp_total (keyed ps)), λ e. exact_bytes (keyed ps) (keyed qs) (keys_ordered ps qs h ∙ e))

pub keyed-push : (ps : List Part) (p : Part) → keyed (ps ++ p ∷ []) ≡ keyed ps ++ part_key p
unfolding keyed
keyed-push [] p = append-nil (part_key p)
keyed-push (q ∷ ps) p = ap (λ (l : List ℕ). part_key q ++ l) (keyed-push ps p) ∙ sym (append_assoc (part_key q) (keyed ps) (part_key p))

-- a part's bytes are as many as its value's, in either direction
length-part_key : (falls : Bool) (v : Option Tree) → length (part_key (falls, v)) ≡ length (found_key v)
unfolding part_key
length-part_key true v = length-map (found_key v) (λ b. 255 - b)
length-part_key false v = refl

length-signed : (n : ℤ) → length (signed_key n) ≤ 9
length-signed (pos n) = length-magnitude n
length-signed (negsuc n) = subst (λ j. j ≤ 9) (sym (length-map (magnitude_key n) (λ b. 255 - b))) (length-magnitude n)

pub numbers_short : (falls : Bool) (n : ℤ) → (length (part_key (falls, Some (leaf (int n)))) ≤ 10) × (length (part_key (falls, Some (leaf (long n)))) ≤ 10)
unfolding found_key
numbers_short falls n =
    let few : suc (length (signed_key n)) ≤ 10 = omega (arith, length-signed n) in
    (subst (λ j. j ≤ 10) (sym (length-part_key falls (Some (leaf (int n))))) few, subst (λ j. j ≤ 10) (sym (length-part_key falls (Some (leaf (long n))))) few)
