-- Bytes taken from 255 tell the order the other way round.
use Rattle.std.proofs.Common.{◌≡◌, ℕ, suc, ◌-◌, ◌<◌, List, [], ◌∷◌, ◌++◌, map, refl, sym, ap, subst, ◌∙◌, arith, inl, inr}
use Rattle.std.specs.Ordering.{nat_cmp, ordering_then, ordering_reverse}
use Rattle.std.proofs.lemmas.Bool.{cases_order}
use Rattle.std.specs.declared.cmp.Ordering.{Ordering}
use Rattle.std.specs.declared.cmp.Ordering.TheVariants.{Less, Equal, Greater}
use Rattle.bson_value.specs.Order.{bytes_order}
use Rattle.key_codec.proofs.Tells.{Tells, behind, cmp_lt, cmp_gt, cmp_same, then_Equal, less_tells, greater_tells, begun}

abbrev pub AreOctets : List ℕ → Type 0
AreOctets [] = Unit {0}
AreOctets (b ∷ bs) = (b < 256) × AreOctets bs

pub AreOctets-append : (u v : List ℕ) → AreOctets u → AreOctets v → AreOctets (u ++ v)
AreOctets-append [] v h k = k
AreOctets-append (b ∷ u) v h k = (h.0, AreOctets-append u v h.1 k)

abbrev pub turned : List ℕ → List ℕ
turned = map (λ b. 255 - b)

-- what tells nothing is equal
only_equal : (o : Ordering) → ((x y : List ℕ) → bytes_order x y ≡ ordering_then o (bytes_order x y)) → o ≡ Equal
only_equal Less h = sym (h (0 ∷ []) (0 ∷ []))
only_equal Equal h = refl
only_equal Greater h = sym (h (0 ∷ []) (0 ∷ []))

-- bytes do not begin others and still tell an order
shorter : (o : Ordering) (b : ℕ) (v : List ℕ) → Tells o [] (b ∷ v) → ⊥
shorter Less b v t =
    let e : ordering_then (nat_cmp (suc b) b) (bytes_order [] (v ++ [])) ≡ Less = t.at (suc b ∷ []) [] in
    let f : Greater ≡ Less = rw (cmp_gt (suc b) b (omega arith)) at e in
    absurd cc
shorter Equal b v t = let e : Less ≡ Equal = t.at [] [] in absurd cc
shorter Greater b v t = let e : Less ≡ Greater = t.at [] [] in absurd cc

longer : (o : Ordering) (a : ℕ) (u : List ℕ) → Tells o (a ∷ u) [] → ⊥
longer Greater a u t =
    let e : ordering_then (nat_cmp a (suc a)) (bytes_order (u ++ []) []) ≡ Greater = t.at [] (suc a ∷ []) in
    let f : Less ≡ Greater = rw (cmp_lt a (suc a) (omega arith)) at e in
    absurd cc
longer Equal a u t = let e : Greater ≡ Equal = t.at [] [] in absurd cc
longer Less a u t = let e : Greater ≡ Less = t.at [] [] in absurd cc

decided : (o p : Ordering) (a b : ℕ) (u v : List ℕ) → nat_cmp a b ≡ p → (p ≡ Equal → ⊥) → Tells o (a ∷ u) (b ∷ v) → o ≡ p
decided o Less a b u v e n t = sym (ap (λ q. ordering_then q (bytes_order (u ++ []) (v ++ []))) (sym e) ∙ t.at [] [] ∙ then_Equal o)
decided o Equal a b u v e n t = absurd (n refl)
decided o Greater a b u v e n t = sym (ap (λ q. ordering_then q (bytes_order (u ++ []) (v ++ []))) (sym e) ∙ t.at [] [] ∙ then_Equal o)

pub turned_tells : (o : Ordering) (u v : List ℕ) → AreOctets u → AreOctets v → Tells o u v → Tells (ordering_reverse o) (turned u) (turned v)
turned_tells o [] [] h k t = rw (only_equal o t.at) (record { at = λ x y. refl })
turned_tells o [] (b ∷ v) h k t = absurd (shorter o b v t)
turned_tells o (a ∷ u) [] h k t = absurd (longer o a u t)
turned_tells o (a ∷ u) (b ∷ v) h k t = elim (cases_order a b) [
  | inl e ↦
      let f : nat_cmp (255 - a) (255 - b) ≡ Equal = rw e (cmp_same (255 - b)) in
      subst (λ p. Tells (ordering_then p (ordering_reverse o)) (turned (a ∷ u)) (turned (b ∷ v))) f (begun (255 - a) (255 - b) (turned_tells o u v h.1 k.1 (behind o a b u v e t)))
  | inr s ↦ elim s [
    | inl l ↦ rw (decided o Less a b u v (cmp_lt a b l) (λ e. absurd cc) t) (greater_tells (255 - a) (255 - b) (turned u) (turned v) (omega (arith, h.0, k.0)))
    | inr g ↦ rw (decided o Greater a b u v (cmp_gt a b g) (λ e. absurd cc) t) (less_tells (255 - a) (255 - b) (turned u) (turned v) (omega (arith, h.0, k.0)))
  ]
]
