-- The words of a block are lent as bytes and as slots, and come back. Assumes `Logic`.
use Rattle.std.proofs.Common.{◌≡◌, ℕ, zero, suc, ◌+◌, ◌-◌, ◌*◌, ◌≤◌, [], ◌∷◌, refl, sym, ap, subst, ◌∙◌, arith}
use native.Mathlib.Nat.{suc-mul}
use seplogic.Ra.Ura.{Ura}
use mir.Syntax.{Ty, w8, w64, ty_int, ty_array}
use base.Logic.{SProp, ent, sep, wand, via, fst∗, apply∗, id⊢}
use base.Fml.{Fml, fwand, froom}
use prog.Memory.{size, align}
use types.Logic.{Logic, sem}
use types.Kit.{‵, ◌⊛◌, ◌$◌, ◌∵◌, !, qed, by, move, drop, use1, use2, split, split3, frame, assume, fsplit, rewrite, done}
use denote.RawPtr.Room.{room_cut, room_glue, past}
use denote.RawPtr.{Ptr, block_ptr, null_ptr}
use Rattle.pile.specs.Ownership.{words_at, bytes_at, middle_owns, home}

pub past_at : (τ : Ty) (k o : ℕ) → past τ k o ≡ o + k * size τ
past_at τ zero o = omega arith
past_at τ (suc k) o = past_at τ k (o + size τ) ∙ omega (arith, suc-mul k (size τ))

module _ {M : Type 1} {𝓤 : Ura M} (𝓛 : Logic 𝓤) where
  open 𝓛 use {H}

  abbrev ◌⊢◌ : SProp 𝓤 → SProp 𝓤 → Type 1
  P ⊢ Q = ent 𝓤 P Q

  abbrev ⟦◌⟧ : Fml → SProp 𝓤
  ⟦ P ⟧ = sem 𝓛 P

  infix 26 ◌⊢◌
  -- room for an array of m + n is cut at the m-th, and glued
  module _ (τ : Ty) (m n b o at : ℕ) (is : at ≡ o + m * size τ) where
    pub cuts : H.room (ty_array τ (m + n)) b o ⊢ sep 𝓤 (H.room (ty_array τ m) b o) (H.room (ty_array τ n) b at)
    cuts = subst (λ k. H.room (ty_array τ (m + n)) b o ⊢ sep 𝓤 (H.room (ty_array τ m) b o) (H.room (ty_array τ n) b k)) (past_at τ m o ∙ sym is) (room_cut 𝓛 τ m n b o)

    pub glues : sep 𝓤 (H.room (ty_array τ m) b o) (H.room (ty_array τ n) b at) ⊢ H.room (ty_array τ (m + n)) b o
    glues = subst (λ k. sep 𝓤 (H.room (ty_array τ m) b o) (H.room (ty_array τ n) b k) ⊢ H.room (ty_array τ (m + n)) b o) (past_at τ m o ∙ sym is) (room_glue 𝓛 τ m n b o)

  pub resized : (τ : Ty) (m n b o : ℕ) → m ≡ n → H.room (ty_array τ m) b o ⊢ H.room (ty_array τ n) b o
  resized τ m n b o e = qed 𝓛 (‵ (froom (ty_array τ m) b o) ∷ []) ∵ rewrite ! 0 (λ k. ‵ (froom (ty_array τ k) b o)) e refl $ done !

  -- k words are bytes, with the way back
  pub as_bytes : (k b o : ℕ) → ⟦ words_at k b o ⟧ ⊢ sep 𝓤 ⟦ bytes_at (k * 8) b o ⟧ ⟦ fwand (bytes_at (k * 8) b o) (words_at k b o) ⟧
  as_bytes k b o = 𝓛.laws.room_as (ty_array (ty_int w64) k) (ty_array (ty_int w8) (k * 8)) b o (omega arith) tt

  -- k words between are bytes too
  module _ (l k m b o : ℕ) where
    abbrev Way : ℕ → Fml
    Way n = fwand (bytes_at (n * 8) b o) (words_at n b o)

    pub grows : sep 𝓤 ⟦ words_at (k + m) b (o + l * 8) ⟧ ⟦ Way l ⟧ ⊢ sep 𝓤 ⟦ bytes_at (k * 8) b (o + l * 8) ⟧ (sep 𝓤 ⟦ words_at m b (o + (l + k) * 8) ⟧ ⟦ Way (l + k) ⟧)
    grows =
        let at = o + l * 8 in let Way' = fwand (bytes_at (k * 8) b at) (words_at k b at) in
        qed 𝓛 (‵ (words_at (k + m) b at) ∷ ‵ (Way l) ∷ []) ∵
        use1 𝓛 (‵ (words_at k b at) ⊛ ‵ (words_at m b (o + (l + k) * 8))) (cuts (ty_int w64) k m b at (o + (l + k) * 8) (omega arith)) $ split ! $
        use1 𝓛 (‵ (bytes_at (k * 8) b at) ⊛ ‵ Way') (as_bytes k b at) $ split ! $ frame ! $ move ! (1 ∷ []) $ frame ! $
        assume ! (‵ (bytes_at ((l + k) * 8) b o)) $ use1 𝓛 (‵ (bytes_at (l * 8 + k * 8) b o)) (resized (ty_int w8) ((l + k) * 8) (l * 8 + k * 8) b o (omega arith)) $
        use1 𝓛 (‵ (bytes_at (l * 8) b o) ⊛ ‵ (bytes_at (k * 8) b at)) (cuts (ty_int w8) (l * 8) (k * 8) b o at (omega arith)) $ split ! $
        move ! (0 ∷ 3 ∷ []) $ use2 𝓛 (‵ (words_at l b o)) (apply∗ 𝓤 ⟦ bytes_at (l * 8) b o ⟧ ⟦ words_at l b o ⟧) $
        move ! (1 ∷ 2 ∷ []) $ use2 𝓛 (‵ (words_at k b at)) (apply∗ 𝓤 ⟦ bytes_at (k * 8) b at ⟧ ⟦ words_at k b at ⟧) $
        move ! (1 ∷ 0 ∷ []) $ by ! (glues (ty_int w64) l k b o at refl)

  -- the last words are room for values as large as some words, and room for such values is words
  module _ (τ : Ty) (k : ℕ) (sized : size τ ≡ k * 8) (aligned : align τ ≡ 8) where
    pub last_as : (m b o at : ℕ) → at ≡ o + m * 8 → ⟦ words_at (m + k) b o ⟧ ⊢ sep 𝓤 ⟦ words_at m b o ⟧ (H.room τ b at)
    last_as m b o at is =
        qed 𝓛 (‵ (words_at (m + k) b o) ∷ []) ∵ use1 𝓛 (‵ (words_at m b o) ⊛ ‵ (words_at k b at)) (cuts (ty_int w64) m k b o at is) $ split ! $ frame ! $
        by ! (via 𝓤 _ (𝓛.laws.room_as (ty_array (ty_int w64) k) τ b at sized (subst (λ a. prog.Align.Dv a 8) (sym aligned) tt)) (fst∗ 𝓤 (H.room τ b at) (wand 𝓤 (H.room τ b at) (H.room (ty_array (ty_int w64) k) b at))))

  -- of a whole block nothing is out, and then the middle is the whole
  pub starts : (w b o : ℕ) → ⟦ words_at w b o ⟧ ⊢ ⟦ middle_owns (block_ptr b o) w 0 0 ⟧
  starts w b o =
      let all : w ≡ w - 0 - 3 * 0 = omega arith in let here : o ≡ o + 0 * 8 = omega arith in
      qed 𝓛 (‵ (words_at w b o) ∷ []) ∵ rewrite ! 0 (λ k. ‵ (words_at k b o)) all refl $ rewrite ! 0 (λ k. ‵ (words_at (w - 0 - 3 * 0) b k)) here refl $ frame ! $
      assume ! (‵ (bytes_at (0 * 8) b o)) $ drop ! $ by ! (𝓛.laws.room_nil (ty_int w64) b o)

  pub ends : (w l h b o : ℕ) → l ≡ 0 → h ≡ 0 → ⟦ middle_owns (block_ptr b o) w l h ⟧ ⊢ ⟦ words_at w b o ⟧
  ends w l h b o none none' =
      let all : w - l - 3 * h ≡ w = omega (arith, none, none') in let here : o + l * 8 ≡ o = omega (arith, none) in
      qed 𝓛 (‵ (middle_owns (block_ptr b o) w l h) ∷ []) ∵ fsplit ! $ move ! (1 ∷ []) $ drop ! $
      rewrite ! 0 (λ k. ‵ (words_at k b (o + l * 8))) all refl $ rewrite ! 0 (λ k. ‵ (words_at w b k)) here refl $ done !

  -- the bytes reach to the word k, and n of them are in use
  module _ (w l k h n b o : ℕ) (more : l ≤ k) (fits : k + 3 * h ≤ w) (few : n ≤ l * 8) where
    pub widened : sep 𝓤 ⟦ bytes_at (l * 8 - n) b (o + n * 1) ⟧ ⟦ middle_owns (block_ptr b o) w l h ⟧ ⊢ sep 𝓤 ⟦ bytes_at (k * 8 - n) b (o + n * 1) ⟧ ⟦ middle_owns (block_ptr b o) w k h ⟧
    widened =
        let d = k - l in let m = w - k - 3 * h in
        let all : w - l - 3 * h ≡ d + m = omega (arith, more, fits) in let to : l + d ≡ k = omega (arith, more) in
        let sum : l * 8 - n + d * 8 ≡ k * 8 - n = omega (arith, more, few) in
        let there : o + l * 8 ≡ o + n * 1 + (l * 8 - n) * 1 = omega (arith, few) in
        qed 𝓛 (‵ (bytes_at (l * 8 - n) b (o + n * 1)) ∷ ‵ (middle_owns (block_ptr b o) w l h) ∷ []) ∵ move ! (1 ∷ []) $ fsplit ! $
        rewrite ! 0 (λ j. ‵ (words_at j b (o + l * 8))) all refl $
        use2 𝓛 (‵ (bytes_at (d * 8) b (o + l * 8)) ⊛ ‵ (words_at m b (o + (l + d) * 8)) ⊛ ‵ (Way l d m b o (l + d))) (grows l d m b o) $ split3 ! $
        rewrite ! 1 (λ j. ‵ (words_at m b (o + j * 8))) to refl $ rewrite ! 2 (λ j. ‵ (Way l d m b o j)) to refl $
        move ! (3 ∷ 0 ∷ []) $ use2 𝓛 (‵ (bytes_at (l * 8 - n + d * 8) b (o + n * 1))) (glues (ty_int w8) (l * 8 - n) (d * 8) b (o + n * 1) (o + l * 8) there) $
        rewrite ! 0 (λ j. ‵ (bytes_at j b (o + n * 1))) sum refl $ frame ! $ frame ! $ done !

  module _ (τ : Ty) (sized : size τ ≡ 24) (aligned : align τ ≡ 8) where
    -- room for values of three words is words
    pub as_words : (h b o : ℕ) → H.room (ty_array τ h) b o ⊢ ⟦ words_at (3 * h) b o ⟧
    as_words h b o = via 𝓤 _ (𝓛.laws.room_as (ty_array τ h) (ty_array (ty_int w64) (3 * h)) b o (omega (arith, ap (λ s. h * s) sized)) (subst (λ a. prog.Align.Dv 8 a) (sym aligned) tt))
        (fst∗ 𝓤 ⟦ words_at (3 * h) b o ⟧ (wand 𝓤 ⟦ words_at (3 * h) b o ⟧ (H.room (ty_array τ h) b o)))

    -- what was out comes back
    pub regained : (w l h b o : ℕ) → l + 3 * h ≤ w
        → sep 𝓤 ⟦ bytes_at (l * 8) b o ⟧ (sep 𝓤 (H.room (ty_array τ h) b (o + (w - 3 * h) * 8)) ⟦ middle_owns (block_ptr b o) w l h ⟧) ⊢ ⟦ middle_owns (block_ptr b o) w 0 0 ⟧
    regained w l h b o fits =
        let at = o + (w - 3 * h) * 8 in let m = w - l - 3 * h in
        let front : l + m ≡ w - 3 * h = omega (arith, fits) in let all : w - 3 * h + 3 * h ≡ w = omega (arith, fits) in
        qed 𝓛 (‵ (bytes_at (l * 8) b o) ∷ ‵ (froom (ty_array τ h) b at) ∷ ‵ (middle_owns (block_ptr b o) w l h) ∷ []) ∵
        move ! (1 ∷ []) $ use1 𝓛 (‵ (words_at (3 * h) b at)) (as_words h b at) $ move ! (2 ∷ []) $ fsplit ! $
        move ! (3 ∷ 1 ∷ []) $ use2 𝓛 (‵ (words_at l b o)) (apply∗ 𝓤 ⟦ bytes_at (l * 8) b o ⟧ ⟦ words_at l b o ⟧) $ move ! (0 ∷ 1 ∷ []) $
        use2 𝓛 (‵ (words_at (l + m) b o)) (glues (ty_int w64) l m b o (o + l * 8) refl) $ rewrite ! 0 (λ k. ‵ (words_at k b o)) front refl $
        use2 𝓛 (‵ (words_at (w - 3 * h + 3 * h) b o)) (glues (ty_int w64) (w - 3 * h) (3 * h) b o at refl) $ rewrite ! 0 (λ k. ‵ (words_at k b o)) all refl $ by ! (starts w b o)

    -- the last three words between are room for one more value
    pub slot_out : (w l h at b o : ℕ) → at + 3 * (h + 1) ≡ w → l ≤ at
        → ⟦ middle_owns (block_ptr b o) w l h ⟧ ⊢ sep 𝓤 (H.room τ b (at * 8 + o)) ⟦ middle_owns (block_ptr b o) w l (h + 1) ⟧
    slot_out w l h at b o whole above =
        let m = w - l - 3 * (h + 1) in
        let all : w - l - 3 * h ≡ m + 3 = omega (arith, whole, above) in
        let there : at * 8 + o ≡ o + l * 8 + m * 8 = omega (arith, whole, above) in
        qed 𝓛 (‵ (middle_owns (block_ptr b o) w l h) ∷ []) ∵ fsplit ! $ rewrite ! 0 (λ k. ‵ (words_at k b (o + l * 8))) all refl $
        use1 𝓛 (‵ (words_at m b (o + l * 8)) ⊛ ‵ (froom τ b (at * 8 + o))) (last_as τ 3 sized aligned m b (o + l * 8) (at * 8 + o) there) $ split ! $
        move ! (1 ∷ []) $ frame ! $ frame ! $ done !

  -- the same wherever the block lies
  pub opens_home : (p : Ptr) (w : ℕ) → ⟦ home p w ⟧ ⊢ ⟦ middle_owns p w 0 0 ⟧
  opens_home (block_ptr b o) w = starts w b o
  opens_home null_ptr w = id⊢ 𝓤 _

  pub closes_home : (p : Ptr) (w l h : ℕ) → l ≡ 0 → h ≡ 0 → ⟦ middle_owns p w l h ⟧ ⊢ ⟦ home p w ⟧
  closes_home (block_ptr b o) w l h none none' = ends w l h b o none none'
  closes_home null_ptr w l h none none' = id⊢ 𝓤 _
