-- What a `Vec` owns that lies in a block: its values, and the room behind them. Assumes `Logic`.
use Rattle.std.proofs.Common.{◌≡◌, ℕ, zero, suc, ◌+◌, ◌-◌, ◌*◌, ◌^◌, ◌<◌, ◌≤◌, List, [], ◌∷◌, length, true, refl, sym, arith}
use Rattle.std.proofs.lemmas.Bool.{ne_eqb, not_from_false}
use lib.ListN.{replicate, length-replicate}
use seplogic.Ra.Ura.{Ura}
use base.Fraction.{full_share}
use base.Logic.{ent, sep, via}
use base.Fml.{Fml, ftrue, froom}
use mir.Syntax.{Ty, ty_array}
use mir.Raw.{raw as bare}
use types.Logic.{Logic, sem}
use types.Kit.{‵, given, ◌$◌, ◌∵◌, !, qed, by, move, keep, drop, use0, use1, use2, learn, frame, fsplit, fjoin, flt_i, rewrite, done}
use denote.RattleType.{RattleType}
use denote.Array.{Array}
use denote.Index.{row}
use denote.Memory.{part_at}
use denote.Param.{param, layout}
use denote.Param.Laws.{Laws}
use denote.RawPtr.{Ptr, block_ptr, in_block}
use denote.Steps.{nothing}
use prog.Memory.{size}
use Rattle.std.specs.Allocator.{block_with_items}
use Rattle.std_alloc.specs.Vec.Ownership.{lodged, owns_if, has_block}
use Rattle.core.proofs.mem.Param.{El}
use Rattle.core.proofs.ptr.Rows as arrays
use Rattle.core.proofs.slots.Places.{of_row, to_room}
use Rattle.pile.proofs.Rooms.{glues, resized}

pub live : (c : ℕ) → 0 < c → has_block c ≡ true
live c h = not_from_false _ (ne_eqb c 0 (λ e. omega arith))

module _ (Y : RattleType) (L : Laws Y) {M : Type 1} {𝓤 : Ura M} (𝓛 : Logic 𝓤) where
  open 𝓛 use {H}

  abbrev E : El
  E = record { row = Y; laws = L }

  abbrev E' : arrays.El
  E' = record { row = Y; laws = L }

  abbrev pub R : RattleType
  R = param 0 Y

  abbrev pub τ : Ty
  τ = layout Y

  abbrev pub sz : ℕ
  sz = size τ

  abbrev pub Values : List Y.Denot → ℕ → ℕ → Fml
  Values xs b o = row R full_share xs b o

  abbrev pub Spare : ℕ → ℕ → ℕ → Fml
  Spare n b o = froom (ty_array τ n) b o

  abbrev Blk : Ptr → ℕ → ℕ → List Y.Denot → Fml
  Blk p n c xs = block_with_items (λ _ _. ftrue) R p n c xs

  -- values are room once they are forgotten
  pub forgets : (xs : List Y.Denot) (b o : ℕ) → ent 𝓤 (sem 𝓛 (Values xs b o)) (sem 𝓛 (Spare (length xs) b o))
  forgets xs b o = via 𝓤 _ (of_row E 𝓛 b xs o) (to_room E 𝓛 b xs (replicate (length xs) true) o (length-replicate (length xs) true))

  opened_full : (n c : ℕ) (xs : List Y.Denot) (p : Ptr) (b o : ℕ) → 0 < c → p ≡ block_ptr b o
      → ent 𝓤 (sem 𝓛 (lodged R p n c xs)) (sep 𝓤 (sem 𝓛 (Values xs b o)) (sem 𝓛 (Spare (c - n) b (o + n * sz))))
  opened_full n c xs p b o some at =
      qed 𝓛 (‵ (lodged R p n c xs) ∷ []) ∵ fsplit ! $ drop ! $ rewrite ! 0 (λ q. ‵ (in_block q (owns_if (has_block c) (Blk q n c xs)))) at refl $
      rewrite ! 0 (λ y. ‵ (owns_if y (Blk (block_ptr b o) n c xs))) (live c some) refl $ fsplit ! $
      use1 𝓛 (given (length xs ≡ n) (‵ (Values xs b o))) (arrays.apart E' 𝓛 full_share n xs b o) $ learn ! (λ _. frame ! $
      fsplit ! $ keep ! (0 ∷ []) $ by ! (𝓛.laws.raw-room (ty_array τ (c - n)) b (o + n * sz)))

  opened_none : (n c : ℕ) (xs : List Y.Denot) (F : Fml) (b o : ℕ) → c ≡ 0 → n ≡ length xs → n ≤ c
      → ent 𝓤 (sem 𝓛 F) (sep 𝓤 (sem 𝓛 (Values xs b o)) (sem 𝓛 (Spare (c - n) b (o + n * sz))))
  opened_none n c [] F b o none long le =
      let left : 0 ≡ c - n = omega (arith, none) in
      qed 𝓛 (‵ F ∷ []) ∵ drop ! $ nothing ! $ frame ! $ use0 𝓛 (‵ (Spare 0 b (o + n * sz))) (𝓛.laws.room_nil τ b (o + n * sz)) $
      rewrite ! 0 (λ k. ‵ (Spare k b (o + n * sz))) left refl $ done !
  opened_none n c (x ∷ xs) F b o none long le = let more : n ≡ suc (length xs) = long in absurd (omega (arith, more, le, none))

  pub opened : (n c : ℕ) (xs : List Y.Denot) (p : Ptr) (b o : ℕ) → n ≡ length xs → n ≤ c → (0 < c → p ≡ block_ptr b o)
      → ent 𝓤 (sem 𝓛 (lodged R p n c xs)) (sep 𝓤 (sem 𝓛 (Values xs b o)) (sem 𝓛 (Spare (c - n) b (o + n * sz))))
  opened n zero xs p b o long le at = opened_none n zero xs (lodged R p n zero xs) b o refl long le
  opened n (suc c) xs p b o long le at = opened_full n (suc c) xs p b o (omega arith) (at (omega arith))

  pub closed : (n c : ℕ) (xs : List Y.Denot) (b o : ℕ) → n ≡ length xs → 0 < c → c * sz < 2 ^ 63
      → ent 𝓤 (sep 𝓤 (sem 𝓛 (Values xs b o)) (sem 𝓛 (Spare (c - n) b (o + n * sz)))) (sem 𝓛 (lodged R (block_ptr b o) n c xs))
  closed n c xs b o long some fits =
      qed 𝓛 (‵ (Values xs b o) ∷ ‵ (Spare (c - n) b (o + n * sz)) ∷ []) ∵
      use1 𝓛 (‵ (part_at (Array R n) full_share xs b o)) (arrays.whole E' 𝓛 full_share n xs b o (sym long)) $ move ! (1 ∷ []) $
      use1 𝓛 (‵ (froom (bare (ty_array τ (c - n))) b (o + n * sz))) (𝓛.laws.room-raw (ty_array τ (c - n)) b (o + n * sz)) $
      nothing ! $ move ! (1 ∷ 0 ∷ []) $ fjoin ! $ move ! (1 ∷ 0 ∷ []) $ fjoin ! $
      rewrite ! 0 (λ y. ‵ (owns_if y (Blk (block_ptr b o) n c xs))) (sym (live c some)) refl $ flt_i ! (c * sz) (2 ^ 63) fits $ fjoin ! $ done !

  -- all that such a Vec owns is room
  pub emptied : (n c : ℕ) (xs : List Y.Denot) (b o : ℕ) → n ≡ length xs → n ≤ c
      → ent 𝓤 (sep 𝓤 (sem 𝓛 (Values xs b o)) (sem 𝓛 (Spare (c - n) b (o + n * sz)))) (sem 𝓛 (Spare c b o))
  emptied n c xs b o long le =
      qed 𝓛 (‵ (Values xs b o) ∷ ‵ (Spare (c - n) b (o + n * sz)) ∷ []) ∵ use1 𝓛 (‵ (Spare (length xs) b o)) (forgets xs b o) $
      rewrite ! 0 (λ k. ‵ (Spare k b o)) (sym long) refl $ use2 𝓛 (‵ (Spare (n + (c - n)) b o)) (glues 𝓛 τ n (c - n) b o (o + n * sz) refl) $
      by ! (resized 𝓛 τ (n + (c - n)) c b o (omega arith))

  -- and so is what it owns as a whole
  pub vacated : (n c : ℕ) (xs : List Y.Denot) (p : Ptr) (b o : ℕ) → n ≡ length xs → n ≤ c → (0 < c → p ≡ block_ptr b o)
      → ent 𝓤 (sem 𝓛 (lodged R p n c xs)) (sem 𝓛 (Spare c b o))
  vacated n c xs p b o long le at = via 𝓤 _ (opened n c xs p b o long le at) (emptied n c xs b o long le)
