-- A `Vec` of words that holds none is its room, and the way back. Assumes `Logic`.
use Rattle.std.proofs.Common.{◌≡◌, ◌+◌, ◌-◌, ◌*◌, ◌<◌, [], ◌∷◌, refl, sym, arith}
use seplogic.Ra.Ura.{Ura}
use mir.Val.{Val}
use base.Logic.{ent, sep, never, id⊢}
use base.Fml.{fwand}
use types.Logic.{Logic, sem}
use types.Kit.{‵, ◌$◌, ◌∵◌, !, qed, move, frame, show, assume, fsplit, fsplit3, fjoin, fjoin3, rewrite, done}
use denote.RattleType.{RattleType}
use denote.Builtin.{u64}
use denote.Param.Laws.{Laws, of_field}
use denote.Param.Shared.{copy_shared}
use denote.RawPtr.{Ptr, block_ptr, in_block, in_a_block}
use denote.Struct.Field.{u64-field}
use denote.Struct.Laws.{u64-laws, u64-copy}
use Rattle.std.specs.Allocator.{block_with_items}
use Rattle.std.specs.contracts.alloc.Global as global
use Rattle.std.specs.contracts.impls.GlobalAllocator.TheImpl.{ghosts}
use Rattle.std.proofs.alloc.Global.TheLaws as global_laws
use Rattle.std_alloc.specs.Vec.Ownership.{owns_if, has_block}
use Rattle.std_alloc.specs.contracts.vec.Vec as vec
use Rattle.std_alloc.proofs.vec.Vec.TheLaws as vec_laws
use Rattle.pile.specs.Ownership.{words_at, home}
use Rattle.pile.specs.contracts.block.Husk as husk
use Rattle.pile.specs.contracts.block.Husk.TheInside as inside
use Rattle.pile.proofs.Parts.{live}
use Rattle.pile.proofs.Steps.{struct_val, fields_made, alone}

abbrev pub Words : RattleType
Words = vec.the_row u64 global.the_row ghosts

abbrev pub words_laws : Laws Words
words_laws = vec_laws.the_row_laws u64 global.the_row ghosts (of_field u64-field u64-laws refl (copy_shared u64-field u64-copy)) global_laws.the_row_laws

-- the machine value of a husk
abbrev pub shell : Val → Val
shell u = struct_val (Words ∷ []) (u ∷ [], tt)

module _ {M : Type 1} {𝓤 : Ura M} (𝓛 : Logic 𝓤) (v : Words.Denot) (u : Val) where
  pub parted : v.len ≡ 0 → 0 < v.cap
      → ent 𝓤 (sem 𝓛 (Words.own_val v (u ∷ []))) (sep 𝓤 (sem 𝓛 (home v.ptr v.cap)) (sem 𝓛 (husk.the_own (record { base = v.ptr; words = v.cap }) (shell u ∷ []))))
  parted none some =
      let Blk = λ (p : Ptr). block_with_items (ghosts.dealloc_token v.alloc) u64 p v.len v.cap v.items in
      let Back = λ (i : (inside.the_row).Denot). sem 𝓛 (fwand (home v.ptr v.cap) ((inside.the_row).own_val i (shell u ∷ []))) in
      let all : v.cap - v.len ≡ v.cap = omega (arith, none) in
      qed 𝓛 (‵ (Words.own_val v (u ∷ [])) ∷ []) ∵ fsplit ! $ move ! (1 ∷ []) $ fsplit ! $ move ! (1 ∷ []) $
      in_a_block ! v.ptr (λ p. in_block p (owns_if (has_block v.cap) (Blk p))) (id⊢ 𝓤 (never 𝓤)) (λ b o at.
      let here : o + v.len * 8 ≡ o = omega (arith, none) in
      rewrite ! 0 (λ y. ‵ (owns_if y (Blk (block_ptr b o)))) (live v.cap some) refl $ fsplit3 ! $ move ! (1 ∷ []) $
      -- [the room; no elements; the right to free; the bound; the fields]
      rewrite ! 0 (λ k. ‵ (words_at k b (o + v.len * 8))) all refl $ rewrite ! 0 (λ k. ‵ (words_at v.cap b k)) here refl $
      rewrite ! 0 (λ p. ‵ (home p v.cap)) (sym at) refl $ frame ! $ show ! Back (record { vec = v }) $
      assume ! (‵ (home v.ptr v.cap)) $ rewrite ! 0 (λ p. ‵ (home p v.cap)) at refl $
      rewrite ! 0 (λ k. ‵ (words_at v.cap b k)) (sym here) refl $ rewrite ! 0 (λ k. ‵ (words_at k b (o + v.len * 8))) (sym all) refl $
      move ! (1 ∷ 0 ∷ 2 ∷ []) $ fjoin3 ! $ rewrite ! 0 (λ y. ‵ (owns_if y (Blk (block_ptr b o)))) (sym (live v.cap some)) refl $
      rewrite ! 0 (λ p. ‵ (in_block p (owns_if (has_block v.cap) (Blk p)))) (sym at) refl $
      move ! (1 ∷ 0 ∷ []) $ fjoin ! $ move ! (1 ∷ 0 ∷ []) $ fjoin ! $ alone ! Words v (u ∷ []) $ fields_made ! (Words ∷ []) (v, tt) (u ∷ [], tt) $ done !)
