-- `lodge` and `dislodge` at a call: what each takes of its caller, and what it gives back. Assumes `Logic`.
use Rattle.std.proofs.Common.{◌≡◌, ℕ, ◌^◌, ◌<◌, ◌≤◌, List, [], ◌∷◌, length, refl, ap, ◌∙◌, subst, arith, Vec, w64}
use seplogic.Ra.Ura.{Ura}
use mir.Val.{Val, vint, vptr}
use base.Fraction.{full_share}
use base.Fml.{ftrue, fsep, flft}
use base.Logic.{SProp, ent, ex, guard, emp, id⊢}
use contract.BorrowLft.{◌⊑◌}
use contract.Monad.{Fun, fact, fact_i}
use prog.Memory.{Memory}
use prog.Routine.{Routine}
use types.Logic.{Logic, sem}
use types.Kit.{‵, raw, ◌⊛◌, some, later, ◌$◌, ◌∵◌, !, qed, move, drop, use0, use1, split, split3, join, pick, fsplit, fjoin, feq_l, flt_l, check, show, await, updating, now, done}
use denote.Builtin.{usize}
use denote.Exit.{no, left}
use denote.Param.{param}
use denote.Param.Laws.{Laws}
use denote.Plain.{uint_Makes}
use denote.RattleType.{RattleType}
use denote.RawPtr.{RawPtr, block_ptr, rawptr_Makes}
use denote.Steps.{only, nothing, heard, owned}
use denote.Triple.Spec.{triple_of}
use denote.Triple.Statement.{Contract}
use Rattle.std_alloc.specs.Vec.Ownership.{lodged}
use Rattle.std_alloc.specs.declared.vec.lodged.Lodged.{Lodged}
use Rattle.std_alloc.specs.contracts.vec.Vec as vec
use Rattle.std_alloc.specs.contracts.vec.lodged.Lodged as lodger
use Rattle.std_alloc.specs.contracts.vec.lodged.LodgedAllocator.TheImpl.{ghosts}
use Rattle.std_alloc.specs.contracts.vec.lodge as lodge
use Rattle.std_alloc.specs.contracts.vec.lodged.Vec+T+Lodged.dislodge as dislodge
use Rattle.std_alloc.proofs.vec.Vec.TheLaws as vec_laws
use Rattle.std_alloc.proofs.vec.lodged.Lodged.TheLaws as lodger_laws

-- a `Vec` that lies in memory which another owns
abbrev pub Row : RattleType → RattleType
Row Y = vec.the_row Y lodger.the_row ghosts

abbrev pub row_laws : (Y : RattleType) → Laws Y → Laws (Row Y)
row_laws Y L = vec_laws.the_row_laws Y lodger.the_row ghosts L lodger_laws.the_row_laws

-- no lifetime is asked of an element
module _ (Y : RattleType) (free : [] ⊑ Y.lives) {M : Type 1} {𝓤 : Ura M} (𝓛 : Logic 𝓤) (at_mem : Memory → SProp 𝓤) (run : Routine → Fun 𝓤) where
  open 𝓛 use {H}

  abbrev pub Lodging : Contract 𝓤
  Lodging = triple_of 𝓛 (lodge.signature Y) (lodge.spec Y 𝓛 at_mem run)

  abbrev pub Leaving : Contract 𝓤
  Leaving = triple_of 𝓛 (dislodge.signature Y) (dislodge.spec Y 𝓛 at_mem run)

  abbrev R : RattleType
  R = param 0 Y

  abbrev V : RattleType
  V = Row R

  -- n values xs at b, o, with room for c
  module _ (b o n c : ℕ) (xs : List Y.Denot) where
    abbrev pub lodging : Lodging.Ghost
    lodging = ((([], tt), (full_share, tt), tt, (block_ptr b o, (n, (c, tt))), (vptr b o ∷ [], (vint w64 n ∷ [], (vint w64 c ∷ [], tt)))), xs)

    abbrev pub LiesThere : Vec Y.Denot Lodged → Type 0
    LiesThere r = (r.items ≡ xs) × (r.len ≡ n) × (r.cap ≡ c) × (r.ptr ≡ block_ptr b o)

    pub lodge_takes : n ≡ length xs → n ≤ c → c < 2 ^ 63 → ent 𝓤 (sem 𝓛 (lodged R (block_ptr b o) n c xs)) (Lodging.pre lodging)
    lodge_takes long le small =
        let Asked : Type 0 = (n ≡ length xs) × (n ≤ c) × (c < 2 ^ 63) in
        qed 𝓛 (‵ (lodged R (block_ptr b o) n c xs) ∷ []) ∵
        use0 𝓛 (raw (fact 𝓤 Asked)) (fact_i 𝓤 Asked (emp 𝓤) (long, le, small)) $ join ! $
        use0 𝓛 (raw (fact 𝓤 ([] ⊑ Y.lives))) (fact_i 𝓤 ([] ⊑ Y.lives) (emp 𝓤) free) $ join ! $
        nothing ! $ owned ! usize _ (uint_Makes 𝓛 w64) c (vint w64 c ∷ []) (refl, omega (arith, small)) $ fjoin ! $
        owned ! usize _ (uint_Makes 𝓛 w64) n (vint w64 n ∷ []) (refl, omega (arith, small, le)) $ fjoin ! $
        owned ! RawPtr _ (rawptr_Makes 𝓛) (block_ptr b o) (vptr b o ∷ []) refl $ fjoin ! $
        nothing ! $ use0 𝓛 (‵ (flft [] full_share)) (𝓛.lfts.lft-nil full_share) $ join ! $ join ! $ done !

    pub lodge_gives : (v : Val) → ent 𝓤 (Lodging.post lodging v) (H.⇛ (ex 𝓤 (λ (r : Vec Y.Denot Lodged). guard 𝓤 (LiesThere r) (sem 𝓛 (V.own_val r (v ∷ []))))))
    lodge_gives v =
        qed 𝓛 (raw (Lodging.post lodging v) ∷ []) ∵ updating ! $
        use1 𝓛 (later (some (λ (r : Vec Y.Denot Lodged). ((‵ (flft [] full_share) ⊛ ‵ ftrue) ⊛ ‵ (V.own_val r (v ∷ [])))
        ⊛ some (λ (ws : Unit {0} × (Unit {0} × (Unit {0} × Unit {0}))). ‵ (fsep ftrue (fsep ftrue (fsep ftrue ftrue))) ⊛ raw (fact 𝓤 (LiesThere r)))))) (id⊢ 𝓤 _) $
        await ! tt $ pick ! (λ r. split ! $ move ! (1 ∷ []) $ pick ! (λ ws. split ! $ drop ! $ heard ! (LiesThere r) (λ is. split ! $ drop ! $ now ! $
        show ! (λ z. guard 𝓤 (LiesThere z) (sem 𝓛 (V.own_val z (v ∷ [])))) r $ check ! is $ done !)))

  module _ (d : Vec Y.Denot Lodged) (u : Val) where
    abbrev pub leaving : Leaving.Ghost
    leaving = ((([], tt), (full_share, tt), tt, (d, tt), (u ∷ [], tt)), tt)

    pub dislodge_takes : ent 𝓤 (sem 𝓛 (V.own_val d (u ∷ []))) (Leaving.pre leaving)
    dislodge_takes =
        qed 𝓛 (‵ (V.own_val d (u ∷ [])) ∷ []) ∵ nothing ! $ use0 𝓛 (raw (fact 𝓤 ([] ⊑ Y.lives))) (fact_i 𝓤 ([] ⊑ Y.lives) (emp 𝓤) free) $ join ! $
        nothing ! $ move ! (2 ∷ 0 ∷ []) $ fjoin ! $ nothing ! $ use0 𝓛 (‵ (flft [] full_share)) (𝓛.lfts.lft-nil full_share) $ join ! $ join ! $ done !

    pub dislodge_gives : (v : Val) → ent 𝓤 (Leaving.post leaving v) (H.⇛ (guard 𝓤 ((v ≡ vint w64 d.len) × (d.len < 2 ^ 64)) (sem 𝓛 (lodged R d.ptr d.len d.cap d.items))))
    dislodge_gives v =
        qed 𝓛 (raw (Leaving.post leaving v) ∷ []) ∵ updating ! $
        use1 𝓛 (later (some (λ (r : ℕ). ((‵ (flft [] full_share) ⊛ ‵ ftrue) ⊛ ‵ (usize.own_val r (v ∷ [])))
        ⊛ some (λ (ws : Unit {0} × Unit {0}). ‵ (fsep (left (V.exit no) d ws.0) ftrue) ⊛ raw (fact 𝓤 (r ≡ d.len)) ⊛ ‵ (lodged R d.ptr d.len d.cap d.items))))) (id⊢ 𝓤 _) $
        await ! tt $ pick ! (λ r. split ! $ move ! (1 ∷ []) $ pick ! (λ ws. split3 ! $ drop ! $ heard ! (r ≡ d.len) (λ is. move ! (1 ∷ []) $ split ! $ drop ! $
        fsplit ! $ feq_l ! (λ e. flt_l ! (λ small. now ! $ check ! (ap only e ∙ ap (vint w64) is, subst (λ k. k < 2 ^ 64) is small) $ done !)))))
