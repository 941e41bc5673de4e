-- `put_slot` writes a slot before the others, and lodges them anew. Assumes `Logic`.
use Rattle.std.proofs.Common.{◌≡◌, ℕ, ◌+◌, ◌-◌, ◌*◌, ◌^◌, ◌<◌, ◌≤◌, List, [], ◌∷◌, length, ◌++◌, refl, sym, ap, ◌∙◌, arith, w64, Vec}
use mir.Val.{Val, vint, vptr}
use mir.Syntax.{Fn, named}
use base.Logic.{SProp, emp, never, id⊢}
use base.Fml.{ftrue, flft, fat, froom}
use prog.Wp.{WpFn}
use contract.BorrowLft.{⊑_refl}
use contract.Monad.{fact, fact_i}
use contract.Running.{tables}
use types.Kit.{‵, raw, ◌⊛◌, some, given, later, prop, at_ret, ◌$◌, ◌∵◌, !, qed, by, move, keep, drop, use0, use1, use2, split, join, learn, pick, await, regoal, fsplit, fsplit3, fjoin, fjoin3, feq_l, flt_l, rewrite}
use types.Part.{sub, whole, look_in}
use types.Run.{of_opd, no_more, and_then, returns, enter, load, fld, stop, first, blocks, exec, bin, lit, init, assigns}
use types.ByLocal.{alloc_all, pass_all, free_all, look_at, get, through, sets, lands_as, lands_last, env}
use denote.Builtin.{usize}
use denote.Exit.{yes}
use denote.Laws.{shows}
use denote.Memory.{cell_at, part_at}
use denote.Param.{param, layout}
use denote.RattleType.{owns}
use denote.RawPtr.{Ptr, block_ptr, ◌+ₚ◌, in_a_block}
use denote.Ref.{mut_Tells}
use denote.Signature.{plain, types_at}
use denote.Steps.{nothing, heard, opens, closes, peeks}
use denote.Triple.Call.{calls_at, calls_at_last}
use denote.Triple.Table.{framed}
use denote.Triple.Walked.{Stays, stay_dropped, stay_ref, walk_of, Goes-ref}
use base.Fraction.{full_share}
use Rattle.core.proofs.alloc.Shapes.{after}
use Rattle.std.proofs.alloc.Calls.{Goes-blank}
use Rattle.std.proofs.raw_atomic.Walks.{proved_at, leaves}
use Rattle.std_alloc.specs.declared.vec.lodged.Lodged.{Lodged}
use Rattle.std_alloc.specs.Vec.Ownership.{lodged}
use Rattle.std_alloc.proofs.vec.lodge.Met as lodge
use Rattle.std_alloc.proofs.vec.lodged.Vec+T+Lodged.dislodge.Met as leave
use Rattle.pile.specs.Ownership.{middle_owns}
use Rattle.pile.specs.declared.slot.Slot.{Slot}
use Rattle.pile.specs.contracts.block.Middle as middle
use Rattle.pile.specs.contracts.block.put_slot as f
use Rattle.pile.proofs.Calls.{Leaving, leaving, dislodge_takes, dislodge_gives, Lodging, lodging, LiesThere, lodge_takes, lodge_gives}
use Rattle.pile.proofs.Parts.{Values, Spare, opened, closed}
use borrow.Table.OneValue.{part_in}
use Rattle.pile.proofs.Rooms.{slot_out}
use Rattle.pile.proofs.Sorts.{S, L, Slots, slots-laws, bare_ty, S₀, S₀-laws, slot_size, slot_align}
use Rattle.pile.proofs.Steps.{one_value, typed_value}
use Rattle.pile.proofs.block.Middle.TheLaws.{lowers}
use Rattle.pile.proofs.block.put_slot.Statement.{statement}
use Rattle.pile.proofs.block.put_slot.Code as code

abbrev stayed : Stays f.ended.signature.params f.ended.kept
stayed = (stay_ref (0 ∷ []) tt (plain (λ _. middle.the_row)), (stay_dropped (plain (λ _. Slots)) yes, (stay_dropped (plain (λ _. S)) yes, (stay_dropped (plain (λ _. usize)) yes, (stay_dropped (plain (λ _. usize)) yes, tt)))))

pub put_slot_spec : {M : Type 1} → statement M
put_slot_spec 𝓤 𝓛 𝓜 𝓡 wired =
    let H = 𝓛.H in let c = f.clauses 𝓛 𝓜.mem 𝓡.returns in let 𝓣 = tables 𝓤 H 𝓜 𝓡 𝓡.env in let fn : Fn = code.function in let fm = framed 𝓤 H 𝓜 𝓣 in
    let number = Goes-blank 𝓛 1 (plain (λ _. usize)) yes (λ κs x k. tt) in
    proved_at 𝓛 f.ended stayed c 𝓜 𝓡 (Goes-ref 𝓛 1 0 tt (plain (λ _. middle.the_row)), (Goes-blank 𝓛 1 (plain (λ _. Slots)) yes (λ κs x k. tt), (Goes-blank 𝓛 1 (plain (λ _. S)) yes (λ κs x k. tt), (number, (number, tt)))))
    f.Key.name fn (code.unfolded 𝓤 H 𝓜 𝓡 wired) (λ z are.
    let κ = z.0.0.0 in let q = z.0.1.0 in let r = z.0.3.0 in let d = z.0.3.1.0 in let slot = z.0.3.1.1.0 in let place : ℕ = z.0.3.1.1.1.0 in let count : ℕ = z.0.3.1.1.1.1.0 in let vss = z.0.4 in
    let m = r.now in let b = r.ref_ptr.0 in let o = r.ref_ptr.1 in let xs : List Slot = d.items in
    let Post : Val → SProp 𝓤 = (walk_of 𝓛 f.ended stayed c).post z in
    let Rear : Type 0 = (d.len ≡ m.high) × (d.cap ≡ d.len) × (0 < d.len → d.ptr ≡ m.base +ₚ (place + 3) * 8) in
    let More : Type 0 = (count ≡ m.high + 1) × (place + 3 * count ≡ m.words) × (m.low ≤ place) in
    qed 𝓛 (((‵ (flft κ q) ⊛ ‵ ftrue) ⊛ ‵ (owns (types_at f.signature.params z.0.0) z.0.3 vss)) ∷ (raw (fact 𝓤 Rear) ⊛ raw (fact 𝓤 More)) ∷ []) ∵
    move ! (1 ∷ []) $ split ! $ heard ! Rear (λ rear. heard ! More (λ more. split ! $ split ! $ move ! (2 ∷ []) $
    fsplit ! $ move ! (1 ∷ []) $ fsplit ! $ one_value ! Slots slots-laws d vss.1.0 (λ u is_u u_good. move ! (1 ∷ []) $
    fsplit ! $ one_value ! S L slot vss.1.1.0 (λ t is_t t_good. move ! (1 ∷ []) $
    fsplit ! $ fsplit ! $ feq_l ! (λ is_place. flt_l ! (λ place_fits. fsplit ! $ fsplit ! $ feq_l ! (λ is_count. flt_l ! (λ count_fits. keep ! (3 ∷ 4 ∷ 2 ∷ 1 ∷ []) $
    -- [the reference; the token; the slots; the slot]
    let is_r = mut_Tells (named 0) κ middle.the_row r vss.0 are.0 in
    regoal ! (λ (us : List Val). prop (WpFn 𝓤 H 𝓣.C 𝓣.Λ fn us Post)) (λ j. is_r j ++ (is_u j ++ (is_t j ++ (is_place j ++ (is_count j ++ []))))) refl $
    enter ! 𝓣.C 𝓣.Λ fn (vptr b o ∷ u ∷ t ∷ vint w64 place ∷ vint w64 count ∷ []) Post $
    alloc_all ! (λ l. pass_all ! refl ((tt, tt), (u_good, (t_good, ((tt, record { fits = place_fits }), ((tt, record { fits = count_fits }), tt))))) $
    fsplit3 ! $ move ! (1 ∷ 2 ∷ 3 ∷ []) $
    opens ! tt middle.the_row b o (λ us. move ! (1 ∷ []) $ peeks ! middle.the_row _ (shows 𝓛 middle.the_row) m us (λ is. fsplit ! $ move ! (1 ∷ []) $
    in_a_block ! m.base (λ p. middle_owns p m.words m.low m.high) (id⊢ 𝓤 (never 𝓤)) (λ b' o' at.
    let Cell = λ (ws : List Val). ‵ (cell_at full_share (middle.the_row).mir ws b o) in
    let word = lowers.val_is m us is ∙ ap (λ (p : Ptr). lowers.lowered (record m { base = p }) ∷ []) at in
    rewrite ! 2 Cell word refl $
    -- [the middle; its fields; its cell; the open borrow, in three entries; where it lies; the slots; the slot]
    let G = Leaving S₀ (⊑_refl []) 𝓛 𝓜.mem 𝓡.returns in let y = leaving S₀ (⊑_refl []) 𝓛 𝓜.mem 𝓡.returns d u in
    let s = place * 8 + o' in
    let G' = Lodging S₀ (⊑_refl []) 𝓛 𝓜.mem 𝓡.returns in let y' = lodging S₀ (⊑_refl []) 𝓛 𝓜.mem 𝓡.returns b' s count count (slot ∷ xs) in
    let small : place * 8 < 2 ^ 63 = omega (arith, more.1, m.fits.1) in
    let there : 0 < d.cap → d.ptr ≡ block_ptr b' (s + 24) = λ some. rear.2 (omega (arith, some, rear.1)) ∙ ap (λ p. p +ₚ (place + 3) * 8) at ∙ ap (block_ptr b') (omega arith) in
    first ! $ blocks ! $
    sets ! (of_opd ! (load ! (through ! refl (fld ! refl (stop !))) (look_in ! 2 (sub ! 0 refl (whole !))))) refl (tt, tt) $
    sets ! (bin ! (get ! refl) (lit ! tt) (record { fits = omega (arith, small) })) refl (tt, record { fits = omega (arith, small) }) $
    sets ! (bin ! (get ! refl) (get ! refl) tt) refl (tt, tt) $
    sets ! (of_opd ! (get ! refl)) refl (tt, tt) $
    sets ! (of_opd ! (get ! refl)) refl u_good $
    move ! (7 ∷ []) $ use1 𝓛 (raw (G.pre y)) (dislodge_takes S₀ (⊑_refl []) 𝓛 𝓜.mem 𝓡.returns d u) $
    calls_at ! fm G (leave.met 𝓤 𝓛 𝓜 𝓡 (code.calls-std_alloc::vec::lodged::Vec+T+Lodged::dislodge 𝓡.env wired) S₀ S₀-laws) y (and_then ! (get ! refl) (no_more !)) (λ v.
    use1 𝓛 (later (given _ (‵ (lodged (param 0 S₀) d.ptr d.len d.cap xs)))) (dislodge_gives S₀ (⊑_refl []) 𝓛 𝓜.mem 𝓡.returns d u v) $ await ! tt $ learn ! (λ got.
    lands_as ! got.0 refl (tt, record { fits = got.1 }) $
    use1 𝓛 (‵ (Values S₀ S₀-laws 𝓛 xs b' (s + 24)) ⊛ ‵ (Spare S₀ S₀-laws 𝓛 (d.cap - d.len) b' (s + 24 + d.len * 24))) (opened S₀ S₀-laws 𝓛 d.len d.cap xs d.ptr b' (s + 24) d.ok.0 d.ok.1 there) $ split ! $
    move ! (1 ∷ []) $ drop ! $ move ! (1 ∷ []) $
    use1 𝓛 (‵ (froom bare_ty b' s) ⊛ ‵ (middle_owns (block_ptr b' o') m.words m.low (m.high + 1))) (slot_out 𝓛 bare_ty slot_size slot_align m.words m.low m.high place b' o' (omega (arith, more.0, more.1)) more.2) $ split ! $
    -- [the place; the middle; the slots' values; the middle's fields; its cell; the open borrow, in three entries; where it lies; the slot]
    use1 𝓛 (‵ (froom (layout S) b' s)) (𝓛.laws.raw-room (layout S) b' s) $
    assigns ! (of_opd ! (get ! refl)) (through ! refl (stop !)) (init ! 0 refl t_good) $
    use1 𝓛 (‵ (fat full_share bare_ty b' s t)) (𝓛.laws.at_raw full_share (layout S) b' s t) $ move ! (0 ∷ 9 ∷ []) $
    use2 𝓛 (‵ (part_at (param 0 S₀) full_share slot b' s)) (part_in 𝓛 (param 0 S₀) refl full_share slot b' s t) $ move ! (0 ∷ 2 ∷ []) $ fjoin ! $
    let none : 0 ≡ count - count = omega arith in let Left = λ (k : ℕ). ‵ (Spare S₀ S₀-laws 𝓛 k b' (s + count * 24)) in
    use0 𝓛 (Left 0) (𝓛.laws.room_nil bare_ty b' (s + count * 24)) $ rewrite ! 0 Left none refl $ move ! (1 ∷ 0 ∷ []) $
    let long : count ≡ length (slot ∷ xs) = omega (arith, more.0, rear.0, d.ok.0) in
    use2 𝓛 (‵ (lodged (param 0 S₀) (block_ptr b' s) count count (slot ∷ xs))) (closed S₀ S₀-laws 𝓛 count count (slot ∷ xs) b' s long (omega (arith, more.0)) (omega (arith, more.1, m.fits.1))) $
    -- [the slots' memory; the middle; its fields; its cell; the open borrow, in three entries; where it lies]
    use1 𝓛 (raw (G'.pre y')) (lodge_takes S₀ (⊑_refl []) 𝓛 𝓜.mem 𝓡.returns b' s count count (slot ∷ xs) long (omega arith) (omega (arith, more.1, m.fits.1))) $
    calls_at_last ! fm G' (lodge.met 𝓤 𝓛 𝓜 𝓡 (code.calls-std_alloc::vec::lodge 𝓡.env wired) S₀ S₀-laws) y' (and_then ! (get ! refl) (and_then ! (get ! refl) (and_then ! (get ! refl) (no_more !)))) (λ v'.
    use1 𝓛 (later (some (λ (e : Vec Slot Lodged). given (LiesThere S₀ (⊑_refl []) 𝓛 𝓜.mem 𝓡.returns b' s count count (slot ∷ xs) e) (‵ (Slots.own_val e (v' ∷ [])))))) (lodge_gives S₀ (⊑_refl []) 𝓛 𝓜.mem 𝓡.returns b' s count count (slot ∷ xs) v') $
    await ! tt $ pick ! (λ e. learn ! (λ lies. typed_value ! Slots slots-laws e v' (λ e_good. lands_last ! refl e_good $
    exec ! 𝓣.C 𝓣.Λ (env fn.locals l) (after 1 fn.body) (at_ret (env fn.locals l) Post) $
    sets ! (of_opd ! (get ! refl)) refl e_good $
    let m' : (middle.the_row).Denot = record { base = m.base; words = m.words; low = m.low; high = m.high + 1; fits = (omega (arith, more.0, more.1, more.2), m.fits.1) } in
    move ! (1 ∷ 2 ∷ []) $ rewrite ! 0 (λ (p : Ptr). ‵ (middle_owns p m.words m.low (m.high + 1))) (sym at) refl $ rewrite ! 3 Cell (sym word) refl $
    move ! (1 ∷ 0 ∷ []) $ fjoin ! $ move ! (2 ∷ 0 ∷ 3 ∷ 4 ∷ 5 ∷ []) $ closes ! tt middle.the_row m' us b o $
    returns ! (look_at ! 0 refl) $ free_all ! refl $
    -- [the reference, in two parts; the token; the result; the reference's first part]
    move ! (4 ∷ 0 ∷ 1 ∷ []) $ fjoin3 ! $ nothing ! $ nothing ! $ fjoin ! $ nothing ! $ fjoin ! $ nothing ! $ fjoin ! $ nothing ! $ fjoin ! $ move ! (1 ∷ 0 ∷ []) $ fjoin ! $
    nothing ! $ move ! (2 ∷ 0 ∷ []) $ join ! $
    let Told : Type 0 = (m'.base ≡ m.base) × (m'.words ≡ m.words) × (m'.low ≡ m.low) × (m'.high ≡ count) in
    let Given : Type 0 = (e.items ≡ slot ∷ xs) × (e.len ≡ count) × (e.cap ≡ count) × (e.ptr ≡ m.base +ₚ place * 8) in
    let first_at : block_ptr b' s ≡ m.base +ₚ place * 8 = ap (block_ptr b') (omega arith) ∙ ap (λ p. p +ₚ place * 8) (sym at) in
    use0 𝓛 (raw (fact 𝓤 Given)) (fact_i 𝓤 Given (emp 𝓤) (lies.0, lies.1, lies.2, lies.3 ∙ first_at)) $
    use0 𝓛 (raw (fact 𝓤 Told)) (fact_i 𝓤 Told (emp 𝓤) (refl, refl, refl, sym more.0)) $ join ! $ move ! (1 ∷ 2 ∷ 3 ∷ 0 ∷ []) $
    by ! (leaves 𝓛 f.ended stayed c z v' e (m', (tt, (tt, (tt, (tt, tt))))) (tt, (tt, (tt, (tt, (tt, tt)))))))))))))))))))))))))
