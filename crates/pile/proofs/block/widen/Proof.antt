-- `widen` lodges the bytes anew, with more of the block behind them. Assumes `Logic`.
use Rattle.std.proofs.Common.{◌≡◌, ℕ, ◌+◌, ◌-◌, ◌*◌, ◌<◌, ◌≤◌, List, [], ◌∷◌, ◌++◌, refl, sym, ap, ◌∙◌, arith, w64, Vec}
use mir.Val.{Val, vint, vptr}
use mir.Syntax.{Fn, named}
use base.Logic.{SProp, emp, never, id⊢}
use base.Fml.{ftrue, flft}
use prog.Wp.{WpFn}
use contract.BorrowLft.{⊑_refl}
use contract.Monad.{fact, fact_i}
use contract.Running.{tables}
use types.Kit.{‵, raw, ◌⊛◌, some, given, later, prop, at_ret, ◌$◌, ◌∵◌, !, qed, by, move, keep, use0, use1, use2, split, join, learn, pick, await, regoal, fsplit, fsplit3, fjoin, fjoin3, feq_l, flt_l, rewrite}
use types.Part.{sub, whole, look_in}
use types.Run.{of_opd, no_more, and_then, returns, enter, load, fld, stop, first, blocks, exec}
use types.ByLocal.{alloc_all, pass_all, free_all, look_at, get, through, sets, lands_as, lands_last, env}
use denote.Builtin.{u8, usize}
use denote.Exit.{yes}
use denote.Laws.{shows}
use denote.Memory.{cell_at}
use denote.Param.{param}
use denote.RattleType.{owns}
use denote.RawPtr.{Ptr, block_ptr, in_a_block}
use denote.Ref.{mut_Tells}
use denote.Signature.{plain, types_at}
use denote.Steps.{nothing, heard, opens, closes, peeks}
use denote.Triple.Call.{calls_at, calls_at_last}
use denote.Triple.Table.{framed}
use denote.Triple.Walked.{Stays, stay_dropped, stay_ref, walk_of, Goes-ref}
use base.Fraction.{full_share}
use Rattle.core.proofs.alloc.Shapes.{after}
use Rattle.std.proofs.alloc.Calls.{Goes-blank}
use Rattle.std.proofs.raw_atomic.Walks.{proved_at, leaves}
use Rattle.std_alloc.specs.declared.vec.lodged.Lodged.{Lodged}
use Rattle.std_alloc.specs.Vec.Ownership.{lodged}
use Rattle.std_alloc.proofs.vec.lodge.Met as lodge
use Rattle.std_alloc.proofs.vec.lodged.Vec+T+Lodged.dislodge.Met as leave
use Rattle.pile.specs.Ownership.{bytes_at, middle_owns}
use Rattle.pile.specs.contracts.block.Middle as middle
use Rattle.pile.specs.contracts.block.widen as f
use Rattle.pile.proofs.Calls.{Leaving, leaving, dislodge_takes, dislodge_gives, Lodging, lodging, LiesThere, lodge_takes, lodge_gives}
use Rattle.pile.proofs.Parts.{Values, opened, closed}
use Rattle.pile.proofs.Rooms.{widened}
use Rattle.pile.proofs.Sorts.{byte_laws, Bytes, bytes-laws}
use Rattle.pile.proofs.Steps.{one_value, typed_value}
use Rattle.pile.proofs.block.Middle.TheLaws.{lowers}
use Rattle.pile.proofs.block.widen.Statement.{statement}
use Rattle.pile.proofs.block.widen.Code as code

abbrev stayed : Stays f.ended.signature.params f.ended.kept
stayed = (stay_ref (0 ∷ []) tt (plain (λ _. middle.the_row)), (stay_dropped (plain (λ _. Bytes)) yes, (stay_dropped (plain (λ _. usize)) yes, (stay_dropped (plain (λ _. usize)) yes, tt))))

pub widen_spec : {M : Type 1} → statement M
widen_spec 𝓤 𝓛 𝓜 𝓡 wired =
    let H = 𝓛.H in let c = f.clauses 𝓛 𝓜.mem 𝓡.returns in let 𝓣 = tables 𝓤 H 𝓜 𝓡 𝓡.env in let fn : Fn = code.function in let fm = framed 𝓤 H 𝓜 𝓣 in
    let number = Goes-blank 𝓛 1 (plain (λ _. usize)) yes (λ κs x k. tt) in
    proved_at 𝓛 f.ended stayed c 𝓜 𝓡 (Goes-ref 𝓛 1 0 tt (plain (λ _. middle.the_row)), (Goes-blank 𝓛 1 (plain (λ _. Bytes)) yes (λ κs x k. tt), (number, (number, tt))))
    f.Key.name fn (code.unfolded 𝓤 H 𝓜 𝓡 wired) (λ z are.
    let κ = z.0.0.0 in let q = z.0.1.0 in let r = z.0.3.0 in let d = z.0.3.1.0 in let low : ℕ = z.0.3.1.1.0 in let cap : ℕ = z.0.3.1.1.1.0 in let vss = z.0.4 in
    let m = r.now in let b = r.ref_ptr.0 in let o = r.ref_ptr.1 in let n : ℕ = d.len in let xs : List ℕ = d.items in
    let Post : Val → SProp 𝓤 = (walk_of 𝓛 f.ended stayed c).post z in
    let Front : Type 0 = (d.cap ≡ m.low * 8) × (0 < d.cap → d.ptr ≡ m.base) in
    let More : Type 0 = (cap ≡ low * 8) × (m.low < low) × (low + 3 * m.high ≤ m.words) in
    qed 𝓛 (((‵ (flft κ q) ⊛ ‵ ftrue) ⊛ ‵ (owns (types_at f.signature.params z.0.0) z.0.3 vss)) ∷ (raw (fact 𝓤 Front) ⊛ raw (fact 𝓤 More)) ∷ []) ∵
    move ! (1 ∷ []) $ split ! $ heard ! Front (λ front. heard ! More (λ more. split ! $ split ! $ move ! (2 ∷ []) $
    fsplit ! $ move ! (1 ∷ []) $ fsplit ! $ one_value ! Bytes bytes-laws d vss.1.0 (λ u is_u u_good. move ! (1 ∷ []) $
    fsplit ! $ fsplit ! $ feq_l ! (λ is_low. flt_l ! (λ low_fits. fsplit ! $ fsplit ! $ feq_l ! (λ is_cap. flt_l ! (λ cap_fits. keep ! (2 ∷ 3 ∷ 1 ∷ []) $
    -- [the reference; the token; the bytes]
    let is_r = mut_Tells (named 0) κ middle.the_row r vss.0 are.0 in
    regoal ! (λ (us : List Val). prop (WpFn 𝓤 H 𝓣.C 𝓣.Λ fn us Post)) (λ j. is_r j ++ (is_u j ++ (is_low j ++ (is_cap j ++ [])))) refl $
    enter ! 𝓣.C 𝓣.Λ fn (vptr b o ∷ u ∷ vint w64 low ∷ vint w64 cap ∷ []) Post $
    alloc_all ! (λ l. pass_all ! refl ((tt, tt), (u_good, ((tt, record { fits = low_fits }), ((tt, record { fits = cap_fits }), tt)))) $
    fsplit3 ! $ move ! (1 ∷ 2 ∷ 3 ∷ []) $
    opens ! tt middle.the_row b o (λ us. move ! (1 ∷ []) $ peeks ! middle.the_row _ (shows 𝓛 middle.the_row) m us (λ is. fsplit ! $ move ! (1 ∷ []) $
    in_a_block ! m.base (λ p. middle_owns p m.words m.low m.high) (id⊢ 𝓤 (never 𝓤)) (λ b' o' at.
    let Cell = λ (ws : List Val). ‵ (cell_at full_share (middle.the_row).mir ws b o) in
    let word = lowers.val_is m us is ∙ ap (λ (p : Ptr). lowers.lowered (record m { base = p }) ∷ []) at in
    rewrite ! 2 Cell word refl $
    -- [the middle; its fields; its cell; the open borrow, in three entries; where it lies; the bytes]
    let G = Leaving u8 (⊑_refl []) 𝓛 𝓜.mem 𝓡.returns in let y = leaving u8 (⊑_refl []) 𝓛 𝓜.mem 𝓡.returns d u in
    let G' = Lodging u8 (⊑_refl []) 𝓛 𝓜.mem 𝓡.returns in let y' = lodging u8 (⊑_refl []) 𝓛 𝓜.mem 𝓡.returns b' o' n cap xs in
    sets ! (of_opd ! (load ! (through ! refl (fld ! refl (stop !))) (look_in ! 2 (sub ! 0 refl (whole !))))) refl (tt, tt) $
    sets ! (of_opd ! (get ! refl)) refl (tt, tt) $
    sets ! (of_opd ! (get ! refl)) refl u_good $
    move ! (7 ∷ []) $ use1 𝓛 (raw (G.pre y)) (dislodge_takes u8 (⊑_refl []) 𝓛 𝓜.mem 𝓡.returns d u) $
    calls_at ! fm G (leave.met 𝓤 𝓛 𝓜 𝓡 (code.calls-std_alloc::vec::lodged::Vec+T+Lodged::dislodge 𝓡.env wired) u8 byte_laws) y (and_then ! (get ! refl) (no_more !)) (λ v.
    use1 𝓛 (later (given _ (‵ (lodged (param 0 u8) d.ptr n d.cap xs)))) (dislodge_gives u8 (⊑_refl []) 𝓛 𝓜.mem 𝓡.returns d u v) $ await ! tt $ learn ! (λ got.
    lands_as ! got.0 refl (tt, record { fits = got.1 }) $
    use1 𝓛 (‵ (Values u8 byte_laws 𝓛 xs b' o') ⊛ ‵ (bytes_at (d.cap - n) b' (o' + n * 1))) (opened u8 byte_laws 𝓛 n d.cap xs d.ptr b' o' d.ok.0 d.ok.1 (λ some. front.1 some ∙ at)) $ split ! $
    move ! (1 ∷ 2 ∷ []) $ rewrite ! 0 (λ k. ‵ (bytes_at (k - n) b' (o' + n * 1))) front.0 refl $
    use2 𝓛 (‵ (bytes_at (low * 8 - n) b' (o' + n * 1)) ⊛ ‵ (middle_owns (block_ptr b' o') m.words low m.high))
    (widened 𝓛 m.words m.low low m.high n b' o' (omega (arith, more.1)) more.2 (omega (arith, front.0, d.ok.1))) $ split ! $
    rewrite ! 0 (λ k. ‵ (bytes_at (k - n) b' (o' + n * 1))) (sym more.0) refl $ move ! (2 ∷ 0 ∷ []) $
    use2 𝓛 (‵ (lodged (param 0 u8) (block_ptr b' o') n cap xs)) (closed u8 byte_laws 𝓛 n cap xs b' o' d.ok.0 (omega (arith, more.0, more.1)) (omega (arith, more.0, more.2, m.fits.1))) $
    -- [the bytes' memory; the middle; and the rest as before]
    first ! $ blocks ! $ use1 𝓛 (raw (G'.pre y')) (lodge_takes u8 (⊑_refl []) 𝓛 𝓜.mem 𝓡.returns b' o' n cap xs d.ok.0 (omega (arith, front.0, d.ok.1, more.0, more.1)) (omega (arith, more.0, more.2, m.fits.1))) $
    calls_at_last ! fm G' (lodge.met 𝓤 𝓛 𝓜 𝓡 (code.calls-std_alloc::vec::lodge 𝓡.env wired) u8 byte_laws) y' (and_then ! (get ! refl) (and_then ! (get ! refl) (and_then ! (get ! refl) (no_more !)))) (λ v'.
    use1 𝓛 (later (some (λ (s : Vec ℕ Lodged). given (LiesThere u8 (⊑_refl []) 𝓛 𝓜.mem 𝓡.returns b' o' n cap xs s) (‵ (Bytes.own_val s (v' ∷ [])))))) (lodge_gives u8 (⊑_refl []) 𝓛 𝓜.mem 𝓡.returns b' o' n cap xs v') $
    await ! tt $ pick ! (λ s. learn ! (λ lies. typed_value ! Bytes bytes-laws s v' (λ s_good. lands_last ! refl s_good $
    exec ! 𝓣.C 𝓣.Λ (env fn.locals l) (after 5 fn.body) (at_ret (env fn.locals l) Post) $
    sets ! (of_opd ! (get ! refl)) refl s_good $
    let m' : (middle.the_row).Denot = record { base = m.base; words = m.words; low = low; high = m.high; fits = (more.2, m.fits.1) } in
    move ! (1 ∷ 2 ∷ []) $ rewrite ! 0 (λ (p : Ptr). ‵ (middle_owns p m.words low m.high)) (sym at) refl $ rewrite ! 3 Cell (sym word) refl $
    move ! (1 ∷ 0 ∷ []) $ fjoin ! $ move ! (2 ∷ 0 ∷ 3 ∷ 4 ∷ 5 ∷ []) $ closes ! tt middle.the_row m' us b o $
    returns ! (look_at ! 0 refl) $ free_all ! refl $
    -- [the reference, in two parts; the token; the result; the reference's first part]
    move ! (4 ∷ 0 ∷ 1 ∷ []) $ fjoin3 ! $ nothing ! $ nothing ! $ fjoin ! $ nothing ! $ fjoin ! $ nothing ! $ fjoin ! $ move ! (1 ∷ 0 ∷ []) $ fjoin ! $
    nothing ! $ move ! (2 ∷ 0 ∷ []) $ join ! $
    let Told : Type 0 = (m'.base ≡ m.base) × (m'.words ≡ m.words) × (m'.low ≡ low) × (m'.high ≡ m.high) in
    let Given : Type 0 = (s.items ≡ xs) × (s.len ≡ n) × (s.cap ≡ cap) × (s.ptr ≡ m.base) in
    use0 𝓛 (raw (fact 𝓤 Given)) (fact_i 𝓤 Given (emp 𝓤) (lies.0, lies.1, lies.2, lies.3 ∙ sym at)) $
    use0 𝓛 (raw (fact 𝓤 Told)) (fact_i 𝓤 Told (emp 𝓤) (refl, refl, refl, refl)) $ join ! $ move ! (1 ∷ 2 ∷ 3 ∷ 0 ∷ []) $
    by ! (leaves 𝓛 f.ended stayed c z v' s (m', (tt, (tt, (tt, tt)))) (tt, (tt, (tt, (tt, tt)))))))))))))))))))))))
