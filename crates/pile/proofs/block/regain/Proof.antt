-- `regain` takes both `Vec`s' memory back. Assumes `Logic`.
use Rattle.std.proofs.Common.{◌≡◌, ◌+◌, ◌-◌, ◌*◌, ◌<◌, List, [], ◌∷◌, ◌++◌, refl, sym, ◌∙◌, arith}
use mir.Val.{Val, vptr, vunit}
use mir.Syntax.{Fn, named}
use base.Logic.{SProp, emp, never, id⊢}
use base.Fml.{ftrue, flft, froom}
use prog.Wp.{WpFn}
use contract.BorrowLft.{⊑_refl}
use contract.Monad.{fact, fact_i}
use contract.Running.{tables}
use types.Kit.{‵, raw, ◌⊛◌, given, later, prop, ◌$◌, ◌∵◌, !, qed, by, move, keep, use0, use1, use3, split, join, learn, await, regoal, fsplit, fsplit3, fjoin, fjoin3, feq_i, rewrite}
use types.Run.{of_opd, no_more, and_then, returns, enter, unit_lit}
use types.ByLocal.{alloc_all, pass_all, free_all, look_at, get, sets, lands_as}
use denote.Builtin.{u8}
use denote.Exit.{yes}
use denote.Param.{param}
use denote.RattleType.{owns}
use denote.RawPtr.{Ptr, block_ptr, ◌+ₚ◌, in_a_block}
use denote.Ref.{mut_Tells}
use denote.Signature.{plain, types_at}
use denote.Steps.{nothing, heard, opens, closes}
use denote.Triple.Call.{calls_at}
use denote.Triple.Table.{framed}
use denote.Triple.Walked.{Stays, stay_dropped, stay_ref, walk_of, Goes-ref}
use mir.Syntax.{ty_array}
use Rattle.std.proofs.alloc.Calls.{Goes-blank}
use Rattle.std.proofs.raw_atomic.Walks.{proved_at, leaves}
use Rattle.std_alloc.specs.Vec.Ownership.{lodged}
use Rattle.std_alloc.proofs.vec.lodged.Vec+T+Lodged.dislodge.Met as leave
use Rattle.pile.specs.Ownership.{bytes_at, middle_owns}
use Rattle.pile.specs.contracts.block.Middle as middle
use Rattle.pile.specs.contracts.block.regain as f
use Rattle.pile.proofs.Calls.{Leaving, leaving, dislodge_takes, dislodge_gives}
use Rattle.pile.proofs.Parts.{vacated}
use Rattle.pile.proofs.Rooms.{regained}
use Rattle.pile.proofs.Sorts.{byte_laws, Bytes, bytes-laws, Slots, slots-laws, S₀, S₀-laws, bare_ty, slot_size, slot_align}
use Rattle.pile.proofs.Steps.{one_value}
use Rattle.pile.proofs.block.regain.Statement.{statement}
use Rattle.pile.proofs.block.regain.Code as code

abbrev stayed : Stays f.ended.signature.params f.ended.kept
stayed = (stay_ref (0 ∷ []) tt (plain (λ _. middle.the_row)), (stay_dropped (plain (λ _. Bytes)) yes, (stay_dropped (plain (λ _. Slots)) yes, tt)))

pub regain_spec : {M : Type 1} → statement M
regain_spec 𝓤 𝓛 𝓜 𝓡 wired =
    let H = 𝓛.H in let c = f.clauses 𝓛 𝓜.mem 𝓡.returns in let 𝓣 = tables 𝓤 H 𝓜 𝓡 𝓡.env in let fn : Fn = code.function in let fm = framed 𝓤 H 𝓜 𝓣 in
    proved_at 𝓛 f.ended stayed c 𝓜 𝓡 (Goes-ref 𝓛 1 0 tt (plain (λ _. middle.the_row)), (Goes-blank 𝓛 1 (plain (λ _. Bytes)) yes (λ κs x k. tt), (Goes-blank 𝓛 1 (plain (λ _. Slots)) yes (λ κs x k. tt), tt)))
    f.Key.name fn (code.unfolded 𝓤 H 𝓜 𝓡 wired) (λ z are.
    let κ = z.0.0.0 in let q = z.0.1.0 in let r = z.0.3.0 in let d = z.0.3.1.0 in let e = z.0.3.1.1.0 in let vss = z.0.4 in
    let m = r.now in let b = r.ref_ptr.0 in let o = r.ref_ptr.1 in
    let Post : Val → SProp 𝓤 = (walk_of 𝓛 f.ended stayed c).post z in
    let Front : Type 0 = (d.cap ≡ m.low * 8) × (0 < d.cap → d.ptr ≡ m.base) in
    let Back : Type 0 = (e.len ≡ m.high) × (e.cap ≡ e.len) × (0 < e.len → e.ptr ≡ m.base +ₚ (m.words - 3 * e.len) * 8) in
    qed 𝓛 (((‵ (flft κ q) ⊛ ‵ ftrue) ⊛ ‵ (owns (types_at f.signature.params z.0.0) z.0.3 vss)) ∷ (raw (fact 𝓤 Front) ⊛ raw (fact 𝓤 Back)) ∷ []) ∵
    move ! (1 ∷ []) $ split ! $ heard ! Front (λ front. heard ! Back (λ back. split ! $ split ! $ move ! (2 ∷ []) $
    fsplit ! $ move ! (1 ∷ []) $ fsplit ! $ one_value ! Bytes bytes-laws d vss.1.0 (λ u is_u u_good. move ! (1 ∷ []) $
    fsplit ! $ one_value ! Slots slots-laws e vss.1.1.0 (λ w is_w w_good. keep ! (2 ∷ 0 ∷ 3 ∷ 4 ∷ []) $
    -- [the bytes; the slots; the reference; the token]
    let is_r = mut_Tells (named 0) κ middle.the_row r vss.0 are.0 in
    regoal ! (λ (us : List Val). prop (WpFn 𝓤 H 𝓣.C 𝓣.Λ fn us Post)) (λ j. is_r j ++ (is_u j ++ (is_w j ++ []))) refl $
    enter ! 𝓣.C 𝓣.Λ fn (vptr b o ∷ u ∷ w ∷ []) Post $ alloc_all ! (λ l. pass_all ! refl ((tt, tt), (u_good, (w_good, tt))) $
    let G = Leaving u8 (⊑_refl []) 𝓛 𝓜.mem 𝓡.returns in let y = leaving u8 (⊑_refl []) 𝓛 𝓜.mem 𝓡.returns d u in
    let G' = Leaving S₀ (⊑_refl []) 𝓛 𝓜.mem 𝓡.returns in let y' = leaving S₀ (⊑_refl []) 𝓛 𝓜.mem 𝓡.returns e w in
    sets ! (of_opd ! (get ! refl)) refl u_good $ use1 𝓛 (raw (G.pre y)) (dislodge_takes u8 (⊑_refl []) 𝓛 𝓜.mem 𝓡.returns d u) $
    calls_at ! fm G (leave.met 𝓤 𝓛 𝓜 𝓡 (code.calls-std_alloc::vec::lodged::Vec+T+Lodged::dislodge 𝓡.env wired) u8 byte_laws) y (and_then ! (get ! refl) (no_more !)) (λ v.
    use1 𝓛 (later (given _ (‵ (lodged (param 0 u8) d.ptr d.len d.cap d.items)))) (dislodge_gives u8 (⊑_refl []) 𝓛 𝓜.mem 𝓡.returns d u v) $ await ! tt $ learn ! (λ got.
    lands_as ! got.0 refl (tt, record { fits = got.1 }) $ move ! (1 ∷ []) $
    sets ! (of_opd ! (get ! refl)) refl w_good $ use1 𝓛 (raw (G'.pre y')) (dislodge_takes S₀ (⊑_refl []) 𝓛 𝓜.mem 𝓡.returns e w) $
    calls_at ! fm G' (leave.met 𝓤 𝓛 𝓜 𝓡 (code.calls-std_alloc::vec::lodged::Vec+T+Lodged::dislodge 𝓡.env wired) S₀ S₀-laws) y' (and_then ! (get ! refl) (no_more !)) (λ v'.
    use1 𝓛 (later (given _ (‵ (lodged (param 0 S₀) e.ptr e.len e.cap e.items)))) (dislodge_gives S₀ (⊑_refl []) 𝓛 𝓜.mem 𝓡.returns e w v') $ await ! tt $ learn ! (λ got'.
    lands_as ! got'.0 refl (tt, record { fits = got'.1 }) $
    -- [the slots' memory; the bytes'; the reference; the token]
    move ! (2 ∷ []) $ fsplit3 ! $ move ! (1 ∷ 2 ∷ 5 ∷ []) $
    opens ! tt middle.the_row b o (λ us. move ! (1 ∷ []) $ fsplit ! $ move ! (1 ∷ []) $
    in_a_block ! m.base (λ p. middle_owns p m.words m.low m.high) (id⊢ 𝓤 (never 𝓤)) (λ b' o' at.
    -- [the middle; its fields; its cell; the open borrow, in three entries; where it lies; the slots' memory; the bytes']
    let s = o' + (m.words - 3 * m.high) * 8 in
    let there : 0 < e.cap → e.ptr ≡ block_ptr b' s = λ some. back.2 (omega (arith, some, back.1)) ∙ (λ i. at i +ₚ (m.words - 3 * back.0 i) * 8) in
    let m' : (middle.the_row).Denot = record { base = m.base; words = m.words; low = 0; high = 0; fits = (omega arith, m.fits.1) } in
    move ! (7 ∷ []) $ use1 𝓛 (‵ (froom (ty_array bare_ty e.cap) b' s)) (vacated S₀ S₀-laws 𝓛 e.len e.cap e.items e.ptr b' s e.ok.0 e.ok.1 there) $
    rewrite ! 0 (λ k. ‵ (froom (ty_array bare_ty k) b' s)) (back.1 ∙ back.0) refl $
    move ! (8 ∷ []) $ use1 𝓛 (‵ (bytes_at d.cap b' o')) (vacated u8 byte_laws 𝓛 d.len d.cap d.items d.ptr b' o' d.ok.0 d.ok.1 (λ some. front.1 some ∙ at)) $
    rewrite ! 0 (λ k. ‵ (bytes_at k b' o')) front.0 refl $
    use3 𝓛 (‵ (middle_owns (block_ptr b' o') m.words 0 0)) (regained 𝓛 bare_ty slot_size slot_align m.words m.low m.high b' o' m.fits.0) $
    rewrite ! 0 (λ (p : Ptr). ‵ (middle_owns p m.words 0 0)) (sym at) refl $ move ! (1 ∷ 0 ∷ []) $ fjoin ! $ move ! (1 ∷ []) $
    closes ! tt middle.the_row m' us b o $
    sets ! (of_opd ! (unit_lit !)) refl (tt, tt) $ returns ! (look_at ! 0 refl) $ free_all ! refl $
    -- [the reference, in two parts; the token; the reference's first part]
    move ! (3 ∷ 0 ∷ 1 ∷ []) $ fjoin3 ! $ nothing ! $ nothing ! $ fjoin ! $ nothing ! $ fjoin ! $ move ! (1 ∷ 0 ∷ []) $ fjoin ! $
    nothing ! $ move ! (2 ∷ 0 ∷ []) $ join ! $
    let Told : Type 0 = (m'.base ≡ m.base) × (m'.words ≡ m.words) × (m'.low ≡ 0) × (m'.high ≡ 0) in
    use0 𝓛 (raw (fact 𝓤 Told)) (fact_i 𝓤 Told (emp 𝓤) (refl, refl, refl, refl)) $ feq_i ! (List Val) (vunit ∷ []) (vunit ∷ []) refl $ move ! (2 ∷ 3 ∷ 0 ∷ 1 ∷ []) $
    by ! (leaves 𝓛 f.ended stayed c z vunit tt (m', (tt, (tt, tt))) (tt, (tt, (tt, tt))))))))))))))))
