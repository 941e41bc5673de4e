-- `open` takes the room of a `Vec` of words. Assumes `Logic`.
use Rattle.std.proofs.Common.{◌≡◌, ◌^◌, ◌<◌, List, [], ◌∷◌, ◌++◌, refl, arith}
use mir.Val.{Val}
use mir.Syntax.{Fn}
use base.Logic.{SProp, emp}
use base.Fml.{ftrue}
use prog.Wp.{WpFn}
use contract.Monad.{fact, fact_i}
use contract.Running.{tables}
use types.Kit.{‵, raw, ◌⊛◌, prop, ◌$◌, ◌∵◌, !, qed, by, move, drop, use0, use1, use2, split, regoal, fsplit, fjoin, fpack, feq_l, rewrite}
use types.Part.{agg}
use types.Run.{of_opd, no_more, and_then, returns, enter}
use types.ByLocal.{alloc_all, pass_all, free_all, look_at, get, sets}
use denote.Builtin.{RawPtr}
use denote.Exit.{yes}
use denote.Laws.{Typed}
use denote.Param.{layout}
use denote.RattleType.{owns}
use denote.RawPtr.{ptr_val, rawptr_Lawful, rawptr_Makes}
use denote.Signature.{plain, types_at}
use denote.Steps.{nothing, heard, owned}
use denote.Struct.Struct.{as_fields}
use denote.Struct.Tuple.{Tuple}
use denote.Triple.Entry.{alive}
use denote.Triple.Walked.{Stays, stay_dropped, walk_of}
use Rattle.std.proofs.alloc.Calls.{Goes-blank}
use Rattle.std.proofs.raw_atomic.Walks.{proved_at, leaves}
use Rattle.std_alloc.proofs.Pairs.{pair_of, pair_val}
use Rattle.pile.specs.Ownership.{home, middle_owns}
use Rattle.pile.specs.contracts.block.Husk as husk
use Rattle.pile.specs.contracts.block.Middle as middle
use Rattle.pile.specs.contracts.block.open as f
use Rattle.pile.proofs.Homes.{Words, words_laws, shell, parted}
use Rattle.pile.proofs.Rooms.{opens_home}
use Rattle.pile.proofs.Steps.{struct_val, one_value, fields_made, alone}
use Rattle.pile.proofs.block.open.Statement.{statement}
use Rattle.pile.proofs.block.open.Code as code

abbrev stayed : Stays f.ended.signature.params f.ended.kept
stayed = (stay_dropped (plain (λ _. Words)) yes, (stay_dropped (plain (λ _. RawPtr)) yes, tt))

pub open_spec : {M : Type 1} → statement M
open_spec 𝓤 𝓛 𝓜 𝓡 wired =
    let H = 𝓛.H in let c = f.clauses 𝓛 𝓜.mem 𝓡.returns in let 𝓣 = tables 𝓤 H 𝓜 𝓡 𝓡.env in let fn : Fn = code.function in
    proved_at 𝓛 f.ended stayed c 𝓜 𝓡 (Goes-blank 𝓛 0 (plain (λ _. Words)) yes (λ κs x k. tt), (Goes-blank 𝓛 0 (plain (λ _. RawPtr)) yes (λ κs x k. tt), tt))
    f.Key.name fn (code.unfolded 𝓤 H 𝓜 𝓡 wired) (λ z are.
    let v = z.0.3.0 in let p = z.0.3.1.0 in let vss = z.0.4 in let n = v.cap in
    let Post : Val → SProp 𝓤 = (walk_of 𝓛 f.ended stayed c).post z in
    let Asked : Type 0 = (v.ptr ≡ p) × (v.len ≡ 0) × (0 < n) × (n < 2 ^ 60) in
    qed 𝓛 ((raw (alive 𝓛 f.signature z.0.0 z.0.1) ⊛ ‵ (owns (types_at f.signature.params z.0.0) z.0.3 vss)) ∷ raw (fact 𝓤 Asked) ∷ []) ∵
    move ! (1 ∷ []) $ heard ! Asked (λ asked. split ! $ move ! (1 ∷ []) $ fsplit ! $ move ! (1 ∷ []) $ fsplit ! $ feq_l ! (λ is_p. drop ! $
    one_value ! Words words_laws v vss.0 (λ u is_u good.
    -- [the Vec; the tokens]
    use1 𝓛 (‵ (home v.ptr n) ⊛ ‵ (husk.the_own (record { base = v.ptr; words = n }) (shell u ∷ []))) (parted 𝓛 v u asked.1 asked.2) $ split ! $ move ! (1 ∷ []) $
    let m : (middle.the_row).Denot = record { base = p; words = n; low = 0; high = 0; fits = (omega arith, asked.3) } in
    let h : (husk.the_row).Denot = record { base = v.ptr; words = n } in
    let mv = struct_val (RawPtr ∷ []) (ptr_val p ∷ [], tt) in let r = pair_val mv (shell u) in
    let p_good = ((rawptr_Lawful 𝓛).typed p _ refl).0 in
    let m_good = as_fields (layout RawPtr ∷ []) (ptr_val p ∷ []) (p_good, tt) in let h_good = as_fields (layout Words ∷ []) (u ∷ []) (good, tt) in
    let r_good = as_fields (layout middle.the_row ∷ layout husk.the_row ∷ []) (mv ∷ shell u ∷ []) (m_good, (h_good, tt)) in
    nothing ! $ fpack ! (Typed (husk.the_row).mir (shell u ∷ [])) (λ _. ftrue) (h_good, tt) $ fjoin ! $ move ! (1 ∷ []) $
    use1 𝓛 (‵ (middle_owns v.ptr n 0 0)) (opens_home 𝓛 v.ptr n) $ rewrite ! 0 (λ q. ‵ (middle_owns q n 0 0)) asked.0 refl $
    owned ! RawPtr _ (rawptr_Makes 𝓛) p (ptr_val p ∷ []) refl $ alone ! RawPtr p (ptr_val p ∷ []) $ fields_made ! (RawPtr ∷ []) (p, tt) (ptr_val p ∷ [], tt) $ fjoin ! $
    use2 𝓛 (‵ ((Tuple (middle.the_row ∷ husk.the_row ∷ [])).own_val (m, h) (r ∷ []))) (pair_of 𝓛 middle.the_row husk.the_row m h mv (shell u)) $
    -- [the result; the tokens]
    regoal ! (λ (us : List Val). prop (WpFn 𝓤 H 𝓣.C 𝓣.Λ fn us Post)) (λ i. is_u i ++ (is_p i ++ [])) refl $
    enter ! 𝓣.C 𝓣.Λ fn (u ∷ ptr_val p ∷ []) Post $ alloc_all ! (λ l. pass_all ! refl (good, (p_good, tt)) $
    sets ! (agg ! (and_then ! (get ! refl) (no_more !))) refl m_good $
    sets ! (of_opd ! (get ! refl)) refl good $
    sets ! (agg ! (and_then ! (get ! refl) (no_more !))) refl h_good $
    sets ! (agg ! (and_then ! (get ! refl) (and_then ! (get ! refl) (no_more !)))) refl r_good $
    returns ! (look_at ! 0 refl) $ free_all ! refl $
    let Told : Type 0 = (m.base ≡ p) × (m.words ≡ n) × (m.low ≡ 0) × (m.high ≡ 0) × (h.base ≡ p) × (h.words ≡ n) in
    use0 𝓛 (raw (fact 𝓤 Told)) (fact_i 𝓤 Told (emp 𝓤) (refl, refl, refl, refl, asked.0, refl)) $
    nothing ! $ nothing ! $ fjoin ! $ nothing ! $ fjoin ! $ move ! (3 ∷ 0 ∷ 2 ∷ 1 ∷ []) $ by ! (leaves 𝓛 f.ended stayed c z r (m, h) (tt, (tt, tt)) (tt, (tt, tt))))))))
