-- `close` gives the room back to the `Vec` that it came of. Assumes `Logic`.
use Rattle.std.proofs.Common.{◌≡◌, List, [], ◌∷◌, ◌++◌, refl, ap, ◌∙◌}
use mir.Val.{Val}
use mir.Syntax.{Fn}
use base.Logic.{SProp, apply∗}
use prog.Wp.{WpFn}
use contract.Monad.{fact}
use contract.Running.{tables}
use types.Logic.{sem}
use types.Kit.{‵, raw, ◌⊛◌, prop, ◌$◌, ◌∵◌, !, qed, by, move, keep, drop, use1, use2, split, regoal, fsplit, fjoin, fpick, feq_l, rewrite}
use types.Part.{sub, whole}
use types.Run.{of_opd, returns, enter, fld, stop}
use types.ByLocal.{alloc_all, pass_all, free_all, look_at, get, get_in, sets}
use denote.Builtin.{RawPtr}
use denote.Exit.{yes}
use denote.Param.{layout}
use denote.RattleType.{owns}
use denote.RawPtr.{Ptr, ptr_val, rawptr_Lawful}
use denote.Signature.{plain, types_at}
use denote.Steps.{nothing, heard}
use denote.Struct.Struct.{as_fields}
use denote.Triple.Entry.{alive}
use denote.Triple.Walked.{Stays, stay_dropped, walk_of}
use Rattle.std.proofs.alloc.Calls.{Goes-blank}
use Rattle.std.proofs.raw_atomic.Walks.{proved_at, leaves}
use Rattle.pile.specs.Ownership.{home}
use Rattle.pile.specs.contracts.block.Husk as husk
use Rattle.pile.specs.contracts.block.Husk.TheInside as inside
use Rattle.pile.specs.contracts.block.Middle as middle
use Rattle.pile.specs.contracts.block.close as f
use Rattle.pile.proofs.Homes.{Words, words_laws, shell}
use Rattle.pile.proofs.Rooms.{closes_home}
use Rattle.pile.proofs.Steps.{struct_val, one_value, fields_had}
use Rattle.pile.proofs.block.close.Statement.{statement}
use Rattle.pile.proofs.block.close.Code as code

abbrev stayed : Stays f.ended.signature.params f.ended.kept
stayed = (stay_dropped (plain (λ _. middle.the_row)) yes, (stay_dropped (plain (λ _. husk.the_row)) yes, tt))

pub close_spec : {M : Type 1} → statement M
close_spec 𝓤 𝓛 𝓜 𝓡 wired =
    let H = 𝓛.H in let c = f.clauses 𝓛 𝓜.mem 𝓡.returns in let 𝓣 = tables 𝓤 H 𝓜 𝓡 𝓡.env in let fn : Fn = code.function in
    proved_at 𝓛 f.ended stayed c 𝓜 𝓡 (Goes-blank 𝓛 0 (plain (λ _. middle.the_row)) yes (λ κs x k. tt), (Goes-blank 𝓛 0 (plain (λ _. husk.the_row)) yes (λ κs x k. tt), tt))
    f.Key.name fn (code.unfolded 𝓤 H 𝓜 𝓡 wired) (λ z are.
    let m = z.0.3.0 in let h = z.0.3.1.0 in let vss = z.0.4 in let p = m.base in
    let Post : Val → SProp 𝓤 = (walk_of 𝓛 f.ended stayed c).post z in
    let Asked : Type 0 = (p ≡ h.base) × (m.words ≡ h.words) × (m.low ≡ 0) × (m.high ≡ 0) in
    qed 𝓛 ((raw (alive 𝓛 f.signature z.0.0 z.0.1) ⊛ ‵ (owns (types_at f.signature.params z.0.0) z.0.3 vss)) ∷ raw (fact 𝓤 Asked) ∷ []) ∵
    move ! (1 ∷ []) $ heard ! Asked (λ asked. split ! $ move ! (1 ∷ []) $ fsplit ! $ fsplit ! $
    fields_had ! (RawPtr ∷ []) (p, tt) vss.0 (λ ps is_m. fsplit ! $ feq_l ! (λ is_p. drop ! $
    -- [the middle; the husk; the tokens]
    use1 𝓛 (‵ (home p m.words)) (closes_home 𝓛 p m.words m.low m.high asked.2 asked.3) $
    rewrite ! 0 (λ (q : Ptr). ‵ (home q m.words)) asked.0 refl $ rewrite ! 0 (λ k. ‵ (home h.base k)) asked.1 refl $
    move ! (1 ∷ []) $ fsplit ! $ fsplit ! $ fpick ! (λ typed. drop ! $ fpick ! (λ i.
    let Whole = (inside.the_row).own_val i vss.1.0 in
    move ! (2 ∷ 0 ∷ []) $ use2 𝓛 (‵ Whole) (apply∗ 𝓤 (sem 𝓛 (home h.base h.words)) (sem 𝓛 Whole)) $
    fields_had ! (Words ∷ []) (i.vec, tt) vss.1.0 (λ us is_h. fsplit ! $ one_value ! Words words_laws i.vec us.0 (λ u is_u good. keep ! (0 ∷ 3 ∷ []) $
    -- [the Vec; the tokens]
    let mv = struct_val (RawPtr ∷ []) (ptr_val p ∷ [], tt) in
    let m_is : vss.0 ≡ mv ∷ [] = is_m ∙ ap (λ ws. struct_val (RawPtr ∷ []) (ws, tt) ∷ []) is_p in
    let h_is : vss.1.0 ≡ shell u ∷ [] = is_h ∙ ap (λ ws. struct_val (Words ∷ []) (ws, tt) ∷ []) is_u in
    let m_good = as_fields (layout RawPtr ∷ []) (ptr_val p ∷ []) (((rawptr_Lawful 𝓛).typed p _ refl).0, tt) in
    regoal ! (λ (ws : List Val). prop (WpFn 𝓤 H 𝓣.C 𝓣.Λ fn ws Post)) (λ j. m_is j ++ (h_is j ++ [])) refl $
    enter ! 𝓣.C 𝓣.Λ fn (mv ∷ shell u ∷ []) Post $ alloc_all ! (λ l. pass_all ! refl (m_good, (as_fields (layout Words ∷ []) (u ∷ []) (good, tt), tt)) $
    sets ! (of_opd ! (get_in ! (fld ! refl (stop !)) (sub ! 0 refl (whole !)))) refl good $
    sets ! (of_opd ! (get ! refl)) refl good $
    returns ! (look_at ! 0 refl) $ free_all ! refl $
    nothing ! $ nothing ! $ nothing ! $ fjoin ! $ nothing ! $ fjoin ! $ move ! (3 ∷ 0 ∷ 2 ∷ 1 ∷ []) $
    by ! (leaves 𝓛 f.ended stayed c z u i.vec (tt, (tt, tt)) (tt, (tt, tt))))))))))))
