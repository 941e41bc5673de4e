-- Steps that the walks of `src/block.rt` share. Assumes `Logic`.
use Rattle.std.proofs.Common.{◌≡◌, List, [], ◌∷◌, refl}
use lib.Dec.{T}
use seplogic.Ra.Ura.{Ura}
use mir.Val.{Val, vstruct, of_list, has_ty, WT}
use types.Logic.{Logic}
use types.Kit.{Goal, Seq, Step, step, Item, ‵, ◌$◌, move, fsplit, fjoin, fpick, fpack, feq_l, feq_i, rewrite}
use denote.Laws.{Is, shows}
use denote.Param.{layout, param}
use denote.Param.Laws.{Laws}
use denote.RattleType.{RattleType, Denots, Valss, flat, owns}
use denote.Steps.{nothing, peeks}
use denote.Struct.Struct.{Shape, Struct, within}
use Rattle.core.proofs.mem.Param.{one, lawful}

-- v is a machine value of the type
abbrev pub Fits : RattleType → Val → Type 0
Fits R v = T (has_ty (layout R) v) × WT v

-- a struct of these fields: what it owns reads no name
abbrev pub fields_of : List RattleType → Shape
fields_of Rs = record { name = []; args = []; types = []; fields = Rs }

abbrev pub struct_val : (Rs : List RattleType) → Valss Rs → Val
struct_val Rs vss = vstruct (of_list (flat Rs vss))

module _ {M : Type 1} {𝓤 : Ura M} {𝓛 : Logic 𝓤} {K : Type 0} {Γ : List (Item 𝓤)} {G : Goal 𝓤 𝓛.H} where
  -- what is owned is one machine value
  pub one_value : K → (R : RattleType) → Laws R → (x : R.Denot) (vs : List Val)
      → ((v : Val) → vs ≡ v ∷ [] → Fits R v → Seq K 𝓛 (‵ (R.own_val x (v ∷ [])) ∷ Γ) G) → Seq K 𝓛 (‵ (R.own_val x vs) ∷ Γ) G
  one_value t R L x vs k =
      peeks t (param 0 R) (Is (param 0 R)) (shows 𝓛 (param 0 R)) x vs (λ is.
      let got = one (record { row = R; laws = L }) vs ((lawful (record { row = R; laws = L }) 𝓛).typed x vs is) in
      rewrite t 0 (λ us. ‵ (R.own_val x us)) got.1 refl $ k got.0 got.1 got.2)

  -- a struct is made of its fields, and taken apart
  pub fields_made : K → (Rs : List RattleType) (a : Denots Rs) (vss : Valss Rs)
      → Step K 𝓛 (‵ ((Struct (fields_of Rs)).own_val a (struct_val Rs vss ∷ [])) ∷ Γ) G (‵ (owns Rs a vss) ∷ Γ) G
  fields_made t Rs a vss = step (λ s.
      let w = struct_val Rs vss in feq_i t (List Val) (w ∷ []) (w ∷ []) refl $ fjoin t $ fpack t (Valss Rs) (within (fields_of Rs) a (w ∷ [])) vss $ s)

  pub fields_had : K → (Rs : List RattleType) (a : Denots Rs) (vs : List Val)
      → ((vss : Valss Rs) → vs ≡ struct_val Rs vss ∷ [] → Seq K 𝓛 (‵ (owns Rs a vss) ∷ Γ) G) → Seq K 𝓛 (‵ ((Struct (fields_of Rs)).own_val a vs) ∷ Γ) G
  fields_had t Rs a vs k = fpick t (λ vss. fsplit t $ feq_l t (λ e. k vss e))

  -- the list of one field
  pub alone : K → (R : RattleType) (x : R.Denot) (vs : List Val) → Step K 𝓛 (‵ (owns (R ∷ []) (x, tt) (vs, tt)) ∷ Γ) G (‵ (R.own_val x vs) ∷ Γ) G
  alone t R x vs = step (λ s. nothing t $ move t (1 ∷ 0 ∷ []) $ fjoin t $ s)

  -- a value that is owned is of its type
  pub typed_value : K → (R : RattleType) → Laws R → (x : R.Denot) (v : Val) → (Fits R v → Seq K 𝓛 (‵ (R.own_val x (v ∷ [])) ∷ Γ) G) → Seq K 𝓛 (‵ (R.own_val x (v ∷ [])) ∷ Γ) G
  typed_value t R L x v k =
      peeks t (param 0 R) (Is (param 0 R)) (shows 𝓛 (param 0 R)) x (v ∷ []) (λ is. k ((lawful (record { row = R; laws = L }) 𝓛).typed x (v ∷ []) is).0)
