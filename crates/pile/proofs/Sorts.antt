-- The two kinds of value in a block, and the Vecs of them.
use Rattle.std.proofs.Common.{◌≡◌, [], ◌∷◌, refl}
use mir.Syntax.{Ty}
use mir.Raw.{raw as bare}
use prog.Memory.{size, align}
use denote.Param.{layout}
use Rattle.pile.specs.contracts.slot.Slot as Slot
use Rattle.pile.proofs.slot.Slot.TheLaws as slot_laws
use denote.RattleType.{RattleType}
use denote.Builtin.{u8}
use denote.Param.Laws.{Laws, of_field}
use denote.Param.Shared.{copy_shared}
use denote.Struct.Field.{u8-field}
use denote.Struct.Laws.{u8-laws, u8-copy}
use Rattle.pile.proofs.Calls.{Row, row_laws}

abbrev pub byte_laws : Laws u8
byte_laws = of_field u8-field u8-laws refl (copy_shared u8-field u8-copy)

abbrev pub Bytes : RattleType
Bytes = Row u8

abbrev pub bytes-laws : Laws Bytes
bytes-laws = row_laws u8 byte_laws

abbrev pub S : RattleType
S = Slot.the_row

abbrev pub Slots : RattleType
Slots = Row S

abbrev pub slots-laws : Laws Slots
slots-laws = row_laws S slot_laws.the_row_laws

-- a slot as the machine sees it, with no name
abbrev pub bare_ty : Ty
bare_ty = bare (layout S)

abbrev pub S₀ : RattleType
S₀ = record { Denot = S.Denot; mir = bare_ty ∷ []; written = S.written; reaches = S.reaches; lives = S.lives; own_val = S.own_val; exit = S.exit; coded = S.coded; shr_at = S.shr_at }

abbrev pub L : Laws S
L = slot_laws.the_row_laws

abbrev pub S₀-laws : Laws S₀
S₀-laws = record { one = refl; single = L.single; lawful = λ 𝓛. record { typed = (L.lawful 𝓛).typed }; drops = λ 𝓛. L.drops 𝓛; shares = λ 𝓛. L.shares 𝓛; shr_laws = L.shr_laws }

-- a slot takes three words
pub slot_size : size (layout S₀) ≡ 24
slot_size = refl

pub slot_align : align (layout S₀) ≡ 8
slot_align = refl
