-- A `&` to a husk reads nothing. Assumes `Logic`.
use base.Fraction.{full_share}
use denote.Memory.{part_at}
use denote.SharingLaws.{nothing_shr_laws}
use denote.Struct.Lending.{Lends-nothing}
use Rattle.pile.specs.contracts.block.Husk as husk
use Rattle.pile.proofs.block.Husk.TheLaw.Statement.{statement}

pub shares : statement
shares = record {
  shr_laws = λ e b o. nothing_shr_laws;
  shares = λ M 𝓤 𝓛 e κ ts b o. Lends-nothing 𝓛 (part_at husk.the_written full_share e b o) husk.the_written.lives κ ts;
}
