-- Registers and mappers, both ways.
use mathlib.Core.Path.{◌≡◌, sym, ap, ◌∙◌}
use mathlib.Core.Bool.{true}
use Prim.Native.Nat.{◌<◌}
use Rattle.mbc.specs.Mbc.{known, registers_of, mapper_of, same, sound}
use Rattle.mbc.specs.declared.mbc.Mapper.{Mapper}
use Rattle.mbc.specs.declared.held.Registers.{Registers}
use Rattle.mbc.proofs.Same.{same_self, same_is}
use Rattle.mbc.proofs.Cases.{lawful}

pub mapper_of_registers : (m : Mapper) → mapper_of (registers_of m) ≡ m
mapper_of_registers m = (lawful m).back

pub mapper_held : (m : Mapper) (r : Registers) → r ≡ registers_of m → mapper_of r ≡ m
mapper_held m r e = ap mapper_of e ∙ mapper_of_registers m

pub registers_sound : (m : Mapper) → sound (registers_of m) ≡ true
unfolding sound
registers_sound m = ap (λ (n : Mapper). same (registers_of m) (registers_of n)) (lawful m).back ∙ same_self (registers_of m)

pub registers_known : (m : Mapper) → known (registers_of m).kind ≡ true
registers_known m = (lawful m).kind

pub registers_bits : (m : Mapper) → ((registers_of m).mode < 2) × ((registers_of m).enabled < 2)
registers_bits m = (lawful m).bits

pub registers_of_mapper : (r : Registers) → sound r ≡ true → registers_of (mapper_of r) ≡ r
unfolding sound
registers_of_mapper r e = same_is r (registers_of (mapper_of r)) e

pub sound_known : (r : Registers) → sound r ≡ true → known r.kind ≡ true
sound_known r e = ap (λ (s : Registers). known s.kind) (sym (registers_of_mapper r e)) ∙ (lawful (mapper_of r)).kind
