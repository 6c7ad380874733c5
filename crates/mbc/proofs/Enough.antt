-- What is enough for registers to fit a cartridge, mapper by mapper: the fields and the codes as who decodes an image has them.
use mathlib.Core.Path.{◌≡◌, refl, sym, ◌∙◌}
use mathlib.Core.Bool.{true, ◌&&◌, ◌||◌}
use mathlib.Core.List.{[], ◌∷◌}
use Prim.Native.Nat.{◌*◌, ◌<◌, ◌≤◌}
use native.Mathlib.Omega.{arith}
use lib.Dec.{eqb, ltb}
use borrow.Author.Tests.{lt-ltb, eq-eqb}
use Rattle.mbc.specs.Mbc.{one_of, implies, has_banks, has_code, ram_banks, is_on, ram_fits, ram_len, described, held, in_range, registers_of, mapper_of, same, sound, kind_rom_only, kind_mbc1, kind_mbc2, kind_mbc5, from1, from2, from5}
use Rattle.mbc.specs.declared.cartridge.Cartridge.{Cartridge}
use Rattle.mbc.specs.declared.held.Registers.{Registers}
use Rattle.mbc.specs.declared.mbc.Mapper.{Mapper}
use Rattle.mbc.specs.declared.mbc.Mapper.TheVariants.{RomOnly, Mbc1, Mbc2, Mbc5}
use Rattle.mbc.proofs.Bits.{bit_forth}
use Rattle.mbc.proofs.Same.{same_fields}
use Rattle.mbc.proofs.Cartridges.{code_most, four_banks, to_3}
use Rattle.mbc.proofs.Cases.Mbc1Laws.{suit, in_range1}
use Rattle.mbc.proofs.Cases.Mbc5Laws.{Mbc5Facts, below_fits, start_fits, in_range5}
use Rattle.mbc.proofs.ByKind.{as_rom_only, as_mbc1, as_mbc2, as_mbc5, no_own_ram, fit_as}

-- registers that some mapper has, in range
abbrev pub Fit : Cartridge → Registers → Type 0
Fit c r = (sound r && in_range c (mapper_of r)) ≡ true

fit_of : (c : Cartridge) (r : Registers) (m : Mapper) → mapper_of r ≡ m → same r (registers_of m) ≡ true → in_range c m ≡ true → Fit c r
fit_of c r m e s i = sym (fit_as c r m e) ∙ rw (s, i)

-- what a RAM code of all banked mappers allows: four banks, one, or none
pub data Ramful (c : Cartridge) (r : Registers) : Type 0 where
  four : c.code ≡ 3 → r.ram ≤ 3 → Ramful c r
  one : c.code ≡ 2 → r.ram ≡ 0 → r.mode ≡ 0 → Ramful c r
  none : c.code ≡ 0 → r.ram ≡ 0 → r.mode ≡ 0 → r.enabled ≡ 0 → Ramful c r

module _ (c : Cartridge) (r : Registers) where
  -- for Mbc1 and for Mbc5
  some_code : Ramful c r → (has_code 3 c ≡ true) × (has_code 4 c ≡ true)
  unfolding has_code
  some_code (four e a) = (rw e, rw e)
  some_code (one e a o) = (rw e, rw e)
  some_code (none e a o n) = (rw e, rw e)

  -- RAM that is enabled is there
  on_there : Ramful c r → implies (is_on r.enabled) (one_of (2 ∷ 3 ∷ []) c.code) ≡ true
  on_there (four e a) = rw e
  on_there (one e a o) = rw e
  on_there (none e a o n) = rw (e, n)

  two_bits : Ramful c r → r.ram ≤ 3
  two_bits (four e a) = a
  two_bits (one e a o) = omega (arith, a)
  two_bits (none e a o n) = omega (arith, a)

  -- Mbc1's banking needs four banks
  four_there : Ramful c r → implies (is_on r.mode || ltb 0 r.ram) (eqb c.code 3) ≡ true
  four_there (four e a) = rw e
  four_there (one e a o) = rw (e, a, o)
  four_there (none e a o n) = rw (e, a, o)

  -- and Mbc5's RAM bank is one that there is, or 0
  bank_there : Ramful c r → ram_fits (ram_banks c.code) r.ram ≡ true
  bank_there (four e a) = below_fits (ram_banks c.code) r.ram (omega (arith, a, four_banks c.code e))
  bank_there (one e a o) = rw a (start_fits (ram_banks c.code))
  bank_there (none e a o n) = rw a (start_fits (ram_banks c.code))

pub enough_rom_only : (c : Cartridge) (r : Registers) → r.kind ≡ kind_rom_only → r.rom ≡ 1 → r.ram ≡ 0 → r.mode ≡ 0 → r.enabled ≡ 0 → r.high ≡ 0
    → has_banks 2 c ≡ true → has_code 3 c ≡ true → Fit c r
unfolding in_range described held
enough_rom_only c r k rom ram mode enabled high banks code =
    fit_of c r RomOnly (as_rom_only r k) (same_fields r (registers_of RomOnly) k rom ram mode enabled high) (rw (banks, code))

pub enough_mbc1 : (c : Cartridge) (r : Registers) → r.kind ≡ kind_mbc1 → r.mode ≤ 1 → r.enabled ≤ 1 → r.high ≤ 3
    → has_banks 128 c ≡ true → r.rom < c.banks → Ramful c r → Fit c r
enough_mbc1 c r k mode enabled high banks rom code =
    fit_of c r (Mbc1 (from1 r)) (as_mbc1 r k)
    (same_fields r (registers_of (Mbc1 (from1 r))) k refl refl (bit_forth r.mode mode) (bit_forth r.enabled enabled) refl)
    (in_range1 c (from1 r)
    (record {
      banks = banks;
      code = (some_code c r code).0;
      rom = rom;
      ram = two_bits c r code;
      high = high;
      suit = suit (from1 r) c.code (four_there c r code) (on_there c r code);
    }))

pub enough_mbc2 : (c : Cartridge) (r : Registers) → r.kind ≡ kind_mbc2 → r.ram ≡ 0 → r.mode ≡ 0 → r.enabled ≤ 1 → r.high ≡ 0
    → has_banks 16 c ≡ true → c.code ≡ 0 → r.rom < c.banks → Fit c r
unfolding in_range described held
enough_mbc2 c r k ram mode enabled high banks code rom =
    fit_of c r (Mbc2 (from2 r)) (as_mbc2 r k)
    (same_fields r (registers_of (Mbc2 (from2 r))) k refl ram mode (bit_forth r.enabled enabled) high)
    (rw (banks, eq-eqb c.code 0 code, lt-ltb r.rom c.banks rom))

fit_mbc5 : (c : Cartridge) (r : Registers) → r.kind ≡ kind_mbc5 → r.mode ≡ 0 → r.enabled ≤ 1 → r.high ≡ 0 → Mbc5Facts c (from5 r) → Fit c r
fit_mbc5 c r k mode enabled high facts =
    fit_of c r (Mbc5 (from5 r)) (as_mbc5 r (omega (arith, k)))
    (same_fields r (registers_of (Mbc5 (from5 r))) k refl refl mode (bit_forth r.enabled enabled) high) (in_range5 c (from5 r) facts)

pub enough_mbc5 : (c : Cartridge) (r : Registers) → r.kind ≡ kind_mbc5 → r.mode ≡ 0 → r.enabled ≤ 1 → r.high ≡ 0
    → has_banks 512 c ≡ true → r.rom < c.banks → Ramful c r → Fit c r
enough_mbc5 c r k mode enabled high banks rom code =
    let some = some_code c r code in
    let three = to_3 c.code (code_most 3 c some.0) in
    fit_mbc5 c r k mode enabled high (record { banks = banks; code = some.1; rom = rom; ram = bank_there c r code; suit = rw three (on_there c r code) })

-- RAM code 4: any of 16 banks
pub enough_mbc5_wide : (c : Cartridge) (r : Registers) → r.kind ≡ kind_mbc5 → r.mode ≡ 0 → r.enabled ≤ 1 → r.ram ≤ 15 → r.high ≡ 0
    → has_banks 512 c ≡ true → r.rom < c.banks → c.code ≡ 4 → Fit c r
unfolding has_code ram_banks
enough_mbc5_wide c r k mode enabled ram high banks rom code =
    fit_mbc5 c r k mode enabled high
    (record { banks = banks; code = rw code; rom = rom; ram = rw code (below_fits 16 r.ram (omega (arith, ram))); suit = rw code })

-- the save's length, of a mapper without RAM of its own
pub ram_len_banked : (c : Cartridge) (r : Registers) → (r.kind ≡ kind_mbc2 → ⊥) → ram_len c (mapper_of r) ≡ ram_banks c.code * 0x2000
unfolding ram_len
ram_len_banked c r h = rw (← no_own_ram r h)
