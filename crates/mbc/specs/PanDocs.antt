-- What Pan Docs say of the mappers, in small pieces. The files of specs/Mbc put them together, and say where the Rust departs from them.
use Rattle.std.specs.Prelude.{Bool, cond, ℕ, ◌+◌, ◌*◌, ◌-◌, ◌%◌, ◌/◌, eqb, ltb}

-- MBC1, MBC2, MBC5: the low four bits A enable the RAM, anything else disables it
abbrev pub enables : ℕ → Bool
enables value = eqb (value % 16) 0xA

-- MBC1, MBC2: ROM bank 0 acts as 1
unfoldable pub zero_as_one : ℕ → ℕ
zero_as_one bank = cond (eqb bank 0) 1 bank

-- MBC1: five bits of the ROM bank, where 0 acts as 1 (so 20, 40, 60 become 21, 41, 61), and above them two more
abbrev pub mbc1_bank : ℕ → ℕ → ℕ
mbc1_bank five two = zero_as_one (five % 32) + two * 32

-- MBC1: the two bits that are the upper ROM bank bits or the RAM bank
abbrev pub two_bits : ℕ → ℕ
two_bits value = value % 4

-- MBC1: bit 0, the mode
abbrev pub mode_bit : ℕ → Bool
mode_bit value = eqb (value % 2) 1

-- MBC2: four bits of the ROM bank, where 0 acts as 1
abbrev pub mbc2_bank : ℕ → ℕ
mbc2_bank value = zero_as_one (value % 16)

-- MBC2: bit 8 of the address, 0 for RAM enable and 1 for the ROM bank
abbrev pub bit8 : ℕ → Bool
bit8 index = eqb (index / 256 % 2) 1

-- MBC2: RAM holds half bytes
abbrev pub half_byte : ℕ → ℕ
half_byte value = value % 16

-- MBC5: eight bits of the ROM bank, and the ninth above them; bank 0 is bank 0
abbrev pub mbc5_bank : ℕ → ℕ → ℕ
mbc5_bank eight ninth = eight % 256 + ninth % 2 * 256

-- MBC5: four bits of the RAM bank
abbrev pub four_bits : ℕ → ℕ
four_bits value = value % 16

-- MBC1: bank bits beyond the cartridge's size are masked; the size is a power of two, so the remainder is left. Documents 01 and 02 have it of MBC2 and MBC5 too
abbrev pub masked : ℕ → ℕ → ℕ
masked banks bank = bank % banks

-- Memory Map: 4000-7FFF shows one ROM bank of 16,384 bytes
abbrev pub rom_address : ℕ → ℕ → ℕ
rom_address bank index = index - 0x4000 + bank * 0x4000

-- Memory Map: 0000-3FFF shows the first bank
unfoldable pub rom_place : ℕ → ℕ → ℕ
rom_place bank index = cond (ltb index 0x4000) index (rom_address bank index)

-- Memory Map: A000-BFFF shows one RAM bank of 8,192 bytes
abbrev pub ram_address : ℕ → ℕ → ℕ
ram_address bank index = index - 0xA000 + bank * 0x2000

-- MBC1, and by documents 01 and 02 the others: RAM that is off reads FF
abbrev pub off_byte : ℕ
off_byte = 0xFF
