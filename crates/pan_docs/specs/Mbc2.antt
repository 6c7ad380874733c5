-- Pan Docs, "MBC2", against crate mbc's rules: "0000-3FFF: address bit 8 at 0: RAM enable as above; at 1: four bits of the ROM bank, 0 acts as 1."
-- Departs, as document 01 follows the Rust: bit 8 at 0 enables in 0000-1FFF only, at 1 selects in 2000-3FFF only. "A000-A1FF: 512 half bytes; they
-- repeat up to BFFF". Departs: A200-BFFF reads 0.
use Rattle.std.specs.Prelude.{true, false, cond, ◌≡◌, ℕ, ◌^◌, ◌≤◌, ltb, get_or, List}
use Rattle.mbc.specs.Mbc.{rom_bank, after, ram_source, answer, byte_of, after2}
use Rattle.mbc.specs.declared.cartridge.Cartridge.{Cartridge}
use Rattle.mbc.specs.Answers.{stored_as}
use Rattle.mbc.specs.declared.mbc.Mapper.TheVariants.{Mbc2}
use Rattle.mbc.specs.declared.mbc2.Mbc2.{Mbc2 as Registers}
use Rattle.pan_docs.specs.Bits.{bit, low}
use Rattle.pan_docs.specs.Banks.{low_four_a, acts_as_one, Masked, RamOff}

-- four bits of the ROM bank
abbrev pub four : ℕ → ℕ → ℕ
four v j = cond (ltb j 4) (acts_as_one 4 v j) 0

pub record Bank (c : Cartridge) (m t : Registers) (v : ℕ) : Type 0 where
  pub kept : t.enabled ≡ m.enabled
  pub bank : (n : ℕ) → c.banks ≡ 2 ^ n → Masked n (four v) t.rom

pub record Mbc2Rules : Type 0 where
  -- a write is one to these registers, whose ROM bank 4000-7FFF shows
  pub step : (c : Cartridge) (m : Registers) (index v : ℕ) → after c (Mbc2 m) index v ≡ Mbc2 (after2 c m index v)
  pub shown : (m : Registers) → rom_bank (Mbc2 m) ≡ m.rom
  pub enable : (c : Cartridge) (m : Registers) (index v : ℕ) → index ≤ 0x1FFF → bit index 8 ≡ 0
      → after2 c m index v ≡ record { rom = m.rom; enabled = low_four_a v }
  pub select : (c : Cartridge) (m : Registers) (index v : ℕ) → 0x2000 ≤ index → index ≤ 0x3FFF → bit index 8 ≡ 1 → Bank c m (after2 c m index v) v
  pub none : (c : Cartridge) (m : Registers) (index v : ℕ) → 0x4000 ≤ index → after2 c m index v ≡ m
  -- "512 half bytes": the address's low nine bits are the place, the value's low four bits the half byte
  pub read : (c : Cartridge) (m : Registers) (rom save : List ℕ) (index : ℕ) → 0xA000 ≤ index → index ≤ 0xA1FF → m.enabled ≡ true
      → byte_of rom save (ram_source c (Mbc2 m) index) ≡ low 4 (get_or save (low 9 index) 0)
  pub stored : (c : Cartridge) (m : Registers) (index v : ℕ) → 0xA000 ≤ index → index ≤ 0xA1FF → m.enabled ≡ true
      → answer c (Mbc2 m) index v ≡ stored_as (low 9 index) (low 4 v)
  pub off : (c : Cartridge) (m : Registers) (index v : ℕ) → 0xA000 ≤ index → index ≤ 0xA1FF → m.enabled ≡ false → RamOff c (Mbc2 m) index v
