-- A cartridge without a mapper. Document 01's, not Pan Docs': "As the three files", here rom_only.rs.
use Rattle.std.specs.Prelude.{◌⊎◌, ◌≡◌, ℕ, ◌≤◌}
use Rattle.mbc.specs.Mbc.{rom_bank, after, ram_source, answer}
use Rattle.mbc.specs.declared.cartridge.Cartridge.{Cartridge}
use Rattle.mbc.specs.Answers.{stored_as}
use Rattle.mbc.specs.declared.mbc.Mapper.TheVariants.{RomOnly}
use Rattle.mbc.specs.declared.mbc.Source.TheVariants.{Save}
use Rattle.pan_docs.specs.Bits.{low}
use Rattle.pan_docs.specs.Banks.{RamOff}

pub record RomOnlyRules : Type 0 where
  -- a write to 0000-7FFF (or anywhere) changes no register: there is none, and 4000-7FFF shows the second of the two banks
  pub registers : (c : Cartridge) (index v : ℕ) → after c RomOnly index v ≡ RomOnly
  pub bank : rom_bank RomOnly ≡ 1
  -- A000-BFFF: RAM is always on where there is some, code 2 or 3, and its first 8,192 bytes are seen
  pub ram : (c : Cartridge) (index v : ℕ) → 0xA000 ≤ index → index ≤ 0xBFFF → (c.code ≡ 2) ⊎ (c.code ≡ 3)
      → (ram_source c RomOnly index ≡ Save (low 13 index)) × (answer c RomOnly index v ≡ stored_as (low 13 index) v)
  -- without RAM it reads FF, and nothing is stored
  pub none : (c : Cartridge) (index v : ℕ) → 0xA000 ≤ index → index ≤ 0xBFFF → c.code ≡ 0 → RamOff c RomOnly index v
