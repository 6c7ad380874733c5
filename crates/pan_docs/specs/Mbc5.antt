-- Pan Docs, "MBC5", against crate mbc's rules.
use Rattle.std.specs.Prelude.{true, false, cond, List, [], ◌∷◌, ◌≡◌, ℕ, ◌+◌, ◌*◌, ◌^◌, ◌<◌, ◌≤◌, eqb, ltb}
use Rattle.mbc.specs.Mbc.{Apart, apart_of, kind_mbc5, described, start, rom_bank}
use Rattle.mbc.specs.Mbc.{after, after_all, ram_banks, with_rom5, with_ram5, with_enabled5, after5}
use Rattle.mbc.specs.declared.cartridge.Cartridge.{Cartridge}
use Rattle.mbc.specs.declared.mbc.Mapper.TheVariants.{Mbc5}
use Rattle.mbc.specs.declared.mbc5.Mbc5.{Mbc5 as Registers}
use Rattle.pan_docs.specs.Bits.{bit, low}
use Rattle.pan_docs.specs.Rows.{Row, row, Only, wrote_all}
use Rattle.pan_docs.specs.Banks.{low_four_a, Masked, RamAt, RamOff}

pub data Register : Type 0 where
  RamEnable LowEight Ninth RamBank : Register

-- "0000-1FFF: low four bits A enable. 2000-2FFF: low eight bits of the ROM bank; 3000-3FFF: its bit 8; bank 0 is bank 0. 4000-5FFF: RAM bank 00-0F."
abbrev pub rows : List (Row Register)
rows = row 0x0000 0x1FFF RamEnable ∷ row 0x2000 0x2FFF LowEight ∷ row 0x3000 0x3FFF Ninth ∷ row 0x4000 0x5FFF RamBank ∷ []

-- a bank of eight bits and one
abbrev pub nine : (ℕ → ℕ) → ℕ → ℕ → ℕ
nine eight ninth j = cond (ltb j 8) (eight j) (cond (eqb j 8) ninth 0)

pub record Bank (c : Cartridge) (m t : Registers) (chosen : ℕ → ℕ) : Type 0 where
  pub kept : t ≡ with_rom5 m t.rom
  pub bank : (n : ℕ) → c.banks ≡ 2 ^ n → Masked n chosen t.rom

-- four bits
pub record Ram (c : Cartridge) (m t : Registers) (v : ℕ) : Type 0 where
  pub kept : t ≡ with_ram5 m t.ram
  pub bank : (n : ℕ) → ram_banks c.code ≡ 2 ^ n → Masked n (λ j. cond (ltb j 4) (bit v j) 0) t.ram

-- t is m after a write of v
abbrev pub Does : Register → Cartridge → Registers → ℕ → Registers → Type 0
-- a cartridge without RAM has none to enable (document 02)
Does RamEnable c m v t = (c.code ≡ 0 → ⊥) → t ≡ with_enabled5 m (low_four_a v)
Does LowEight c m v t = Bank c m t (nine (bit v) (bit m.rom 8))
Does Ninth c m v t = Bank c m t (nine (bit m.rom) (bit v 0))
Does RamBank c m v t = Ram c m t v

pub record Mbc5Rules : Type 0 where
  -- a write is one to these registers, whose ROM bank 4000-7FFF shows
  pub step : (c : Cartridge) (m : Registers) (index v : ℕ) → after c (Mbc5 m) index v ≡ Mbc5 (after5 c m index v)
  pub shown : (m : Registers) → rom_bank (Mbc5 m) ≡ m.rom
  pub registers : (c : Cartridge) (m : Registers) (index v : ℕ) → index < 0x6000 → Only rows index (λ r. Does r c m v (after5 c m index v))
  -- 6000-7FFF has no register
  pub none : (c : Cartridge) (m : Registers) (index v : ℕ) → 0x6000 ≤ index → after5 c m index v ≡ m
  -- A000-BFFF, off: as with MBC1 (document 02, wish 2: "RAM codes .. and RAM enabling are as with Mbc1")
  pub off : (c : Cartridge) (m : Registers) (index v : ℕ) → 0xA000 ≤ index → index ≤ 0xBFFF → m.enabled ≡ false → RamOff c (Mbc5 m) index v
  -- on: the bank that is selected, and in it the address's low 13 bits
  pub ram : (c : Cartridge) (m : Registers) (index v : ℕ) → 0xA000 ≤ index → index ≤ 0xBFFF → m.enabled ≡ true
      → RamAt c (Mbc5 m) index v (m.ram * 2 ^ 13 + low 13 index)

-- Over any list of writes: Pan Docs' two registers, whole as they were written, "bank 0 is bank 0"; they start at bank 1 (document 01)
abbrev pub wrote : Register → Apart → ℕ → Apart
wrote RamEnable a v = a
wrote LowEight a v = apart_of v a.ninth
wrote Ninth a v = apart_of a.eight v
wrote RamBank a v = a

abbrev pub written : List (ℕ × ℕ) → Apart
written = wrote_all wrote rows (apart_of 1 0)

-- whatever is written, their bank is shown, its bits beyond the cartridge's size masked
abbrev pub Mbc5Writes : Type 0
Mbc5Writes =
    (c : Cartridge) (n : ℕ) (ws : List (ℕ × ℕ))
    → described c (start kind_mbc5) ≡ true
    → c.banks ≡ 2 ^ n
    → Masked n (nine (bit (written ws).eight) (bit (written ws).ninth 0)) (rom_bank (after_all c (start kind_mbc5) ws))
