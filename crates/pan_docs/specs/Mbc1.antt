-- Pan Docs, "MBC1", against crate mbc's rules. Where document 01 follows the Rust instead is said at each register, and nothing is stated there.
use Rattle.std.specs.Prelude.{true, false, cond, List, [], ◌∷◌, ◌≡◌, ℕ, ◌+◌, ◌-◌, ◌*◌, ◌^◌, ◌<◌, ◌≤◌, eqb, ltb}
use Rattle.mbc.specs.Mbc.{kind_mbc1, start, rom_bank, after, after_all, ram_banks}
use Rattle.mbc.specs.Mbc.{with_rom, with_ram, with_mode, with_enabled, with_high, after1}
use Rattle.mbc.specs.declared.cartridge.Cartridge.{Cartridge}
use Rattle.mbc.specs.declared.mbc.Mapper.TheVariants.{Mbc1}
use Rattle.mbc.specs.declared.mbc1.Mbc1.{Mbc1 as Registers}
use Rattle.pan_docs.specs.Bits.{bit, low}
use Rattle.pan_docs.specs.Rows.{Row, row, Only, wrote_all}
use Rattle.pan_docs.specs.Banks.{low_four_a, acts_as_one, Masked, RamAt, RamOff}

pub data Register : Type 0 where
  RamEnable RomBank UpperBits Mode : Register

-- "0000-1FFF: low four bits A enable RAM", "2000-3FFF: five bits of the ROM bank", "4000-5FFF: two bits, the upper ROM bank bits or the RAM bank",
-- "6000-7FFF: bit 0 the mode"
abbrev pub rows : List (Row Register)
rows = row 0x0000 0x1FFF RamEnable ∷ row 0x2000 0x3FFF RomBank ∷ row 0x4000 0x5FFF UpperBits ∷ row 0x6000 0x7FFF Mode ∷ []

-- a bank: five bits, and above them two more
abbrev pub joined : (ℕ → ℕ) → (ℕ → ℕ) → ℕ → ℕ
joined five two j = cond (ltb j 5) (five j) (two (j - 5))

-- the two bits of a value
abbrev pub two : ℕ → ℕ → ℕ
two v j = cond (ltb j 2) (bit v j) 0

-- 4000-5FFF, not in banking mode: the upper ROM bank bits. Departs: the five bits are those of the masked bank, and the zero rule sees them so;
-- where they are not all 0 they are the register's
pub record Upper (c : Cartridge) (m t : Registers) (v : ℕ) : Type 0 where
  pub kept : t ≡ with_high m (low 2 v) t.rom
  pub bank : (n : ℕ) → c.banks ≡ 2 ^ n → (low 5 m.rom ≡ 0 → ⊥) → Masked n (joined (bit m.rom) (two v)) t.rom

-- in banking mode: the RAM bank; of 2 ^ n banks
pub record RamBank (c : Cartridge) (m t : Registers) (v : ℕ) : Type 0 where
  pub kept : t ≡ with_ram m t.ram
  pub bank : (n : ℕ) → ram_banks c.code ≡ 2 ^ n → Masked n (two v) t.ram

-- 2000-3FFF: the five bits of the value, "0 acts as 1 (so 20, 40, 60 become 21, 41, 61)", below the upper bits
pub record Bank (c : Cartridge) (m t : Registers) (v : ℕ) : Type 0 where
  pub kept : t ≡ with_rom m t.rom
  pub bank : (n : ℕ) → c.banks ≡ 2 ^ n → Masked n (joined (acts_as_one 5 v) (bit m.high)) t.rom

-- t is m after a write of v
abbrev pub Does : Register → Cartridge → Registers → ℕ → Registers → Type 0
-- a cartridge without RAM has none to enable (document 01)
Does RamEnable c m v t = (c.code ≡ 0 → ⊥) → t ≡ with_enabled m (low_four_a v)
-- departs: banking mode leaves the upper bits out
Does RomBank c m v t = m.mode ≡ false → Bank c m t v
Does UpperBits c m v t = (m.mode ≡ false → Upper c m t v) × (m.mode ≡ true → RamBank c m t v)
-- only a cartridge with RAM banks, code 3, has the mode (document 01)
Does Mode c m v t = c.code ≡ 3 → t ≡ with_mode m (eqb (bit v 0) 1)

pub record Mbc1Rules : Type 0 where
  -- a write is one to these registers, whose ROM bank 4000-7FFF shows
  pub step : (c : Cartridge) (m : Registers) (index v : ℕ) → after c (Mbc1 m) index v ≡ Mbc1 (after1 c m index v)
  pub shown : (m : Registers) → rom_bank (Mbc1 m) ≡ m.rom
  pub registers : (c : Cartridge) (m : Registers) (index v : ℕ) → index < 0x8000 → Only rows index (λ r. Does r c m v (after1 c m index v))
  -- A000-BFFF: "RAM off reads FF, writes are ignored"
  pub off : (c : Cartridge) (m : Registers) (index v : ℕ) → 0xA000 ≤ index → index ≤ 0xBFFF → m.enabled ≡ false → RamOff c (Mbc1 m) index v
  -- on, it is the bank that the mode makes of the two bits, and in it the address's low 13 bits
  pub ram : (c : Cartridge) (m : Registers) (index v : ℕ) → 0xA000 ≤ index → index ≤ 0xBFFF → m.enabled ≡ true
      → RamAt c (Mbc1 m) index v (cond m.mode m.ram 0 * 2 ^ 13 + low 13 index)

-- Over any list of writes: Pan Docs' two registers, whole as they were written

pub record Two : Type 0 where
  pub five : ℕ
  pub upper : ℕ

abbrev pub two_of : ℕ → ℕ → Two
two_of a b = record { five = a; upper = b }

-- a write to a register
abbrev pub wrote : Register → Two → ℕ → Two
wrote RamEnable a v = a
wrote RomBank a v = two_of v a.upper
wrote UpperBits a v = two_of a.five v
wrote Mode a v = a

-- after some writes; all else starts at 0
abbrev pub written : List (ℕ × ℕ) → Two
written = wrote_all wrote rows (two_of 0 0)

-- A cartridge without RAM banks (so never in banking mode) of 32 ROM banks or more (so that the zero rule sees all five bits) shows Pan Docs' bank,
-- whatever is written. With fewer banks or in banking mode it departs, as said above
abbrev pub Mbc1Writes : Type 0
Mbc1Writes =
    (c : Cartridge) (n : ℕ) (ws : List (ℕ × ℕ))
    → c.banks ≡ 2 ^ n
    → 5 ≤ n
    → (c.code ≡ 3 → ⊥)
    → Masked n (joined (acts_as_one 5 (written ws).five) (two (written ws).upper)) (rom_bank (after_all c (start kind_mbc1) ws))
