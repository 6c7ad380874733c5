-- MBC1, as mbc1.rs. Pan Docs' pieces are in specs/PanDocs.antt; where the Rust departs from them is said here.
use Rattle.std.specs.Prelude.{Bool, true, false, cond, ◌&&◌, ◌||◌, [], ◌∷◌, ℕ, eqb, ltb, leb}
use Rattle.mbc.specs.PanDocs.{enables, mbc1_bank, two_bits, mode_bit, masked}
use Rattle.mbc.specs.Cartridge.{one_of, implies, ram_banks, has_banks, has_code}
use Rattle.mbc.specs.Registers.{bit, is_on}
use Rattle.mbc.specs.Behaviour.{Behaviour, ram_where}
use Rattle.mbc.specs.declared.cartridge.Cartridge.{Cartridge}
use Rattle.mbc.specs.declared.held.Registers.{Registers}
use Rattle.mbc.specs.declared.mbc1.Mbc1.{Mbc1 as Registers1}
use Rattle.mbc.specs.declared.mbc.Mapper.TheVariants.{Mbc1}
use Rattle.mbc.specs.declared.mbc.Source.{Source}

abbrev pub kind_mbc1 : ℕ
kind_mbc1 = 1

-- "State ranges": RAM enabled needs code 2 or 3; banking mode or a RAM bank above 0 needs code 3
unfoldable pub suits : Registers1 → ℕ → Bool
suits m code = implies (m.mode || ltb 0 m.ram) (eqb code 3) && implies m.enabled (one_of (2 ∷ 3 ∷ []) code)

-- the selected ROM bank is below N, the RAM bank one of code 3's four; the high bits are two bits wide ("State image")
abbrev pub held1 : Cartridge → Registers1 → Bool
held1 c m = ltb m.rom c.banks && (leb m.ram 3 && (leb m.high 3 && suits m c.code))

-- the RAM bank counts in banking mode
unfoldable pub ram_bank1 : Registers1 → ℕ
ram_bank1 m = cond m.mode m.ram 0

abbrev pub ram_source1 : Registers1 → ℕ → Source
ram_source1 m index = ram_where m.enabled (ram_bank1 m) index

-- Writes. Each bank that is chosen is masked by N, so that "a ROM bank that a file leaves at N or more" does not arise.

abbrev pub with_rom : Registers1 → ℕ → Registers1
with_rom m b = record { rom = b; ram = m.ram; mode = m.mode; enabled = m.enabled; high = m.high }

abbrev pub with_ram : Registers1 → ℕ → Registers1
with_ram m b = record { rom = m.rom; ram = b; mode = m.mode; enabled = m.enabled; high = m.high }

abbrev pub with_mode : Registers1 → Bool → Registers1
with_mode m on = record { rom = m.rom; ram = m.ram; mode = on; enabled = m.enabled; high = m.high }

abbrev pub with_enabled : Registers1 → Bool → Registers1
with_enabled m on = record { rom = m.rom; ram = m.ram; mode = m.mode; enabled = on; high = m.high }

abbrev pub with_high : Registers1 → ℕ → ℕ → Registers1
with_high m h b = record { rom = b; ram = m.ram; mode = m.mode; enabled = m.enabled; high = h }

-- 0000..1FFF: a cartridge without RAM enables none
unfoldable pub enable1 : Cartridge → Registers1 → ℕ → Registers1
enable1 c m value = cond (eqb c.code 0) m (with_enabled m (enables value))

-- 2000..3FFF. Departs from Pan Docs: banking mode leaves the upper bits out, and keeps them for later
unfoldable pub low1 : Cartridge → Registers1 → ℕ → Registers1
low1 c m value = with_rom m (masked c.banks (mbc1_bank value (cond m.mode 0 m.high)))

-- 4000..5FFF. Departs from Pan Docs: the five bits are those of the masked bank, so the zero rule sees the masked bank (corner 10),
-- and in banking mode the upper bits stay
unfoldable pub high1 : Cartridge → Registers1 → ℕ → Registers1
high1 c m value =
    cond m.mode (with_ram m (masked (ram_banks c.code) (two_bits value)))
    (with_high m (two_bits value) (masked c.banks (mbc1_bank m.rom (two_bits value))))

-- 6000..7FFF: only a cartridge with code 3 has RAM banks. The mode alone moves no bank
unfoldable pub mode1 : Cartridge → Registers1 → ℕ → Registers1
mode1 c m value = cond (mode_bit value) (cond (eqb c.code 3) (with_mode m true) m) (with_mode m false)

unfoldable pub after1 : Cartridge → Registers1 → ℕ → ℕ → Registers1
after1 c m index value =
    cond (ltb index 0x2000) (enable1 c m value)
    (cond (ltb index 0x4000) (low1 c m value)
    (cond (ltb index 0x6000) (high1 c m value)
    (cond (ltb index 0x8000) (mode1 c m value)
    m)))

-- The fields as numbers, and from them

abbrev pub numbers1 : Registers1 → Registers
numbers1 m =
    record { kind = kind_mbc1; rom = m.rom; ram = m.ram; mode = bit m.mode; enabled = bit m.enabled; high = m.high }

abbrev pub from1 : Registers → Registers1
from1 r = record { rom = r.rom; ram = r.ram; mode = is_on r.mode; enabled = is_on r.enabled; high = r.high }

abbrev pub mbc1 : Registers1 → Behaviour
mbc1 m =
    record {
      described = λ c. has_banks 128 c && has_code 3 c;
      held = λ c. held1 c m;
      own_ram = 0;
      ram_source = λ c index. ram_source1 m index;
      after = λ c index value. Mbc1 (after1 c m index value);
      registers = numbers1 m;
    }
