-- MBC5, from Pan Docs, whose pieces are in specs/PanDocs.antt (document 02, wish 2). What the wish has beside them: N, the RAM codes and enabling as
-- with Mbc1, banks taken modulo those present. Wish 3 has RAM code 4 too, 16 banks, "enabled as code 3 is".
use Rattle.std.specs.Prelude.{Bool, cond, ◌&&◌, [], ◌∷◌, ℕ, ◌/◌, ◌%◌, eqb, ltb}
use Rattle.mbc.specs.PanDocs.{enables, mbc5_bank, four_bits, masked}
use Rattle.mbc.specs.Cartridge.{one_of, implies, ram_banks, has_banks, has_code}
use Rattle.mbc.specs.Registers.{bit, is_on}
use Rattle.mbc.specs.Behaviour.{Behaviour, ram_where}
use Rattle.mbc.specs.declared.cartridge.Cartridge.{Cartridge}
use Rattle.mbc.specs.declared.held.Registers.{Registers}
use Rattle.mbc.specs.declared.mbc5.Mbc5.{Mbc5 as Registers5}
use Rattle.mbc.specs.declared.mbc.Mapper.TheVariants.{Mbc5}

abbrev pub kind_mbc5 : ℕ
kind_mbc5 = 3

-- a chosen RAM bank is taken modulo the banks present; with none it is 0
unfoldable pub chosen_ram : ℕ → ℕ → ℕ
chosen_ram banks bank = cond (eqb banks 0) 0 (bank % banks)

-- and its range is below them, 0 with none
unfoldable pub ram_fits : ℕ → ℕ → Bool
ram_fits banks bank = cond (eqb banks 0) (eqb bank 0) (ltb bank banks)

-- the ranges: the ROM bank is below N; RAM enabled needs code 2, 3 or 4
abbrev pub held5 : Cartridge → Registers5 → Bool
held5 c m = ltb m.rom c.banks && (ram_fits (ram_banks c.code) m.ram && implies m.enabled (one_of (2 ∷ 3 ∷ 4 ∷ []) c.code))

-- Writes. Pan Docs' two registers of the ROM bank are one field here, masked at each write: specs/Mbc.antt, `OneField`.

abbrev pub with_rom5 : Registers5 → ℕ → Registers5
with_rom5 m b = record { rom = b; ram = m.ram; enabled = m.enabled }

abbrev pub with_ram5 : Registers5 → ℕ → Registers5
with_ram5 m b = record { rom = m.rom; ram = b; enabled = m.enabled }

abbrev pub with_enabled5 : Registers5 → Bool → Registers5
with_enabled5 m on = record { rom = m.rom; ram = m.ram; enabled = on }

-- 0000..1FFF: a cartridge without RAM enables none, as with Mbc1
unfoldable pub enable5 : Cartridge → Registers5 → ℕ → Registers5
enable5 c m value = cond (eqb c.code 0) m (with_enabled5 m (enables value))

-- 2000..2FFF: the low eight bits; the ninth is the bank's
unfoldable pub low5 : Cartridge → Registers5 → ℕ → Registers5
low5 c m value = with_rom5 m (masked c.banks (mbc5_bank value (m.rom / 256)))

-- 3000..3FFF: the ninth bit; the low eight are the bank's
unfoldable pub ninth5 : Cartridge → Registers5 → ℕ → Registers5
ninth5 c m value = with_rom5 m (masked c.banks (mbc5_bank m.rom value))

-- 4000..5FFF
unfoldable pub ram5 : Cartridge → Registers5 → ℕ → Registers5
ram5 c m value = with_ram5 m (chosen_ram (ram_banks c.code) (four_bits value))

-- 6000..7FFF is no register
unfoldable pub after5 : Cartridge → Registers5 → ℕ → ℕ → Registers5
after5 c m index value =
    cond (ltb index 0x2000) (enable5 c m value)
    (cond (ltb index 0x3000) (low5 c m value)
    (cond (ltb index 0x4000) (ninth5 c m value)
    (cond (ltb index 0x6000) (ram5 c m value)
    m)))

-- The fields as numbers, and from them

abbrev pub numbers5 : Registers5 → Registers
numbers5 m = record { kind = kind_mbc5; rom = m.rom; ram = m.ram; mode = 0; enabled = bit m.enabled; high = 0 }

abbrev pub from5 : Registers → Registers5
from5 r = record { rom = r.rom; ram = r.ram; enabled = is_on r.enabled }

abbrev pub mbc5 : Registers5 → Behaviour
mbc5 m =
    record {
      described = λ c. has_banks 512 c && has_code 4 c;
      held = λ c. held5 c m;
      own_ram = 0;
      ram_source = λ c index. ram_where m.enabled m.ram index;
      after = λ c index value. Mbc5 (after5 c m index value);
      registers = numbers5 m;
    }
