-- MBC2, as mbc2.rs: a ROM bank of four bits, and 512 half bytes of RAM. Pan Docs' pieces are in specs/PanDocs.antt.
use Rattle.std.specs.Prelude.{cond, ◌&&◌, ℕ, eqb, ltb}
use Rattle.mbc.specs.PanDocs.{enables, mbc2_bank, bit8, masked, ram_address, off_byte}
use Rattle.mbc.specs.Cartridge.{has_banks}
use Rattle.mbc.specs.Registers.{bit, is_on}
use Rattle.mbc.specs.Behaviour.{Behaviour}
use Rattle.mbc.specs.declared.cartridge.Cartridge.{Cartridge}
use Rattle.mbc.specs.declared.held.Registers.{Registers}
use Rattle.mbc.specs.declared.mbc2.Mbc2.{Mbc2 as Registers2}
use Rattle.mbc.specs.declared.mbc.Mapper.TheVariants.{Mbc2}
use Rattle.mbc.specs.declared.mbc.Source.{Source}
use Rattle.mbc.specs.declared.mbc.Source.TheVariants.{Half, Fixed}

abbrev pub kind_mbc2 : ℕ
kind_mbc2 = 2

-- Departs from Pan Docs: the half bytes do not repeat, A200..BFFF reads 0, with RAM off too
abbrev pub ram_source2 : Registers2 → ℕ → Source
ram_source2 m index =
    cond (ltb index 0xA200) (cond m.enabled (Half (ram_address 0 index)) (Fixed off_byte)) (Fixed 0)

-- Departs from Pan Docs: bit 8 at 0 enables in 0000..1FFF only, bit 8 at 1 selects in 2000..3FFF only
unfoldable pub enable2 : Registers2 → ℕ → ℕ → Registers2
enable2 m index value = cond (bit8 index) m (record { rom = m.rom; enabled = enables value })

unfoldable pub select2 : Cartridge → Registers2 → ℕ → ℕ → Registers2
select2 c m index value =
    cond (bit8 index) (record { rom = masked c.banks (mbc2_bank value); enabled = m.enabled }) m

unfoldable pub after2 : Cartridge → Registers2 → ℕ → ℕ → Registers2
after2 c m index value =
    cond (ltb index 0x2000) (enable2 m index value)
    (cond (ltb index 0x4000) (select2 c m index value)
    m)

-- The fields as numbers, and from them

abbrev pub numbers2 : Registers2 → Registers
numbers2 m = record { kind = kind_mbc2; rom = m.rom; ram = 0; mode = 0; enabled = bit m.enabled; high = 0 }

abbrev pub from2 : Registers → Registers2
from2 r = record { rom = r.rom; enabled = is_on r.enabled }

abbrev pub mbc2 : Registers2 → Behaviour
mbc2 m =
    record {
      described = λ c. has_banks 16 c && eqb c.code 0;
      held = λ c. ltb m.rom c.banks;
      own_ram = 512;
      ram_source = λ c index. ram_source2 m index;
      after = λ c index value. Mbc2 (after2 c m index value);
      registers = numbers2 m;
    }
