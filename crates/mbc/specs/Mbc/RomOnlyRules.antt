-- No mapper, as rom_only.rs: two ROM banks, and RAM that is always on. It has no registers.
use Rattle.std.specs.Prelude.{true, not, ◌&&◌, ℕ, eqb}
use Rattle.mbc.specs.Cartridge.{has_banks, has_code}
use Rattle.mbc.specs.Registers.{starting}
use Rattle.mbc.specs.Behaviour.{Behaviour, ram_where}
use Rattle.mbc.specs.declared.mbc.Mapper.TheVariants.{RomOnly}

abbrev pub kind_rom_only : ℕ
kind_rom_only = 0

abbrev pub rom_only : Behaviour
rom_only =
    record {
      described = λ c. has_banks 2 c && has_code 3 c;
      held = λ c. true;
      own_ram = 0;
      ram_source = λ c index. ram_where (not (eqb c.code 0)) 0 index;
      after = λ c index value. RomOnly;
      registers = starting kind_rom_only;
    }
