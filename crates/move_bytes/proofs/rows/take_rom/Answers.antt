-- A row of the ROM, from the place in the selected bank on.
use Rattle.move_bytes.proofs.RowLaws.{lent_length, read_rom_fits, read_rom}
use Rattle.mbc.specs.declared.held.Registers.{Registers}
use Rattle.std.proofs.Common.{ap}
use Rattle.move_bytes.proofs.rows.take_rom.Goals as goal

pub registers_at-bank-requires : goal.registers_at-bank-requires
registers_at-bank-requires c = lent_length c.requires.0

pub take-requires : goal.take-requires
take-requires c = read_rom_fits c.requires.0 _ _ c.requires.1.0 c.requires.1.1 (ap (λ (r : Registers). r.rom) c.registers_at-bank.ensures) c.rom_place.ensures

pub returns : goal.returns
returns c = read_rom c.requires.0 _ _ c.requires.1.0 c.requires.1.1 (ap (λ (r : Registers). r.rom) c.registers_at-bank.ensures) c.rom_place.ensures c.take.new.out c.take.auto.out c.take.ensures
