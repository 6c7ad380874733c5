-- By the case.
use Rattle.mbc.proofs.Cases.RomOnlyLaws.{rom_only_starts}
use Rattle.mbc.specs.Mbc.{in_range, described}
use Rattle.mbc.proofs.mbc.Mapper.in_range.Goals as goal

pub returns-in-RomOnly : goal.returns-in-RomOnly
unfolding in_range described
returns-in-RomOnly c = rw c.in-RomOnly.is (rw (rom_only_starts c.args.cartridge) c.in_range.ensures)
