-- The mapper's own write, whose answer is not asked for.
use Rattle.mbc.proofs.Laws.{mapped_rom}
use Rattle.mmu.proofs.regions.put_mapper.Goals as goal

pub write-written-requires : goal.write-written-requires
write-written-requires c = (c.requires.1, mapped_rom _ c.requires.0)
