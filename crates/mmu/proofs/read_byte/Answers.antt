-- By the region: `within` its bounds, and one law (`read_by`).
use Rattle.memory.proofs.Regions.{within}
use Rattle.mmu.proofs.Places.{ready_reaches, lent_below}
use Rattle.std.proofs.Common.{sym, ◌∙◌, arith}
use Rattle.mmu.proofs.read_byte.Goals as goal

pub overflow_sub-result : goal.overflow_sub-result
overflow_sub-result c = (within _ (sym c.region_of-region.ensures ∙ c.in-Oam.is)).0

pub bounds-memory-index : goal.bounds-memory-index
bounds-memory-index c = let b = within _ (sym c.region_of-region.ensures ∙ c.in-Oam.is) in omega (arith, b.0, b.1)

pub overflow_sub-index : goal.overflow_sub-index
overflow_sub-index c = within _ (sym c.region_of-region.ensures ∙ c.in-Page.is)

pub read_lent-requires : goal.read_lent-requires
read_lent-requires c = (ready_reaches c.requires, (c.region_of-region.ensures, lent_below _ (sym c.region_of-region.ensures) c.in_default.not-Oam c.in_default.not-Page))
