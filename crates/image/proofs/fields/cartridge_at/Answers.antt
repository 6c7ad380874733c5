-- The parts of the number are the fields (`cartridge_by_law`).
use Rattle.image.proofs.MappingLaws.{cartridge_by_law}
use Rattle.image.proofs.fields.cartridge_at.Goals as goal

pub returns : goal.returns
returns c = rw (c.banks_of.ensures, c.mapping_at-n.ensures.0) (cartridge_by_law _ c.requires)
