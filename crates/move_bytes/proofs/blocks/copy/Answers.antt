-- The block read, and pasted (`block_copied`).
use Rattle.move_bytes.proofs.MoveLaws.{block_fits, block_copied}
use Rattle.mmu.specs.PanDocs.{vram_at}
use Rattle.memory.specs.declared.Banks.{Banks}
use Rattle.std.proofs.Common.{ap, ◌∙◌, arith}
use Rattle.move_bytes.proofs.blocks.copy.Goals as goal

pub put-requires : goal.put-requires
put-requires c = omega (arith, block_fits c.requires.0 c.args.destination 16 c.requires.1.1 (c.vram_at-at.ensures ∙ ap (λ (b : Banks). vram_at b.vram c.args.destination) c.banks_at.ensures), c.read.auto.out)

pub returns : goal.returns
returns c = block_copied c.requires.0 _ _ c.ranges.source.fits c.requires.1.0 c.requires.1.1 (c.vram_at-at.ensures ∙ ap (λ (b : Banks). vram_at b.vram c.args.destination) c.banks_at.ensures) c.read.new.out c.read.auto.out c.read.ensures c.put.ensures
