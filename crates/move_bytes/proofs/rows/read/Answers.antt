-- By the region, which is one for the whole row.
use Rattle.move_bytes.proofs.RowLaws.{read_vram_fits, read_vram, read_wram_fits, read_wram}
use Rattle.mmu.specs.PanDocs.{vram_at, wram_at}
use Rattle.memory.specs.declared.Banks.{Banks}
use Rattle.memory.proofs.Regions.{within}
use Rattle.std.proofs.Common.{sym, ap, ◌∙◌}
use Rattle.move_bytes.proofs.rows.read.Goals as goal

pub take_rom-requires : goal.take_rom-requires
take_rom-requires c = (c.requires.0, (c.requires.1, within _ (sym c.region_of.ensures ∙ c.in-Rom.is)))

pub vram_at-requires : goal.vram_at-requires
vram_at-requires c = (within _ (sym c.region_of.ensures ∙ c.in-Vram.is)).0

pub take-requires : goal.take-requires
take-requires c = read_vram_fits c.requires.0 _ _ c.requires.1 (sym c.region_of.ensures ∙ c.in-Vram.is) (c.vram_at.ensures ∙ ap (λ (b : Banks). vram_at b.vram c.args.source) c.banks_at-banks.ensures)

pub wram_at-requires : goal.wram_at-requires
wram_at-requires c = (within _ (sym c.region_of.ensures ∙ c.in-Wram.is)).0

pub take-requires-in-Wram : goal.take-requires-in-Wram
take-requires-in-Wram c = read_wram_fits c.requires.0 _ _ c.requires.1 (sym c.region_of.ensures ∙ c.in-Wram.is) (c.wram_at.ensures ∙ ap (λ (b : Banks). wram_at b.wram c.args.source) c.banks_at-banks.ensures)

pub returns-in-Vram : goal.returns-in-Vram
returns-in-Vram c = read_vram c.requires.0 _ _ c.requires.1 (sym c.region_of.ensures ∙ c.in-Vram.is) (c.vram_at.ensures ∙ ap (λ (b : Banks). vram_at b.vram c.args.source) c.banks_at-banks.ensures) c.take.new.out c.take.auto.out c.take.ensures

pub returns-in-Wram : goal.returns-in-Wram
returns-in-Wram c = read_wram c.requires.0 _ _ c.requires.1 (sym c.region_of.ensures ∙ c.in-Wram.is) (c.wram_at.ensures ∙ ap (λ (b : Banks). wram_at b.wram c.args.source) c.banks_at-banks.ensures) c.take-in-Wram.new.out c.take-in-Wram.auto.out c.take-in-Wram.ensures
