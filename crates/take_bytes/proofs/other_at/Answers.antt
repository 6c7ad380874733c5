-- By the region: one law for each.
use mathlib.Core.Path.{sym, ◌∙◌}
use native.Mathlib.Omega.{arith}
use Rattle.image.proofs.OpenLaws.{load_length}
use Rattle.memory.proofs.Regions.{within}
use Rattle.take_bytes.proofs.ByteLaws.{byte_oam, byte_high, byte_page, byte_save, mapper_range, save_length, save_left}
use Rattle.take_bytes.proofs.other_at.Goals as goal

pub overflow_sub-result : goal.overflow_sub-result
overflow_sub-result c = (within _ (sym c.region_of.ensures ∙ c.in-Oam.is)).0

pub bounds-image-index : goal.bounds-image-index
bounds-image-index c = let r = within _ (sym c.region_of.ensures ∙ c.in-Oam.is) in omega (arith, r.0, r.1, load_length _ c.requires.0.number)

pub overflow_sub-byte : goal.overflow_sub-byte
overflow_sub-byte c = let r = within _ (sym c.region_of.ensures ∙ c.in-Page.is) in omega (arith, r)

pub bounds-image-index-in-Page : goal.bounds-image-index-in-Page
bounds-image-index-in-Page c = omega (arith, load_length _ c.requires.0.number)

pub returns-then-index-ge-HRAM_START : goal.returns-then-index-ge-HRAM_START
returns-then-index-ge-HRAM_START c = λ rom v w. byte_high _ c.requires.0.number (λ k. (c.shared_slice_known-1.given k).fits) _ _ _ _ _ (omega arith) c.if-index-ge-HRAM_START.true

pub overflow_sub-index : goal.overflow_sub-index
overflow_sub-index c = within _ (sym c.region_of.ensures ∙ c.in-Page.is)

pub read_ram-requires : goal.read_ram-requires
read_ram-requires c = let q = save_left c.region_of.ensures c.requires.1 c.in_default.not-Oam c.in_default.not-Page in
    let r = within _ q in
    let z = c.requires.0.number in
    rw (c.registers_at-registers.ensures, c.cartridge_at.ensures) (mapper_range _ z (λ k. (c.shared_slice_known-1.given k).fits), (r, save_length _ z (λ k. (c.shared_slice_known-1.given k).fits) _ c.requires.0.save))

pub returns-in-Oam : goal.returns-in-Oam
returns-in-Oam c = λ rom v w. byte_oam _ c.requires.0.number (λ k. (c.shared_slice_known-1.given k).fits) _ _ _ _ _ (sym c.region_of.ensures ∙ c.in-Oam.is)

pub returns-else-index-ge-HRAM_START : goal.returns-else-index-ge-HRAM_START
returns-else-index-ge-HRAM_START c = λ rom v w.
    (c.shown.ensures ∙ rw (c.read_line.ensures, c.lcd_at.ensures, c.banks_at.ensures, c.joypad_at-joypad.ensures))
    ∙ byte_page _ c.requires.0.number (λ k. (c.shared_slice_known-1.given k).fits) _ _ _ _ _ (sym c.region_of.ensures ∙ c.in-Page.is) (omega arith)

pub returns-in_default : goal.returns-in_default
returns-in_default c = λ rom v w.
    let q = save_left c.region_of.ensures c.requires.1 c.in_default.not-Oam c.in_default.not-Page in
    (c.read_ram.ensures ∙ rw (c.registers_at-registers.ensures, c.cartridge_at.ensures))
    ∙ byte_save _ c.requires.0.number (λ k. (c.shared_slice_known-1.given k).fits) _ _ _ _ _ q
