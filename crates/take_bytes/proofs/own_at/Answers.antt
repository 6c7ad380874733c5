-- OAM as it is stored; the page by its part, each with its own function, FF44 by its law.
use mathlib.Core.Path.{sym, ◌∙◌}
use native.Mathlib.Omega.{arith}
use Rattle.image.proofs.OpenLaws.{load_length}
use Rattle.image.specs.Load.{banks_of, lcd_of, joypad_of}
use Rattle.image.specs.Patches.{fields}
use Rattle.memory.proofs.Regions.{region_at}
use Rattle.memory.specs.declared.region.Region.TheVariants.{Oam, Page}
use Rattle.registers.proofs.Rest.{in_part, line_shown}
use Rattle.registers.specs.Page.{line_read}
use Rattle.take_bytes.proofs.ByteLaws.{byte_oam, byte_page}
use Rattle.take_bytes.proofs.own_at.Goals as goal

pub bounds-image-index : goal.bounds-image-index
bounds-image-index c = omega (arith, load_length _ c.requires.0.0)

pub returns-then-index-lt-PAGE_START : goal.returns-then-index-lt-PAGE_START
returns-then-index-lt-PAGE_START c = λ rom v w s. byte_oam _ c.requires.0.0 (λ k. (c.shared_slice_known-1.given k).fits) _ _ _ _ _ (region_at Oam _ (c.requires.1, c.if-index-lt-PAGE_START.true))

pub returns-in-Low : goal.returns-in-Low
returns-in-Low c = λ rom v w s.
    let a = c.args in
    let f = fields a.image.now in
    (c.shown_low.ensures (banks_of f).colour (line_read (lcd_of f)) a.sound.now ∙ rw c.joypad_at.ensures) ∙ byte_page _ c.requires.0.0 (λ k. (c.shared_slice_known-1.given k).fits) _ _ _ _ _ (region_at Page _ c.if-index-lt-PAGE_START.false) (omega arith)

pub returns-in-Sound : goal.returns-in-Sound
returns-in-Sound c = λ rom v w s. c.shown_sound.ensures _ _ _ _ ∙ byte_page _ c.requires.0.0 (λ k. (c.shared_slice_known-1.given k).fits) _ _ _ _ _ (region_at Page _ c.if-index-lt-PAGE_START.false) (omega arith)

pub returns-in-Line : goal.returns-in-Line
returns-in-Line c = λ rom v w s.
    (c.read_line.ensures ∙ rw c.lcd_at.ensures) ∙ sym (line_shown _ _ _ _ _ _ (in_part _ c.part_of.ensures c.in-Line.is))
    ∙ byte_page _ c.requires.0.0 (λ k. (c.shared_slice_known-1.given k).fits) _ _ _ _ _ (region_at Page _ c.if-index-lt-PAGE_START.false) (omega arith)

pub returns-in-Screen : goal.returns-in-Screen
returns-in-Screen c = λ rom v w s. c.shown_screen.ensures _ _ _ _ ∙ byte_page _ c.requires.0.0 (λ k. (c.shared_slice_known-1.given k).fits) _ _ _ _ _ (region_at Page _ c.if-index-lt-PAGE_START.false) (omega arith)

pub returns-in-Colour : goal.returns-in-Colour
returns-in-Colour c = λ rom v w s.
    let a = c.args in
    let f = fields a.image.now in
    (c.shown_colour.ensures (line_read (lcd_of f)) (joypad_of f).state a.sound.now ∙ rw c.banks_at.ensures) ∙ byte_page _ c.requires.0.0 (λ k. (c.shared_slice_known-1.given k).fits) _ _ _ _ _ (region_at Page _ c.if-index-lt-PAGE_START.false) (omega arith)
