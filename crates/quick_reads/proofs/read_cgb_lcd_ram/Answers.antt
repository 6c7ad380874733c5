-- Refused by the image, the length or the bank and index, or the byte.
use Rattle.std.proofs.Common.{refl, sym, ◌∙◌}
use Rattle.entry.proofs.Held.{due, first_due}
use Rattle.image.proofs.OpenLaws.{load_length}
use Rattle.refusals.proofs.Answers.{exit}
use Rattle.quick_reads.proofs.ReadLaws.{second_due, lcd_ram_closed, lcd_ram_refused, lcd_ram_within, lcd_ram_done}
use Rattle.quick_reads.proofs.read_cgb_lcd_ram.Goals as goal

pub returns-in_err-taken : goal.returns-in_err-taken
returns-in_err-taken c = rw (exit _ _ c.from_residual.ensures.1) (lcd_ram_closed _ _ c.in_err-taken.ensures _ _ (due _))

pub banks_at-banks-requires : goal.banks_at-banks-requires
banks_at-banks-requires c = load_length _ (sym c.in_ok-taken.ensures)

pub returns-in_err-vram_length_refused : goal.returns-in_err-vram_length_refused
returns-in_err-vram_length_refused c = rw (exit _ _ c.from_residual-in_err-vram_length_refused.ensures.1) (lcd_ram_refused _ _ c.in_ok-taken.ensures _ _ refl (λ k. (c.shared_slice_known-1.given k).fits) (first_due _ (due _) (c.in_err-vram_length_refused.ensures ∙ rw c.banks_at-banks.ensures refl)) (due _))

pub returns-in_err-vram_refused : goal.returns-in_err-vram_refused
returns-in_err-vram_refused c = rw (exit _ _ c.from_residual-in_err-vram_refused.ensures.1) (lcd_ram_refused _ _ c.in_ok-taken.ensures _ _ refl (λ k. (c.shared_slice_known-1.given k).fits) (second_due (c.in_ok-vram_length_refused.ensures ∙ rw c.banks_at-banks.ensures refl) (c.in_err-vram_refused.ensures ∙ rw c.banks_at-banks.ensures refl)) (due _))

pub read_cgb_lcd_ram-requires : goal.read_cgb_lcd_ram-requires
read_cgb_lcd_ram-requires c = lcd_ram_within _ c.args.vram.now c.in_ok-taken.ensures _ _ refl (λ k. (c.shared_slice_known-1.given k).fits) (second_due (c.in_ok-vram_length_refused.ensures ∙ rw c.banks_at-banks.ensures refl) (c.in_ok-vram_refused.ensures ∙ rw c.banks_at-banks.ensures refl)) refl

pub returns : goal.returns
returns c = lcd_ram_done _ _ c.in_ok-taken.ensures _ _ refl (λ k. (c.shared_slice_known-1.given k).fits) (second_due (c.in_ok-vram_length_refused.ensures ∙ rw c.banks_at-banks.ensures refl) (c.in_ok-vram_refused.ensures ∙ rw c.banks_at-banks.ensures refl)) refl c.read_cgb_lcd_ram.ensures
