-- The image, then its group.
use mathlib.Core.Path.{refl}
use Rattle.in_place.proofs.Images.{size}
use Rattle.entry.proofs.Held.{due, taken}
use Rattle.refusals.proofs.Answers.{exit}
use Rattle.quick_screen.proofs.Numbers.{closed_numbers, numbers_given}
use Rattle.quick_screen.proofs.host_numbers.Goals as goal

pub returns-in_err-taken : goal.returns-in_err-taken
returns-in_err-taken c = rw (exit _ _ c.from_residual.ensures.1) (closed_numbers _ c.in_err-taken.ensures (due _))

pub lcd_at-requires : goal.lcd_at-requires
lcd_at-requires c = size _ (taken _ c.in_ok-taken.ensures refl (λ i. (c.shared_slice_known-1.given i).fits))

pub returns : goal.returns
returns c = numbers_given _ (taken _ c.in_ok-taken.ensures refl (λ i. (c.shared_slice_known-1.given i).fits)) c.lcd_at.ensures
