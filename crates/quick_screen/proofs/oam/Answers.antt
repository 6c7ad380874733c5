-- An image that is refused, another length, or the image's first bytes.
use mathlib.Core.Path.{refl}
use native.Mathlib.Omega.{arith}
use Rattle.in_place.proofs.Images.{size}
use Rattle.entry.proofs.Held.{due, taken}
use Rattle.refusals.proofs.Answers.{exit}
use Rattle.quick_screen.proofs.Numbers.{closed_oam, oam_length, oam_given}
use Rattle.quick_screen.proofs.oam.Goals as goal

pub returns-in_err-taken : goal.returns-in_err-taken
returns-in_err-taken c = rw (exit _ _ c.from_residual.ensures.1) (closed_oam _ c.in_err-taken.ensures (due _) _)

pub returns-then-out-ne-OAM_LEN : goal.returns-then-out-ne-OAM_LEN
returns-then-out-ne-OAM_LEN c = oam_length _ (taken _ c.in_ok-taken.ensures refl (λ i. (c.shared_slice_known-1.given i).fits)) _ c.if-out-ne-OAM_LEN.true

pub slice_bounds-copy-end : goal.slice_bounds-copy-end
slice_bounds-copy-end c = let s = size _ (taken _ c.in_ok-taken.ensures refl (λ i. (c.shared_slice_known-1.given i).fits)) in
    omega (arith, s)

pub returns : goal.returns
returns c = oam_given _ (taken _ c.in_ok-taken.ensures refl (λ i. (c.shared_slice_known-1.given i).fits)) _ c.if-out-ne-OAM_LEN.false c.copy.ensures
