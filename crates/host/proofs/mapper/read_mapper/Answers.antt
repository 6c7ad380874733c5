-- An image that is refused, or what the mapper gave.
use mathlib.Core.Path.{sym, ◌∙◌}
use Rattle.image.proofs.OpenLaws.{load_length}
use Rattle.entry.proofs.Held.{due}
use Rattle.refusals.proofs.Answers.{exit}
use mathlib.Core.Path.{refl}
use Rattle.host.proofs.Mappers.{closed_read, read_range, done_read}
use Rattle.host.proofs.mapper.read_mapper.Goals as goal

pub returns-in_err-taken : goal.returns-in_err-taken
returns-in_err-taken c = rw (exit _ _ c.from_residual.ensures.1) (closed_read _ c.in_err-taken.ensures (due _) _ _ _)

pub registers_at-requires : goal.registers_at-requires
registers_at-requires c = load_length _ (sym c.in_ok-taken.ensures)

pub cartridge_at-cartridge-requires : goal.cartridge_at-cartridge-requires
cartridge_at-cartridge-requires c = load_length _ (sym c.in_ok-taken.ensures)

pub read_lent-requires : goal.read_lent-requires
read_lent-requires c = read_range _ c.in_ok-taken.ensures refl (λ k. (c.shared_slice_known-1.given k).fits) c.registers_at.ensures c.from-mapper.ensures c.cartridge_at-cartridge.ensures

pub returns : goal.returns
returns c = done_read _ c.in_ok-taken.ensures refl (λ k. (c.shared_slice_known-1.given k).fits) c.registers_at.ensures c.from-mapper.ensures c.cartridge_at-cartridge.ensures _ _ _ c.read_lent.ensures
