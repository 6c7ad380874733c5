-- Refused by the image or the lengths, or the byte.
use Rattle.std.proofs.Common.{refl, sym, ◌∙◌}
use Rattle.refusals.proofs.Answers.{exit, both_pass}
use Rattle.entry.proofs.Held.{due}
use Rattle.quick_reads.proofs.ReadLaws.{read_ready, refused_byte_read, done_byte_read}
use Rattle.quick_reads.proofs.plain_byte.Goals as goal

pub returns-in_err-taken : goal.returns-in_err-taken
returns-in_err-taken c = rw (exit _ _ c.from_residual.ensures.1) (refused_byte_read _ _ _ _ _ c.in_err-taken.ensures _ (due _))

pub byte_at-requires : goal.byte_at-requires
byte_at-requires c = ((both_pass _ _ (sym c.in_ok-taken.ensures ∙ refl)).0, read_ready _ _ _ _ _ c.in_ok-taken.ensures refl)

pub returns : goal.returns
returns c = done_byte_read _ _ _ _ _ c.in_ok-taken.ensures refl _ c.byte_at.ensures
