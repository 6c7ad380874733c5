-- As `plain_byte`, of two bytes.
use Rattle.std.proofs.Common.{refl, sym, ◌∙◌}
use Rattle.refusals.proofs.Answers.{exit, both_pass}
use Rattle.entry.proofs.Held.{due}
use Rattle.quick_reads.proofs.ReadLaws.{read_ready, refused_word_read, done_word_read}
use Rattle.quick_reads.proofs.plain_word.Goals as goal

pub returns-in_err-taken : goal.returns-in_err-taken
returns-in_err-taken c = rw (exit _ _ c.from_residual.ensures.1) (refused_word_read _ _ _ _ _ c.in_err-taken.ensures _ (due _))

pub byte_at-low-requires : goal.byte_at-low-requires
byte_at-low-requires c = ((both_pass _ _ (sym c.in_ok-taken.ensures ∙ refl)).0, read_ready _ _ _ _ _ c.in_ok-taken.ensures refl)

pub byte_at-high-requires : goal.byte_at-high-requires
byte_at-high-requires c = ((both_pass _ _ (sym c.in_ok-taken.ensures ∙ refl)).0, read_ready _ _ _ _ _ c.in_ok-taken.ensures refl)

pub returns : goal.returns
returns c = done_word_read _ _ _ _ _ c.in_ok-taken.ensures refl _ (c.from_le_bytes.ensures ∙ rw (c.byte_at-high.ensures, c.byte_at-low.ensures))
