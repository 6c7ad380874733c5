-- Refused by the image or the lengths, or too long, or the list.
use Rattle.std.proofs.Common.{refl, sym, ◌∙◌}
use Rattle.refusals.proofs.Answers.{exit, both_pass}
use Rattle.entry.proofs.Held.{due}
use Rattle.quick_reads.proofs.BlockLaws.{block_refused, block_long, block_done}
use Rattle.quick_reads.proofs.ReadLaws.{read_ready}
use Rattle.quick_reads.proofs.block.read_block.Goals as goal

pub returns-in_err-taken_here : goal.returns-in_err-taken_here
returns-in_err-taken_here c = rw (exit _ _ c.from_residual.ensures.1) (block_refused _ _ _ _ _ c.in_err-taken_here.ensures _ _ (due _))

pub returns-then-out-gt-BLOCK_LIMIT : goal.returns-then-out-gt-BLOCK_LIMIT
returns-then-out-gt-BLOCK_LIMIT c = block_long _ _ _ _ _ c.in_ok-taken_here.ensures _ _ refl c.if-out-gt-BLOCK_LIMIT.true

pub fill-requires : goal.fill-requires
fill-requires c = ((both_pass _ _ (sym c.in_ok-taken_here.ensures ∙ refl)).0, read_ready _ _ _ _ _ c.in_ok-taken_here.ensures refl)

pub returns : goal.returns
returns c = block_done _ _ _ _ _ c.in_ok-taken_here.ensures _ _ refl c.if-out-gt-BLOCK_LIMIT.false c.fill.ensures
