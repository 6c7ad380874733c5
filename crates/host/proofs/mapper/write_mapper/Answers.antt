-- An image that is refused, an index that is, or both done.
use mathlib.Core.Path.{sym, ◌∙◌}
use borrow.Author.Tests.{not-true, not-false}
use Rattle.entry.proofs.Held.{due}
use Rattle.refusals.proofs.Answers.{exit}
use mathlib.Core.Path.{refl}
use Rattle.host.proofs.Mappers.{closed_write, open_mapped, after_slim, outside_write, done_write}
use Rattle.host.proofs.mapper.write_mapper.Goals as goal

pub returns-in_err-taken : goal.returns-in_err-taken
returns-in_err-taken c = rw (exit _ _ c.from_residual.ensures.1) (closed_write _ c.in_err-taken.ensures (due _) _ _)

pub returns-then-not-is_mapped : goal.returns-then-not-is_mapped
returns-then-not-is_mapped c = outside_write _ c.in_ok-taken.ensures refl (λ k. (c.slice_known-1.given k).fits) _ _ (sym c.is_mapped.ensures ∙ not-true _ c.if-not-is_mapped.true-raw)

pub record_of-record-requires : goal.record_of-record-requires
record_of-record-requires c = (open_mapped _ c.in_ok-taken.ensures refl (λ k. (c.slice_known-1.given k).fits), sym c.is_mapped.ensures ∙ not-false _ c.if-not-is_mapped.false-raw)

pub put_mapper-requires : goal.put_mapper-requires
put_mapper-requires c = (open_mapped _ c.in_ok-taken.ensures refl (λ k. (c.slice_known-1.given k).fits), after_slim _ c.in_ok-taken.ensures refl (λ k. (c.slice_known-1.given k).fits) _ _)

pub returns : goal.returns
returns c = done_write _ c.in_ok-taken.ensures refl (λ k. (c.slice_known-1.given k).fits) _ _ (sym c.is_mapped.ensures ∙ not-false _ c.if-not-is_mapped.false-raw) (c.unwrap_or.ensures ∙ c.record_of-record.ensures) c.put_mapper.ensures
