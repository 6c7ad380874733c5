-- The image's number, or that of what is lent.
use mathlib.Core.Path.{refl, sym, ◌∙◌}
use Rattle.entry.proofs.Held.{due, first_due}
use Rattle.image.proofs.OpenLaws.{load_length}
use Rattle.refusals.proofs.Answers.{exit}
use Rattle.quick_writes.proofs.EntryLaws.{zero_else, number_closed, number_lent}
use Rattle.quick_writes.proofs.taken.Goals as goal

pub returns-in_err-taken : goal.returns-in_err-taken
returns-in_err-taken c = rw (exit _ _ c.from_residual.ensures.1) (number_closed _ c.in_err-taken.ensures _ _ _ _ _ _ (due _))

pub used_at-requires : goal.used_at-requires
used_at-requires c = load_length _ (sym c.in_ok-taken.ensures)

pub returns-in_err-use_refused : goal.returns-in_err-use_refused
returns-in_err-use_refused c = rw (exit _ _ c.from_residual-in_err-use_refused.ensures.1) (number_lent _ c.in_ok-taken.ensures _ _ _ _ _ _ refl (λ k. (c.shared_slice_known-1.given k).fits) c.used_at.ensures c.in_err-use_refused.ensures refl refl refl (first_due _ (due _) refl))

pub lengths_taken-requires : goal.lengths_taken-requires
lengths_taken-requires c = sym c.in_ok-taken.ensures

pub returns-in_err-lengths_taken : goal.returns-in_err-lengths_taken
returns-in_err-lengths_taken c = rw (exit _ _ c.from_residual-in_err-lengths_taken.ensures.1) (number_lent _ c.in_ok-taken.ensures _ _ _ _ _ _ refl (λ k. (c.shared_slice_known-1.given k).fits) c.used_at.ensures c.in_ok-use_refused.ensures c.in_err-lengths_taken.ensures refl refl (first_due _ (due _) refl ∙ sym (zero_else _)))

pub returns : goal.returns
returns c = number_lent _ c.in_ok-taken.ensures _ _ _ _ _ _ refl (λ k. (c.shared_slice_known-1.given k).fits) c.used_at.ensures c.in_ok-use_refused.ensures c.in_ok-lengths_taken.ensures c.log_refused.ensures refl (sym (zero_else _) ∙ sym (zero_else _))
