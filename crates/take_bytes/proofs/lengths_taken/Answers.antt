-- By the groups that the lengths follow.
use mathlib.Core.Path.{sym, ap, ◌∙◌}
use mathlib.Core.Bool.{Bool, cond}
use Rattle.take_bytes.proofs.ByteLaws.{lengths_by}
use Rattle.take_bytes.proofs.lengths_taken.Goals as goal

pub returns-then-lengths_are : goal.returns-then-lengths_are
returns-then-lengths_are c = ap (λ (t : Bool). cond t 0 4) (sym c.if-lengths_are.true) ∙ lengths_by _ c.requires (λ k. (c.shared_slice_known-1.given k).fits) _ _ _ _ _ (c.lengths_are.ensures ∙ rw (c.mapper_at.ensures, c.cartridge_at.ensures, c.banks_at-colour.ensures))

pub returns-else-lengths_are : goal.returns-else-lengths_are
returns-else-lengths_are c = ap (λ (t : Bool). cond t 0 4) (sym c.if-lengths_are.false) ∙ lengths_by _ c.requires (λ k. (c.shared_slice_known-1.given k).fits) _ _ _ _ _ (c.lengths_are.ensures ∙ rw (c.mapper_at.ensures, c.cartridge_at.ensures, c.banks_at-colour.ensures))
