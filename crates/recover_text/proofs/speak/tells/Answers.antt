-- Each branch is a case of `tells`.
use mathlib.Core.Path.{sym, ◌∙◌}
use borrow.Author.Tests.{eq-eqb, ne_eqb}
use Rattle.recover_text.specs.Speak.{tells}
use Rattle.recover_text.proofs.speak.tells.Goals as goal

pub returns-then-every : goal.returns-then-every
unfolding tells
returns-then-every c = rw (ne_eqb _ _ c.if-old-new.true, c.if-every.true)

pub returns-then-not-in_word : goal.returns-then-not-in_word
unfolding tells
returns-then-not-in_word c = rw (ne_eqb _ _ c.if-old-new.true, c.if-every.false, sym c.in_word.ensures ∙ c.if-not-in_word.true, c.in_word-then-not-in_word.ensures)

pub returns-else-not-in_word : goal.returns-else-not-in_word
unfolding tells
returns-else-not-in_word c = rw (ne_eqb _ _ c.if-old-new.true, c.if-every.false, sym c.in_word.ensures ∙ c.if-not-in_word.false, c.if-not-in_word.false)

pub returns-else-old-new : goal.returns-else-old-new
unfolding tells
returns-else-old-new c = rw (eq-eqb _ _ c.if-old-new.false)
