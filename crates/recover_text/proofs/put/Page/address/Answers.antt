-- Four digits, or the fifth before them.
use mathlib.Core.Path.{◌≡◌, ap, ◌∙◌}
use Prim.Native.Nat.{◌%◌}
use native.Mathlib.Omega.{arith}
use Rattle.lines.specs.Text.{index_text}
use Rattle.recover_text.proofs.Pieces.{puts_as, puts_from, puts_then, puts_ends}
use Rattle.recover_text.proofs.Lines.{four_digits, five_digits, address_length}
use Rattle.recover_text.proofs.put.Page.address.Goals as goal
use Rattle.recover_text.proofs.put.Page.address.Goals.{then-at-ge65536, else-at-ge65536}

pub returns : goal.returns
returns c = let a = c.args in let d = puts_as c.digits.ensures c.text.ensures in elim c.if-at-ge65536.branch [
  | then-at-ge65536 w ↦
      let p = puts_as (five_digits a.at _ w.if-at-ge65536.true w.hex_digit.ensures) (puts_then w.byte.ensures (puts_from w.self-is d)) in
      (p, omega (arith, puts_ends p, (address_length a.at).1))
  | else-at-ge65536 w ↦
      let e : a.at % 65536 ≡ a.at = omega (arith, w.if-at-ge65536.false) in
      let p = puts_as (ap index_text e ∙ four_digits a.at w.if-at-ge65536.false) (puts_from w.self-is d) in
      (p, omega (arith, puts_ends p, (address_length a.at).1))
]
