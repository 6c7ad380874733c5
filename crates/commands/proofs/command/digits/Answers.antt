-- The characters that are left say the rest, after digits that wrote n.
use Rattle.std.proofs.Common.{sym, refl, ◌∙◌, arith}
use Rattle.commands.proofs.Reading.{digit_some, digit_none, next_digit, no_digit, above, number_ends}
use Rattle.commands.proofs.command.digits.Goals as goal

pub returns-in_err-digit : goal.returns-in_err-digit
returns-in_err-digit c =
    let l = c.loop-c in
    let a = c.args in
    let h = digit_none _ _ c.digit.ensures c.in_err-digit.was in
    rw c.from_residual.ensures (sym (l.invariant.1 ∙ no_digit a.base a.limit l.n a.s.now l.c-index (omega arith) _ refl (omega (arith, h))), tt)

pub returns-then-base-d : goal.returns-then-base-d
returns-then-base-d c =
    let l = c.loop-c in
    let a = c.args in
    let e = c.from-d.ensures ∙ digit_some _ _ _ c.digit.ensures c.in_ok-digit.was in
    (sym (l.invariant.1 ∙ no_digit a.base a.limit l.n a.s.now l.c-index (omega arith) _ e (omega arith)), tt)

pub returns-then-limit-n : goal.returns-then-limit-n
returns-then-limit-n c =
    let l = c.loop-c in
    let a = c.args in
    let e = c.from-d.ensures ∙ digit_some _ _ _ c.digit.ensures c.in_ok-digit.was in
    (sym (l.invariant.1 ∙ above a.base a.limit l.n a.s.now l.c-index (omega arith) _ e (omega arith) (omega arith)), tt)

pub loop-c-preserved : goal.loop-c-preserved
loop-c-preserved c =
    let l = c.loop-c in
    let a = c.args in
    let e = c.from-d.ensures ∙ digit_some _ _ _ c.digit.ensures c.in_ok-digit.was in
    (omega arith, l.invariant.1 ∙ next_digit a.base a.limit l.n a.s.now l.c-index (omega arith) _ e (omega arith) (omega arith))

pub returns : goal.returns
returns c =
    let l = c.loop-c in
    let a = c.args in
    (sym (l.invariant.1 ∙ number_ends a.base a.limit l.n a.s.now l.c-index (omega arith)), l.invariant.0)
