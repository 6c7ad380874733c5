-- No element is put at first, then one more at each turn.
use mathlib.Core.Path.{◌≡◌, refl, sym, ap, ◌∙◌}
use Prim.Native.Nat.{ℕ, suc, ◌+◌, ◌<◌}
use native.Mathlib.Nat.{zero-add}
use native.Mathlib.Numerals.{add-one}
use native.Mathlib.Omega.{arith}
use lib.ListN.{length, get_or, set, length-set}
use lib.Seq.{paste, paste-zero, paste-suc}
use Rattle.quick_screen.proofs.copy.Goals as goal

pub loop-i-init : goal.loop-i-init
loop-i-init c = (refl, paste-zero c.args.out.now 0 c.args.src.now)

pub loop-i-preserved : goal.loop-i-preserved
loop-i-preserved c =
    let s = c.args.src.now in
    let d = c.args.out.now in
    let i = c.loop-i.i in
    let h : 0 + i < length d = omega arith in
    let k : i < length s = omega arith in
    let e : set (paste d 0 s i) i (get_or s i 0) ≡ paste d 0 s (suc i) =
    ap (λ (j : ℕ). set (paste d 0 s i) j (get_or s i 0)) (sym (zero-add i)) ∙ paste-suc d 0 s i 0 h k in
    (length-set _ i _ ∙ c.loop-i.invariant.0, rw (c.loop-i.invariant.1, add-one i) e)

pub returns : goal.returns
returns c =
    let e : c.loop-i.i ≡ length c.args.src.now = omega arith in
    rw (← e) c.loop-i.invariant.1
