-- What the cycles left say of an update.
use Rattle.std.proofs.Common.{◌≡◌, ℕ, ◌+◌, ◌-◌, ◌*◌, ◌/◌, ◌<◌, ◌≤◌, Bool, true, false, sym, refl, ◌∙◌, div-lt_iff_lt-mul, le-div_iff_mul-le, arith}
use Rattle.interrupt.specs.Flags.{requested}
use Rattle.interrupt.specs.declared.Interrupt.TheVariants as Interrupt
use Rattle.timer.specs.PanDocs.{period, counting, steps}
use Rattle.timer.specs.AtOnce.{at_once}
use Rattle.timer.specs.Timer.{divided, counted}
use Rattle.timer.specs.Overflow.{cycles_left}
use Rattle.timer.specs.Promises.{Ready, CalmBefore, AskedFrom}
use Rattle.timer.specs.declared.Timer.{Timer}
use Rattle.timer.proofs.AtOnce.{once_before, once_from, at_once_law}
use Rattle.timer.proofs.Laws.{period_bounds, divide_ready}

-- the steps of an update, against those that are left
module _ (p rest c tima : ℕ) (hp : 0 < p) where
  few : c < (256 - tima) * p - rest → (rest + c) / p < 256 - tima
  few h = (div-lt_iff_lt-mul hp).1 (omega arith)

  many : (256 - tima) * p - rest ≤ c → 256 - tima ≤ (rest + c) / p
  many h = (le-div_iff_mul-le hp).1 (omega arith)

module _ (t : Timer) (c : ℕ) (r : Ready t) where
  abbrev count : ℕ
  count = (t.tima_cycles + c) / period t.tac

  stepping : steps count t ≡ at_once count t
  stepping = sym (at_once_law count t r.tima r.tma)

  calm_by : (b : Bool) → counting t.tac ≡ b → c < cycles_left t.tac t.tima t.tima_cycles
      → ((counted t c).flags ≡ t.flags) × (t.tima ≤ (counted t c).tima)
  unfolding cycles_left counted
  calm_by true e h =
      let l = few (period t.tac) t.tima_cycles c t.tima (period_bounds t.tac).0 (rw e at h) in
      rw (e, stepping ∙ once_before count t l) (refl, omega arith)
  calm_by false e h = rw e (refl, omega arith)

  asked_by : (b : Bool) → counting t.tac ≡ b → cycles_left t.tac t.tima t.tima_cycles ≤ c → c ≤ 65536
      → (counted t c).flags ≡ requested t.flags Interrupt.Timer
  unfolding cycles_left counted
  asked_by true e h k =
      let l = many (period t.tac) t.tima_cycles c t.tima (period_bounds t.tac).0 (rw e at h) in
      rw (e, stepping ∙ once_from count t l)
  asked_by false e h k = absurd (omega (arith, rw e at h))

-- DIV's part comes first, and touches neither
pub calm_before : CalmBefore
unfolding divided
calm_before t c r h = calm_by (divided t c) c (divide_ready t c r) (counting t.tac) refl h

pub asked_from : AskedFrom
unfolding divided
asked_from t c r h k = asked_by (divided t c) c (divide_ready t c r) (counting t.tac) refl h k
