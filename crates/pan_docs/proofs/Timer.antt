-- The timer: the period by the two bits, DIV by the quotient.
use mathlib.Core.Bool.{cond}
use mathlib.Core.List.{[], ◌∷◌}
use mathlib.Core.Path.{◌≡◌, refl, sym, ap, ◌∙◌}
use Prim.Native.Nat.{ℕ, zero, suc, ◌+◌, ◌*◌, ◌/◌, ◌%◌, ◌<◌}
use native.Mathlib.Omega.{arith}
use lib.Dec.{eqb}
use lib.ListN.{length, get_or}
use lib.Seq.{get_or-set_same}
use Rattle.memory.specs.declared.Memory.{Memory}
use Rattle.registers.specs.Page.{write_register}
use Rattle.registers.specs.Register.{register_of, byte_as}
use Rattle.registers.specs.State.{loaded}
use lib.Pow.{field}
use borrow.Author.Tests.{lt-ltb, le-ltb}
use Rattle.timer.specs.PanDocs.{period, step_tima}
use Rattle.timer.specs.Timer.{divided}
use Rattle.timer.specs.declared.Timer.{Timer}
use Rattle.rules.proofs.Tests.{cond_true, cond_false}
use Rattle.pan_docs.specs.Bits.{bit, low}
use Rattle.pan_docs.specs.Timer.{TimerBits}
use Rattle.pan_docs.proofs.Bits.{low_mod, is_set_law, bit_set_here}

by_two : (r : ℕ) → r < 4
    → ◌≡◌ {A = ℕ} (cond (eqb r 0) 1024 (cond (eqb r 1) 16 (cond (eqb r 2) 64 256))) (get_or (1024 ∷ 16 ∷ 64 ∷ 256 ∷ []) r 0)
by_two zero h = refl
by_two (suc zero) h = refl
by_two (suc (suc zero)) h = refl
by_two (suc (suc (suc zero))) h = refl
by_two (suc (suc (suc (suc r)))) h = absurd (omega arith)

rate : (tac : ℕ) → period tac ≡ get_or (1024 ∷ 16 ∷ 64 ∷ 256 ∷ []) (low 2 tac) 0
unfolding period
rate tac = by_two (tac % 4) (omega arith) ∙ ap (λ (r : ℕ). get_or (1024 ∷ 16 ∷ 64 ∷ 256 ∷ []) r 0) (sym (low_mod 2 tac))

module _ (t : Timer) where
  div : (cycles : ℕ) → (divided t cycles).div ≡ (t.div + (t.div_cycles + cycles) / 256) % 256
  unfolding divided
  div cycles =
      let e : (256 * t.div + t.div_cycles + cycles) / 256 ≡ t.div + (t.div_cycles + cycles) / 256 = omega arith in
      field (256 * t.div + t.div_cycles + cycles) 8 8 ∙ ap (λ (x : ℕ). x % 256) e

  steps : t.tima < 0xFF → ((step_tima t).tima ≡ t.tima + 1) × ((step_tima t).flags ≡ t.flags)
  unfolding step_tima
  steps h =
      let e = cond_true _ _ _ (lt-ltb t.tima 255 h) in
      (ap (λ (u : Timer). u.tima) e, ap (λ (u : Timer). u.flags) e)

  passes : t.tima ≡ 0xFF → ((step_tima t).tima ≡ t.tma) × (bit (step_tima t).flags 2 ≡ 1)
  unfolding step_tima
  passes h =
      let e = cond_false _ _ _ (le-ltb t.tima 255 (omega arith)) in
      (ap (λ (u : Timer). u.tima) e, ap (λ (u : Timer). bit u.flags 2) e ∙ bit_set_here (t.flags % 32) 2)

reset : (m : Memory) (v : ℕ) → length m.page ≡ 256 → loaded (write_register m 0x04 v) 0x04 ≡ 0x00
unfolding register_of byte_as
reset m v l = get_or-set_same m.page 0x04 0x00 0 (omega arith)

pub timer_bits : TimerBits
timer_bits = record { rate = rate; counts = λ tac. is_set_law tac 2; div = div; reset = reset; steps = steps; passes = passes }
