-- The interrupts by their bits.
use mathlib.Core.Bool.{Bool, true, false}
use mathlib.Core.Path.{◌≡◌, refl, sym, ap, ◌∙◌}
use Prim.Native.Nat.{ℕ, zero, suc, ◌%◌, ◌<◌}
use native.Mathlib.Omega.{arith}
use borrow.Author.Tests.{eqb-true, eq-eqb}
use Rattle.bit_utils.specs.Bits.{is_set, set_bit, unset_bit}
use Rattle.interrupt.specs.Flags.{requested, removed}
use Rattle.interrupt.specs.PanDocs.{bit_of, waits, first_of}
use Rattle.interrupt.specs.declared.Interrupt.{Interrupt}
use Rattle.interrupt.specs.declared.Interrupt.TheVariants.{Vblank, Lcd, Timer, Serial, Joypad}
use Rattle.std.specs.Prelude.{Some, None}
use Rattle.rules.proofs.Tests.{both_true}
use Rattle.pan_docs.specs.Bits.{bit}
use Rattle.pan_docs.specs.Interrupts.{interrupt_at, Both, InterruptBits}
use Rattle.pan_docs.proofs.Bits.{is_set_law, bit_below, bit_set_here, bit_set_other, bit_unset_here, bit_unset_other}

module _ (enable flags : ℕ) where
  waiting : (i : Interrupt) → Both enable flags (bit_of i) → waits enable flags i ≡ true
  unfolding waits
  waiting i b =
      rw (is_set_law enable (bit_of i), is_set_law flags (bit_of i), eq-eqb (bit enable (bit_of i)) 1 b.0, eq-eqb (bit flags (bit_of i)) 1 b.1)

  waits_both : (i : Interrupt) → waits enable flags i ≡ true → Both enable flags (bit_of i)
  unfolding waits
  waits_both i t =
      let p = both_true (is_set enable (bit_of i)) (is_set flags (bit_of i)) t in (
        eqb-true _ 1 (sym (is_set_law enable (bit_of i)) ∙ p.0),
        eqb-true _ 1 (sym (is_set_law flags (bit_of i)) ∙ p.1),
      )

  not_by : (i : Interrupt) → (Both enable flags (bit_of i) → ⊥) → (b : Bool) → waits enable flags i ≡ b → waits enable flags i ≡ false
  not_by i n true t = absurd (n (waits_both i t))
  not_by i n false t = t

  not_waiting : (i : Interrupt) → (Both enable flags (bit_of i) → ⊥) → waits enable flags i ≡ false
  not_waiting i n = not_by i n (waits enable flags i) refl

  served : (k : ℕ) → k < 5 → Both enable flags k → ((i : ℕ) → i < k → Both enable flags i → ⊥) → first_of enable flags ≡ Some (interrupt_at k)
  unfolding first_of
  served zero h b n = rw (waiting Vblank b)
  served (suc zero) h b n = rw (not_waiting Vblank (n 0 (omega arith)), waiting Lcd b)
  served (suc (suc zero)) h b n = rw (not_waiting Vblank (n 0 (omega arith)), not_waiting Lcd (n 1 (omega arith)), waiting Timer b)
  served (suc (suc (suc zero))) h b n =
      rw (not_waiting Vblank (n 0 (omega arith)), not_waiting Lcd (n 1 (omega arith)), not_waiting Timer (n 2 (omega arith)), waiting Serial b)
  served (suc (suc (suc (suc zero)))) h b n =
      rw (
        not_waiting Vblank (n 0 (omega arith)),
        not_waiting Lcd (n 1 (omega arith)),
        not_waiting Timer (n 2 (omega arith)),
        not_waiting Serial (n 3 (omega arith)),
        waiting Joypad b,
      )
  served (suc (suc (suc (suc (suc k))))) h b n = absurd (omega arith)

  none : ((i : ℕ) → i < 5 → Both enable flags i → ⊥) → first_of enable flags ≡ None
  unfolding first_of
  none n =
      rw (
        not_waiting Vblank (n 0 (omega arith)),
        not_waiting Lcd (n 1 (omega arith)),
        not_waiting Timer (n 2 (omega arith)),
        not_waiting Serial (n 3 (omega arith)),
        not_waiting Joypad (n 4 (omega arith)),
      )

bit_at : (k : ℕ) → k < 5 → bit_of (interrupt_at k) ≡ k
bit_at zero h = refl
bit_at (suc zero) h = refl
bit_at (suc (suc zero)) h = refl
bit_at (suc (suc (suc zero))) h = refl
bit_at (suc (suc (suc (suc zero)))) h = refl
bit_at (suc (suc (suc (suc (suc k))))) h = absurd (omega arith)

module _ (flags k : ℕ) (h : k < 5) where
  requests : bit (requested flags (interrupt_at k)) k ≡ 1
  requests = ap (λ (n : ℕ). bit (set_bit (flags % 32) n) k) (bit_at k h) ∙ bit_set_here (flags % 32) k

  removes : bit (removed flags (interrupt_at k)) k ≡ 0
  removes = ap (λ (n : ℕ). bit (unset_bit (flags % 32) n) k) (bit_at k h) ∙ bit_unset_here (flags % 32) k

  module _ (j : ℕ) (l : j < 5) (d : j ≡ k → ⊥) where
    requests_other : bit (requested flags (interrupt_at k)) j ≡ bit flags j
    requests_other =
        ap (λ (n : ℕ). bit (set_bit (flags % 32) n) j) (bit_at k h) ∙ bit_set_other (flags % 32) k j d ∙ bit_below flags 5 j l

    removes_other : bit (removed flags (interrupt_at k)) j ≡ bit flags j
    removes_other =
        ap (λ (n : ℕ). bit (unset_bit (flags % 32) n) j) (bit_at k h) ∙ bit_unset_other (flags % 32) k j d ∙ bit_below flags 5 j l

pub interrupt_bits : InterruptBits
interrupt_bits =
    record {
      served = served;
      none = none;
      requests = requests;
      removes = removes;
      requests_other = λ flags k j h l d. requests_other flags k h j l d;
      removes_other = λ flags k j h l d. removes_other flags k h j l d;
    }
