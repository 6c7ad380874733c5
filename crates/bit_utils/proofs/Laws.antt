-- The masks of the code against the definitions: bit n of a byte is `b`, 0 or 1, and each mask's value is a sum with `b * 2 ^ n` in it.
use mathlib.Core.Bool.{cond, not, ◌&&◌}
use mathlib.Core.Path.{◌≡◌, refl}
use Prim.Native.Nat.{ℕ, zero, suc, ◌+◌, ◌-◌, ◌*◌, ◌/◌, ◌%◌, ◌^◌, ◌<◌}
use native.Mathlib.Nat.{one-mul, zero-mul}
use native.Mathlib.Omega.{arith}
use lib.Dec.{eqb}
use lib.Bits.{bit_and, bit_or, and_shr, and_mod, or_lt}
use lib.Pow.{pow_pos, pow-lt}
use borrow.Author.Tests.{ne_eqb}
use Rattle.rules.proofs.Bits.{shifted_one, and_bit, or_bit, and_not}
use Rattle.rules.proofs.Tests.{cond_both}
use Rattle.bit_utils.specs.Bits.{is_set, set_bit, unset_bit}

tested : (b m : ℕ) → b < 2 → 0 < m → not (eqb (b * m) 0) ≡ eqb b 1
tested zero m h p = rw (zero-mul m)
tested (suc zero) m h p = let n : m ≡ 0 → ⊥ = λ e. omega arith in rw (one-mul m, ne_eqb m 0 n)
tested (suc (suc b)) m h p = absurd (omega arith)

added : (b m x r : ℕ) → b < 2 → r + b * m ≡ x + m → r ≡ cond (eqb b 1) x (x + m)
added zero m x r h e = omega (arith, zero-mul m)
added (suc zero) m x r h e = omega (arith, one-mul m)
added (suc (suc b)) m x r h e = absurd (omega arith)

taken_off : (b m x r : ℕ) → b < 2 → r + b * m ≡ x → r ≡ cond (eqb b 1) (x - m) x
taken_off zero m x r h e = omega (arith, zero-mul m)
taken_off (suc zero) m x r h e = omega (arith, one-mul m)
taken_off (suc (suc b)) m x r h e = absurd (omega arith)

module _ (x n : ℕ) (h : n < 8) where
  pub test_mask : not (eqb (bit_and x (1 * 2 ^ n % 256)) 0) ≡ is_set x n
  unfolding is_set
  test_mask = rw (shifted_one 8 n h, and_bit x n) (tested (x / 2 ^ n % 2) (2 ^ n) (omega arith) (pow_pos n))

  pub set_mask : bit_or x (1 * 2 ^ n % 256) ≡ set_bit x n
  unfolding set_bit is_set
  set_mask = rw (shifted_one 8 n h) (added (x / 2 ^ n % 2) (2 ^ n) x _ (omega arith) (or_bit x n))

  pub unset_mask : x < 256 → bit_and x (255 - 1 * 2 ^ n % 256) ≡ unset_bit x n
  unfolding unset_bit is_set
  unset_mask l =
      let p : 2 ^ n < 256 = pow-lt {i = n} {j = 8} h in
      rw (shifted_one 8 n h)
      (taken_off (x / 2 ^ n % 2) (2 ^ n) x _ (omega arith) (rw (← and_bit x n) (and_not 8 x (2 ^ n) l p)))

bits_and : (x y : ℕ) → x < 2 → y < 2 → eqb (bit_and x y) 1 ≡ (eqb x 1 && eqb y 1)
bits_and zero zero h k = refl
bits_and zero (suc zero) h k = refl
bits_and (suc zero) zero h k = refl
bits_and (suc zero) (suc zero) h k = refl
bits_and (suc (suc x)) y h k = absurd (omega arith)
bits_and zero (suc (suc y)) h k = absurd (omega arith)
bits_and (suc zero) (suc (suc y)) h k = absurd (omega arith)

-- a bit of `x & y` is set where it is set in both
pub is_set_and : (x y n : ℕ) → is_set (bit_and x y) n ≡ (is_set x n && is_set y n)
unfolding is_set
is_set_and x y n =
    rw (and_shr x y n, and_mod (x / 2 ^ n) (y / 2 ^ n) 1)
    (bits_and (x / 2 ^ n % 2) (y / 2 ^ n % 2) (omega arith) (omega arith))

-- a byte stays one
pub set_byte : (x n : ℕ) → x < 256 → n < 8 → set_bit x n < 256
set_byte x n h l = rw (← set_mask x n l) (or_lt 8 x (1 * 2 ^ n % 256) h (omega arith))

pub unset_byte : (x n : ℕ) → x < 256 → unset_bit x n < 256
unfolding unset_bit
unset_byte x n h = cond_both (λ (r : ℕ). r < 256) (is_set x n) (omega arith) h
