-- Laws of single bits of a number: `x & 2 ^ n`, `x | 2 ^ n` and `x & !m`, in sums and quotients. Every one holds for all widths.
use mathlib.Core.Path.{◌≡◌, refl, sym, ap, ◌∙◌}
use Prim.Native.Nat.{ℕ, zero, suc, ◌+◌, ◌-◌, ◌*◌, ◌/◌, ◌%◌, ◌^◌, ◌<◌, min}
use native.Mathlib.Nat.{one-mul, pow-suc, pow-zero}
use native.Mathlib.Omega.{arith}
use lib.Pow.{pow-add, shl_exact}
use lib.Bits.{bit_and, bit_or, and_high, and_step, and_zero_l, or_add_and}

-- `1 << n` at a width of w bits
pub shifted_one : (w n : ℕ) → n < w → 1 * 2 ^ n % 2 ^ w ≡ 2 ^ n
shifted_one w n h = shl_exact {a = 1} 1 n w (omega arith) (omega arith) ∙ one-mul (2 ^ n)

-- `x & 2 ^ n` is bit n, in its place
pub and_bit : (x n : ℕ) → bit_and x (2 ^ n) ≡ x / 2 ^ n % 2 * 2 ^ n
and_bit x n =
    let e : 2 ^ (1 + n) - 2 ^ n ≡ 2 ^ n = rw (pow-add 2 1 n) (omega arith) in
    ap (λ (m : ℕ). bit_and x m) (sym e) ∙ and_high x 1 n

-- `x | 2 ^ n` is x, with 2 ^ n added where bit n was 0
pub or_bit : (x n : ℕ) → bit_or x (2 ^ n) + x / 2 ^ n % 2 * 2 ^ n ≡ x + 2 ^ n
or_bit x n = rw (← and_bit x n) (or_add_and x (2 ^ n))

-- two bits: what is in b and not in c, and what is in both
halves : (b c : ℕ) → b < 2 → c < 2 → min b (1 - c) + min b c ≡ b
halves zero zero h k = refl
halves zero (suc zero) h k = refl
halves (suc zero) zero h k = refl
halves (suc zero) (suc zero) h k = refl
halves (suc (suc b)) c h k = absurd (omega arith)
halves zero (suc (suc c)) h k = absurd (omega arith)
halves (suc zero) (suc (suc c)) h k = absurd (omega arith)

-- `x & !m` and `x & m` are the two parts of x
pub and_not : (k x m : ℕ) → x < 2 ^ k → m < 2 ^ k → bit_and x (2 ^ k - 1 - m) + bit_and x m ≡ x
and_not zero x m h l =
    let e : x ≡ 0 = omega (arith, pow-zero 2) in
    rw (e, and_zero_l (2 ^ zero - 1 - m), and_zero_l m)
and_not (suc k) x m h l =
    let p = pow-suc 2 k in
    let a : x / 2 < 2 ^ k = omega arith in
    let b : m / 2 < 2 ^ k = omega arith in
    let q : (2 ^ suc k - 1 - m) / 2 ≡ 2 ^ k - 1 - m / 2 = omega arith in
    let r : (2 ^ suc k - 1 - m) % 2 ≡ 1 - m % 2 = omega arith in
    let s = and_not k (x / 2) (m / 2) a b in
    let t = halves (x % 2) (m % 2) (omega arith) (omega arith) in
    let u = and_step x (2 ^ suc k - 1 - m) in
    let v = and_step x m in
    let w : bit_and x (2 ^ suc k - 1 - m) ≡ bit_and (x / 2) (2 ^ k - 1 - m / 2) * 2 + min (x % 2) (1 - m % 2) = rw (← q, ← r) u in
    omega (arith, w, v, s, t)
