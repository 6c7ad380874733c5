-- The fewest digits that hold a number are its decimal digits.
use mathlib.Core.Bool.{Bool, true, false, cond}
use mathlib.Core.Path.{◌≡◌, refl}
use mathlib.Core.List.{List, [], ◌∷◌, ◌++◌, append-nil}
use Prim.Native.Nat.{ℕ, zero, suc, ◌+◌, ◌-◌, ◌*◌, ◌/◌, ◌%◌, ◌^◌, ◌≤◌, ◌<◌}
use native.Mathlib.Decide.{dec_lt}
use native.Mathlib.Nat.{pow-suc, pow-zero, mul-le-mul_left}
use native.Mathlib.Omega.{arith}
use lib.Dec.{ltb, eqb}
use lib.ListN.{length, length-append}
use lib.Pow.{pow-add}
use borrow.Author.Tests.{lt-ltb, le-ltb, eq-eqb, ne_eqb}
use Rattle.io.specs.Digits.{last_digits, IsDigitCount}
use Rattle.recover_text.specs.Text.{decimal_within, decimal, counted, spaced, shown}

ten_pow : (j : ℕ) → 0 < 10 ^ j
ten_pow zero = omega (arith, pow-zero 10)
ten_pow (suc j) = omega (arith, pow-suc 10 j, ten_pow j)

less : (j m : ℕ) → 10 ^ suc j ≡ 10 ^ j * 10 → 10 ^ suc j ≤ m → 10 ^ (suc j - 1) ≤ m / 10
less j m p l = let e : suc j - 1 ≡ j = omega arith in rw e (omega arith)

pub spelt : (k more n : ℕ) → IsDigitCount 10 1 n k → last_digits 10 k n ≡ decimal_within (k + more) n
unfolding decimal_within
spelt zero more n f = absurd (omega (arith, f.0))
spelt (suc zero) more n f =
    let h : n < 10 = omega (arith, f.1, pow-suc 10 0, pow-zero 10) in
    let m : n % 10 ≡ n = omega arith in
    let s : suc zero + more ≡ suc more = omega arith in
    rw (s, lt-ltb n 10 h, m, lt-ltb n 10 h)
spelt (suc (suc k)) more n f =
    let p = pow-suc 10 k in
    let q = pow-suc 10 (suc k) in
    let z : suc (suc k) - 1 ≡ suc k = omega arith in
    let l : 10 ^ suc k ≤ n = rw z at (f.2 (omega arith)) in
    let o : 0 < 10 ^ k = ten_pow k in
    let h : 10 ≤ n = omega arith in
    let u : n < 10 ^ suc (suc k) = f.1 in
    let r : last_digits 10 (suc k) (n / 10) ≡ decimal_within (suc k + more) (n / 10) = spelt (suc k) more (n / 10) (omega arith, omega arith, λ g. less k n p l) in
    let s : suc (suc k) + more ≡ suc (suc k + more) = omega arith in
    rw (s, le-ltb n 10 h, ← r, lt-ltb (n % 10) 10 (omega arith))

-- a number of 64 bits has 20 digits at most
few : (k n : ℕ) → n < 2 ^ 64 → IsDigitCount 10 1 n k → Dec (20 < k) → k ≤ 20
few k n h f (no g) = omega (arith, g)
few k n h f (yes g) =
    let e : k - 1 ≡ 20 + (k - 21) = omega arith in
    let l : 10 ^ (20 + (k - 21)) ≤ n = rw e at (f.2 (omega arith)) in
    let p : 10 ^ (20 + (k - 21)) ≡ 10 ^ 20 * 10 ^ (k - 21) = pow-add 10 20 (k - 21) in
    let o : 1 ≤ 10 ^ (k - 21) = omega (arith, ten_pow (k - 21)) in
    let m : 10 ^ 20 * 1 ≤ 10 ^ 20 * 10 ^ (k - 21) = mul-le-mul_left (10 ^ 20) o in
    absurd (omega arith)

pub few_digits : (k n : ℕ) → n < 2 ^ 64 → IsDigitCount 10 1 n k → k ≤ 20
few_digits k n h f = few k n h f (dec_lt 20 k)

pub in_decimal : (k n : ℕ) → k ≤ 20 → IsDigitCount 10 1 n k → last_digits 10 k n ≡ decimal n
in_decimal k n h f = let e : k + (20 - k) ≡ 20 = omega arith in rw e at (spelt k (20 - k) n f)

digit_more : (k n : ℕ) (b : Bool) → length (decimal_within k (n / 10)) ≤ k
    → length (cond b ((48 + n) ∷ []) (decimal_within k (n / 10) ++ ((48 + n % 10) ∷ []))) ≤ suc k
digit_more k n true h = omega arith
digit_more k n false h = rw (length-append (decimal_within k (n / 10)) ((48 + n % 10) ∷ [])) (omega arith)

within_length : (k n : ℕ) → length (decimal_within k n) ≤ k
unfolding decimal_within
within_length zero n = omega arith
within_length (suc k) n = digit_more k n (ltb n 10) (within_length k (n / 10))

pub decimal_length : (n : ℕ) → length (decimal n) ≤ 20
decimal_length n = within_length 20 n

pub counted_length : (n : ℕ) (noun : List ℕ) → length (counted n noun) ≤ 22 + length noun
unfolding counted
counted_length n noun = rw (length-append (decimal n), length-append {A = ℕ} (32 ∷ []), length-append noun) (pick (eqb n 1))
  where
    pick : (b : Bool) → length (decimal n) + (1 + (length noun + length (cond {A = List ℕ} b [] (115 ∷ [])))) ≤ 22 + length noun
    pick true = omega (arith, decimal_length n)
    pick false = omega (arith, decimal_length n)

pub spaced_length : (b : ℕ) → length (spaced b) ≡ 3
spaced_length b = refl

pub shown_length : (b : ℕ) → length (shown b ∷ []) ≡ 1
shown_length b = refl

-- the plural has an s
pub counted_one : (n : ℕ) (noun : List ℕ) → n ≡ 1 → decimal n ++ ((32 ∷ []) ++ noun) ≡ counted n noun
unfolding counted
counted_one n noun e = rw (eq-eqb n 1 e, append-nil noun)

pub counted_many : (n : ℕ) (noun : List ℕ) → (n ≡ 1 → ⊥) → decimal n ++ ((32 ∷ []) ++ (noun ++ (115 ∷ []))) ≡ counted n noun
unfolding counted
counted_many n noun f = rw (ne_eqb n 1 f)
