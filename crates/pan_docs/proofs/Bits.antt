-- Laws of bits: of a remainder, a quotient, two numbers side by side, an `or`, and of a bit made 1 or 0.
use mathlib.Core.Bool.{Bool, true, false, cond}
use mathlib.Core.Path.{◌≡◌, refl, sym, ap, ◌∙◌}
use Prim.Native.Nat.{ℕ, zero, suc, ◌+◌, ◌-◌, ◌*◌, ◌/◌, ◌%◌, ◌^◌, ◌<◌, ◌≤◌, max}
use native.Mathlib.Nat.{pow-suc, zero-mul, mod-lt}
use native.Mathlib.Numerals.{one-add, add-one}
use native.Mathlib.Omega.{arith}
use lib.Bits.{bit_or, or_shr, or_mod}
use lib.Dec.{eqb, ltb, leb-suc-suc, eqb-zero-suc, eqb-suc-zero, eqb-suc-suc}
use lib.Pow.{mod-pow-add, mod-mod-pow, field, shr-shr, split, high, pow_pos, low as low_part}
use borrow.Author.Tests.{lt-ltb, le-ltb, eq-eqb, ne_eqb, eqb-true, eqb-false}
use Rattle.bit_utils.specs.Bits.{is_set, set_bit, unset_bit}
use Rattle.rules.proofs.Bits.{or_bit}
use Rattle.rules.proofs.Tests.{cond_true, cond_false, by_cond}
use Rattle.pan_docs.specs.Bits.{bit, low}

pub bit_small : (v k : ℕ) → bit v k < 2
unfolding bit
bit_small v k = omega arith

pub bit_zero : (v : ℕ) → bit v 0 ≡ v % 2
unfolding bit
bit_zero v = omega arith

bit_suc : (v k : ℕ) → bit v (suc k) ≡ bit (v / 2) k
unfolding bit
bit_suc v k = ap (λ (n : ℕ). v / 2 ^ n % 2) (sym (one-add k)) ∙ sym (ap (λ (q : ℕ). q % 2) (shr-shr v 1 k))

pub bit_none : (k : ℕ) → bit 0 k ≡ 0
bit_none zero = bit_zero 0
bit_none (suc k) = bit_suc 0 k ∙ bit_none k

-- the low bits are the remainder
pub low_mod : (n v : ℕ) → low n v ≡ v % 2 ^ n
unfolding low bit
low_mod zero v = omega arith
low_mod (suc n) v =
    ap (λ (x : ℕ). v / 2 ^ n % 2 * 2 ^ n + x) (low_mod n v)
    ∙ sym (mod-pow-add v 1 n)
    ∙ ap (λ (k : ℕ). v % 2 ^ k) (one-add n)

pub low_same : (n x y : ℕ) → ((j : ℕ) → j < n → bit x j ≡ bit y j) → low n x ≡ low n y
unfolding low
low_same zero x y h = refl
low_same (suc n) x y h =
    ap (λ (b : ℕ). b * 2 ^ n + low n x) (h n (omega arith)) ∙ ap (λ (z : ℕ). bit y n * 2 ^ n + z) (low_same n x y (λ j l. h j (omega arith)))

-- a remainder has the bits below its power, and no other
pub bit_mod : (v n k : ℕ) → bit (v % 2 ^ n) k ≡ cond (ltb k n) (bit v k) 0
bit_mod v zero k =
    let e : v % 2 ^ 0 ≡ 0 = omega arith in
    ap (λ (x : ℕ). bit x k) e ∙ bit_none k ∙ sym (cond_false (ltb k 0) (bit v k) 0 (le-ltb k 0 (omega arith)))
bit_mod v (suc n) zero =
    ap (λ (i : ℕ). bit (v % 2 ^ i) 0) (sym (add-one n))
    ∙ bit_zero (v % 2 ^ (n + 1))
    ∙ mod-mod-pow v n 1
    ∙ sym (bit_zero v)
    ∙ sym (cond_true (ltb 0 (suc n)) (bit v 0) 0 (lt-ltb 0 (suc n) (omega arith)))
bit_mod v (suc n) (suc k) =
    ap (λ (i : ℕ). bit (v % 2 ^ i) (suc k)) (sym (add-one n))
    ∙ bit_suc (v % 2 ^ (n + 1)) k
    ∙ ap (λ (x : ℕ). bit x k) (field v n 1)
    ∙ bit_mod (v / 2) n k
    ∙ ap (λ (x : ℕ). cond (ltb k n) x 0) (sym (bit_suc v k))
    ∙ ap (λ (t : Bool). cond t (bit v (suc k)) 0) (sym (leb-suc-suc (suc k) n))

pub bit_below : (v n k : ℕ) → k < n → bit (v % 2 ^ n) k ≡ bit v k
bit_below v n k h = bit_mod v n k ∙ cond_true (ltb k n) (bit v k) 0 (lt-ltb k n h)

pub bit_above : (v n k : ℕ) → n ≤ k → bit (v % 2 ^ n) k ≡ 0
bit_above v n k h = bit_mod v n k ∙ cond_false (ltb k n) (bit v k) 0 (le-ltb k n h)

pub bit_shifted : (v n k : ℕ) → bit (v / 2 ^ n) k ≡ bit v (n + k)
unfolding bit
bit_shifted v n k = ap (λ (q : ℕ). q % 2) (shr-shr v n k)

-- two numbers side by side
module _ (a n : ℕ) {r : ℕ} (l : r < 2 ^ n) (k : ℕ) where
  pub bit_right : k < n → bit (a * 2 ^ n + r) k ≡ bit r k
  bit_right h = sym (bit_below (a * 2 ^ n + r) n k h) ∙ ap (λ (x : ℕ). bit x k) (low_part a n l)

  pub bit_left : n ≤ k → bit (a * 2 ^ n + r) k ≡ bit a (k - n)
  bit_left h =
      let e : k ≡ n + (k - n) = omega arith in
      ap (λ (i : ℕ). bit (a * 2 ^ n + r) i) e ∙ sym (bit_shifted (a * 2 ^ n + r) n (k - n)) ∙ ap (λ (x : ℕ). bit x (k - n)) (high a n l)

-- `or`

or_two : (p q : ℕ) → p < 2 → q < 2 → bit_or p q ≡ max p q
or_two zero zero h k = refl
or_two zero (suc zero) h k = refl
or_two (suc zero) zero h k = refl
or_two (suc zero) (suc zero) h k = refl
or_two (suc (suc p)) q h k = absurd (omega arith)
or_two zero (suc (suc q)) h k = absurd (omega arith)
or_two (suc zero) (suc (suc q)) h k = absurd (omega arith)

pub bit_or_law : (a b k : ℕ) → bit (bit_or a b) k ≡ max (bit a k) (bit b k)
unfolding bit
bit_or_law a b k =
    rw (or_shr a b k, or_mod (a / 2 ^ k) (b / 2 ^ k) 1)
    (or_two (a / 2 ^ k % 2) (b / 2 ^ k % 2) (omega arith) (omega arith))

-- one bit

pub bit_weight : (n k : ℕ) → bit (2 ^ n) k ≡ cond (eqb k n) 1 0
bit_weight zero zero = bit_zero 1
bit_weight zero (suc k) = bit_suc 1 k ∙ bit_none k ∙ sym (cond_false (eqb (suc k) 0) 1 0 (eqb-suc-zero k))
bit_weight (suc n) zero =
    bit_zero (2 ^ suc n) ∙ omega (arith, pow-suc 2 n) ∙ sym (cond_false (eqb 0 (suc n)) 1 0 (eqb-zero-suc n))
bit_weight (suc n) (suc k) =
    let e : 2 ^ suc n / 2 ≡ 2 ^ n = omega (arith, pow-suc 2 n) in
    bit_suc (2 ^ suc n) k
    ∙ ap (λ (x : ℕ). bit x k) e
    ∙ bit_weight n k
    ∙ ap (λ (t : Bool). cond t 1 0) (sym (eqb-suc-suc k n))

-- a weight added where its bit is 0
sum : (x n : ℕ) → bit x n ≡ 0 → x + 2 ^ n ≡ bit_or x (2 ^ n)
unfolding bit
sum x n e = let h : bit_or x (2 ^ n) + 0 * 2 ^ n ≡ x + 2 ^ n = rw (← e) (or_bit x n) in omega (arith, zero-mul (2 ^ n))

added : (x n k : ℕ) → bit x n ≡ 0 → bit (x + 2 ^ n) k ≡ max (bit x k) (cond (eqb k n) 1 0)
added x n k e = ap (λ (y : ℕ). bit y k) (sum x n e) ∙ bit_or_law x (2 ^ n) k ∙ ap (λ (y : ℕ). max (bit x k) y) (bit_weight n k)

-- and taken off where it is 1: what is left has 0 there
taken : (x n : ℕ) → bit x n ≡ 1 → (2 ^ n ≤ x) × (bit (x - 2 ^ n) n ≡ 0)
unfolding bit
taken x n e =
    let q = x / 2 ^ n in
    let r = x % 2 ^ n in
    let p = 2 ^ n in
    let l : r < 2 ^ n = mod-lt x (pow_pos n) in
    let s : q * 2 ^ n + r ≡ x = split x n in
    let d : q ≡ suc (q - 1) = omega arith in
    let t : suc (q - 1) * 2 ^ n + r ≡ x = rw (← d) s in
    let u : x - 2 ^ n ≡ (q - 1) * 2 ^ n + r = omega arith in
    (omega arith, ap (λ (y : ℕ). y / 2 ^ n % 2) u ∙ ap (λ (y : ℕ). y % 2) (high (q - 1) n l) ∙ omega arith)

-- a bit that is not 1 is 0
pub bit_clear : (x n : ℕ) → eqb (bit x n) 1 ≡ false → bit x n ≡ 0
bit_clear x n f = let d = eqb-false (bit x n) 1 f in omega (arith, bit_small x n)

pub is_set_law : (x n : ℕ) → is_set x n ≡ eqb (bit x n) 1
unfolding is_set bit
is_set_law x n = refl

pub is_one : (x n : ℕ) → bit x n ≡ 1 → is_set x n ≡ true
is_one x n e = is_set_law x n ∙ eq-eqb (bit x n) 1 e

pub is_zero : (x n : ℕ) → bit x n ≡ 0 → is_set x n ≡ false
is_zero x n e = is_set_law x n ∙ ne_eqb (bit x n) 1 (λ p. omega arith)

-- a bit made 1 or 0; the others stay
module _ (x n : ℕ) where
  set_by : (P : ℕ → Type 0) → (bit x n ≡ 1 → P x) → (bit x n ≡ 0 → P (x + 2 ^ n)) → P (set_bit x n)
  unfolding set_bit
  set_by P t f =
      by_cond P (is_set x n) x (x + 2 ^ n) (λ e. t (eqb-true (bit x n) 1 (sym (is_set_law x n) ∙ e)))
      (λ e. f (bit_clear x n (sym (is_set_law x n) ∙ e)))

  unset_by : (P : ℕ → Type 0) → (bit x n ≡ 1 → P (x - 2 ^ n)) → (bit x n ≡ 0 → P x) → P (unset_bit x n)
  unfolding unset_bit
  unset_by P t f =
      by_cond P (is_set x n) (x - 2 ^ n) x (λ e. t (eqb-true (bit x n) 1 (sym (is_set_law x n) ∙ e)))
      (λ e. f (bit_clear x n (sym (is_set_law x n) ∙ e)))

  here : (y : ℕ) → bit y n ≡ 0 → bit (y + 2 ^ n) n ≡ 1
  here y e =
      let h : max (bit y n) (cond (eqb n n) 1 0) ≡ 1 = rw (eq-eqb n n refl, e) in
      added y n n e ∙ h

  other : (y k : ℕ) → bit y n ≡ 0 → (k ≡ n → ⊥) → bit (y + 2 ^ n) k ≡ bit y k
  other y k e d =
      let h : max (bit y k) (cond (eqb k n) 1 0) ≡ bit y k = rw (ne_eqb k n d) (omega arith) in
      added y n k e ∙ h

  pub bit_set_here : bit (set_bit x n) n ≡ 1
  bit_set_here = set_by (λ (y : ℕ). bit y n ≡ 1) (λ e. e) (here x)

  pub bit_set_other : (k : ℕ) → (k ≡ n → ⊥) → bit (set_bit x n) k ≡ bit x k
  bit_set_other k d = set_by (λ (y : ℕ). bit y k ≡ bit x k) (λ e. refl) (λ e. other x k e d)

  pub bit_unset_here : bit (unset_bit x n) n ≡ 0
  bit_unset_here = unset_by (λ (y : ℕ). bit y n ≡ 0) (λ e. (taken x n e).1) (λ e. e)

  pub bit_unset_other : (k : ℕ) → (k ≡ n → ⊥) → bit (unset_bit x n) k ≡ bit x k
  bit_unset_other k d =
      unset_by (λ (y : ℕ). bit y k ≡ bit x k)
      (λ e.
      let t = taken x n e in
      let h = t.0 in
      let b : x ≡ x - 2 ^ n + 2 ^ n = omega arith in
      sym (other (x - 2 ^ n) k t.1 d) ∙ ap (λ (y : ℕ). bit y k) (sym b))
      (λ e. refl)

  pub bit_set : (k : ℕ) → bit (set_bit x n) k ≡ cond (eqb k n) 1 (bit x k)
  bit_set k =
      by_cond (λ (b : ℕ). bit (set_bit x n) k ≡ b) (eqb k n) 1 (bit x k)
      (λ t. ap (λ (i : ℕ). bit (set_bit x n) i) (eqb-true k n t) ∙ bit_set_here)
      (λ f. bit_set_other k (eqb-false k n f))

  pub bit_unset : (k : ℕ) → bit (unset_bit x n) k ≡ cond (eqb k n) 0 (bit x k)
  bit_unset k =
      by_cond (λ (b : ℕ). bit (unset_bit x n) k ≡ b) (eqb k n) 0 (bit x k)
      (λ t. ap (λ (i : ℕ). bit (unset_bit x n) i) (eqb-true k n t) ∙ bit_unset_here)
      (λ f. bit_unset_other k (eqb-false k n f))
