-- A bit as a number.
use mathlib.Core.Path.{◌≡◌, refl, sym, ◌∙◌}
use mathlib.Core.Bool.{Bool, true, false}
use Prim.Native.Nat.{ℕ, zero, suc, ◌<◌, ◌≤◌}
use native.Mathlib.Omega.{arith}
use lib.Dec.{eqb, leb, lit<}
use borrow.Author.Tests.{ne_eqb, lt-leb, le-leb, eqb-true}
use Rattle.mbc.specs.Registers.{bit, is_on}

pub bit_back : (b : Bool) → is_on (bit b) ≡ b
bit_back true = refl
bit_back false = refl

pub bit_small : (b : Bool) → bit b < 2
bit_small true = lit< tt
bit_small false = lit< tt

-- a number is a bit's where it is at most 1
pub bit_test : (n : ℕ) → eqb n (bit (is_on n)) ≡ leb n 1
bit_test zero = refl
bit_test (suc zero) = refl
bit_test (suc (suc n)) =
    let k : ℕ = suc (suc n) in
    ne_eqb k (bit (is_on k)) (λ e. omega (arith, bit_small (is_on k))) ∙ sym (lt-leb k 1 (omega arith))

pub bit_forth : (n : ℕ) → n ≤ 1 → n ≡ bit (is_on n)
bit_forth n h = eqb-true n (bit (is_on n)) (bit_test n ∙ le-leb n 1 h)
