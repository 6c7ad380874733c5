-- Bits of a byte, 0 the lowest (document 01, "The part we take": test, set, clear a bit), in plain arithmetic.
use Rattle.std.specs.Prelude.{Bool, false, cond, ℕ, Result, ◌+◌, ◌-◌, ◌/◌, ◌%◌, ◌^◌, eqb, ltb}
use Rattle.numbers.specs.Numbers.{done, outside}
use Rattle.numbers.specs.Refusal.{number_given}
use Rattle.numbers.specs.declared.Refusal.{Refusal}
use Rattle.std.specs.Result.{result_unwrap_or}

-- bit n is 1
unfoldable pub is_set : ℕ → ℕ → Bool
is_set byte n = eqb (byte / 2 ^ n % 2) 1

-- bit n made 1: where it is 0, its weight is added
unfoldable pub set_bit : ℕ → ℕ → ℕ
set_bit byte n = cond (is_set byte n) byte (byte + 2 ^ n)

-- bit n made 0: where it is 1, its weight is taken off
unfoldable pub unset_bit : ℕ → ℕ → ℕ
unset_bit byte n = cond (is_set byte n) (byte - 2 ^ n) byte

-- Document 01's number and value for each case of the answer: a bit over 7 is refused by 7, and gives 0

pub record Tested : Type 0 where
  pub number : ℕ
  pub set : Bool

pub record Changed : Type 0 where
  pub number : ℕ
  pub byte : ℕ

abbrev pub tested_of : Result Bool Refusal → Tested
tested_of r = record { number = number_given r; set = result_unwrap_or r false }

abbrev pub changed_of : Result ℕ Refusal → Changed
changed_of r = record { number = number_given r; byte = result_unwrap_or r 0 }

unfoldable pub tested : ℕ → ℕ → Tested
tested byte n =
    cond (ltb 7 n) (record { number = outside; set = false }) (record { number = done; set = is_set byte n })

unfoldable pub changed : (ℕ → ℕ → ℕ) → ℕ → ℕ → Changed
changed f byte n =
    cond (ltb 7 n) (record { number = outside; byte = 0 }) (record { number = done; byte = f byte n })
