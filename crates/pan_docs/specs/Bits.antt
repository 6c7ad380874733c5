-- Bits of a number, 0 the lowest.
use Rattle.std.specs.Prelude.{ℕ, zero, suc, ◌+◌, ◌*◌, ◌/◌, ◌%◌, ◌^◌}

-- bit k, 0 or 1
unfoldable pub bit : ℕ → ℕ → ℕ
bit v k = v / 2 ^ k % 2

-- the number that bits n - 1 .. 0 make, each with its weight
unfoldable pub low : ℕ → ℕ → ℕ
low zero v = 0
low (suc n) v = bit v n * 2 ^ n + low n v
