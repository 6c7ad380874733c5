-- The rules of ROM and save, computed from remainders so that no sum wraps: whole multiples of 256 do not count.
use Rattle.std.proofs.Common.{◌≡◌, ℕ, ◌+◌, ◌*◌, ◌/◌, ◌%◌, sym, ap, ◌∙◌, arith}
use native.Mathlib.Nat.{add-mul-mod_self_right}

-- n is s and so many times 256
multiples : (n s m : ℕ) → n ≡ s + m * 256 → s % 256 ≡ n % 256
multiples n s m e = sym (ap (λ (k : ℕ). k % 256) e ∙ add-mul-mod_self_right s m 256)

pub rom_sum : (a x y z : ℕ) → (a % 256 + x % 256 * 7 + y % 256 * 3 + z % 256 * 13) % 256 ≡ (a + x * 7 + y * 3 + z * 13) % 256
rom_sum a x y z = multiples _ _ (a / 256 + x / 256 * 7 + y / 256 * 3 + z / 256 * 13) (omega arith)

pub save_sum : (a x : ℕ) → (a % 256 * 5 + x % 256 * 11 + 17) % 256 ≡ (a * 5 + x * 11 + 17) % 256
save_sum a x = multiples _ _ (a / 256 * 5 + x / 256 * 11) (omega arith)
