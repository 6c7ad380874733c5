-- What the Rust's ROM and save hold for the letter R: oracle/README.md, "The parts".
use Rattle.std.specs.Prelude.{◌≡◌, ℕ, ◌+◌, ◌*◌, ◌/◌, ◌%◌, ◌<◌, List, slice_index}

abbrev pub rom_byte : ℕ → ℕ
rom_byte a = (a + a / 16384 * 7 + a / 256 * 3 + a / 4194304 * 13) % 256

abbrev pub save_byte : ℕ → ℕ
save_byte a = (a * 5 + a / 8192 * 11 + 17) % 256

-- the first n bytes are those of a rule
abbrev pub Filled : (ℕ → ℕ) → List ℕ → ℕ → Type 0
Filled rule bytes n = (a : ℕ) → a < n → slice_index bytes a ≡ rule a
