-- Pan Docs, "LCD Status Registers": of FF41 "bits 6..3 select the interrupt sources LYC, mode 2, mode 1, mode 0; bit 2 is LY = LYC, bits 1..0 the
-- mode, both read-only"; "FF45 LYC is compared with" LY. The comparison is the Rust's `compare_ly_to_lyc`; LY is the scan line that the host sets.
use Rattle.std.specs.Prelude.{Bool, true, false, cond, not, ◌&&◌, ◌||◌, ◌⊎◌, ◌≡◌, ℕ, ◌+◌, ◌/◌, ◌%◌, ◌<◌, ◌≤◌, eqb, ltb}
use Rattle.std.specs.Int.Bits.{bit_and}
use Rattle.lcd.specs.Lcd.{with_compare, ly_compared, scanline_written, lyc_written, status_written}
use Rattle.lcd.specs.declared.Screen.{Screen}
use Rattle.pan_docs.specs.Bits.{bit}

-- LY = LYC
abbrev pub equal : Screen → Bool
equal s = eqb s.lcd.line s.compare

-- and it requests the LCD interrupt: its source, bit 6, is selected, and no signal of another source stands (that one is the Rust's)
abbrev pub raises : Screen → Bool
raises s = equal s && (eqb (bit s.status 6) 1 && eqb s.lcd.signal 0)

-- t is s after the comparison. FF0F has five bits ("Interrupts": bit 1 is LCD)
pub record Compared (s t : Screen) : Type 0 where
  pub bit2 : bit t.status 2 ≡ cond (equal s) 1 0
  pub others : (k : ℕ) → (k ≡ 2 → ⊥) → bit t.status k ≡ bit s.status k
  pub requested : raises s ≡ true → bit t.flags 1 ≡ 1
  pub other_flags : (k : ℕ) → k < 5 → (k ≡ 1 → ⊥) → bit t.flags k ≡ bit s.flags k
  pub not_requested : raises s ≡ false → t.flags ≡ s.flags
  pub line : t.lcd.line ≡ s.lcd.line
  pub lyc : t.compare ≡ s.compare
  pub control : t.control ≡ s.control

-- When a write of v to FF41 requests the LCD interrupt: "the interrupt sources LYC, mode 2, mode 1, mode 0", of which bit 3 + n is mode n's

-- of the signal, no source is still selected (the Rust's)
abbrev pub no_signal : Screen → ℕ → Bool
no_signal s v = eqb (bit_and s.lcd.signal (v / 8 % 16)) 0

-- the present mode's source is selected; mode 3 has none
abbrev pub mode_raises : Screen → ℕ → Bool
mode_raises s v = ltb s.lcd.mode 3 && eqb (bit v (3 + s.lcd.mode)) 1

-- LYC's is, and LY = LYC
abbrev pub lyc_raises : Screen → ℕ → Bool
lyc_raises s v = not s.lcd.disabled && (equal s && eqb (bit v 6) 1)

-- with the display on
abbrev pub status_raises : Screen → ℕ → Bool
status_raises s v = eqb (bit s.control 7) 1 && (no_signal s v && (mode_raises s v || lyc_raises s v))

-- t is s after a write of FF41
pub record StatusBits (s t : Screen) (value : ℕ) : Type 0 where
  pub sources : (k : ℕ) → 3 ≤ k → k ≤ 6 → bit t.status k ≡ bit value k
  pub mode : (k : ℕ) → k < 2 → bit t.status k ≡ bit s.status k
  pub other_flags : (k : ℕ) → k < 5 → (k ≡ 1 → ⊥) → bit t.flags k ≡ bit s.flags k
  pub line : t.lcd.line ≡ s.lcd.line
  pub lyc : t.compare ≡ s.compare

abbrev pub on : Screen → Type 0
on s = (bit s.control 7 ≡ 1) × (s.lcd.disabled ≡ false)

pub record LyIsLyc : Type 0 where
  pub compared : (s : Screen) → s.lcd.disabled ≡ false → Compared s (ly_compared s)
  pub disabled : (s : Screen) → s.lcd.disabled ≡ true → ly_compared s ≡ s
  -- "FF44 LY is read-only". Departs: a line of 128 or more, given less, disables the screen (the Rust's)
  pub ly_read_only : (s : Screen) (v : ℕ) → (bit s.lcd.line 7 ≡ 0) ⊎ (bit v 7 ≡ 1) → scanline_written s v ≡ s
  -- a write of FF45: a new value is stored, and compared while the display is on; the same value changes nothing (the Rust's)
  pub lyc_written_law : (s : Screen) (v : ℕ) → on s → (s.compare ≡ v → ⊥) → Compared (with_compare s v) (lyc_written s v)
  pub lyc_off : (s : Screen) (v : ℕ) → bit s.control 7 ≡ 0 → lyc_written s v ≡ with_compare s v
  -- and so with the screen disabled, whatever bit 7 says: compared is nothing
  pub lyc_disabled : (s : Screen) (v : ℕ) → s.lcd.disabled ≡ true → lyc_written s v ≡ with_compare s v
  pub lyc_same : (s : Screen) (v : ℕ) → s.compare ≡ v → lyc_written s v ≡ s
  -- a write of FF41: bits 6..3 are the written ones, 1..0 stay, and bit 2 is LY = LYC, or stays with the display off or the screen disabled
  pub status_written_law : (s : Screen) (v : ℕ) → StatusBits s (status_written s v) v
  pub status_equal : (s : Screen) (v : ℕ) → on s → bit (status_written s v).status 2 ≡ cond (equal s) 1 0
  pub status_off : (s : Screen) (v : ℕ) → bit s.control 7 ≡ 0 → bit (status_written s v).status 2 ≡ bit s.status 2
  pub status_disabled : (s : Screen) (v : ℕ) → s.lcd.disabled ≡ true → bit (status_written s v).status 2 ≡ bit s.status 2
  -- LCD is requested just then
  pub status_requests : (s : Screen) (v : ℕ) → status_raises s v ≡ true → bit (status_written s v).flags 1 ≡ 1
  pub status_quiet : (s : Screen) (v : ℕ) → status_raises s v ≡ false → (status_written s v).flags ≡ s.flags
