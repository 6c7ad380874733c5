-- The masks of the code against the definitions.
use mathlib.Core.Bool.{cond}
use mathlib.Core.Path.{◌≡◌, refl, ap, ◌∙◌}
use Prim.Native.Nat.{ℕ, zero, suc, ◌+◌, ◌*◌, ◌/◌, ◌%◌, ◌<◌}
use native.Mathlib.Omega.{arith}
use lib.Dec.{eqb}
use lib.Bits.{bit_and, bit_or, and_high, and_mask, or_shifted}
use Rattle.bit_utils.specs.Bits.{is_set, set_bit}
use Rattle.lcd.specs.PanDocs.{sources, status_of}

-- `disable_screen` keeps bits 6..2
pub off_mask : (x : ℕ) → bit_and x 124 ≡ x / 4 % 32 * 4
off_mask x = and_high x 5 2

-- FF41's two masks
pub status_mask : (s v : ℕ) → bit_or (bit_and v 120) (bit_and s 7) ≡ status_of s v
status_mask s v =
    ap (λ (x : ℕ). bit_or x (bit_and s 7)) (and_high v 4 3)
    ∙ ap (λ (y : ℕ). bit_or (v / 8 % 16 * 8) y) (and_mask s 3)
    ∙ or_shifted (v / 8 % 16) 3 (s % 8) (omega arith)

-- of the new FF41 the sources are the written ones
pub sources_mask : (s v : ℕ) → bit_and (bit_or (bit_and v 120) (bit_and s 7) / 8) 15 ≡ sources v
sources_mask s v =
    ap (λ (x : ℕ). bit_and (x / 8) 15) (status_mask s v) ∙ and_mask (status_of s v / 8) 4 ∙ omega arith

six : (b x : ℕ) → b < 2 → x / 4 % 2 ≡ b → cond (eqb b 1) x (x + 4) / 64 % 2 ≡ x / 64 % 2
six zero x h e =
    let a : (x + 4) / 8 ≡ x / 8 = omega arith in
    let b : (x + 4) / 64 ≡ (x + 4) / 8 / 8 = omega arith in
    let d : x / 64 ≡ x / 8 / 8 = omega arith in
    rw (b, d, a)
six (suc zero) x h e = refl
six (suc (suc b)) x h e = absurd (omega arith)

-- bit 2 made 1 leaves bit 6
pub lyc_stays : (x : ℕ) → is_set (set_bit x 2) 6 ≡ is_set x 6
unfolding is_set set_bit
lyc_stays x = ap (λ (y : ℕ). eqb y 1) (six (x / 4 % 2) x (omega arith) refl)
