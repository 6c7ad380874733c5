-- Bits that read 1: a mask's bits are tested, and then hold of every byte.
use mathlib.Core.Bool.{Bool, true, false, cond, ◌&&◌}
use mathlib.Core.List.{List, [], ◌∷◌}
use mathlib.Core.Path.{◌≡◌, refl, sym, ap, ◌∙◌, subst}
use Prim.Native.Nat.{ℕ, zero, suc, ◌<◌, max}
use native.Mathlib.Omega.{arith}
use lib.Bits.{bit_or}
use lib.Dec.{eqb}
use borrow.Author.Tests.{eqb-true, eqb-false}
use Rattle.rules.proofs.Tests.{both_true}
use Rattle.mbc.specs.Mbc.{one_of}
use Rattle.memory.specs.declared.Memory.{Memory}
use Rattle.registers.specs.Page.{shown_as, by_kind, read_register}
use Rattle.registers.specs.State.{loaded}
use Rattle.pan_docs.specs.Bits.{bit}
use Rattle.pan_docs.specs.Ones.{all_eight, always_ones, colour_ones, monochrome_ones, Every, ReadsSo, BitsThatReadOne}
use Rattle.pan_docs.proofs.Bits.{bit_or_law, bit_small}

-- a test at every number below n
abbrev all : (ℕ → Bool) → ℕ → Bool
all f zero = true
all f (suc n) = f n && all f n

last_or : (f : ℕ → Bool) (n k : ℕ) → f n ≡ true → (k < n → f k ≡ true) → k < suc n → (b : Bool) → eqb k n ≡ b → f k ≡ true
last_or f n k t u h true e = subst (λ (j : ℕ). f j ≡ true) (sym (eqb-true k n e)) t
last_or f n k t u h false e = let d = eqb-false k n e in u (omega arith)

below : (f : ℕ → Bool) (n : ℕ) → all f n ≡ true → (k : ℕ) → k < n → f k ≡ true
below f zero t k h = absurd (omega arith)
below f (suc n) t k h =
    let p = both_true (f n) (all f n) t in
    last_or f n k p.0 (below f n p.1 k) h (eqb k n) refl

-- the mask has the bits, and no other below 8
abbrev has : List ℕ → ℕ → ℕ → Bool
has bits mask k = eqb (bit mask k) (cond (one_of bits k) 1 0)

forced_by : (b : Bool) (x : ℕ) → x < 2 → max x (cond b 1 0) ≡ cond b 1 x
forced_by true x h = omega arith
forced_by false x h = omega arith

module _ (bits : List ℕ) (mask : ℕ) (t : all (has bits mask) 8 ≡ true) where
  pub forced : (byte k : ℕ) → k < 8 → bit (bit_or byte mask) k ≡ cond (one_of bits k) 1 (bit byte k)
  forced byte k h =
      bit_or_law byte mask k
      ∙ ap (λ (x : ℕ). max (bit byte k) x) (eqb-true _ _ (below (has bits mask) 8 t k h))
      ∙ forced_by (one_of bits k) (bit byte k) (bit_small byte k)

-- FF has all eight
full : (byte k : ℕ) → k < 8 → bit 0xFF k ≡ cond (one_of all_eight k) 1 (bit byte k)
unfolding bit
full byte k h =
    eqb-true (bit 0xFF k) 1 (below (λ k. eqb (bit 0xFF k) 1) 8 refl k h)
    ∙ sym (ap (λ (b : Bool). cond b 1 (bit byte k)) (below (one_of all_eight) 8 refl k h))

always : (m : Memory) (sound : List ℕ) → Every (ReadsSo m sound) always_ones
unfolding read_register shown_as bit
always m sound = (
  forced (7 ∷ 6 ∷ 5 ∷ []) 0xE0 refl (loaded m 0x0F),
  (
    forced (7 ∷ []) 0x80 refl (loaded m 0x41),
    (
      forced (7 ∷ 6 ∷ 5 ∷ 4 ∷ 3 ∷ 2 ∷ 1 ∷ []) 0xFE refl (loaded m 0x4F),
      (
        forced (7 ∷ 6 ∷ 5 ∷ 4 ∷ 3 ∷ []) 0xF8 refl (loaded m 0x07),
        (full (loaded m 0x03), (full (loaded m 0x0E), (full (loaded m 0x4C), tt))),
      ),
    ),
  ),
)

in_colour_law : (m : Memory) (sound : List ℕ) → m.core.banks.colour ≡ true → Every (ReadsSo m sound) colour_ones
unfolding read_register shown_as by_kind bit
in_colour_law m sound e =
    rw e (
      forced (6 ∷ []) 0x40 refl (loaded m 0x68),
      (
        forced (6 ∷ []) 0x40 refl (loaded m 0x6A),
        (
          forced (7 ∷ 6 ∷ 5 ∷ 4 ∷ 3 ∷ []) 0xF8 refl (loaded m 0x69),
          (
            forced (7 ∷ 6 ∷ 5 ∷ 4 ∷ 3 ∷ []) 0xF8 refl (loaded m 0x6B),
            (forced (6 ∷ []) 0x40 refl (loaded m 0x70), tt),
          ),
        ),
      ),
    )

in_monochrome : (m : Memory) (sound : List ℕ) → m.core.banks.colour ≡ false → Every (ReadsSo m sound) monochrome_ones
unfolding read_register shown_as by_kind bit
in_monochrome m sound e =
    rw e
    (full (loaded m 0x69), (full (loaded m 0x6B), (full (loaded m 0x70), (full (loaded m 0x76), (full (loaded m 0x77), tt)))))

module _ (m : Memory) (sound : List ℕ) where
  zeros : m.core.banks.colour ≡ true → (read_register m sound 0x76 ≡ 0x00) × (read_register m sound 0x77 ≡ 0x00)
  unfolding read_register shown_as by_kind
  zeros e = rw e (refl, refl)

  two_ones : m.core.banks.colour ≡ false → (read_register m sound 0x68 ≡ 0xC0) × (read_register m sound 0x6A ≡ 0xC0)
  unfolding read_register shown_as by_kind
  two_ones e = rw e (refl, refl)

pub bits_that_read_one : BitsThatReadOne
bits_that_read_one = record { always = always; colour = in_colour_law; monochrome = in_monochrome; zero = zeros; two_ones = two_ones }
