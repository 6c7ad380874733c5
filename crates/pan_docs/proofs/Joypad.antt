-- The joypad: FF00's low half by the selected kind, and each button's bit.
use mathlib.Core.Bool.{◌&&◌, true, false, cond, not}
use mathlib.Core.Path.{◌≡◌, refl, sym, ap, ◌∙◌}
use Prim.Native.Nat.{ℕ, zero, suc, ◌+◌, ◌*◌, ◌/◌, ◌%◌, ◌<◌}
use native.Mathlib.Omega.{arith}
use lib.Dec.{eqb}
use borrow.Author.Tests.{eqb-true, eq-eqb, ne_eqb}
use Rattle.bit_utils.specs.Bits.{is_set}
use Rattle.joypad.specs.declared.Polled.{Polled}
use Rattle.joypad.specs.Joypad.{polled, actions_answer, named, bit_of, after_press, after_release, press_call, release_call, directions_answer, pad_read}
use Rattle.joypad.specs.declared.Controller.{Controller}
use Rattle.joypad.specs.declared.buttons.Button.{Button}
use Rattle.joypad.specs.declared.buttons.Button.TheVariants.{Up, Down, Left, Right, A, B, Start, Select}
use Rattle.rules.proofs.Tests.{by_cond, cond_both, cond_true, cond_false}
use Rattle.pan_docs.specs.Bits.{bit, low}
use Rattle.pan_docs.specs.Joypad.{line_of, JoypadBits}
use Rattle.pan_docs.proofs.Bits.{low_mod, is_set_law, bit_clear, bit_below, bit_shifted, bit_right, bit_set, bit_unset}

module _ (control state : ℕ) where
  two_bits : control / 16 % 4 ≡ bit control 4 + bit control 5 * 2
  unfolding low
  two_bits =
      let a = bit_shifted control 4 0 in
      let b = bit_shifted control 4 1 in
      sym (low_mod 2 (control / 16)) ∙ omega arith

  directions : bit control 5 ≡ 1 → bit control 4 ≡ 0 → (k : ℕ) → k < 4 → bit (pad_read control state) k ≡ bit state k
  unfolding pad_read
  directions p q k h =
      let e = two_bits in
      let d : directions_answer control ≡ true = ap not (ne_eqb (control / 16 % 4) 1 (λ z. omega arith)) in
      ap (λ (x : ℕ). bit (control / 16 * 16 + x) k) (cond_true _ (state % 16) (state / 16) d)
      ∙ bit_right (control / 16) 4 {r = state % 16} (omega arith) k h
      ∙ bit_below state 4 k h

  actions : state < 256 → bit control 5 ≡ 0 → bit control 4 ≡ 1 → (k : ℕ) → k < 4 → bit (pad_read control state) k ≡ bit state (4 + k)
  unfolding pad_read
  actions l p q k h =
      let e = two_bits in
      let d : directions_answer control ≡ false = ap not (eq-eqb (control / 16 % 4) 1 (omega arith)) in
      ap (λ (x : ℕ). bit (control / 16 * 16 + x) k) (cond_false _ (state % 16) (state / 16) d)
      ∙ bit_right (control / 16) 4 {r = state / 16} (omega arith) k h
      ∙ bit_shifted state 4 k

module _ (c : Controller) (b : Button) (j : ℕ) where
  -- a key that is down already has its bit at 0
  down : is_set c.released (bit_of b) ≡ false → bit c.released j ≡ cond (eqb j (bit_of b)) 0 (bit c.released j)
  down f =
      by_cond (λ (x : ℕ). bit c.released j ≡ x) (eqb j (bit_of b)) 0 (bit c.released j)
      (λ t. ap (λ (i : ℕ). bit c.released i) (eqb-true j (bit_of b) t)
      ∙ bit_clear c.released (bit_of b) (sym (is_set_law c.released (bit_of b)) ∙ f))
      (λ n. refl)

  press_bit : bit (after_press c b).released j ≡ cond (eqb j (bit_of b)) 0 (bit c.released j)
  unfolding after_press
  press_bit =
      by_cond (λ (d : Controller). bit d.released j ≡ cond (eqb j (bit_of b)) 0 (bit c.released j)) (is_set c.released (bit_of b)) _ c
      (λ t. bit_unset c.released (bit_of b) j) down

  release_bit : bit (after_release c b).released j ≡ cond (eqb j (bit_of b)) 1 (bit c.released j)
  unfolding after_release
  release_bit = bit_set c.released (bit_of b) j

press : (c : Controller) (button j : ℕ) → button < 8
    → bit (press_call c button).controller.released j ≡ cond (eqb j (line_of button)) 0 (bit c.released j)
unfolding named bit_of
press c zero j h = press_bit c Up j
press c (suc zero) j h = press_bit c Down j
press c (suc (suc zero)) j h = press_bit c Left j
press c (suc (suc (suc zero))) j h = press_bit c Right j
press c (suc (suc (suc (suc zero)))) j h = press_bit c A j
press c (suc (suc (suc (suc (suc zero))))) j h = press_bit c B j
press c (suc (suc (suc (suc (suc (suc zero)))))) j h = press_bit c Start j
press c (suc (suc (suc (suc (suc (suc (suc zero))))))) j h = press_bit c Select j
press c (suc (suc (suc (suc (suc (suc (suc (suc n)))))))) j h = absurd (omega arith)

release : (c : Controller) (button j : ℕ) → button < 8
    → bit (release_call c button).controller.released j ≡ cond (eqb j (line_of button)) 1 (bit c.released j)
unfolding named bit_of
release c zero j h = release_bit c Up j
release c (suc zero) j h = release_bit c Down j
release c (suc (suc zero)) j h = release_bit c Left j
release c (suc (suc (suc zero))) j h = release_bit c Right j
release c (suc (suc (suc (suc zero)))) j h = release_bit c A j
release c (suc (suc (suc (suc (suc zero))))) j h = release_bit c B j
release c (suc (suc (suc (suc (suc (suc zero)))))) j h = release_bit c Start j
release c (suc (suc (suc (suc (suc (suc (suc zero))))))) j h = release_bit c Select j
release c (suc (suc (suc (suc (suc (suc (suc (suc n)))))))) j h = absurd (omega arith)

update : (c : Controller) (control flags : ℕ) → (polled c control flags).controller.state ≡ c.released
unfolding polled
update c control flags =
    cond_both (λ (p : Polled). p.controller.state ≡ c.released) (actions_answer control && c.action) refl
    (cond_both (λ (p : Polled). p.controller.state ≡ c.released) (directions_answer control && c.direction) refl refl)

pub joypad_bits : JoypadBits
joypad_bits = record { directions = directions; actions = actions; press = press; release = release; update = update }
