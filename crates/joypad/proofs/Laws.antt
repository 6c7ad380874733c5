-- The buttons' bits, and FF00 against Pan Docs.
use mathlib.Core.Bool.{Bool, true, false, cond, not, ◌&&◌}
use mathlib.Core.Path.{◌≡◌, refl, sym, ap, ◌∙◌}
use Prim.Native.Nat.{ℕ, zero, suc, ◌+◌, ◌*◌, ◌/◌, ◌%◌, ◌<◌}
use native.Mathlib.Omega.{arith}
use lib.Dec.{eqb, leb, ltb}
use Rattle.bit_utils.specs.Bits.{is_set}
use Rattle.rules.proofs.Tests.{untrue}
use Rattle.joypad.specs.PanDocs.{line_of, is_action, selects_actions, selects_directions, low_four}
use Rattle.joypad.specs.Joypad.{bit_of, actions_answer, directions_answer, with_state, marked, polled, pad_read}
use Rattle.joypad.specs.declared.Controller.{Controller}
use Rattle.joypad.specs.declared.buttons.Button.{Button}
use Rattle.joypad.specs.declared.buttons.Button.TheVariants.{Up, Down, Left, Right, A, B, Start, Select}

-- the actions are the high half
pub high_half : (b : Button) → leb 4 (bit_of b) ≡ is_action b
unfolding bit_of
high_half Up = refl
high_half Down = refl
high_half Left = refl
high_half Right = refl
high_half A = refl
high_half B = refl
high_half Start = refl
high_half Select = refl

pub low_half : (b : Button) → ltb (bit_of b) 4 ≡ not (is_action b)
unfolding bit_of
low_half Up = refl
low_half Down = refl
low_half Left = refl
low_half Right = refl
low_half A = refl
low_half B = refl
low_half Start = refl
low_half Select = refl

-- a test by `&&` that fails at its second part
pub second_false : (a b : Bool) → b ≡ false → (a && b) ≡ false
second_false true b e = e
second_false false b e = refl

-- an update where no mark waits brings the state up to date, and leaves the flags
unmarked_by : (c : Controller) (control flags : ℕ) (a d : Bool) → c.action ≡ a → c.direction ≡ d → cond a true d ≡ false
    → polled c control flags ≡ record { controller = with_state c c.released; flags = flags }
unfolding polled
unmarked_by c control flags true d e f g = untrue (sym g)
unmarked_by c control flags false true e f g = untrue (sym g)
unmarked_by c control flags false false e f g =
    rw (second_false (actions_answer control) c.action e, second_false (directions_answer control) c.direction f)

pub unmarked_polled : (c : Controller) (control flags : ℕ) → marked c ≡ false
    → polled c control flags ≡ record { controller = with_state c c.released; flags = flags }
unfolding marked
unmarked_polled c control flags e = unmarked_by c control flags c.action c.direction refl refl e

-- FF00's bits 5..4 are q, bit 4 is a and bit 5 is b: where one of the two is 0, q is 01 or 10
module _ (q : ℕ) where
  one_clear : (a b : ℕ) → a < 2 → b < 2 → q ≡ a + 2 * b → eqb b 1 ≡ not (eqb a 1)
      → (not (eqb q 1) ≡ not (eqb a 1)) × (not (eqb q 2) ≡ not (eqb b 1))
  one_clear zero zero h k e s = untrue s
  one_clear zero (suc zero) h k e s = (rw e, rw e)
  one_clear (suc zero) zero h k e s = (rw e, rw e)
  one_clear (suc zero) (suc zero) h k e s = untrue (sym s)
  one_clear (suc (suc a)) b h k e s = absurd (omega arith)
  one_clear zero (suc (suc b)) h k e s = absurd (omega arith)
  one_clear (suc zero) (suc (suc b)) h k e s = absurd (omega arith)

-- where FF00 selects one kind of keys, that kind answers and the other does not
pub one_kind : (control : ℕ) → is_set control 5 ≡ not (is_set control 4)
    → (directions_answer control ≡ selects_directions control) × (actions_answer control ≡ selects_actions control)
unfolding selects_actions selects_directions is_set
one_kind control s =
    one_clear (control / 16 % 4) (control / 16 % 2) (control / 32 % 2) (omega arith) (omega arith) (omega arith) s

other_kind : (control : ℕ) → is_set control 5 ≡ not (is_set control 4) → selects_actions control ≡ not (selects_directions control)
unfolding selects_actions selects_directions
other_kind control s = ap not s

below : (k x y : ℕ) (t : Bool) → x < 16 → y < 16 → (k * 16 + cond t x y) % 16 ≡ cond t x y
below k x y true h l = omega arith
below k x y false h l = omega arith

chosen : (d : Bool) (x y z w : ℕ) → cond d x y ≡ cond d (cond (not d) z x) (cond (not d) y w)
chosen true x y z w = refl
chosen false x y z w = refl

-- and FF00's low four bits are what Pan Docs say
pub as_pandocs : (control state : ℕ) → state < 256 → is_set control 5 ≡ not (is_set control 4)
    → pad_read control state % 16 ≡ low_four control state
unfolding pad_read low_four
as_pandocs control state h s =
    below (control / 16) (state % 16) (state / 16) (directions_answer control) (omega arith) (omega arith)
    ∙ rw ((one_kind control s).0, other_kind control s) (chosen (selects_directions control) _ _ _ _)

-- both clauses of `read`
pub reads : (control state : ℕ) {r : ℕ} → state < 256 → r ≡ pad_read control state
    → (r ≡ pad_read control state) × (is_set control 5 ≡ not (is_set control 4) → r % 16 ≡ low_four control state)
reads control state h e = (e, λ s. ap (λ (n : ℕ). n % 16) e ∙ as_pandocs control state h s)

half : (x y : ℕ) → x ≡ y → eqb x 1 ≡ eqb y 1
half x y e = rw e

-- and Pan Docs' line of a key whose kind alone is selected reads that key's bit
pub line_reads : (b : Button) (control keys : ℕ) → selects_actions control ≡ is_action b → selects_directions control ≡ not (is_action b)
    → is_set (low_four control keys) (line_of b) ≡ is_set keys (bit_of b)
unfolding low_four is_set bit_of
line_reads Up control keys a d = rw (a, d) (half (keys % 16 / 4 % 2) (keys / 4 % 2) (omega arith))
line_reads Down control keys a d = rw (a, d) (half (keys % 16 / 8 % 2) (keys / 8 % 2) (omega arith))
line_reads Left control keys a d = rw (a, d) (half (keys % 16 / 2 % 2) (keys / 2 % 2) (omega arith))
line_reads Right control keys a d = rw (a, d) (half (keys % 16 / 1 % 2) (keys / 1 % 2) (omega arith))
line_reads A control keys a d = rw (a, d) (half (keys / 16 / 1 % 2) (keys / 16 % 2) (omega arith))
line_reads B control keys a d = rw (a, d) (half (keys / 16 / 2 % 2) (keys / 32 % 2) (omega arith))
line_reads Start control keys a d = rw (a, d) (half (keys / 16 / 8 % 2) (keys / 128 % 2) (omega arith))
line_reads Select control keys a d = rw (a, d) (half (keys / 16 / 4 % 2) (keys / 64 % 2) (omega arith))
