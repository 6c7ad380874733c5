-- Pan Docs, "Joypad Input": "bit 5 at 0 selects the action buttons, bit 4 at 0 the directions; bits 3..0 read 0 where a selected key is down:
-- 3 Down or Start, 2 Up or Select, 1 Left or B, 0 Right or A." Departs with neither kind selected or both, in bits 7..6, and in when the interrupt
-- is requested: nothing is stated there.
use Rattle.std.specs.Prelude.{cond, List, [], ◌∷◌, ◌≡◌, ℕ, ◌+◌, ◌<◌, eqb, get_or}
use Rattle.joypad.specs.Joypad.{press_call, release_call, polled, pad_read}
use Rattle.joypad.specs.declared.Controller.{Controller}
use Rattle.pan_docs.specs.Bits.{bit}

-- the lines of the buttons in document 01's order, Up, Down, Left, Right, A, B, Start, Select; the state holds the directions' four lines and above
-- them the actions'
abbrev pub lines : List ℕ
lines = 2 ∷ 3 ∷ 1 ∷ 0 ∷ (4 + 0) ∷ (4 + 1) ∷ (4 + 3) ∷ (4 + 2) ∷ []

abbrev pub line_of : ℕ → ℕ
line_of button = get_or lines button 0

pub record JoypadBits : Type 0 where
  -- of the stored FF00 and the state: one kind selected
  pub directions : (control state : ℕ) → bit control 5 ≡ 1 → bit control 4 ≡ 0 → (k : ℕ) → k < 4 → bit (pad_read control state) k ≡ bit state k
  pub actions : (control state : ℕ) → state < 256 → bit control 5 ≡ 0 → bit control 4 ≡ 1
      → (k : ℕ) → k < 4 → bit (pad_read control state) k ≡ bit state (4 + k)
  -- a press makes its key's bit 0, a release 1, and no other
  pub press : (c : Controller) (button j : ℕ) → button < 8
      → bit (press_call c button).controller.released j ≡ cond (eqb j (line_of button)) 0 (bit c.released j)
  pub release : (c : Controller) (button j : ℕ) → button < 8
      → bit (release_call c button).controller.released j ≡ cond (eqb j (line_of button)) 1 (bit c.released j)
  -- an update makes the keys as they are the state that FF00 reads
  pub update : (c : Controller) (control flags : ℕ) → (polled c control flags).controller.state ≡ c.released
