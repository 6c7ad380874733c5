-- The corners of document 01 that the buttons decide, computed from the definitions, and where document 01 departs from Pan Docs.
use mathlib.Core.Path.{◌≡◌, refl}
use Prim.Native.Nat.{ℕ}
use Rattle.bit_utils.specs.Bits.{is_set, set_bit, unset_bit}
use Rattle.joypad.specs.PanDocs.{selects_actions, selects_directions, low_four}
use Rattle.joypad.specs.Joypad.{named, bit_of, fresh, after_press, press_call, polled, pad_read}
use Rattle.joypad.specs.declared.Controller.{Controller}

-- press A, then Up, on a fresh controller
abbrev both : Controller
both = (press_call (press_call fresh 4).controller 0).controller

-- corner 1: fresh, FF00 reads C0
pub corner_1 : pad_read 0xCF fresh.state ≡ 0xC0
unfolding pad_read
corner_1 = refl

-- corner 14: with an update FF0F, stored as E1, becomes 11 and so reads F1; FF00 reads CB
pub corner_14 : ((polled both 0xCF 0xE1).flags ≡ 0x11) × (pad_read 0xCF (polled both 0xCF 0xE1).controller.state ≡ 0xCB)
unfolding named bit_of after_press polled pad_read is_set set_bit unset_bit
corner_14 = (refl, refl)

-- FF00 given 10: the second press took the first one's mark, and directions do not answer, so no update requests
pub second_press : (flags : ℕ) → (polled both 0x10 flags).flags ≡ flags
unfolding named bit_of after_press polled is_set set_bit unset_bit
second_press flags = refl

-- A and Up down, one kind selected: the same by Pan Docs and by document 01
pub directions_selected : (low_four 0x20 0xEB ≡ 0xB) × (pad_read 0x20 0xEB ≡ 0x2B)
unfolding low_four selects_actions selects_directions pad_read is_set
directions_selected = (refl, refl)

pub actions_selected : (low_four 0x10 0xEB ≡ 0xE) × (pad_read 0x10 0xEB ≡ 0x1E)
unfolding low_four selects_actions selects_directions pad_read is_set
actions_selected = (refl, refl)

-- neither selected: Pan Docs F, document 01 the directions
pub neither_selected : (low_four 0x30 0xEB ≡ 0xF) × (pad_read 0x30 0xEB ≡ 0x3B)
unfolding low_four selects_actions selects_directions pad_read is_set
neither_selected = (refl, refl)

-- both selected: Pan Docs the keys of both kinds, document 01 the directions
pub both_selected : (low_four 0x00 0xEB ≡ 0xA) × (pad_read 0x00 0xEB ≡ 0x0B)
unfolding low_four selects_actions selects_directions pad_read is_set
both_selected = (refl, refl)
