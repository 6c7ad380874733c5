-- The buttons (document 01, "Timer and buttons", Joypad), each call whole. A call with a button over 7 is refused by 7 (number 7).
use Rattle.std.specs.Prelude.{Option, Some, None, Result, Bool, true, false, cond, not, ◌&&◌, ℕ, ◌+◌, ◌*◌, ◌/◌, ◌%◌, ◌<◌, eqb}
use Rattle.std.specs.Result.{result_unwrap_or}
use Rattle.numbers.specs.Numbers.{done, outside}
use Rattle.numbers.specs.Refusal.{number_given}
use Rattle.numbers.specs.declared.Refusal.{Refusal}
use Rattle.bit_utils.specs.Bits.{is_set, set_bit, unset_bit}
use Rattle.interrupt.specs.Flags.{requested}
use Rattle.interrupt.specs.declared.Interrupt.TheVariants as interrupts
use Rattle.joypad.specs.PanDocs.{line_of, is_action}
use Rattle.joypad.specs.declared.Controller.{Controller}
use Rattle.joypad.specs.declared.Polled.{Polled}
use Rattle.joypad.specs.declared.buttons.Button.{Button}
use Rattle.joypad.specs.declared.buttons.Button.TheVariants.{Up, Down, Left, Right, A, B, Start, Select}

-- "Numbers a call gives back": buttons 0..7 follow `Button`'s order
unfoldable pub named : ℕ → Option Button
named n =
    cond (eqb n 0) (Some Up)
    (cond (eqb n 1) (Some Down)
    (cond (eqb n 2) (Some Left)
    (cond (eqb n 3) (Some Right)
    (cond (eqb n 4) (Some A) (cond (eqb n 5) (Some B) (cond (eqb n 6) (Some Start) (cond (eqb n 7) (Some Select) None)))))))

-- a button's bit among the eight: its line of Pan Docs, the actions in the high half (UP 0x04, A 0x10, B 0x20)
unfoldable pub bit_of : Button → ℕ
bit_of b = cond (is_action b) (4 + line_of b) (line_of b)

-- the two bytes are bytes (the image keeps 8 bits of each)
abbrev pub Bytes : Controller → Type 0
Bytes c = (c.released < 256) × (c.state < 256)

-- all released, no mark, nothing polled yet
abbrev pub fresh : Controller
fresh = record { released = 255; action = false; direction = false; state = 0 }

-- a press of a released button overwrites both marks
unfoldable pub after_press : Controller → Button → Controller
after_press c b =
    cond (is_set c.released (bit_of b))
    (record { released = unset_bit c.released (bit_of b); action = is_action b; direction = not (is_action b); state = c.state })
    c

unfoldable pub after_release : Controller → Button → Controller
after_release c b =
    record { released = set_bit c.released (bit_of b); action = c.action; direction = c.direction; state = c.state }

-- the number, and the controller after a press or a release: a refusal leaves it as it was
pub record Pressed : Type 0 where
  pub number : ℕ
  pub controller : Controller

abbrev pub pressed_of : Controller → Result Controller Refusal → Pressed
pressed_of c r = record { number = number_given r; controller = result_unwrap_or r c }

-- what a call does with the button of its number, or the refusal
abbrev pub on_button : (Controller → Button → Controller) → Controller → Option Button → Pressed
on_button f c (Some b) = record { number = done; controller = f c b }
on_button f c None = record { number = outside; controller = c }

abbrev pub press_call : Controller → ℕ → Pressed
press_call c n = on_button after_press c (named n)

abbrev pub release_call : Controller → ℕ → Pressed
release_call c n = on_button after_release c (named n)

abbrev pub with_state : Controller → ℕ → Controller
with_state c state = record { released = c.released; action = c.action; direction = c.direction; state = state }

-- directions answer unless FF00's bits 5..4 are 01; actions unless they are 10
abbrev pub directions_answer : ℕ → Bool
directions_answer control = not (eqb (control / 16 % 4) 1)

abbrev pub actions_answer : ℕ → Bool
actions_answer control = not (eqb (control / 16 % 4) 2)

abbrev pub requesting : Controller → ℕ → Polled
requesting c flags = record { controller = c; flags = requested flags interrupts.Joypad }

-- update takes the action mark first: a mark whose keys answer is cleared and requests Joypad; what FF00 reads from is brought up to date
unfoldable pub polled : Controller → ℕ → ℕ → Polled
polled c control flags =
    cond (actions_answer control && c.action)
    (requesting (record { released = c.released; action = false; direction = c.direction; state = c.released }) flags)
    (cond (directions_answer control && c.direction)
    (requesting (record { released = c.released; action = c.action; direction = false; state = c.released }) flags)
    (record { controller = with_state c c.released; flags = flags }))

-- a mark waits for an update
unfoldable pub marked : Controller → Bool
marked c = cond c.action true c.direction

-- FF00: the upper four bits as stored, below them the directions where they answer, else the actions.
-- Pan Docs differ where bits 5..4 are 11 (F) or 00 (both kinds), and in bits 7..6 (1)
unfoldable pub pad_read : ℕ → ℕ → ℕ
pad_read control state = control / 16 * 16 + cond (directions_answer control) (state % 16) (state / 16)
