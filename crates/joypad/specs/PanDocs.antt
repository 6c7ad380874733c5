-- From Pan Docs, "Joypad Input": the four lines that FF00 reads, and which keys sit on them.
use Rattle.std.specs.Prelude.{Bool, true, false, cond, not, ℕ, ◌/◌, ◌%◌}
use Rattle.std.specs.Int.Bits.{bit_and}
use Rattle.bit_utils.specs.Bits.{is_set}
use Rattle.joypad.specs.declared.buttons.Button.{Button}
use Rattle.joypad.specs.declared.buttons.Button.TheVariants.{Up, Down, Left, Right, A, B, Start, Select}

-- 3 Down or Start, 2 Up or Select, 1 Left or B, 0 Right or A
abbrev pub line_of : Button → ℕ
line_of Down = 3
line_of Start = 3
line_of Up = 2
line_of Select = 2
line_of Left = 1
line_of B = 1
line_of Right = 0
line_of A = 0

-- an action button; the others are directions
abbrev pub is_action : Button → Bool
is_action Up = false
is_action Down = false
is_action Left = false
is_action Right = false
is_action A = true
is_action B = true
is_action Start = true
is_action Select = true

-- FF00's bit 5 at 0 selects the action buttons, bit 4 at 0 the directions
unfoldable pub selects_actions : ℕ → Bool
selects_actions control = not (is_set control 5)

unfoldable pub selects_directions : ℕ → Bool
selects_directions control = not (is_set control 4)

-- FF00's bits 3..0. `keys` has a bit for each key, 0 while it is down: the directions in lines 3..0 of its low half, the actions in its high half.
-- A line reads 0 where a selected key is down; neither selected, F
unfoldable pub low_four : ℕ → ℕ → ℕ
low_four control keys =
    cond (selects_directions control)
    (cond (selects_actions control) (bit_and (keys % 16) (keys / 16)) (keys % 16))
    (cond (selects_actions control) (keys / 16) 15)
