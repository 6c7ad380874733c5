-- The timer's and the joypad's calls on the bus, each whole: number, answer, next state (document 01, "Numbers a call gives back", "Timer and buttons").
use Rattle.std.specs.Prelude.{ℕ}
use Rattle.joypad.specs.Joypad as joypad
use Rattle.joypad.specs.Joypad.{Pressed}
use Rattle.memory.specs.declared.Memory.{Memory}
use Rattle.refusals.specs.Answers.{Done, Flag, changed, flag_given}
use Rattle.refusals.specs.Refusal.{or_else, refused_state, cycles_refused}
use Rattle.registers.specs.State.{loaded, timer_of, with_timer, with_controller, polled_in}
use Rattle.timer.specs.Timer.{updated}

abbrev pub set_joypad_state_call : Memory → ℕ → Done
set_joypad_state_call m s = changed (refused_state m) m (with_controller m (joypad.with_state m.core.joypad s))

abbrev pub action_keys_call : Memory → Flag
action_keys_call m = flag_given (refused_state m) (joypad.actions_answer (loaded m 0))

abbrev pub direction_keys_call : Memory → Flag
direction_keys_call m = flag_given (refused_state m) (joypad.directions_answer (loaded m 0))

-- 3, then 5
abbrev pub update_timer_call : Memory → ℕ → Done
update_timer_call m c = changed (or_else (refused_state m) (cycles_refused c)) m (with_timer m (updated (timer_of m) c))

-- 3, then the number of the joypad's own call
abbrev pub button_call : Memory → Pressed → Done
button_call m p = changed (or_else (refused_state m) p.number) m (with_controller m p.controller)

abbrev pub press_call : Memory → ℕ → Done
press_call m b = button_call m (joypad.press_call m.core.joypad b)

abbrev pub release_call : Memory → ℕ → Done
release_call m b = button_call m (joypad.release_call m.core.joypad b)

abbrev pub update_joypad_call : Memory → Done
update_joypad_call m = changed (refused_state m) m (polled_in m)
