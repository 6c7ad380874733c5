-- The screen's calls, each whole: number and next state (document 01, "Numbers a call gives back", "The part we take").
use Rattle.std.specs.Prelude.{ℕ}
use Rattle.lcd.specs.declared.Lcd.{Lcd}
use Rattle.lcd.specs.Lcd.{screen_enabled, screen_disabled, window_line_reset, ly_compared, scanline_written, lyc_written, control_written, status_written}
use Rattle.memory.specs.declared.Memory.{Memory}
use Rattle.refusals.specs.Answers.{Done, changed}
use Rattle.refusals.specs.Refusal.{refused_state}
use Rattle.registers.specs.State.{on_screen, hosted}

abbrev pub control_call : Memory → ℕ → Done
control_call m v = changed (refused_state m) m (on_screen (λ s. control_written s v) m)

abbrev pub status_call : Memory → ℕ → Done
status_call m v = changed (refused_state m) m (on_screen (λ s. status_written s v) m)

abbrev pub scanline_call : Memory → ℕ → Done
scanline_call m v = changed (refused_state m) m (on_screen (λ s. scanline_written s v) m)

abbrev pub lyc_call : Memory → ℕ → Done
lyc_call m v = changed (refused_state m) m (on_screen (λ s. lyc_written s v) m)

abbrev pub compare_call : Memory → Done
compare_call m = changed (refused_state m) m (on_screen ly_compared m)

abbrev pub enable_call : Memory → Done
enable_call m = changed (refused_state m) m (on_screen screen_enabled m)

abbrev pub disable_call : Memory → Done
disable_call m = changed (refused_state m) m (on_screen screen_disabled m)

abbrev pub window_call : Memory → Done
window_call m = changed (refused_state m) m (on_screen window_line_reset m)

-- the host sets the eight numbers, to any values
abbrev pub host_call : Memory → Lcd → Done
host_call m lcd = changed (refused_state m) m (hosted m lcd)
