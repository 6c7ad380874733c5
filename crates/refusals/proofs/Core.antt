-- A state in range, as an image gives it, is refused by the lent lengths and the log's use alone.
use Rattle.std.proofs.Common.{◌≡◌, ℕ, true}
use Rattle.memory.specs.Ranges.{in_range}
use Rattle.memory.specs.declared.Memory.{Memory}
use Rattle.savelog.specs.Log.{log_limit}
use Rattle.refusals.specs.Refusal.{or_else, state_refused, use_refused, lengths_refused, lent_refused, read_refused, write_refused}
use Rattle.refusals.proofs.Answers.{range_state}

module _ (m : Memory) (h : in_range m log_limit ≡ true) where
  pub state_use : (log : ℕ) → state_refused m log ≡ use_refused m.core.used log
  unfolding state_refused use_refused in_range
  state_use log = rw (range_state m log_limit h)

  pub read_lengths : (rom vram wram save sound : ℕ)
      → read_refused m rom vram wram save sound ≡ lengths_refused m.core rom vram wram save sound
  unfolding read_refused state_refused or_else
  read_lengths rom vram wram save sound = rw h

  pub write_lent : (rom vram wram save sound log : ℕ)
      → write_refused m rom vram wram save sound log
      ≡ or_else (use_refused m.core.used log) (lent_refused m.core rom vram wram save sound log)
  unfolding write_refused
  write_lent rom vram wram save sound log = rw (state_use log)
