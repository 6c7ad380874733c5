-- Raw load and store, interrupts, HDMA's flag, the log's clearing, each whole: number, answer, next state (document 01, "Numbers a call gives back").
use Rattle.std.specs.Prelude.{ℕ, ◌%◌, Option, Some, None}
use Rattle.interrupt.specs.PanDocs.{first_of}
use Rattle.interrupt.specs.Flags.{named}
use Rattle.interrupt.specs.declared.Interrupt.{Interrupt}
use Rattle.memory.specs.World.{with_used}
use Rattle.memory.specs.declared.Memory.{Memory}
use Rattle.numbers.specs.Numbers.{outside}
use Rattle.refusals.specs.Answers.{Byte, Done, Flag, Waiting, changed, byte_given, flag_given, waiting_given}
use Rattle.refusals.specs.Refusal.{or_else, refused_state, raw_refused}
use Rattle.registers.specs.State.{loaded, stored, requested_in, removed_in}
use Rattle.savelog.specs.Log.{cleared_use}

-- raw load and store: FF00..FFFF, by its low byte
abbrev pub load_call : Memory → ℕ → Byte
load_call m i = byte_given (or_else (refused_state m) (raw_refused i)) (loaded m (i % 256))

abbrev pub store_call : Memory → ℕ → ℕ → Done
store_call m i v = changed (or_else (refused_state m) (raw_refused i)) m (stored m (i % 256) v)

abbrev pub get_interrupts_call : Memory → Waiting
get_interrupts_call m = waiting_given (refused_state m) (first_of (loaded m 0xFF) (loaded m 0x0F))

-- 3, then 7 for an interrupt over 4
abbrev pub on_interrupt : Memory → (Memory → Interrupt → Memory) → Option Interrupt → Done
on_interrupt m f (Some i) = changed (refused_state m) m (f m i)
on_interrupt m f None = changed (or_else (refused_state m) outside) m m

abbrev pub request_call : Memory → ℕ → Done
request_call m n = on_interrupt m requested_in (named n)

abbrev pub remove_call : Memory → ℕ → Done
remove_call m n = on_interrupt m removed_in (named n)

abbrev pub hdma_enabled_call : Memory → Flag
hdma_enabled_call m = flag_given (refused_state m) m.core.hdma.on

-- clearing sets use to 0
abbrev pub clear_log_call : Memory → Done
clear_log_call m = changed (refused_state m) m (with_used m cleared_use)
