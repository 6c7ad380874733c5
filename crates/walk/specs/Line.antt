-- A line of the bus walk, whole: what it prints and what it leaves (document 01, "Corners that decide", the last paragraph).
use Rattle.std.specs.Prelude.{◌≡◌, List, [], Option, Some, None, ℕ, ◌%◌, ◌≤◌, length}
use Rattle.bus.specs.Calls.{Outcome, read_byte_call}
use Rattle.commands.specs.Walk.{command_of, read_text, write_text, update_text, strange_text, text_of}
use Rattle.commands.specs.declared.bytes.Bytes.{Bytes}
use Rattle.commands.specs.declared.command.Command.{Command}
use Rattle.commands.specs.declared.command.Command.TheVariants.{Read, Write, Update}
use Rattle.input_calls.specs.Input.{update_timer_call}
use Rattle.memory.specs.World.{World, Fixed, world}
use Rattle.refusals.specs.Answers.{Done}
use Rattle.write_calls.specs.Writes.{write_byte_call}

-- ROM byte at a is a modulo 256
abbrev pub rom_byte : ℕ → ℕ
rom_byte a = a % 256

-- what is printed, and the bus with its memories after the line
pub record Walked : Type 0 where
  pub text : List ℕ
  pub after : World

abbrev pub walked : List ℕ → World → Walked
walked t w = record { text = t; after = w }

-- a write prints its number
abbrev pub written : ℕ → Outcome → Walked
written i o = walked (write_text i o.number) o.after

-- a timer update changes the state alone, and prints its number
abbrev pub timed : World → Done → Walked
timed w d = walked (update_text d.number) (world d.memory w.vram w.wram w.save w.log)

-- a read changes nothing and prints its byte; it is lent no log
unfoldable pub walked_by : Fixed → World → Option Command → Walked
walked_by x w (Some (Read i)) = walked (read_text i (read_byte_call x (world w.state w.vram w.wram w.save []) i).value) w
walked_by x w (Some (Write i v)) = written i (write_byte_call x w i v)
walked_by x w (Some (Update c)) = timed w (update_timer_call w.state c)
walked_by x w None = walked strange_text w

abbrev pub line_walked : Fixed → World → List ℕ → Walked
line_walked x w s = walked_by x w (command_of s)

-- a text and a world are those of a line
abbrev pub Answers : Bytes 10 → World → Walked → Type 0
Answers t w a = (walked (text_of t) w ≡ a) × (length (text_of t) ≤ 10)
