-- The calls of the bus as one function on worlds: number, value, and what is left (document 01, "How much a contract must say"). Lists of calls fold it
-- (crate promise).
use Rattle.std.specs.Prelude.{Bool, cond, ◌≡◌, ℕ, eqb, Option, Some, None, Result, Ok, Err}
use Rattle.bus.specs.Calls.{Outcome, outcome, Buffers, holding, read_byte_call, read_word_call, read_cgb_lcd_ram_call}
use Rattle.input_calls.specs.Input as input
use Rattle.interrupt.specs.PanDocs.{bit_of}
use Rattle.interrupt.specs.declared.Interrupt.{Interrupt}
use Rattle.memory.specs.World.{World, Fixed}
use Rattle.memory.specs.declared.Memory.{Memory}
use Rattle.mmu.specs.Access.{in_state}
use Rattle.numbers.specs.Numbers.{done}
use Rattle.numbers.specs.One.{OnlyOne}
use Rattle.numbers.specs.Refusal.{owed_number, refusal_number}
use Rattle.numbers.specs.declared.Refusal.{Refusal}
use Rattle.refusals.specs.Answers.{Done, Flag, Waiting}
use Rattle.screen_calls.specs.Screen as screen
use Rattle.state_calls.specs.State as state
use Rattle.transfer_calls.specs.Transfers.{do_dma_transfer_call, do_hdma_call}
use Rattle.write_calls.specs.Writes.{write_byte_call, write_word_call}
use Rattle.transfer_calls.specs.declared.Moved.{Moved}
use Rattle.write_calls.specs.declared.Wrote.{Wrote}
use Rattle.dispatch.specs.declared.Performed.{Performed}
use Rattle.dispatch.specs.declared.Call.{Call}
use Rattle.dispatch.specs.declared.Call.TheVariants as call
use Rattle.dispatch.specs.declared.StateCall.{StateCall}
use Rattle.dispatch.specs.declared.StateCall.TheVariants as on

-- What the dispatch answers: a flag is 0 or 1, an interrupt its bit, none 5

abbrev pub flag_number : Bool → ℕ
flag_number b = cond b 1 0

abbrev pub pending_number : Option Interrupt → ℕ
pending_number (Some i) = bit_of i
pending_number None = 5

-- a refused question gives 0, and the number tells it from Vblank
abbrev pub waiting_number : Waiting → ℕ
waiting_number p = cond (eqb p.number done) (pending_number p.pending) 0

abbrev pub performed : ℕ → ℕ → Memory → Performed
performed n v m = record { number = n; value = v; memory = m }

abbrev pub performed_done : Done → Performed
performed_done d = performed d.number 0 d.memory

abbrev pub performed_flag : Memory → Flag → Performed
performed_flag m b = performed b.number (flag_number b.value) m

-- a refused call gives 0 and leaves the state as it was

abbrev pub performed_wrote : Memory → Result Wrote Refusal → Performed
performed_wrote m (Ok r) = performed (owed_number r.owed) 0 r.memory
performed_wrote m (Err e) = performed (refusal_number e) 0 m

abbrev pub performed_moved : Memory → Result Moved Refusal → Performed
performed_moved m (Ok r) = performed done r.cycles r.memory
performed_moved m (Err e) = performed (refusal_number e) 0 m

-- a call on the state alone leaves the lent memories
abbrev pub in_world : World → Performed → Outcome
in_world w p = outcome p.number p.value (in_state w p.memory)

-- the calls on the state alone
unfoldable pub state_step : Memory → StateCall → Performed
state_step m (on.Load i) = performed (state.load_call m i).number (state.load_call m i).value m
state_step m (on.Store i v) = performed_done (state.store_call m i v)
state_step m (on.SetJoypadState s) = performed_done (input.set_joypad_state_call m s)
state_step m on.AreActionKeysEnabled = performed_flag m (input.action_keys_call m)
state_step m on.AreDirectionKeysEnabled = performed_flag m (input.direction_keys_call m)
state_step m (on.DoLcdControlWrite v) = performed_done (screen.control_call m v)
state_step m (on.DoLcdStatusWrite v) = performed_done (screen.status_call m v)
state_step m (on.DoScanlineWrite v) = performed_done (screen.scanline_call m v)
state_step m (on.DoLycWrite v) = performed_done (screen.lyc_call m v)
state_step m on.CompareLyToLyc = performed_done (screen.compare_call m)
state_step m on.EnableScreen = performed_done (screen.enable_call m)
state_step m on.DisableScreen = performed_done (screen.disable_call m)
state_step m on.ResetWindowLine = performed_done (screen.window_call m)
state_step m on.GetInterrupts = performed (state.get_interrupts_call m).number (waiting_number (state.get_interrupts_call m)) m
state_step m (on.RequestInterrupt n) = performed_done (state.request_call m n)
state_step m (on.RemoveInterrupt n) = performed_done (state.remove_call m n)
state_step m on.IsHdmaEnabled = performed_flag m (state.hdma_enabled_call m)
state_step m (on.UpdateTimer c) = performed_done (input.update_timer_call m c)
state_step m (on.Press b) = performed_done (input.press_call m b)
state_step m (on.Release b) = performed_done (input.release_call m b)
state_step m on.UpdateJoypad = performed_done (input.update_joypad_call m)
state_step m on.ClearLog = performed_done (state.clear_log_call m)
state_step m (on.Host lcd) = performed_done (screen.host_call m lcd)

-- all calls, on a world
unfoldable pub step : Fixed → World → Call → Outcome
step x w (call.ReadByte i) = outcome (read_byte_call x w i).number (read_byte_call x w i).value w
step x w (call.ReadWord i) = outcome (read_word_call x w i).number (read_word_call x w i).value w
step x w (call.ReadCgbLcdRam i bank) = outcome (read_cgb_lcd_ram_call w i bank).number (read_cgb_lcd_ram_call w i bank).value w
step x w (call.WriteByte i v) = write_byte_call x w i v
step x w (call.WriteWord i v) = write_word_call x w i v
step x w (call.DoDmaTransfer page) = do_dma_transfer_call x w page
step x w call.DoHdma = do_hdma_call x w
step x w (call.State c) = in_world w (state_step w.state c)

-- What is promised of the dispatch: of its result, and of the memories as it leaves them
abbrev pub Performs : Fixed → World → Call → Performed → Buffers → Type 0
Performs x w c r left = outcome r.number r.value (holding r.memory left) ≡ step x w c

-- no second outcome fits, of any call
abbrev pub OnePerformed : Type 0
OnePerformed = (x : Fixed) (w : World) (c : Call) → OnlyOne (Performs x w c)
