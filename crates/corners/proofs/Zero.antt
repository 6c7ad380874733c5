-- Every call refuses the all-zero state; and who refuses RAM code 4.
use mathlib.Core.Bool.{and-false}
use mathlib.Core.Path.{◌≡◌, refl}
use Prim.Native.Nat.{ℕ}
use Rattle.bus.specs.Calls.{unless}
use Rattle.dispatch.specs.Step.{performed, performed_done, state_step, step}
use Rattle.dispatch.specs.declared.Call.TheVariants as call
use Rattle.dispatch.specs.declared.StateCall.{StateCall}
use Rattle.dispatch.specs.declared.StateCall.TheVariants as on
use Rattle.interrupt.specs.Flags.{named}
use Rattle.interrupt.specs.declared.Interrupt.{Interrupt}
use Rattle.std.specs.Prelude.{Option}
use Rattle.std.specs.Prelude.{Some, None}
use Rattle.mbc.specs.Mbc as mbc
use Rattle.memory.proofs.Laws.{zero_refused}
use Rattle.memory.specs.Start.{zeroed}
use Rattle.memory.specs.World.{World, Fixed}
use Rattle.memory.specs.declared.Memory.{Memory}
use Rattle.numbers.specs.Numbers.{out_of_range}
use Rattle.refusals.specs.Answers.{changed, byte_given, word_given, flag_given, waiting_given}
use Rattle.refusals.specs.Refusal.{or_else, state_refused, read_refused, lent_refused, write_refused, refused_state, refused_read, refused_write}
use Rattle.registers.specs.State.{requested_in, removed_in}
use Rattle.savelog.specs.Log.{log_limit}
use Rattle.state_calls.specs.State.{on_interrupt}
use Rattle.corners.specs.Laws.{ZeroRefused, CodeFour}

state_closed : (m : Memory) → m ≡ zeroed → (limit : ℕ) → state_refused m limit ≡ out_of_range
unfolding state_refused
state_closed m e limit = rw (e, zero_refused limit)

module _ (m : Memory) (h : refused_state m ≡ out_of_range) where
  interrupt_closed : (f : Memory → Interrupt → Memory) (p : Option Interrupt) → performed_done (on_interrupt m f p) ≡ performed out_of_range 0 m
  unfolding changed or_else
  interrupt_closed f (Some i) = rw h
  interrupt_closed f None = rw h

  calls_closed : (c : StateCall) → state_step m c ≡ performed out_of_range 0 m
  unfolding state_step changed or_else byte_given flag_given waiting_given
  calls_closed (on.Load i) = rw h
  calls_closed (on.Store i v) = rw h
  calls_closed (on.SetJoypadState s) = rw h
  calls_closed on.AreActionKeysEnabled = rw h
  calls_closed on.AreDirectionKeysEnabled = rw h
  calls_closed (on.DoLcdControlWrite v) = rw h
  calls_closed (on.DoLcdStatusWrite v) = rw h
  calls_closed (on.DoScanlineWrite v) = rw h
  calls_closed (on.DoLycWrite v) = rw h
  calls_closed on.CompareLyToLyc = rw h
  calls_closed on.EnableScreen = rw h
  calls_closed on.DisableScreen = rw h
  calls_closed on.ResetWindowLine = rw h
  calls_closed on.GetInterrupts = rw h
  calls_closed (on.RequestInterrupt n) = interrupt_closed requested_in (named n)
  calls_closed (on.RemoveInterrupt n) = interrupt_closed removed_in (named n)
  calls_closed on.IsHdmaEnabled = rw h
  calls_closed (on.UpdateTimer c) = rw h
  calls_closed (on.Press b) = rw h
  calls_closed (on.Release b) = rw h
  calls_closed on.UpdateJoypad = rw h
  calls_closed on.ClearLog = rw h
  calls_closed (on.Host lcd) = rw h

module _ (x : Fixed) (w : World) (e : w.state ≡ zeroed) where
  read_closed : refused_read x w ≡ out_of_range
  unfolding read_refused or_else
  read_closed = rw (state_closed w.state e log_limit)

  write_closed : refused_write x w ≡ out_of_range
  unfolding write_refused lent_refused or_else
  write_closed = rw (state_closed w.state e _)

pub zero_closed : ZeroRefused
unfolding step byte_given word_given unless or_else
zero_closed x w (call.ReadByte i) e = rw (read_closed x w e)
zero_closed x w (call.ReadWord i) e = rw (read_closed x w e)
zero_closed x w (call.ReadCgbLcdRam i bank) e = rw (state_closed w.state e log_limit)
zero_closed x w (call.WriteByte i v) e = rw (write_closed x w e)
zero_closed x w (call.WriteWord i v) e = rw (write_closed x w e)
zero_closed x w (call.DoDmaTransfer page) e = rw (write_closed x w e)
zero_closed x w call.DoHdma e = rw (write_closed x w e)
zero_closed x w (call.State c) e = rw (calls_closed w.state (state_closed w.state e log_limit) c)

-- RAM code 4, mapper by mapper: what is asked of N does not come to matter
pub code_four : CodeFour
unfolding mbc.fresh mbc.described mbc.start mbc.has_banks mbc.has_code mbc.ram_banks mbc.ram_len
code_four = (
  λ n. rw (and-false (mbc.has_banks 2 (mbc.cartridge_of n 4))),
  λ n. rw (and-false (mbc.has_banks 128 (mbc.cartridge_of n 4))),
  λ n. rw (and-false (mbc.has_banks 16 (mbc.cartridge_of n 4))),
  refl,
  refl,
  λ n. refl,
)
