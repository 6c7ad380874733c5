-- What the types of C and of the code say: u8 is below 256, u16 below 65,536, i32 is of 32 bits with a sign. (A number of this language has no bound.)
use Rattle.std.specs.Prelude.{List, [], ◌∷◌, ◌<◌}
use Rattle.std.specs.Int.{w32}
use Rattle.std.proofs.Common.{SFits}
use Rattle.dispatch.specs.declared.Call.{Call}
use Rattle.dispatch.specs.declared.Call.TheVariants as call
use Rattle.dispatch.specs.declared.StateCall.{StateCall}
use Rattle.dispatch.specs.declared.StateCall.TheVariants as on
use Rattle.image.specs.Laws.{Typed}
use Rattle.lcd.specs.declared.Lcd.{Lcd}
use Rattle.memory.specs.World.{World}
use Rattle.packing.specs.Packing.{Below}
use Rattle.promise.specs.Runs.{Lending, Own, Another, Turn}

-- the host's eight numbers
pub record LcdTyped (l : Lcd) : Type 0 where
  pub line : l.line < 256
  pub signal : l.signal < 256
  pub mode : l.mode < 256
  pub delay : SFits w32 l.delay
  pub counter : SFits w32 l.counter
  pub aux : SFits w32 l.aux
  pub window : SFits w32 l.window

-- of a call, what can reach the state
abbrev pub StateTyped : StateCall → Type 0
StateTyped (on.Load i) = Unit {0}
StateTyped (on.Store i v) = v < 256
StateTyped (on.SetJoypadState s) = s < 256
StateTyped on.AreActionKeysEnabled = Unit {0}
StateTyped on.AreDirectionKeysEnabled = Unit {0}
StateTyped (on.DoLcdControlWrite v) = v < 256
StateTyped (on.DoLcdStatusWrite v) = v < 256
StateTyped (on.DoScanlineWrite v) = v < 256
StateTyped (on.DoLycWrite v) = v < 256
StateTyped on.CompareLyToLyc = Unit {0}
StateTyped on.EnableScreen = Unit {0}
StateTyped on.DisableScreen = Unit {0}
StateTyped on.ResetWindowLine = Unit {0}
StateTyped on.GetInterrupts = Unit {0}
StateTyped (on.RequestInterrupt n) = Unit {0}
StateTyped (on.RemoveInterrupt n) = Unit {0}
StateTyped on.IsHdmaEnabled = Unit {0}
StateTyped (on.UpdateTimer c) = Unit {0}
StateTyped (on.Press b) = Unit {0}
StateTyped (on.Release b) = Unit {0}
StateTyped on.UpdateJoypad = Unit {0}
StateTyped on.ClearLog = Unit {0}
StateTyped (on.Host lcd) = LcdTyped lcd

abbrev pub CallTyped : Call → Type 0
CallTyped (call.ReadByte i) = Unit {0}
CallTyped (call.ReadWord i) = Unit {0}
CallTyped (call.ReadCgbLcdRam i bank) = Unit {0}
CallTyped (call.WriteByte i v) = v < 256
CallTyped (call.WriteWord i v) = v < 65536
CallTyped (call.DoDmaTransfer page) = Unit {0}
CallTyped call.DoHdma = Unit {0}
CallTyped (call.State c) = StateTyped c

-- what is lent is bytes; the log is never read
abbrev pub LendingTyped : Lending → Type 0
LendingTyped Own = Unit {0}
LendingTyped (Another l) = Below 256 l

pub record TurnTyped (t : Turn) : Type 0 where
  pub rom : Below 256 t.read.rom
  pub sound : Below 256 t.read.sound
  pub vram : Below 256 t.vram
  pub wram : Below 256 t.wram
  pub save : LendingTyped t.save
  pub call : CallTyped t.call

abbrev pub TurnsTyped : List Turn → Type 0
TurnsTyped [] = Unit {0}
TurnsTyped (t ∷ ts) = TurnTyped t × TurnsTyped ts

-- so is what lies between the calls; video and work memory come with each
pub record WorldTyped (w : World) : Type 0 where
  pub state : Typed w.state
  pub save : Below 256 w.save
