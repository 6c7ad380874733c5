-- What a call's number says, and what kind of call it is, told by the call alone (document 01, "Numbers a call gives back" and "The bus").
use Rattle.std.specs.Prelude.{Bool, ℕ, ltb}
use Rattle.numbers.specs.Numbers.{owed}
use Rattle.dispatch.specs.declared.Call.{Call}
use Rattle.dispatch.specs.declared.Call.TheVariants as call
use Rattle.dispatch.specs.declared.StateCall.{StateCall}
use Rattle.dispatch.specs.declared.StateCall.TheVariants as on

-- "Numbers a call gives back": 0 and 1 are done, any other number refuses
abbrev pub refused : ℕ → Bool
refused n = ltb owed n

-- a call reads, clears the log, or is any other
pub data Kind : Type 0 where
  Reading : Kind
  Clearing : Kind
  Other : Kind

unfoldable pub state_kind : StateCall → Kind
state_kind (on.Load i) = Reading
state_kind (on.Store i v) = Other
state_kind (on.SetJoypadState s) = Other
state_kind on.AreActionKeysEnabled = Reading
state_kind on.AreDirectionKeysEnabled = Reading
state_kind (on.DoLcdControlWrite v) = Other
state_kind (on.DoLcdStatusWrite v) = Other
state_kind (on.DoScanlineWrite v) = Other
state_kind (on.DoLycWrite v) = Other
state_kind on.CompareLyToLyc = Other
state_kind on.EnableScreen = Other
state_kind on.DisableScreen = Other
state_kind on.ResetWindowLine = Other
state_kind on.GetInterrupts = Reading
state_kind (on.RequestInterrupt n) = Other
state_kind (on.RemoveInterrupt n) = Other
state_kind on.IsHdmaEnabled = Reading
state_kind (on.UpdateTimer c) = Other
state_kind (on.Press b) = Other
state_kind (on.Release b) = Other
state_kind on.UpdateJoypad = Other
state_kind on.ClearLog = Clearing
state_kind (on.Host lcd) = Other

unfoldable pub kind_of : Call → Kind
kind_of (call.ReadByte i) = Reading
kind_of (call.ReadWord i) = Reading
kind_of (call.ReadCgbLcdRam i bank) = Reading
kind_of (call.WriteByte i v) = Other
kind_of (call.WriteWord i v) = Other
kind_of (call.DoDmaTransfer page) = Other
kind_of call.DoHdma = Other
kind_of (call.State c) = state_kind c
