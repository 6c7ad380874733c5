-- Each call by its own arm: what its entry changes or gives, with nothing else held.
use mathlib.Core.List.{[]}
use mathlib.Core.Path.{ap}
use Rattle.dispatch.specs.Kinds.{state_kind}
use Rattle.entry.specs.EntryContracts.{holding}
use Rattle.entry.specs.Entries.{asks, changes, entry}
use Rattle.enter.proofs.enter_state.Goals as goal

pub returns-in-Load : goal.returns-in-Load
unfolding entry state_kind
returns-in-Load c = rw (c.in-Load.is, c.of_value.ensures) (ap (asks (holding _ [] [] [] [])) c.pouch_load-number.ensures)

pub returns-in-Store : goal.returns-in-Store
unfolding entry state_kind
returns-in-Store c = rw (c.in-Store.is, c.of_number.ensures) (ap (changes (holding [] [] [] [] [])) c.pouch_store.ensures)

pub returns-in-SetJoypadState : goal.returns-in-SetJoypadState
unfolding entry state_kind
returns-in-SetJoypadState c = rw (c.in-SetJoypadState.is, c.of_number-in-SetJoypadState.ensures) (ap (changes (holding [] [] [] [] [])) c.pouch_set_joypad_state.ensures)

pub returns-in-AreActionKeysEnabled : goal.returns-in-AreActionKeysEnabled
unfolding entry state_kind
returns-in-AreActionKeysEnabled c = rw (c.in-AreActionKeysEnabled.is, c.of_value-in-AreActionKeysEnabled.ensures) (ap (asks (holding _ [] [] [] [])) c.pouch_are_action_keys_enabled-number.ensures)

pub returns-in-AreDirectionKeysEnabled : goal.returns-in-AreDirectionKeysEnabled
unfolding entry state_kind
returns-in-AreDirectionKeysEnabled c = rw (c.in-AreDirectionKeysEnabled.is, c.of_value-in-AreDirectionKeysEnabled.ensures) (ap (asks (holding _ [] [] [] [])) c.pouch_are_direction_keys_enabled-number.ensures)

pub returns-in-DoLcdControlWrite : goal.returns-in-DoLcdControlWrite
unfolding entry state_kind
returns-in-DoLcdControlWrite c = rw (c.in-DoLcdControlWrite.is, c.of_number-in-DoLcdControlWrite.ensures) (ap (changes (holding [] [] [] [] [])) c.pouch_do_lcd_control_write.ensures)

pub returns-in-DoLcdStatusWrite : goal.returns-in-DoLcdStatusWrite
unfolding entry state_kind
returns-in-DoLcdStatusWrite c = rw (c.in-DoLcdStatusWrite.is, c.of_number-in-DoLcdStatusWrite.ensures) (ap (changes (holding [] [] [] [] [])) c.pouch_do_lcd_status_write.ensures)

pub returns-in-DoScanlineWrite : goal.returns-in-DoScanlineWrite
unfolding entry state_kind
returns-in-DoScanlineWrite c = rw (c.in-DoScanlineWrite.is, c.of_number-in-DoScanlineWrite.ensures) (ap (changes (holding [] [] [] [] [])) c.pouch_do_scanline_write.ensures)

pub returns-in-DoLycWrite : goal.returns-in-DoLycWrite
unfolding entry state_kind
returns-in-DoLycWrite c = rw (c.in-DoLycWrite.is, c.of_number-in-DoLycWrite.ensures) (ap (changes (holding [] [] [] [] [])) c.pouch_do_lyc_write.ensures)

pub returns-in-CompareLyToLyc : goal.returns-in-CompareLyToLyc
unfolding entry state_kind
returns-in-CompareLyToLyc c = rw (c.in-CompareLyToLyc.is, c.of_number-in-CompareLyToLyc.ensures) (ap (changes (holding [] [] [] [] [])) c.pouch_compare_ly_to_lyc.ensures)

pub returns-in-EnableScreen : goal.returns-in-EnableScreen
unfolding entry state_kind
returns-in-EnableScreen c = rw (c.in-EnableScreen.is, c.of_number-in-EnableScreen.ensures) (ap (changes (holding [] [] [] [] [])) c.pouch_enable_screen.ensures)

pub returns-in-DisableScreen : goal.returns-in-DisableScreen
unfolding entry state_kind
returns-in-DisableScreen c = rw (c.in-DisableScreen.is, c.of_number-in-DisableScreen.ensures) (ap (changes (holding [] [] [] [] [])) c.pouch_disable_screen.ensures)

pub returns-in-ResetWindowLine : goal.returns-in-ResetWindowLine
unfolding entry state_kind
returns-in-ResetWindowLine c = rw (c.in-ResetWindowLine.is, c.of_number-in-ResetWindowLine.ensures) (ap (changes (holding [] [] [] [] [])) c.pouch_reset_window_line.ensures)

pub returns-in-GetInterrupts : goal.returns-in-GetInterrupts
unfolding entry state_kind
returns-in-GetInterrupts c = rw (c.in-GetInterrupts.is, c.of_value-in-GetInterrupts.ensures) (ap (asks (holding _ [] [] [] [])) c.pouch_get_interrupts-number.ensures)

pub returns-in-RequestInterrupt : goal.returns-in-RequestInterrupt
unfolding entry state_kind
returns-in-RequestInterrupt c = rw (c.in-RequestInterrupt.is, c.of_number-in-RequestInterrupt.ensures) (ap (changes (holding [] [] [] [] [])) c.pouch_request_interrupt.ensures)

pub returns-in-RemoveInterrupt : goal.returns-in-RemoveInterrupt
unfolding entry state_kind
returns-in-RemoveInterrupt c = rw (c.in-RemoveInterrupt.is, c.of_number-in-RemoveInterrupt.ensures) (ap (changes (holding [] [] [] [] [])) c.pouch_remove_interrupt.ensures)

pub returns-in-IsHdmaEnabled : goal.returns-in-IsHdmaEnabled
unfolding entry state_kind
returns-in-IsHdmaEnabled c = rw (c.in-IsHdmaEnabled.is, c.of_value-in-IsHdmaEnabled.ensures) (ap (asks (holding _ [] [] [] [])) c.pouch_is_hdma_enabled-number.ensures)

pub returns-in-UpdateTimer : goal.returns-in-UpdateTimer
unfolding entry state_kind
returns-in-UpdateTimer c = rw (c.in-UpdateTimer.is, c.of_number-in-UpdateTimer.ensures) (ap (changes (holding [] [] [] [] [])) c.pouch_update_timer.ensures)

pub returns-in-Press : goal.returns-in-Press
unfolding entry state_kind
returns-in-Press c = rw (c.in-Press.is, c.of_number-in-Press.ensures) (ap (changes (holding [] [] [] [] [])) c.pouch_press.ensures)

pub returns-in-Release : goal.returns-in-Release
unfolding entry state_kind
returns-in-Release c = rw (c.in-Release.is, c.of_number-in-Release.ensures) (ap (changes (holding [] [] [] [] [])) c.pouch_release.ensures)

pub returns-in-UpdateJoypad : goal.returns-in-UpdateJoypad
unfolding entry state_kind
returns-in-UpdateJoypad c = rw (c.in-UpdateJoypad.is, c.of_number-in-UpdateJoypad.ensures) (ap (changes (holding [] [] [] [] [])) c.pouch_update_joypad.ensures)

pub returns-in-ClearLog : goal.returns-in-ClearLog
unfolding entry state_kind
returns-in-ClearLog c = rw (c.in-ClearLog.is, c.of_number-in-ClearLog.ensures) (ap (changes (holding [] [] [] [] [])) c.pouch_clear_log.ensures)

pub returns-in-Host : goal.returns-in-Host
unfolding entry state_kind
returns-in-Host c = rw (c.in-Host.is, c.of_number-in-Host.ensures) (ap (changes (holding [] [] [] [] [])) c.enter_host.ensures)
