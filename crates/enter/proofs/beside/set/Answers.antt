-- Each number by its own entry; a signed one as it was given.
use mir.Facts.{to_z-of_z}
use mir.Syntax.{w32}
use Rattle.enter.proofs.beside.set.Goals as goal

pub returns-in-Disabled : goal.returns-in-Disabled
returns-in-Disabled c = rw c.in-Disabled.is c.pouch_set_screen_disabled.ensures

pub returns-in-Line : goal.returns-in-Line
returns-in-Line c = rw c.in-Line.is c.pouch_set_scan_line.ensures

pub returns-in-Signal : goal.returns-in-Signal
returns-in-Signal c = rw c.in-Signal.is c.pouch_set_irq48_signal.ensures

pub returns-in-Mode : goal.returns-in-Mode
returns-in-Mode c = rw c.in-Mode.is c.pouch_set_lcd_status_mode.ensures

pub returns-in-Delay : goal.returns-in-Delay
returns-in-Delay c = rw c.in-Delay.is (rw (to_z-of_z {w = w32} (record { sfits = c.in-Delay.known_told-in-Delay-1-own.given.0.1 })) at c.pouch_set_screen_enable_delay_cycles.ensures)

pub returns-in-Counter : goal.returns-in-Counter
returns-in-Counter c = rw c.in-Counter.is (rw (to_z-of_z {w = w32} (record { sfits = c.in-Counter.known_told-in-Counter-1-own.given.0.1 })) at c.pouch_set_cycles_counter.ensures)

pub returns-in-Aux : goal.returns-in-Aux
returns-in-Aux c = rw c.in-Aux.is (rw (to_z-of_z {w = w32} (record { sfits = c.in-Aux.known_told-in-Aux-1-own.given.0.1 })) at c.pouch_set_aux_cycles_counter.ensures)

pub returns-in-Window : goal.returns-in-Window
returns-in-Window c = rw c.in-Window.is (rw (to_z-of_z {w = w32} (record { sfits = c.in-Window.known_told-in-Window-1-own.given.0.1 })) at c.pouch_set_window_line.ensures)
