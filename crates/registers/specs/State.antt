-- The Rust's functions on `Memory` that touch the state alone (document 01, "The part we take": public calls), each by the definition of the crate
-- that knows its rule. Which byte of the page holds which register is the Rust's list of `_INDEX` constants (mmu/mod.rs), as in Pan Docs.
use Rattle.std.specs.Prelude.{ℕ, get_or, set}
use Rattle.interrupt.specs.Flags.{requested, removed}
use Rattle.interrupt.specs.declared.Interrupt.{Interrupt}
use Rattle.joypad.specs.Joypad.{polled}
use Rattle.joypad.specs.declared.Controller.{Controller}
use Rattle.lcd.specs.declared.Lcd.{Lcd}
use Rattle.lcd.specs.declared.Screen.{Screen}
use Rattle.memory.specs.World.{with_page, with_lcd, with_clock, with_joypad}
use Rattle.memory.specs.declared.Memory.{Memory}
use Rattle.timer.specs.declared.Timer.{Timer}

-- `load` and `store`: FF00 + at, raw
abbrev pub loaded : Memory → ℕ → ℕ
loaded m at = get_or m.page at 0

abbrev pub stored : Memory → ℕ → ℕ → Memory
stored m at v = with_page m (set m.page at v)

-- the screen with FF40, FF41, FF45, FF4A and FF0F
abbrev pub screen_of : Memory → Screen
screen_of m =
    record {
      lcd = m.core.lcd;
      control = loaded m 0x40;
      status = loaded m 0x41;
      compare = loaded m 0x45;
      wy = loaded m 0x4A;
      flags = loaded m 0x0F;
    }

abbrev pub with_screen : Memory → Screen → Memory
with_screen m s =
    with_lcd m s.lcd
    (set (set (set (set m.page 0x40 s.control) 0x41 s.status) 0x45 s.compare) 0x0F s.flags)

-- an LCD function on the state
unfoldable pub on_screen : (Screen → Screen) → Memory → Memory
on_screen f m = with_screen m (f (screen_of m))

-- the host's call sets the eight numbers
abbrev pub hosted : Memory → Lcd → Memory
hosted m lcd = with_lcd m lcd m.page

-- FF04..FF07 and FF0F, with the two remainders
abbrev pub timer_of : Memory → Timer
timer_of m =
    record {
      div = loaded m 0x04;
      tima = loaded m 0x05;
      tma = loaded m 0x06;
      tac = loaded m 0x07;
      flags = loaded m 0x0F;
      div_cycles = m.core.clock.div;
      tima_cycles = m.core.clock.tima;
    }

-- an update leaves TMA and TAC
abbrev pub with_timer : Memory → Timer → Memory
with_timer m t =
    with_clock m (record { div = t.div_cycles; tima = t.tima_cycles })
    (set (set (set m.page 0x04 t.div) 0x05 t.tima) 0x0F t.flags)

-- FF0F after a request and a removal
abbrev pub requested_in : Memory → Interrupt → Memory
requested_in m i = stored m 0x0F (requested (loaded m 0x0F) i)

abbrev pub removed_in : Memory → Interrupt → Memory
removed_in m i = stored m 0x0F (removed (loaded m 0x0F) i)

abbrev pub with_controller : Memory → Controller → Memory
with_controller m c = with_joypad m c m.page

-- the joypad's update
abbrev pub polled_in : Memory → Memory
polled_in m =
    with_joypad m (polled m.core.joypad (loaded m 0x00) (loaded m 0x0F)).controller
    (set m.page 0x0F (polled m.core.joypad (loaded m 0x00) (loaded m 0x0F)).flags)
