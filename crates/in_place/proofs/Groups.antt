-- The functions whose bytes and fields are more than one: the bytes that are read are those of the state, and those that are put make the image of the
-- changed state.
use mathlib.Core.List.{List}
use mathlib.Core.Path.{◌≡◌, ap, ◌∙◌}
use Prim.Native.Nat.{ℕ}
use native.Mathlib.Omega.{arith}
use lib.ListN.{get_or, set}
use Rattle.image.specs.Layout.{image_of}
use Rattle.image.proofs.PatchLaws.{joypad_bytes}
use Rattle.image.specs.Load.{lcd_of, clock_of}
use Rattle.image.specs.Patches.{fields, put, lcd_fields, joypad_fields, clock_put}
use Rattle.joypad.proofs.Bytes.{update_bytes}
use Rattle.joypad.specs.Joypad.{polled}
use Rattle.joypad.specs.declared.Controller.{Controller}
use Rattle.joypad.specs.declared.Polled.{Polled}
use Rattle.lcd.proofs.Laws.{ScreenBytes, ScreenNumbers}
use Rattle.lcd.specs.declared.Lcd.{Lcd}
use Rattle.lcd.specs.declared.Screen.{Screen}
use Rattle.memory.specs.declared.Clock.{Clock}
use Rattle.memory.specs.declared.Core.{Core}
use Rattle.memory.specs.declared.Memory.{Memory}
use Rattle.registers.specs.State.{loaded, timer_of, with_timer, screen_of, with_screen, on_screen, polled_in}
use Rattle.timer.specs.Promises.{Ready}
use Rattle.timer.specs.declared.Timer.{Timer}
use Rattle.in_place.specs.Held.{Held}
use Rattle.in_place.proofs.Images.{state, held, byte, core, put_byte, put_clock, put_joypad, put_lcd}

-- the timer of an image's bytes and a clock
abbrev pub timer_read : List ℕ → Clock → Timer
timer_read i c =
    record {
      div = get_or i 0x104 0;
      tima = get_or i 0x105 0;
      tma = get_or i 0x106 0;
      tac = get_or i 0x107 0;
      flags = get_or i 0x10F 0;
      div_cycles = c.div;
      tima_cycles = c.tima;
    }

module _ (i : List ℕ) (h : Held i) where
  -- the timer
  pub timer_in : {c : Clock} → c ≡ clock_of (fields i) → timer_read i c ≡ timer_of (state i h)
  timer_in e =
      rw (
        e ∙ ap (λ (k : Core). k.clock) (core i h),
        byte i h 0x04 (omega arith),
        byte i h 0x05 (omega arith),
        byte i h 0x06 (omega arith),
        byte i h 0x07 (omega arith),
        byte i h 0x0F (omega arith),
      )

  pub timer_image : (u : Timer) → Ready u → {j : List ℕ}
      → j
      ≡ clock_put (set (set (set i 0x104 u.div) 0x105 u.tima) 0x10F u.flags) (record { div = u.div_cycles; tima = u.tima_cycles })
      → j ≡ image_of (with_timer (state i h) u)
  timer_image u r e =
      let a = put_byte (held i h) 0x04 u.div (omega arith) r.div in
      let b = put_byte a 0x05 u.tima (omega arith) r.tima in
      let c = put_byte b 0x0F u.flags (omega arith) r.flags in
      e ∙ (put_clock c (record { div = u.div_cycles; tima = u.tima_cycles }) r.div_cycles_law r.tima_cycles_law).same

  -- the joypad's update
  pub polled_image : {k : Controller} {r : Polled} {j : List ℕ} → k ≡ (state i h).core.joypad → r ≡ polled k (get_or i 0x100 0) (get_or i 0x10F 0)
      → j ≡ put (joypad_fields r.controller) (set i 0x10F r.flags) → j ≡ image_of (polled_in (state i h))
  polled_image {k} {r} {j} a b c =
      let m = state i h in
      let p : r ≡ polled m.core.joypad (loaded m 0x00) (loaded m 0x0F) = rw (b, a, byte i h 0x00 (omega arith), byte i h 0x0F (omega arith)) in
      let t = (held i h).typed in
      let u = update_bytes m.core.joypad (loaded m 0x00) (loaded m 0x0F) (joypad_bytes t) (t.page.1 0x0F) in
      rw p at c ∙ (put_joypad (put_byte (held i h) 0x0F _ (omega arith) u.1) _ u.0).same

  -- the screen
  pub screen_in : {l : Lcd} → l ≡ lcd_of (fields i)
      → record { lcd = l; control = get_or i 0x140 0; status = get_or i 0x141 0; compare = get_or i 0x145 0; wy = get_or i 0x14A 0; flags = get_or i 0x10F 0 }
      ≡ screen_of (state i h)
  screen_in e =
      rw (
        e ∙ ap (λ (k : Core). k.lcd) (core i h),
        byte i h 0x40 (omega arith),
        byte i h 0x41 (omega arith),
        byte i h 0x45 (omega arith),
        byte i h 0x4A (omega arith),
        byte i h 0x0F (omega arith),
      )

  pub screen_image : (s : Screen) → ScreenBytes s → ScreenNumbers s → {j : List ℕ}
      → j ≡ put (lcd_fields s.lcd) (set (set (set (set i 0x140 s.control) 0x141 s.status) 0x145 s.compare) 0x10F s.flags)
      → j ≡ image_of (with_screen (state i h) s)
  screen_image s b n e =
      let a = put_byte (held i h) 0x40 s.control (omega arith) b.control in
      let c = put_byte a 0x41 s.status (omega arith) b.status in
      let d = put_byte c 0x45 s.compare (omega arith) b.compare in
      let f = put_byte d 0x0F s.flags (omega arith) b.flags in
      e
      ∙ (put_lcd f s.lcd
      (record {
        line = b.line;
        signal = b.signal;
        mode = b.mode;
        delay = n.delay;
        counter = n.counter;
        aux = n.aux;
        window = n.window;
      })).same

-- an LCD function on the state, by the screen that it gave
pub on_screen_law : (f : Screen → Screen) (m : Memory) {s n : Screen} {j : List ℕ} → s ≡ screen_of m → n ≡ f s → j ≡ image_of (with_screen m n)
    → j ≡ image_of (on_screen f m)
unfolding on_screen
on_screen_law f m {s} {n} {j} a b c = c ∙ ap (λ (x : Screen). image_of (with_screen m x)) (b ∙ ap f a)
