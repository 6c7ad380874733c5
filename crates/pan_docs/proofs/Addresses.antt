-- Which address is which register: each by its definition, and after a change by the bytes that were set last.
use mathlib.Core.Bool.{true}
use mathlib.Core.List.{List, [], ◌∷◌}
use mathlib.Core.Path.{◌≡◌, refl, sym, ap}
use Prim.Native.Nat.{ℕ, zero, suc, ◌<◌}
use native.Mathlib.Omega.{arith}
use lib.Dec.{lit<}
use lib.ListN.{length, set}
use Rattle.hdma.specs.Hdma.{starts}
use Rattle.joypad.specs.Joypad.{polled}
use Rattle.interrupt.specs.Flags.{named, requested, removed}
use Rattle.std.specs.Prelude.{Some}
use Rattle.lcd.specs.declared.Screen.{Screen}
use Rattle.memory.specs.declared.Memory.{Memory}
use Rattle.palette.specs.Palette.{write_index, write_data}
use Rattle.palette.specs.declared.Palette.{Palette}
use Rattle.registers.specs.Colour.{background_of, sprites_of, with_background_palette, with_sprite_palette}
use Rattle.registers.specs.Colour.{background_index_put, background_data_put, sprite_index_put, sprite_data_put}
use Rattle.registers.specs.Page.{read_register, write_register, shown_as, plain_read, line_read}
use Rattle.registers.specs.Register.{register_of, byte_as}
use Rattle.registers.specs.State.{loaded, stored, screen_of, on_screen, with_timer, requested_in, removed_in}
use Rattle.registers.specs.Transfers.{started, started_by, copy_of}
use Rattle.registers.specs.declared.transfers.Started.{Started}
use Rattle.state_calls.specs.State.{on_interrupt}
use Rattle.timer.specs.declared.Timer.{Timer}
use Rattle.rules.proofs.Tests.{cond_true}
use Rattle.pan_docs.specs.Addresses.{ScreenIn, ScreenAddresses, PaletteIn, PaletteAddresses, TimerIn, TimerAddresses}
use Rattle.pan_docs.specs.Addresses.{InterruptAddresses, JoypadAddresses, Addresses}
use Rattle.pan_docs.specs.Interrupts.{interrupt_at}
use Rattle.pan_docs.specs.Ones.{Every}
use Rattle.pan_docs.proofs.Page.{size, here, past}

module _ (m : Memory) (l : length m.page ≡ 256) where
  screen_after : (f : Screen → Screen) → ScreenIn (on_screen f m) (f (screen_of m))
  unfolding on_screen
  screen_after f =
      let s = f (screen_of m) in
      let a = set m.page 0x40 s.control in
      let b = set a 0x41 s.status in
      let c = set b 0x45 s.compare in
      let la = size m.page 0x40 s.control l in
      let lb = size a 0x41 s.status la in
      let lc = size b 0x45 s.compare lb in
      record {
        lcd = refl;
        control =
            sym (past c 0x0F s.flags (λ e. omega arith)
            (past b 0x45 s.compare (λ e. omega arith)
            (past a 0x41 s.status (λ e. omega arith) (here m.page 0x40 s.control (lit< tt) l))));
        status =
            sym (past c 0x0F s.flags (λ e. omega arith)
            (past b 0x45 s.compare (λ e. omega arith) (here a 0x41 s.status (lit< tt) la)));
        compare = sym (past c 0x0F s.flags (λ e. omega arith) (here b 0x45 s.compare (lit< tt) lb));
        flags = sym (here c 0x0F s.flags (lit< tt) lc);
      }

  background_after : (p : Palette) → PaletteIn (with_background_palette m p) p 0x68 0x69 (with_background_palette m p).background
  background_after p =
      let a = set m.page 0x68 p.index in
      record {
        index_at = sym (past a 0x69 p.«data» (λ e. omega arith) (here m.page 0x68 p.index (lit< tt) l));
        data_at = sym (here a 0x69 p.«data» (lit< tt) (size m.page 0x68 p.index l));
        colors_at = refl;
      }

  sprites_after : (p : Palette) → PaletteIn (with_sprite_palette m p) p 0x6A 0x6B (with_sprite_palette m p).sprites
  sprites_after p =
      let a = set m.page 0x6A p.index in
      record {
        index_at = sym (past a 0x6B p.«data» (λ e. omega arith) (here m.page 0x6A p.index (lit< tt) l));
        data_at = sym (here a 0x6B p.«data» (lit< tt) (size m.page 0x6A p.index l));
        colors_at = refl;
      }

  timer_after : (t : Timer) → TimerIn (with_timer m t) t
  timer_after t =
      let a = set m.page 0x04 t.div in
      let b = set a 0x05 t.tima in
      let la = size m.page 0x04 t.div l in
      record {
        div =
            sym (past b 0x0F t.flags (λ e. omega arith)
            (past a 0x05 t.tima (λ e. omega arith) (here m.page 0x04 t.div (lit< tt) l)));
        tima = sym (past b 0x0F t.flags (λ e. omega arith) (here a 0x05 t.tima (lit< tt) la));
        flags = sym (here b 0x0F t.flags (lit< tt) (size a 0x05 t.tima la));
      }

screen_addresses : ScreenAddresses
unfolding register_of read_register shown_as line_read
screen_addresses =
    record {
      before = λ m. record { lcd = refl; control = refl; status = refl; compare = refl; flags = refl };
      wy = λ m. refl;
      after = λ m f l. screen_after m l f;
      control = λ m v. refl;
      status = λ m v. refl;
      line = λ m v. refl;
      lyc = λ m v. refl;
      ly = λ m sound. refl;
    }

module _ (m : Memory) (v : ℕ) (e : m.core.banks.colour ≡ true) where
  background_index : write_register m 0x68 v ≡ with_background_palette m (write_index (background_of m) v)
  unfolding register_of background_index_put
  background_index = cond_true m.core.banks.colour _ _ e

  background_data : write_register m 0x69 v ≡ with_background_palette m (write_data (background_of m) v)
  unfolding register_of background_data_put
  background_data = cond_true m.core.banks.colour _ _ e

  sprites_index : write_register m 0x6A v ≡ with_sprite_palette m (write_index (sprites_of m) v)
  unfolding register_of sprite_index_put
  sprites_index = cond_true m.core.banks.colour _ _ e

  sprites_data : write_register m 0x6B v ≡ with_sprite_palette m (write_data (sprites_of m) v)
  unfolding register_of sprite_data_put
  sprites_data = cond_true m.core.banks.colour _ _ e

  started_so : started m v ≡ started_by m v (starts m.core.hdma m.core.lcd.mode v)
  unfolding started
  started_so = cond_true m.core.banks.colour _ _ e

  transfer : write_register m 0x55 v ≡ (started_by m v (starts m.core.hdma m.core.lcd.mode v)).memory
  unfolding register_of
  transfer = ap (λ (s : Started). s.memory) started_so

  copy : copy_of m 0xFF55 v ≡ (started_by m v (starts m.core.hdma m.core.lcd.mode v)).copy
  unfolding copy_of
  copy = ap (λ (s : Started). s.copy) started_so

palette_addresses : PaletteAddresses
palette_addresses =
    record {
      background = λ m. record { index_at = refl; data_at = refl; colors_at = refl };
      background_after = λ m p l. background_after m l p;
      background_index = background_index;
      background_data = background_data;
      sprites = λ m. record { index_at = refl; data_at = refl; colors_at = refl };
      sprites_after = λ m p l. sprites_after m l p;
      sprites_index = sprites_index;
      sprites_data = sprites_data;
    }

timer_addresses : TimerAddresses
timer_addresses =
    record {
      before = λ m. record { div = refl; tima = refl; flags = refl };
      tma = λ m. refl;
      tac = λ m. refl;
      after = λ m t l. timer_after m l t;
    }

named_at : (k : ℕ) → k < 5 → named k ≡ Some (interrupt_at k)
unfolding named
named_at zero h = refl
named_at (suc zero) h = refl
named_at (suc (suc zero)) h = refl
named_at (suc (suc (suc zero))) h = refl
named_at (suc (suc (suc (suc zero)))) h = refl
named_at (suc (suc (suc (suc (suc k))))) h = absurd (omega arith)

interrupt_addresses : InterruptAddresses
interrupt_addresses =
    record {
      waiting = λ m. refl;
      request = λ m k h. ap (on_interrupt m requested_in) (named_at k h);
      remove = λ m k h. ap (on_interrupt m removed_in) (named_at k h);
      requests = λ m i l. here m.page 0x0F (requested (loaded m 0x0F) i) (lit< tt) l;
      removes = λ m i l. here m.page 0x0F (removed (loaded m 0x0F) i) (lit< tt) l;
    }

joypad_addresses : JoypadAddresses
unfolding read_register shown_as
joypad_addresses =
    record {
      read = λ m sound. refl;
      update = λ m. refl;
      update_flags = λ m l. here m.page 0x0F (polled m.core.joypad (loaded m 0x00) (loaded m 0x0F)).flags (lit< tt) l;
    }

plain_reads : (m : Memory) (sound : List ℕ)
    → Every (λ at. read_register m sound at ≡ loaded m at) (0x04 ∷ 0x05 ∷ 0x06 ∷ 0x40 ∷ 0x45 ∷ 0x4A ∷ 0x55 ∷ 0xFF ∷ [])
unfolding read_register shown_as plain_read
plain_reads m sound = (refl, (refl, (refl, (refl, (refl, (refl, (refl, (refl, tt))))))))

plain_writes : (m : Memory) (v : ℕ) → Every (λ at. write_register m at v ≡ stored m at v) (0x00 ∷ 0x05 ∷ 0x06 ∷ 0x07 ∷ 0x4A ∷ [])
unfolding register_of byte_as
plain_writes m v = (refl, (refl, (refl, (refl, (refl, tt)))))

pub addresses : Addresses
addresses =
    record {
      screen = screen_addresses;
      palettes = palette_addresses;
      timer = timer_addresses;
      interrupts = interrupt_addresses;
      joypad = joypad_addresses;
      transfer = transfer;
      copy = copy;
      plain_reads = plain_reads;
      plain_writes = plain_writes;
    }
