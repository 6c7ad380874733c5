-- Which address of the page is which register: the other files of this crate speak of the screen, a palette, the timer, the flags and the joypad;
-- here are the bytes that these are of, and what a write to an address does with them. (The page has 256 bytes, as its type says.)
use Rattle.std.specs.Prelude.{true, cond, List, [], ◌∷◌, ◌≡◌, ℕ, ◌<◌, length}
use Rattle.hdma.specs.Hdma.{starts}
use Rattle.interrupt.specs.Flags.{requested, removed}
use Rattle.interrupt.specs.PanDocs.{first_of}
use Rattle.interrupt.specs.declared.Interrupt.{Interrupt}
use Rattle.joypad.specs.Joypad.{pad_read, polled}
use Rattle.lcd.specs.Lcd.{scanline_written, lyc_written, control_written, status_written}
use Rattle.lcd.specs.declared.Screen.{Screen}
use Rattle.memory.specs.declared.Memory.{Memory}
use Rattle.palette.specs.Palette.{write_index, write_data}
use Rattle.palette.specs.declared.Color.{Color}
use Rattle.palette.specs.declared.Palette.{Palette}
use Rattle.refusals.specs.Answers.{changed, waiting_given}
use Rattle.refusals.specs.Refusal.{refused_state}
use Rattle.registers.specs.Colour.{background_of, sprites_of, with_background_palette, with_sprite_palette}
use Rattle.registers.specs.Page.{read_register, write_register}
use Rattle.registers.specs.State.{loaded, stored, screen_of, on_screen, timer_of, with_timer, requested_in, removed_in, polled_in}
use Rattle.registers.specs.Transfers.{started_by, copy_of}
use Rattle.state_calls.specs.State.{get_interrupts_call, request_call, remove_call}
use Rattle.timer.specs.declared.Timer.{Timer}
use Rattle.pan_docs.specs.Interrupts.{interrupt_at}
use Rattle.pan_docs.specs.Ones.{Every}

-- "LCD Control, LCD Status Registers": a screen and its registers FF40, FF41, FF45 in a state; with FF0F, which "requests"
pub record ScreenIn (m : Memory) (s : Screen) : Type 0 where
  pub lcd : s.lcd ≡ m.core.lcd
  pub control : s.control ≡ loaded m 0x40
  pub status : s.status ≡ loaded m 0x41
  pub compare : s.compare ≡ loaded m 0x45
  pub flags : s.flags ≡ loaded m 0x0F

-- before an LCD function and after it
pub record ScreenAddresses : Type 0 where
  pub before : (m : Memory) → ScreenIn m (screen_of m)
  pub wy : (m : Memory) → (screen_of m).wy ≡ loaded m 0x4A
  pub after : (m : Memory) (f : Screen → Screen) → length m.page ≡ 256 → ScreenIn (on_screen f m) (f (screen_of m))
  -- what a write does
  pub control : (m : Memory) (v : ℕ) → write_register m 0x40 v ≡ on_screen (λ s. control_written s v) m
  pub status : (m : Memory) (v : ℕ) → write_register m 0x41 v ≡ on_screen (λ s. status_written s v) m
  pub line : (m : Memory) (v : ℕ) → write_register m 0x44 v ≡ on_screen (λ s. scanline_written s v) m
  pub lyc : (m : Memory) (v : ℕ) → write_register m 0x45 v ≡ on_screen (λ s. lyc_written s v) m
  -- "FF44 LY", 0 with the screen disabled (document 01)
  pub ly : (m : Memory) (sound : List ℕ) → read_register m sound 0x44 ≡ cond m.core.lcd.disabled 0 m.core.lcd.line

-- "Palettes (CGB)": a palette in a state, its address in one register and its data in another
pub record PaletteIn (m : Memory) (p : Palette) (index bytes : ℕ) (colors : List Color) : Type 0 where
  pub index_at : p.index ≡ loaded m index
  pub data_at : p.«data» ≡ loaded m bytes
  pub colors_at : p.colors ≡ colors

-- FF68 and FF69 are the background's, FF6A and FF6B the sprites', on a colour machine
pub record PaletteAddresses : Type 0 where
  pub background : (m : Memory) → PaletteIn m (background_of m) 0x68 0x69 m.background
  pub background_after : (m : Memory) (p : Palette) → length m.page ≡ 256
      → PaletteIn (with_background_palette m p) p 0x68 0x69 (with_background_palette m p).background
  pub background_index : (m : Memory) (v : ℕ) → m.core.banks.colour ≡ true
      → write_register m 0x68 v ≡ with_background_palette m (write_index (background_of m) v)
  pub background_data : (m : Memory) (v : ℕ) → m.core.banks.colour ≡ true
      → write_register m 0x69 v ≡ with_background_palette m (write_data (background_of m) v)
  pub sprites : (m : Memory) → PaletteIn m (sprites_of m) 0x6A 0x6B m.sprites
  pub sprites_after : (m : Memory) (p : Palette) → length m.page ≡ 256
      → PaletteIn (with_sprite_palette m p) p 0x6A 0x6B (with_sprite_palette m p).sprites
  pub sprites_index : (m : Memory) (v : ℕ) → m.core.banks.colour ≡ true
      → write_register m 0x6A v ≡ with_sprite_palette m (write_index (sprites_of m) v)
  pub sprites_data : (m : Memory) (v : ℕ) → m.core.banks.colour ≡ true
      → write_register m 0x6B v ≡ with_sprite_palette m (write_data (sprites_of m) v)

-- "Timer and Divider Registers": what an update changes, "FF04 DIV", "FF05 TIMA" and the request
pub record TimerIn (m : Memory) (t : Timer) : Type 0 where
  pub div : t.div ≡ loaded m 0x04
  pub tima : t.tima ≡ loaded m 0x05
  pub flags : t.flags ≡ loaded m 0x0F

pub record TimerAddresses : Type 0 where
  pub before : (m : Memory) → TimerIn m (timer_of m)
  -- "FF06 TMA", "FF07 TAC"
  pub tma : (m : Memory) → (timer_of m).tma ≡ loaded m 0x06
  pub tac : (m : Memory) → (timer_of m).tac ≡ loaded m 0x07
  pub after : (m : Memory) (t : Timer) → length m.page ≡ 256 → TimerIn (with_timer m t) t

-- "Interrupts": "FFFF enables, FF0F requests"
pub record InterruptAddresses : Type 0 where
  pub waiting : (m : Memory) → get_interrupts_call m ≡ waiting_given (refused_state m) (first_of (loaded m 0xFF) (loaded m 0x0F))
  -- a call's number is the interrupt's bit
  pub request : (m : Memory) (k : ℕ) → k < 5 → request_call m k ≡ changed (refused_state m) m (requested_in m (interrupt_at k))
  pub remove : (m : Memory) (k : ℕ) → k < 5 → remove_call m k ≡ changed (refused_state m) m (removed_in m (interrupt_at k))
  pub requests : (m : Memory) (i : Interrupt) → length m.page ≡ 256 → loaded (requested_in m i) 0x0F ≡ requested (loaded m 0x0F) i
  pub removes : (m : Memory) (i : Interrupt) → length m.page ≡ 256 → loaded (removed_in m i) 0x0F ≡ removed (loaded m 0x0F) i

-- "Joypad Input": FF00, and the request of an update
pub record JoypadAddresses : Type 0 where
  pub read : (m : Memory) (sound : List ℕ) → read_register m sound 0x00 ≡ pad_read (loaded m 0x00) m.core.joypad.state
  pub update : (m : Memory) → (polled_in m).core.joypad ≡ (polled m.core.joypad (loaded m 0x00) (loaded m 0x0F)).controller
  pub update_flags : (m : Memory) → length m.page ≡ 256
      → loaded (polled_in m) 0x0F ≡ (polled m.core.joypad (loaded m 0x00) (loaded m 0x0F)).flags

pub record Addresses : Type 0 where
  pub screen : ScreenAddresses
  pub palettes : PaletteAddresses
  pub timer : TimerAddresses
  pub interrupts : InterruptAddresses
  pub joypad : JoypadAddresses
  -- "CGB Registers": FF55 starts a transfer
  pub transfer : (m : Memory) (v : ℕ) → m.core.banks.colour ≡ true
      → write_register m 0x55 v ≡ (started_by m v (starts m.core.hdma m.core.lcd.mode v)).memory
  pub copy : (m : Memory) (v : ℕ) → m.core.banks.colour ≡ true
      → copy_of m 0xFF55 v ≡ (started_by m v (starts m.core.hdma m.core.lcd.mode v)).copy
  -- these read as stored: DIV, TIMA, TMA, FF40, LYC, WY, FF55, FFFF; and these store the value: FF00, TIMA, TMA, TAC, WY
  pub plain_reads : (m : Memory) (sound : List ℕ)
      → Every (λ at. read_register m sound at ≡ loaded m at) (0x04 ∷ 0x05 ∷ 0x06 ∷ 0x40 ∷ 0x45 ∷ 0x4A ∷ 0x55 ∷ 0xFF ∷ [])
  pub plain_writes : (m : Memory) (v : ℕ) → Every (λ at. write_register m at v ≡ stored m at v) (0x00 ∷ 0x05 ∷ 0x06 ∷ 0x07 ∷ 0x4A ∷ [])
