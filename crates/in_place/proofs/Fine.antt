-- A state of the code's types stays one when a register is written: the image's law asks for it (crate image, `Typed`). Leans on the laws of the groups'
-- crates.
use mathlib.Core.Bool.{true}
use mathlib.Core.List.{List}
use mathlib.Core.Path.{◌≡◌, ◌∙◌}
use Prim.Native.Nat.{ℕ, ◌<◌}
use native.Mathlib.Omega.{arith}
use lib.Bits.{or_lt}
use lib.Dec.{eqb, lit<}
use lib.ListN.{length, set, length-set}
use Rattle.hdma.proofs.Laws as hdma
use Rattle.hdma.specs.Hdma.{InRange}
use Rattle.hdma.specs.declared.Ended.{Ended}
use Rattle.hdma.specs.declared.Hdma.{Hdma}
use Rattle.hdma.specs.declared.Start.{Start}
use Rattle.hdma.specs.declared.Written.{Written}
use Rattle.image.proofs.GroupPatches.{LcdTyped, lcd_bounds}
use Rattle.image.proofs.PatchLaws.{joypad_bytes, div_byte, hdma_words, below_set}
use Rattle.image.specs.Laws.{Typed}
use Rattle.image.specs.Layout.{field_widths, field_values, typed_fields, picked}
use Rattle.joypad.specs.Joypad as joypad
use Rattle.joypad.specs.declared.Controller.{Controller}
use Rattle.lcd.proofs.Laws as lcd
use Rattle.lcd.proofs.Laws.{ScreenBytes, ScreenNumbers}
use Rattle.lcd.specs.Lcd.{control_written, status_written, scanline_written, lyc_written}
use Rattle.lcd.specs.declared.Lcd.{Lcd}
use Rattle.lcd.specs.declared.Screen.{Screen}
use Rattle.mbc.specs.declared.mbc.Mapper.{Mapper}
use Rattle.memory.proofs.Laws.{hdma_parts, range_hdma, range_clock, range_background, range_sprites}
use Rattle.memory.specs.Ranges.{state_in_range}
use Rattle.memory.specs.World.{with_oam, with_page, with_background, with_sprites, with_banks, with_lcd, with_hdma, with_joypad, with_clock, with_mapper, with_used}
use Rattle.memory.specs.declared.Banks.{Banks}
use Rattle.memory.specs.declared.Clock.{Clock}
use Rattle.memory.specs.declared.Memory.{Memory}
use Rattle.packing.specs.Packing.{Below, Fit}
use Rattle.palette.proofs.Laws as palette
use Rattle.palette.specs.Palette.{colors_in_range}
use Rattle.palette.specs.declared.Color.{Color}
use Rattle.palette.specs.declared.Palette.{Palette}
use Rattle.registers.specs.Colour.{
  in_colour,
  speed_put,
  vram_bank_put,
  wram_bank_put,
  background_of,
  with_background_palette,
  sprites_of,
  with_sprite_palette,
  background_index_put,
  background_data_put,
  sprite_index_put,
  sprite_data_put,
}
use Rattle.registers.specs.Page.{write_in, write_register}
use Rattle.registers.specs.Register.{register_of, byte_as}
use Rattle.registers.specs.State.{loaded, stored, screen_of, with_screen, on_screen}
use Rattle.registers.specs.Transfers.{transfer_put, source_high_put, source_low_put, destination_high_put, destination_low_put, started_by, started, start_put, with_ended, finished}
use Rattle.registers.specs.declared.register.Register.{Register}
use Rattle.registers.specs.declared.register.Register.TheVariants as is
use Rattle.copies.specs.declared.Finish.{Finish}
use Rattle.copies.specs.declared.Finish.TheVariants.{Nothing, Block, General}
use Rattle.registers.specs.declared.transfers.Started.{Started}
use Rattle.rules.proofs.Tests.{cond_both}

pub record Page (p : List ℕ) : Type 0 where
  pub size : length p ≡ 256
  pub bytes : Below 256 p

pub page_set : {p : List ℕ} (i : ℕ) {v : ℕ} → Page p → v < 256 → Page (set p i v)
page_set {p} i {v} h b = record { size = length-set p i v ∙ h.size; bytes = below_set 256 p i v h.bytes b }

abbrev pub Colours : List Color → Type 0
Colours l = (length l ≡ 32) × (colors_in_range l ≡ true)

-- what the types say, and of the ranges what the laws of the groups ask for
pub record Fine (m : Memory) : Type 0 where
  pub oam : Page m.oam
  pub page : Page m.page
  pub background : Colours m.background
  pub sprites : Colours m.sprites
  pub joypad : joypad.Bytes m.core.joypad
  pub lcd : LcdTyped m.core.lcd
  pub hdma : InRange m.core.hdma
  pub clock : (m.core.clock.div < 256) × (m.core.clock.tima < 1024)
  -- these and all others that their types bound
  pub numbers : Fit (picked typed_fields field_widths) (picked typed_fields (field_values m.core))

pub typed_fine : (m : Memory) → Typed m → state_in_range m ≡ true → Fine m
typed_fine m t h =
    let p = hdma_parts m.core.hdma m.core.banks.colour (range_hdma m h) in
    record {
      oam = record { size = t.oam.0; bytes = t.oam.1 };
      page = record { size = t.page.0; bytes = t.page.1 };
      background = (t.background, range_background m h);
      sprites = (t.sprites, range_sprites m h);
      joypad = joypad_bytes t;
      lcd = lcd_bounds m t;
      hdma = ((p.source, (hdma_words t).0), (p.destination, (hdma_words t).1));
      clock = (div_byte t, omega (arith, range_clock m h));
      numbers = t.numbers;
    }

pub fine_typed : (m : Memory) → Fine m → Typed m
fine_typed m f =
    record {
      oam = (f.oam.size, f.oam.bytes);
      page = (f.page.size, f.page.bytes);
      background = f.background.0;
      sprites = f.sprites.0;
      numbers = f.numbers;
      delay = f.lcd.delay;
      counter = f.lcd.counter;
      aux = f.lcd.aux;
      window = f.lcd.window;
    }

-- One part changed

module _ {m : Memory} (f : Fine m) where
  pub oam_fine : {o : List ℕ} → Page o → Fine (with_oam m o)
  oam_fine o = record { oam = o; page = f.page; background = f.background; sprites = f.sprites; joypad = f.joypad; lcd = f.lcd; hdma = f.hdma; clock = f.clock; numbers = f.numbers }

  pub page_fine : {p : List ℕ} → Page p → Fine (with_page m p)
  page_fine p = record { oam = f.oam; page = p; background = f.background; sprites = f.sprites; joypad = f.joypad; lcd = f.lcd; hdma = f.hdma; clock = f.clock; numbers = f.numbers }

  background_fine : {c : List Color} {p : List ℕ} → Colours c → Page p → Fine (with_background m c p)
  background_fine c p = record { oam = f.oam; page = p; background = c; sprites = f.sprites; joypad = f.joypad; lcd = f.lcd; hdma = f.hdma; clock = f.clock; numbers = f.numbers }

  sprites_fine : {c : List Color} {p : List ℕ} → Colours c → Page p → Fine (with_sprites m c p)
  sprites_fine c p = record { oam = f.oam; page = p; background = f.background; sprites = c; joypad = f.joypad; lcd = f.lcd; hdma = f.hdma; clock = f.clock; numbers = f.numbers }

  pub banks_fine : (b : Banks) {p : List ℕ} → Page p → Fine (with_banks m b p)
  banks_fine b p = record { oam = f.oam; page = p; background = f.background; sprites = f.sprites; joypad = f.joypad; lcd = f.lcd; hdma = f.hdma; clock = f.clock; numbers = f.numbers }

  pub lcd_fine : {l : Lcd} {p : List ℕ} → LcdTyped l → Page p → Fine (with_lcd m l p)
  lcd_fine l p = record { oam = f.oam; page = p; background = f.background; sprites = f.sprites; joypad = f.joypad; lcd = l; hdma = f.hdma; clock = f.clock; numbers = omega (arith, f.numbers, l.line, l.signal, l.mode) }

  hdma_fine : {h : Hdma} {p : List ℕ} → InRange h → Page p → Fine (with_hdma m h p)
  hdma_fine h p = record { oam = f.oam; page = p; background = f.background; sprites = f.sprites; joypad = f.joypad; lcd = f.lcd; hdma = h; clock = f.clock; numbers = omega (arith, f.numbers, h) }

  pub joypad_fine : {c : Controller} {p : List ℕ} → joypad.Bytes c → Page p → Fine (with_joypad m c p)
  joypad_fine c p = record { oam = f.oam; page = p; background = f.background; sprites = f.sprites; joypad = c; lcd = f.lcd; hdma = f.hdma; clock = f.clock; numbers = omega (arith, f.numbers, c) }

  pub clock_fine : {c : Clock} {p : List ℕ} → (c.div < 256) × (c.tima < 1024) → Page p → Fine (with_clock m c p)
  clock_fine c p = record { oam = f.oam; page = p; background = f.background; sprites = f.sprites; joypad = f.joypad; lcd = f.lcd; hdma = f.hdma; clock = c; numbers = omega (arith, f.numbers, c) }

  pub mapper_fine : (x : Mapper) → Fine (with_mapper m x)
  mapper_fine x = record { oam = f.oam; page = f.page; background = f.background; sprites = f.sprites; joypad = f.joypad; lcd = f.lcd; hdma = f.hdma; clock = f.clock; numbers = f.numbers }

  pub used_fine : (u : ℕ) → Fine (with_used m u)
  used_fine u = record { oam = f.oam; page = f.page; background = f.background; sprites = f.sprites; joypad = f.joypad; lcd = f.lcd; hdma = f.hdma; clock = f.clock; numbers = f.numbers }

  pub stored_fine : (at : ℕ) {v : ℕ} → v < 256 → Fine (stored m at v)
  stored_fine at v = page_fine (page_set at f.page v)

  pub loaded_byte : (at : ℕ) → loaded m at < 256
  loaded_byte at = f.page.bytes at

  -- The screen

  screen_bytes : ScreenBytes (screen_of m)
  screen_bytes =
      record {
        line = f.lcd.line;
        signal = f.lcd.signal;
        mode = f.lcd.mode;
        control = loaded_byte 0x40;
        status = loaded_byte 0x41;
        compare = loaded_byte 0x45;
        wy = loaded_byte 0x4A;
        flags = loaded_byte 0x0F;
      }

  screen_numbers : ScreenNumbers (screen_of m)
  screen_numbers = record { delay = f.lcd.delay; counter = f.lcd.counter; aux = f.lcd.aux; window = f.lcd.window }

  with_screen_law : {s : Screen} → ScreenBytes s → ScreenNumbers s → Fine (with_screen m s)
  with_screen_law b n =
      lcd_fine
      (record {
        line = b.line;
        signal = b.signal;
        mode = b.mode;
        delay = n.delay;
        counter = n.counter;
        aux = n.aux;
        window = n.window;
      })
      (page_set 0x0F (page_set 0x45 (page_set 0x41 (page_set 0x40 f.page b.control) b.status) b.compare) b.flags)

  -- a function on the screen that keeps what its parts keep
  pub on_screen_law : (g : Screen → Screen) → ((P : Screen → Type 0) → lcd.Kept P → P (screen_of m) → P (g (screen_of m))) → Fine (on_screen g m)
  unfolding on_screen
  on_screen_law g k = with_screen_law (k ScreenBytes lcd.bytes screen_bytes) (k ScreenNumbers lcd.numbers screen_numbers)

  -- Colour alone

  coloured : (at : ℕ) {v : ℕ} {n : Memory} → v < 256 → Fine n → Fine (in_colour m at v n)
  coloured at b n = cond_both Fine m.core.banks.colour n (stored_fine at b)

  pub background_ready : palette.Ready (background_of m)
  background_ready =
      record { index = loaded_byte 0x68; shown = loaded_byte 0x69; size = f.background.0; range = f.background.1 }

  pub sprites_ready : palette.Ready (sprites_of m)
  sprites_ready = record { index = loaded_byte 0x6A; shown = loaded_byte 0x6B; size = f.sprites.0; range = f.sprites.1 }

  with_background_law : {p : Palette} → palette.Ready p → Fine (with_background_palette m p)
  with_background_law r = background_fine (r.size, r.range) (page_set 0x69 (page_set 0x68 f.page r.index) r.shown)

  with_sprites_law : {p : Palette} → palette.Ready p → Fine (with_sprite_palette m p)
  with_sprites_law r = sprites_fine (r.size, r.range) (page_set 0x6B (page_set 0x6A f.page r.index) r.shown)

  with_transfer : (at : ℕ) {w : Written} → InRange w.hdma → w.byte < 256 → Fine (transfer_put m at w)
  with_transfer at h b = hdma_fine h (page_set at f.page b)

  with_ended_law : {e : Ended} → InRange e.hdma → hdma.Bytes e → Fine (with_ended m e)
  with_ended_law r b =
      hdma_fine r
      (page_set 0x55 (page_set 0x54 (page_set 0x53 (page_set 0x52 (page_set 0x51 f.page b.0) b.1) b.2) b.3) b.4)

  pub finished_fine : (k : Finish) (v : ℕ) → Fine (finished m k v)
  unfolding finished
  finished_fine Nothing v = f
  finished_fine Block v =
      with_ended_law (hdma.block_range m.core.hdma (loaded m 0x55) f.hdma) (hdma.block_bytes m.core.hdma (loaded m 0x55) f.hdma)
  finished_fine General v = with_ended_law (hdma.general_range m.core.hdma v f.hdma) (hdma.general_bytes m.core.hdma v)

  -- a byte written to the page
  module _ (v : ℕ) (b : v < 256) where
    speed_fine : Fine (speed_put m v)
    unfolding speed_put
    speed_fine = coloured 0x4D b (stored_fine 0x4D (omega (arith, loaded_byte 0x4D)))

    vram_bank_fine : Fine (vram_bank_put m v)
    unfolding vram_bank_put
    vram_bank_fine = coloured 0x4F b (banks_fine _ (page_set 0x4F f.page (omega arith)))

    wram_bank_fine : Fine (wram_bank_put m v)
    unfolding wram_bank_put
    wram_bank_fine = coloured 0x70 b (banks_fine _ (page_set 0x70 f.page (omega arith)))

    source_high_fine : Fine (source_high_put m v)
    unfolding source_high_put
    source_high_fine =
        coloured 0x51 b (with_transfer 0x51 (hdma.source_high_range m.core.hdma v f.hdma b) (hdma.source_high_byte m.core.hdma v b))

    source_low_fine : Fine (source_low_put m v)
    unfolding source_low_put
    source_low_fine =
        coloured 0x52 b (with_transfer 0x52 (hdma.source_low_range m.core.hdma v f.hdma) (hdma.source_low_byte m.core.hdma v b))

    destination_high_fine : Fine (destination_high_put m v)
    unfolding destination_high_put
    destination_high_fine =
        coloured 0x53 b (with_transfer 0x53 (hdma.destination_high_range m.core.hdma v f.hdma) (hdma.destination_high_byte m.core.hdma v))

    destination_low_fine : Fine (destination_low_put m v)
    unfolding destination_low_put
    destination_low_fine =
        coloured 0x54 b (with_transfer 0x54 (hdma.destination_low_range m.core.hdma v f.hdma) (hdma.destination_low_byte m.core.hdma v b))

    start_fine : Fine (start_put m v)
    unfolding started
    start_fine =
        cond_both (λ (s : Started). Fine s.memory) m.core.banks.colour
        (hdma.by_start (λ (s : Start). Fine (started_by m v s).memory) m.core.hdma m.core.lcd.mode v (with_transfer 0x55 f.hdma (omega arith))
        (with_transfer 0x55 f.hdma (omega arith)) (with_transfer 0x55 f.hdma (omega arith)) f)
        (stored_fine 0x55 b)

    background_index_fine : Fine (background_index_put m v)
    unfolding background_index_put
    background_index_fine = coloured 0x68 b (with_background_law (palette.index_ready _ v b background_ready))

    background_data_fine : Fine (background_data_put m v)
    unfolding background_data_put
    background_data_fine = coloured 0x69 b (with_background_law (palette.data_ready _ v b background_ready))

    sprite_index_fine : Fine (sprite_index_put m v)
    unfolding sprite_index_put
    sprite_index_fine = coloured 0x6A b (with_sprites_law (palette.index_ready _ v b sprites_ready))

    sprite_data_fine : Fine (sprite_data_put m v)
    unfolding sprite_data_put
    sprite_data_fine = coloured 0x6B b (with_sprites_law (palette.data_ready _ v b sprites_ready))

    pub control_fine : Fine (on_screen (λ s. control_written s v) m)
    control_fine = on_screen_law _ (λ P k h. lcd.keeps_control P k _ h v b)

    pub status_fine : Fine (on_screen (λ s. status_written s v) m)
    status_fine = on_screen_law _ (λ P k h. lcd.keeps_status P k _ h v)

    pub scanline_fine : Fine (on_screen (λ s. scanline_written s v) m)
    scanline_fine = on_screen_law _ (λ P k h. lcd.keeps_scanline P k _ h v)

    pub lyc_fine : Fine (on_screen (λ s. lyc_written s v) m)
    lyc_fine = on_screen_law _ (λ P k h. lcd.keeps_lyc P k _ h v b)

    byte_as_law : (at : ℕ) → byte_as at v < 256
    unfolding byte_as
    byte_as_law at =
        cond_both (λ (n : ℕ). n < 256) (eqb at 0x04) (lit< tt)
        (cond_both (λ (n : ℕ). n < 256) (eqb at 0x0F) (omega arith)
        (cond_both (λ (n : ℕ). n < 256) (eqb at 0x6C) (or_lt 8 v 0xFE b (lit< tt))
        (cond_both (λ (n : ℕ). n < 256) (eqb at 0x75) (or_lt 8 v 0x8F b (lit< tt))
        (cond_both (λ (n : ℕ). n < 256) (eqb at 0xFF) (omega arith) b))))

    in_fine : (r : Register) (at : ℕ) → Fine (write_in r m at v)
    in_fine is.Sound at = f
    in_fine is.Control at = control_fine
    in_fine is.Status at = status_fine
    in_fine is.Line at = scanline_fine
    in_fine is.Compare at = lyc_fine
    in_fine is.Speed at = speed_fine
    in_fine is.VramBank at = vram_bank_fine
    in_fine is.SourceHigh at = source_high_fine
    in_fine is.SourceLow at = source_low_fine
    in_fine is.DestinationHigh at = destination_high_fine
    in_fine is.DestinationLow at = destination_low_fine
    in_fine is.Start at = start_fine
    in_fine is.BackgroundIndex at = background_index_fine
    in_fine is.BackgroundData at = background_data_fine
    in_fine is.SpriteIndex at = sprite_index_fine
    in_fine is.SpriteData at = sprite_data_fine
    in_fine is.WramBank at = wram_bank_fine
    in_fine is.Byte at = stored_fine at (byte_as_law at)

    pub write_fine : (at : ℕ) → Fine (write_register m at v)
    write_fine at = in_fine (register_of at) at
