-- The joypad and the screen put alone: no range reads them, so what is left is again the image of a state in range. What the types say of a state with
-- another group, and the groups of an image that loads.
use mathlib.Core.Bool.{true}
use mathlib.Core.Path.{◌≡◌, refl, ap, ◌∙◌}
use mathlib.Core.List.{List}
use Prim.Native.Nat.{ℕ, ◌<◌}
use native.Mathlib.Omega.{arith}
use mir.Syntax.{w32}
use mir.Val.{SFits}
use Rattle.numbers.specs.Numbers.{done}
use Rattle.packing.specs.Packing.{Below}
use Rattle.hdma.specs.declared.Hdma.{Hdma}
use Rattle.joypad.specs.declared.Controller.{Controller}
use Rattle.lcd.specs.declared.Lcd.{Lcd}
use Rattle.memory.proofs.Laws.{plain}
use Rattle.memory.specs.Ranges.{groups_in_range, palettes_in_range, state_in_range, in_range}
use Rattle.memory.specs.World.{with_lcd, with_hdma, with_joypad}
use Rattle.memory.specs.declared.Memory.{Memory}
use Rattle.image.specs.Laws.{Typed}
use Rattle.image.specs.Layout.{image_of}
use Rattle.image.specs.Load.{storable, core_from, Loaded, load_call}
use Rattle.image.specs.Patches.{fields, put, lcd_fields, joypad_fields}
use Rattle.image.proofs.LoadLaws.{state_core}
use Rattle.image.proofs.OpenLaws.{load_length, load_state}
use Rattle.image.proofs.PatchLaws.{Bytes, div_byte, typed_with, image_put}
use Rattle.image.proofs.StateLaws.{fields_fit}

-- what the types say of the eight numbers
pub record LcdTyped (l : Lcd) : Type 0 where
  pub line : l.line < 256
  pub signal : l.signal < 256
  pub mode : l.mode < 256
  pub delay : SFits w32 l.delay
  pub counter : SFits w32 l.counter
  pub aux : SFits w32 l.aux
  pub window : SFits w32 l.window

pub storable_plain : (m : Memory) (o p : List ℕ) (l : Lcd) (j : Controller) → storable (plain m o p l j m.core.used) ≡ storable m
unfolding storable in_range state_in_range groups_in_range palettes_in_range
storable_plain m o p l j = refl

module _ (m : Memory) (t : Typed m) where
  pub joypad_typed : (j : Controller) → j.released < 256 → j.state < 256 → Typed (with_joypad m j m.page)
  joypad_typed j r s =
      typed_with m t m.oam m.page j m.core.clock m.core.mapper m.core.used t.oam t.page r s (div_byte t)

  pub lcd_typed : (l : Lcd) → LcdTyped l → Typed (with_lcd m l m.page)
  lcd_typed l k =
      record {
        oam = t.oam;
        page = t.page;
        background = t.background;
        sprites = t.sprites;
        numbers = omega (arith, t.numbers, k.line, k.signal, k.mode);
        delay = k.delay;
        counter = k.counter;
        aux = k.aux;
        window = k.window;
      }

  pub lcd_bounds : LcdTyped m.core.lcd
  lcd_bounds =
      record {
        line = omega (arith, t.numbers);
        signal = omega (arith, t.numbers);
        mode = omega (arith, t.numbers);
        delay = t.delay;
        counter = t.counter;
        aux = t.aux;
        window = t.window;
      }

  pub hdma_typed : (x : Hdma) (p : List ℕ) → x.source < 65536 → x.destination < 65536 → Bytes p → Typed (with_hdma m x p)
  hdma_typed x p a b h =
      record {
        oam = t.oam;
        page = h;
        background = t.background;
        sprites = t.sprites;
        numbers = omega (arith, t.numbers, a, b);
        delay = t.delay;
        counter = t.counter;
        aux = t.aux;
        window = t.window;
      }

  module _ (h : storable m ≡ true) where
    pub joypad_storable : (j : Controller) → storable (with_joypad m j m.page) ≡ true
    joypad_storable j = storable_plain m m.oam m.page m.core.lcd j ∙ h

    pub lcd_storable : (l : Lcd) → storable (with_lcd m l m.page) ≡ true
    lcd_storable l = storable_plain m m.oam m.page l m.core.joypad ∙ h

    pub joypad_image : (j : Controller) → j.released < 256 → j.state < 256 → put (joypad_fields j) (image_of m) ≡ image_of (with_joypad m j m.page)
    joypad_image j r s =
        let m' = with_joypad m j m.page in
        image_put m t h (joypad_fields j) (omega (arith, fields_fit m' (joypad_typed j r s) (joypad_storable j))) m'.core refl

    pub lcd_image : (l : Lcd) → LcdTyped l → put (lcd_fields l) (image_of m) ≡ image_of (with_lcd m l m.page)
    lcd_image l k =
        let m' = with_lcd m l m.page in
        image_put m t h (lcd_fields l) (omega (arith, fields_fit m' (lcd_typed l k) (lcd_storable l))) m'.core refl

pub loaded_core : (l : List ℕ) → Below 256 l → (load_call l).number ≡ done → (load_call l).state.core ≡ core_from (fields l)
loaded_core l below h = ap (λ (r : Loaded). r.state.core) (load_state l h) ∙ state_core l (load_length l h) below
