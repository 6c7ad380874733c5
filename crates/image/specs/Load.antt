-- The two calls on images: what a store gives, and the state that an image holds (document 01, "Save log and state image" and "Numbers a call gives back":
-- the image's length, by 4, comes before the state, by 3; a refused store changes nothing, a refused load gives the all-zero state).
use Rattle.std.specs.Prelude.{Bool, cond, ◌&&◌, List, [], ◌∷◌, ◌≡◌, ℕ, Result, eqb, length, take, drop}
use Rattle.std.specs.Result.{result_unwrap_or}
use Rattle.numbers.specs.Numbers.{done, out_of_range, wrong_length}
use Rattle.numbers.specs.Refusal.{number_given}
use Rattle.numbers.specs.declared.Refusal.{Refusal}
use Rattle.packing.specs.Packing.{repacked, eights}
use Rattle.palette.specs.declared.Color.{Color}
use Rattle.mbc.specs.Mbc as mbc
use Rattle.savelog.specs.Log.{log_limit}
use Rattle.memory.specs.declared.Core.{Core}
use Rattle.memory.specs.declared.Memory.{Memory}
use Rattle.memory.specs.Ranges.{in_range}
use Rattle.memory.specs.Start.{zeroed}
use Rattle.image.specs.Layout.{image_len, zeros_field, widths, image_of}
pub use Rattle.image.specs.Layout.{at, is_on, banks_of, lcd_of, hdma_of, joypad_of, clock_of, cartridge_of, registers_in, core_from}

-- no log is lent: use is held to 65,535
unfoldable pub storable : Memory → Bool
storable m = in_range m log_limit

-- the number, and the lent bytes as they are then
pub record Stored : Type 0 where
  pub number : ℕ
  pub bytes : List ℕ

abbrev pub stored : ℕ → List ℕ → Stored
stored n l = record { number = n; bytes = l }

unfoldable pub store_call : Memory → List ℕ → Stored
store_call m l =
    cond (eqb (length l) image_len)
    (cond (storable m) (stored done (image_of m)) (stored out_of_range l))
    (stored wrong_length l)

-- what is promised of a store: of its number, and of the bytes as it leaves them
abbrev pub Stores : Memory → List ℕ → ℕ → List ℕ → Type 0
Stores m l n left = stored n left ≡ store_call m l

-- The state of an image's values

abbrev pub colors_of : List ℕ → List Color
colors_of [] = []
colors_of (r ∷ []) = []
colors_of (r ∷ g ∷ []) = []
colors_of (r ∷ g ∷ b ∷ cs) = record { red = r; green = g; blue = b } ∷ colors_of cs

abbrev pub state_from : List ℕ → List ℕ → List ℕ → Memory
state_from bytes colors fs =
    record {
      oam = take 256 bytes;
      page = drop 256 bytes;
      background = colors_of (take 96 colors);
      sprites = colors_of (drop 96 colors);
      core = core_from fs;
    }

-- What is refused beside the state ranges: registers that no mapper has, a 1 behind the last field
unfoldable pub sound : List ℕ → Bool
sound fs = mbc.sound (registers_in fs) && eqb (at fs zeros_field) 0

-- the number, and the state that an image gave
pub record Loaded : Type 0 where
  pub number : ℕ
  pub state : Memory

abbrev pub loaded : ℕ → Memory → Loaded
loaded n m = record { number = n; state = m }

-- the values of an image, in the order of the layout
unfoldable pub values_of : List ℕ → List ℕ
values_of l = repacked (eights image_len) widths l

abbrev pub bytes_in : List ℕ → List ℕ
bytes_in vs = take 512 vs

abbrev pub colors_in : List ℕ → List ℕ
colors_in vs = take 192 (drop 512 vs)

abbrev pub all_fields_in : List ℕ → List ℕ
all_fields_in vs = drop 704 vs

unfoldable pub state_of : List ℕ → Memory
state_of l = state_from (bytes_in (values_of l)) (colors_in (values_of l)) (all_fields_in (values_of l))

unfoldable pub load_call : List ℕ → Loaded
load_call l =
    cond (eqb (length l) image_len)
    (cond (sound (all_fields_in (values_of l)) && storable (state_of l)) (loaded done (state_of l)) (loaded out_of_range zeroed))
    (loaded wrong_length zeroed)

-- document 01's number and state for each case of the answer: a refused load gives the all-zero state
abbrev pub load_given : Result Memory Refusal → Loaded
load_given r = loaded (number_given r) (result_unwrap_or r zeroed)

-- a load without the state's arrays: its number, and the rest of the state that it gives
pub record Opened : Type 0 where
  pub number : ℕ
  pub core : Core

abbrev pub opened_of : Loaded → Opened
opened_of r = record { number = r.number; core = r.state.core }

unfoldable pub open_call : List ℕ → Opened
open_call l = opened_of (load_call l)

abbrev pub open_given : Result Core Refusal → Opened
open_given r = record { number = number_given r; core = result_unwrap_or r zeroed.core }
