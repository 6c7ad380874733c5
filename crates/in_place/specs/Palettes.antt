-- A palette's registers and colours in an image: how the code of src/palettes.rt goes. Nothing here need be believed: the contracts of its public functions
-- cite crate registers alone.
use Rattle.std.specs.Prelude.{List, ℕ, ◌+◌, get_or, set}
use Rattle.image.specs.Patches.{color_in, color_put}
use Rattle.palette.specs.PanDocs.{address_of, color_of, byte_in}
use Rattle.palette.specs.Palette.{next_index, data_written}
use Rattle.palette.specs.declared.Written.{Written}
use Rattle.registers.specs.declared.colour.Plane.{Plane}
use Rattle.registers.specs.declared.colour.Plane.TheVariants.{Background, Sprites}

-- the first colour of either palette, of the 64
abbrev pub first_of : Plane → ℕ
first_of Background = 0
first_of Sprites = 32

-- of the colours from `first` on, the one that the address of an index register is in
abbrev pub color_for : ℕ → ℕ → ℕ
color_for first index = first + color_of (address_of index)

-- the byte `at` is the index register, and the next the data register
unfoldable pub index_put : List ℕ → ℕ → ℕ → ℕ → List ℕ
index_put i at first v = set (set i at v) (at + 1) (byte_in (color_in i (color_for first v)) (address_of v))

unfoldable pub data_of : List ℕ → ℕ → ℕ → ℕ → Written
data_of i at first v =
    data_written (get_or i at 0) (color_in i (color_for first (get_or i at 0))) (color_in i (color_for first (next_index (get_or i at 0)))) v

unfoldable pub data_put : List ℕ → ℕ → ℕ → ℕ → List ℕ
data_put i at first v =
    color_put (set (set i at (data_of i at first v).index) (at + 1) (data_of i at first v).«data») (color_for first (get_or i at 0)) (data_of i at first v).color
