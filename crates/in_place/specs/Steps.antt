-- Steps of TIMA in an image: how the code of src/interrupts.rt goes. Nothing here need be believed: the contract of `update_timer` has
-- `updated` of crate timer.
use Rattle.std.specs.Prelude.{List, ℕ, get_or, set}
use Rattle.timer.specs.AtOnce.{stepped}
use Rattle.timer.specs.declared.Stepped.{Stepped}

-- TIMA and FF0F after n steps; the image has the page from 0x100 on
abbrev pub stepped_at : List ℕ → ℕ → Stepped
stepped_at i n = stepped (get_or i 0x105 0) (get_or i 0x106 0) (get_or i 0x10F 0) n

-- the image with both put
unfoldable pub stepped_in : List ℕ → ℕ → List ℕ
stepped_in i n = set (set i 0x105 (stepped_at i n).tima) 0x10F (stepped_at i n).flags
