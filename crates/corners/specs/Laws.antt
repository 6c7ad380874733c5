-- What is promised beside the corners: `corners_hold` has it as its contract too.
use Rattle.std.specs.Prelude.{Bool, true, [], ◌∷◌, map, ◌≡◌, ℕ, replicate}
use Rattle.bus.specs.Calls.{outcome}
use Rattle.dispatch.specs.Step.{step}
use Rattle.dispatch.specs.declared.Call.{Call}
use Rattle.joypad.specs.Joypad as joypad
use Rattle.joypad.specs.PanDocs.{low_four}
use Rattle.joypad.specs.declared.Controller.{Controller}
use Rattle.mbc.specs.Mbc as mbc
use Rattle.mbc.specs.declared.cartridge.Cartridge.{Cartridge}
use Rattle.memory.specs.Ranges.{in_range}
use Rattle.memory.specs.Start.{zeroed, started}
use Rattle.memory.specs.World.{World, Fixed}
use Rattle.numbers.specs.Numbers.{done, out_of_range}

-- Document 01, number 3: "the all-zero state, itself refused by 3", by every call, which then changes nothing
abbrev pub ZeroRefused : Type 0
ZeroRefused = (x : Fixed) (w : World) (c : Call) → w.state ≡ zeroed → step x w c ≡ outcome out_of_range 0 w

-- a fresh bus of a description in range is in range, whatever log is lent
abbrev pub FreshAccepted : Type 0
FreshAccepted =
    (c : Cartridge) (kind : ℕ) (colour : Bool) (limit : ℕ)
    → mbc.described c (mbc.start kind) ≡ true
    → in_range (started c (mbc.start kind) colour) limit ≡ true

-- "RAM code 4 means 131,072 bytes in 16 banks, with MBC5 only" (document 02, wish 3): with another mapper 3, whatever N is; with MBC5 it is taken
-- for every N that there is ("a power of two", "from 2 to 512")
abbrev pub CodeFour : Type 0
CodeFour =
    ((banks : ℕ) → (mbc.fresh 0 banks 4).number ≡ out_of_range)
    × ((banks : ℕ) → (mbc.fresh 1 banks 4).number ≡ out_of_range)
    × ((banks : ℕ) → (mbc.fresh 2 banks 4).number ≡ out_of_range)
    × (map (λ (banks : ℕ). (mbc.fresh 3 banks 4).number) (2 ∷ 4 ∷ 8 ∷ 16 ∷ 32 ∷ 64 ∷ 128 ∷ 256 ∷ 512 ∷ []) ≡ replicate 9 done)
    × (mbc.ram_banks 4 ≡ 16)
    × ((banks : ℕ) → mbc.ram_len (mbc.cartridge_of banks 4) (mbc.start 3) ≡ 131072)

-- A and Up pressed, and then all eight as an update leaves them
abbrev pub pressed : Controller
pressed = (joypad.press_call (joypad.press_call joypad.fresh 4).controller 0).controller

-- FF00 by Pan Docs' four lines and as document 01 has it ("Joypad"): alike where one kind is selected, and not where none is or both are
pub record Buttons : Type 0 where
  pub second_press : (flags : ℕ) → (joypad.polled pressed 0x10 flags).flags ≡ flags
  pub directions : (low_four 0x20 0xEB ≡ 0xB) × (joypad.pad_read 0x20 0xEB ≡ 0x2B)
  pub actions : (low_four 0x10 0xEB ≡ 0xE) × (joypad.pad_read 0x10 0xEB ≡ 0x1E)
  pub neither : (low_four 0x30 0xEB ≡ 0xF) × (joypad.pad_read 0x30 0xEB ≡ 0x3B)
  pub both : (low_four 0x00 0xEB ≡ 0xA) × (joypad.pad_read 0x00 0xEB ≡ 0x0B)
