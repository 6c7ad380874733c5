-- What the host lends: to a fresh bus over a save image, and to each call.
use Rattle.std.specs.Prelude.{Bool, ◌&&◌, List, ℕ, eqb, length}
use Rattle.bus.specs.Fresh.{Begun, fresh_call}
use Rattle.mbc.specs.Mbc.{rom_len}
use Rattle.mbc.specs.declared.cartridge.Cartridge.{Cartridge}
use Rattle.memory.specs.Ranges.{sound_len}
use Rattle.memory.specs.World.{World, world, Fixed}

-- "A fresh bus over a save image": what the host lends it

pub record Lent : Type 0 where
  pub kind : ℕ
  pub banks : ℕ
  pub code : ℕ
  pub colour : Bool
  pub rom : List ℕ
  pub vram : List ℕ
  pub wram : List ℕ
  pub image : List ℕ
  pub log : List ℕ
  pub sound : List ℕ

abbrev pub start : Lent → Begun
start l =
    fresh_call l.kind l.banks l.code l.colour (length l.rom) l.vram l.wram (length l.image)
    (length l.log) (length l.sound)

abbrev pub begin : Lent → World
begin l = world (start l).state (start l).vram (start l).wram l.image l.log

-- the lengths that a cartridge asks of the ROM and the sound window, which each call is lent for reading: 4 is due where they are others
abbrev pub fits : Cartridge → Fixed → Bool
fits c x = eqb (length x.rom) (rom_len c) && eqb (length x.sound) sound_len
