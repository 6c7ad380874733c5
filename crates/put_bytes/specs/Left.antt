-- What a call that writes what is lent leaves: the number, the value, the image and the memories as they are then (document 01, "are exported to our C
-- host on numbers and byte slices").
use Rattle.std.specs.Prelude.{List, ℕ}
use Rattle.image.specs.Layout.{image_of}
use Rattle.image.specs.Load.{load_call}
use Rattle.memory.specs.World.{World, world}
use Rattle.numbers.specs.Numbers.{done}

pub record Left : Type 0 where
  pub number : ℕ
  pub value : ℕ
  pub image : List ℕ
  pub vram : List ℕ
  pub wram : List ℕ
  pub save : List ℕ
  pub log : List ℕ

abbrev pub left : ℕ → ℕ → List ℕ → List ℕ → List ℕ → List ℕ → List ℕ → Left
left n v i a b s l = record { number = n; value = v; image = i; vram = a; wram = b; save = s; log = l }

abbrev pub left_in : ℕ → ℕ → List ℕ → World → Left
left_in n v i w = left n v i w.vram w.wram w.save w.log

-- the world of an image that is taken
abbrev pub world_of : List ℕ → List ℕ → List ℕ → List ℕ → List ℕ → World
world_of i v w s l = world (load_call i).state v w s l

-- the image and the memories of a world
abbrev pub left_by : World → Left
left_by w = left_in done 0 (image_of w.state) w
