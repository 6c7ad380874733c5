-- What every function here asks of an image: that a load takes it. Its state is then `(load_call i).state`.
use Rattle.std.specs.Prelude.{List, ◌≡◌, ℕ}
use Rattle.image.specs.Load.{load_call}
use Rattle.numbers.specs.Numbers.{done}
use Rattle.packing.specs.Packing.{Below}

abbrev pub Held : List ℕ → Type 0
Held i = Below 256 i × ((load_call i).number ≡ done)
