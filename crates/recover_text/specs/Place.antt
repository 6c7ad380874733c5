-- The number of Speak.antt for where a byte of a row stands.
use Rattle.std.specs.Prelude.{ℕ}
use Rattle.recover_text.specs.declared.speak.Place.{Place}
use Rattle.recover_text.specs.declared.speak.Place.TheVariants.{Before, Inside, Behind}

abbrev pub place_number : Place → ℕ
place_number Before = 0
place_number Inside = 1
place_number Behind = 2
