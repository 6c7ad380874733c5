-- The numbers that a call gives back (document 01, "Numbers a call gives back").
use Rattle.std.specs.Prelude.{ℕ}

-- done
abbrev pub done : ℕ
done = 0

-- done, and the host owes the sound write
abbrev pub owed : ℕ
owed = 1

-- refused: the log has no room for what this write may store
abbrev pub no_room : ℕ
no_room = 2

-- refused: the cartridge description or the state is out of range
abbrev pub out_of_range : ℕ
out_of_range = 3

-- refused: a lent memory has a length other than it must have
abbrev pub wrong_length : ℕ
wrong_length = 4

-- refused: more than 65,536 cycles
abbrev pub too_many_cycles : ℕ
too_many_cycles = 5

-- refused: recovery or a converter met a whole record that is damaged, or a converter an address that does not fit
abbrev pub damaged : ℕ
damaged = 6

-- refused: a button, bit, interrupt, bank or index outside
abbrev pub outside : ℕ
outside = 7
