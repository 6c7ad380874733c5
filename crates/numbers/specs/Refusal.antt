-- Document 01's number for each case of an answer ("For every case of an enum answer, a definition gives this paper's number and values. The promises use
-- that definition"): a call answers `Ok`, or `Err` with what refuses it.
use Rattle.std.specs.Prelude.{ℕ, Result, Ok, Err}
use Rattle.numbers.specs.Numbers.{done, owed, no_room, out_of_range, wrong_length, too_many_cycles, damaged, outside}
use Rattle.numbers.specs.declared.Owed.{Owed}
use Rattle.numbers.specs.declared.Owed.TheVariants.{Nothing, Sound}
use Rattle.numbers.specs.declared.Refusal.{Refusal}
use Rattle.numbers.specs.declared.Refusal.TheVariants.{NoRoom, OutOfRange, WrongLength, TooManyCycles, Damaged, Outside}

abbrev pub refusal_number : Refusal → ℕ
refusal_number NoRoom = no_room
refusal_number OutOfRange = out_of_range
refusal_number WrongLength = wrong_length
refusal_number TooManyCycles = too_many_cycles
refusal_number Damaged = damaged
refusal_number Outside = outside

-- a write that is done
abbrev pub owed_number : Owed → ℕ
owed_number Nothing = done
owed_number Sound = owed

-- 0 where nothing refuses
abbrev pub number_given : {T : Type 0} → Result T Refusal → ℕ
number_given (Ok _) = done
number_given (Err e) = refusal_number e

-- of a write: 0, or 1 where the host owes the sound write
abbrev pub write_number : Result Owed Refusal → ℕ
write_number (Ok o) = owed_number o
write_number (Err e) = refusal_number e
