-- What an entry answers.
use Rattle.std.specs.Prelude.{ℕ}
use Rattle.enter.specs.declared.Entered.{Entered}

abbrev pub entered : ℕ → ℕ → Entered
entered n v = record { number = n; value = v }
