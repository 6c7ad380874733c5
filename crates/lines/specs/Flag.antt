-- A flag among the bytes of a line's input.
use Rattle.std.specs.Prelude.{ℕ, Bool, true, false, cond, Result, Ok, Err, ◌==◌}
use Rattle.numbers.specs.declared.Refusal.{Refusal}
use Rattle.numbers.specs.declared.Refusal.TheVariants.{Outside}

-- 0 or 1; any other byte is refused
unfoldable pub flag_of : ℕ → Result Bool Refusal
flag_of b = cond (b == 0) (Ok false) (cond (b == 1) (Ok true) (Err Outside))
