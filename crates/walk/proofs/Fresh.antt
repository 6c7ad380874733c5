-- The walk's fresh bus is not refused: its description is good, and its memories have the lengths that this asks for.
use mathlib.Core.Bool.{false}
use mathlib.Core.List.{List}
use mathlib.Core.Path.{◌≡◌, refl}
use Prim.Native.Nat.{ℕ}
use lib.ListN.{length, replicate}
use Rattle.bus.specs.Fresh.{begun, beginning, fresh_refused, fresh_call, started_by}
use Rattle.mbc.specs.Mbc.{fresh, described, start, has_banks, has_code, ram_len, ram_banks}
use Rattle.memory.specs.Start.{started}
use Rattle.numbers.specs.Numbers.{done}
use Rattle.refusals.specs.Refusal.{or_else, lent_refused, lengths_refused, lengths_fit, log_refused}

accepted : fresh_refused (fresh 1 2 2).number (started_by 1 2 2 false) 32768 8192 8192 8192 48 4095 ≡ 0
unfolding fresh_refused or_else lent_refused lengths_refused lengths_fit log_refused fresh described start has_banks has_code ram_len ram_banks started
accepted = refl

pub walk_begins : (rom save log sound : ℕ) (v w : List ℕ) → rom ≡ 32768 → length v ≡ 8192 → length w ≡ 8192 → save ≡ 8192 → log ≡ 4095 → sound ≡ 48
    → fresh_call 1 2 2 false rom v w save log sound
    ≡ begun done (started_by 1 2 2 false) (replicate (length v) 0) (replicate (length w) 0)
unfolding beginning
walk_begins rom save log sound v w a b c d e f = rw (a, b, c, d, e, f, accepted)
