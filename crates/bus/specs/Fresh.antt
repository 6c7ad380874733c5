-- A fresh bus (document 01, "Cartridge and buffers", and numbers 3 and 4).
use Rattle.std.specs.Prelude.{Bool, cond, List, ◌≡◌, ℕ, eqb, length, replicate, Result}
use Rattle.std.specs.Result.{result_unwrap_or}
use Rattle.mbc.specs.Mbc.{fresh}
use Rattle.memory.specs.Start.{zeroed, started}
use Rattle.memory.specs.declared.Memory.{Memory}
use Rattle.numbers.specs.Numbers.{done}
use Rattle.numbers.specs.One.{OnlyOne}
use Rattle.refusals.specs.Refusal.{or_else, lent_refused}
use Rattle.numbers.specs.Refusal.{number_given}
use Rattle.numbers.specs.declared.Refusal.{Refusal}

-- the number, the state, and video and work memory as they are left; ROM, save, log and sound window are lent for reading
pub record Begun : Type 0 where
  pub number : ℕ
  pub state : Memory
  pub vram : List ℕ
  pub wram : List ℕ

abbrev pub begun : ℕ → Memory → List ℕ → List ℕ → Begun
begun n m v w = record { number = n; state = m; vram = v; wram = w }

-- the state that a description starts with
abbrev pub started_by : ℕ → ℕ → ℕ → Bool → Memory
started_by kind banks code colour = started (fresh kind banks code).cartridge (fresh kind banks code).mapper colour

-- 3 for the description, then 4 for a length
unfoldable pub fresh_refused : ℕ → Memory → ℕ → ℕ → ℕ → ℕ → ℕ → ℕ → ℕ
fresh_refused description m rom vram wram save sound log =
    or_else description (lent_refused m.core rom vram wram save sound log)

-- a refusal gives the all-zero state and leaves both memories; else both are zeroed
unfoldable pub beginning : ℕ → Memory → List ℕ → List ℕ → Begun
beginning n m v w =
    cond (eqb n done) (begun done m (replicate (length v) 0) (replicate (length w) 0)) (begun n zeroed v w)

abbrev pub fresh_call : ℕ → ℕ → ℕ → Bool → ℕ → List ℕ → List ℕ → ℕ → ℕ → ℕ → Begun
fresh_call kind banks code colour rom v w save log sound =
    beginning
    (fresh_refused (fresh kind banks code).number (started_by kind banks code colour) rom (length v) (length w) save sound log)
    (started_by kind banks code colour) v w

-- the state that it gives is all-zero where it is refused
abbrev pub begun_by : Result Memory Refusal → List ℕ → List ℕ → Begun
begun_by r v w = begun (number_given r) (result_unwrap_or r zeroed) v w

-- what is promised of `fresh`: of its result, and of video and work memory as it leaves them
abbrev pub Starts : ℕ → ℕ → ℕ → Bool → ℕ → List ℕ → List ℕ → ℕ → ℕ → ℕ → Result Memory Refusal → List ℕ × List ℕ → Type 0
Starts kind banks code colour rom v w save log sound r left =
    begun_by r left.0 left.1 ≡ fresh_call kind banks code colour rom v w save log sound

-- no second outcome fits
abbrev pub OneStart : Type 0
OneStart =
    (kind banks code : ℕ) (colour : Bool) (rom : ℕ) (v w : List ℕ) (save log sound : ℕ)
    → OnlyOne (Starts kind banks code colour rom v w save log sound)
