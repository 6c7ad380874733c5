-- Numbers: what refuses a write gives 0 or a number above 1; and a call by its refusal.
use mathlib.Core.Bool.{Bool, true, false, cond, ◌&&◌, ◌||◌, or-true}
use mathlib.Core.Path.{◌≡◌, refl}
use Prim.Native.Nat.{ℕ, ◌+◌, ◌*◌, ◌≤◌}
use native.Mathlib.Omega.{arith}
use lib.Dec.{eqb, leb}
use lib.ListN.{length}
use borrow.Author.Tests.{eqb-true, eqb-false}
use Rattle.bus.specs.Calls.{Outcome, outcome, unless}
use Rattle.memory.specs.Ranges.{in_range}
use Rattle.memory.specs.World.{World, Fixed}
use Rattle.memory.specs.declared.Memory.{Memory}
use Rattle.numbers.specs.Numbers.{done, owed}
use Rattle.rules.proofs.Tests.{by_cond, untrue}
use Rattle.savelog.proofs.Use.{has_room}
use Rattle.savelog.specs.Log.{width, log_limit, full}
use Rattle.refusals.specs.Refusal.{
  in_save,
  next_index,
  byte_owed,
  word_owed,
  or_else,
  state_refused,
  lengths_fit,
  lengths_refused,
  lent_refused,
  log_refused,
  write_refused,
  refused_write,
  either_in_save,
  byte_room,
  word_room,
  in_sound,
}
use Rattle.dispatch.specs.Kinds.{refused}

-- a call by its refusal
pub by_unless : (P : Outcome → Type 0) (n : ℕ) (w : World) (o : Outcome) → (n ≡ 0 → P o) → ((n ≡ 0 → ⊥) → P (outcome n 0 w)) → P (unless n w o)
unfolding unless
by_unless P n w o f g = by_cond P (eqb n 0) o (outcome n 0 w) (λ t. f (eqb-true n 0 t)) (λ e. g (eqb-false n 0 e))

-- not 1, which is a number of calls that are done
abbrev pub Refusal : ℕ → Type 0
Refusal n = (n ≡ 0 → ⊥) → refused n ≡ true

test_refusal : (b : Bool) (k : ℕ) → refused k ≡ true → Refusal (cond b done k)
test_refusal true k e h = absurd (h refl)
test_refusal false k e h = e

room_refusal : (b : Bool) (k : ℕ) → refused k ≡ true → Refusal (cond b k done)
room_refusal true k e h = e
room_refusal false k e h = absurd (h refl)

or_refusal : (n k : ℕ) → Refusal n → Refusal k → Refusal (or_else n k)
unfolding or_else
or_refusal n k p q = by_cond Refusal (eqb n 0) k n (λ t. q) (λ e. p)

pub state_refusal : (m : Memory) (limit : ℕ) → Refusal (state_refused m limit)
unfolding state_refused
state_refusal m limit = test_refusal (in_range m limit) 3 refl

lengths_refusal : (m : Memory) (rom vram wram save sound : ℕ) → Refusal (lengths_refused m.core rom vram wram save sound)
unfolding lengths_refused
lengths_refusal m rom vram wram save sound = test_refusal (lengths_fit m.core rom vram wram save sound) 4 refl

log_refusal : (log : ℕ) → Refusal (log_refused log)
unfolding log_refused
log_refusal log = test_refusal (leb log log_limit) 4 refl

module _ (x : Fixed) (w : World) where
  write_refusal : Refusal (refused_write x w)
  unfolding write_refused lent_refused
  write_refusal =
      or_refusal (state_refused w.state (length w.log)) _ (state_refusal w.state (length w.log))
      (or_refusal (lengths_refused w.state.core (length x.rom) (length w.vram) (length w.wram) (length w.save) (length x.sound)) _
      (lengths_refusal w.state (length x.rom) (length w.vram) (length w.wram) (length w.save) (length x.sound))
      (log_refusal (length w.log)))

  pub byte_refusal : (i : ℕ) → Refusal (or_else (refused_write x w) (byte_room w.state.core.used (length w.log) i))
  unfolding byte_room
  byte_refusal i =
      or_refusal (refused_write x w) _ write_refusal
      (room_refusal (in_save i && full (length w.log) w.state.core.used 1) 2 refl)

  pub word_refusal : (i : ℕ) → Refusal (or_else (refused_write x w) (word_room w.state.core.used (length w.log) i))
  unfolding word_room
  word_refusal i =
      or_refusal (refused_write x w) _ write_refusal
      (room_refusal (either_in_save i && full (length w.log) w.state.core.used 2) 2 refl)

-- room in the log

no_room : (a b : Bool) → ◌≡◌ {A = ℕ} (cond (a && b) 2 0) 0 → a ≡ true → b ≡ false
no_room true true e t = absurd (omega arith)
no_room true false e t = refl
no_room false b e t = untrue t

module _ (used log i : ℕ) where
  pub byte_fits : byte_room used log i ≡ 0 → in_save i ≡ true → used + width ≤ log
  unfolding byte_room
  byte_fits e t = has_room log used 1 (no_room (in_save i) (full log used 1) e t)

  word_fits : word_room used log i ≡ 0 → either_in_save i ≡ true → used + 2 * width ≤ log
  unfolding word_room
  word_fits e t = has_room log used 2 (no_room (either_in_save i) (full log used 2) e t)

  pub low_fits : word_room used log i ≡ 0 → in_save i ≡ true → used + 2 * width ≤ log
  unfolding either_in_save
  low_fits e t = word_fits e (rw t)

  pub high_fits : word_room used log i ≡ 0 → in_save (next_index i) ≡ true → used + 2 * width ≤ log
  unfolding either_in_save
  high_fits e t = word_fits e (rw t (or-true (in_save i)))

-- a call that is done gives 0 or 1
owed_done : (b : Bool) → refused (cond b owed done) ≡ false
owed_done true = refl
owed_done false = refl

pub byte_done : (i : ℕ) → refused (byte_owed i) ≡ false
unfolding byte_owed
byte_done i = owed_done (in_sound i)

pub word_done : (i : ℕ) → refused (word_owed i) ≡ false
unfolding word_owed
word_done i = owed_done (in_sound i || in_sound (next_index i))
