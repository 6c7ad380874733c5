-- A state that an image has: in range, and with a use that is in range for the longest log.
use mathlib.Core.Bool.{true}
use mathlib.Core.Path.{◌≡◌}
use lib.ListN.{length}
use Rattle.image.specs.Load.{storable}
use Rattle.memory.specs.Ranges.{state_in_range, in_range}
use Rattle.memory.specs.World.{World}
use Rattle.memory.specs.declared.Memory.{Memory}
use Rattle.mmu.proofs.Laws.{Stays}
use Rattle.rules.proofs.Tests.{both_true}
use Rattle.savelog.proofs.Use.{use_wider}
use Rattle.savelog.specs.Log.{log_limit, use_in_range}

-- it is made of two
pub parts : (m : Memory) → storable m ≡ true → (state_in_range m ≡ true) × (use_in_range m.core.used log_limit ≡ true)
unfolding storable in_range
parts m h = both_true (state_in_range m) _ h

pub joins : (m : Memory) → state_in_range m ≡ true → use_in_range m.core.used log_limit ≡ true → storable m ≡ true
unfolding storable in_range
joins m a b = rw (a, b)

-- what a write leaves
pub stays_storable : (w : World) → use_in_range w.state.core.used (length w.log) ≡ true → (u : World) → Stays w u → storable u.state ≡ true
stays_storable w e u s = joins u.state s.holds.state (use_wider u.state.core.used (length u.log) log_limit s.holds.log (s.used e))
