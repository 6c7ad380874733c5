-- No second outcome: the parts of what a call leaves.
use mathlib.Core.Path.{refl}
use Rattle.numbers.proofs.One.{only_one, answered, answered_back}
use Rattle.memory.specs.Start.{zeroed}
use Rattle.bus.specs.Calls.{Outcome, Buffers, buffers}
use Rattle.bus.specs.Fresh.{Begun, OneStart, begun_by}

-- the memories of an outcome
abbrev pub memories : Outcome → Buffers
memories o = buffers o.after.vram o.after.wram o.after.save o.after.log

pub one_start : OneStart
one_start kind banks code colour rom v w save log sound =
    only_one (λ r b. begun_by r b.0 b.1) (λ (b : Begun). answered b.number b.state) (λ (b : Begun). (b.vram, b.wram)) (λ r b. answered_back r zeroed) (λ r b. refl) _
