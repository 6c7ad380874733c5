-- What leaves the world as it is, on every state and every buffer, in range or not: a refused call, a fresh bus that is refused, a read.
use Rattle.std.specs.Prelude.{true, ◌≡◌}
use Rattle.memory.specs.Start.{zeroed}
use Rattle.memory.specs.World.{World, Fixed}
use Rattle.numbers.specs.Numbers.{done}
use Rattle.dispatch.specs.declared.Call.{Call}
use Rattle.dispatch.specs.Kinds.{refused, Reading, kind_of}
use Rattle.dispatch.specs.Lent.{Lent, start}
use Rattle.dispatch.specs.Step.{step}

-- Demand 1: "A refused read gives 0; a refused call alters no state and no lent byte"
abbrev pub RefusedPromise : Type 0
RefusedPromise =
    (x : Fixed) (w : World) (c : Call)
    → refused (step x w c).number ≡ true
    → ((step x w c).after ≡ w) × ((step x w c).value ≡ 0)

-- a fresh bus that is refused: "gives the all-zero state", and both memories stay
abbrev pub RefusedFresh : Type 0
RefusedFresh =
    (l : Lent)
    → ((start l).number ≡ done → ⊥)
    → ((start l).state ≡ zeroed) × ((start l).vram ≡ l.vram) × ((start l).wram ≡ l.wram)

-- Document 01, "The bus": "Reads change nothing"
abbrev pub ReadPromise : Type 0
ReadPromise = (x : Fixed) (w : World) (c : Call) → kind_of c ≡ Reading → (step x w c).after ≡ w
