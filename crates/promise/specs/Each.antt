-- What holds of each call, on every state and every buffer, in range or not: `each_call_holds` has these as its contract, with those of crate dispatch.
use Rattle.std.specs.Prelude.{false, ◌≡◌, ℕ}
use Rattle.memory.specs.World.{World, Fixed}
use Rattle.mmu.specs.Access.{put}
use Rattle.mmu.specs.Write.{write_at}
use Rattle.promise.specs.Bus.{step, Call, Clearing, kind_of}
use Rattle.promise.specs.Bus.call as call
use Rattle.promise.specs.Calls.{writes_of, reaches}

-- save, log and use as they were
pub record Untouched (w u : World) : Type 0 where
  pub save : u.save ≡ w.save
  pub log : u.log ≡ w.log
  pub used : u.state.core.used ≡ w.state.core.used

-- No transfer writes a save byte or a log byte: not the two calls, and not what a byte write starts, wherever it is (`put` is the byte alone)
abbrev pub TransferPromise : Type 0
TransferPromise =
    (x : Fixed) (w : World)
    → ((page : ℕ) → Untouched w (step x w (call.DoDmaTransfer page)).after)
    × Untouched w (step x w call.DoHdma).after
    × ((i v : ℕ) → Untouched (put w i v) (write_at x 2 w i v))

-- A call with no index in A000..BFFF writes none, with what it starts; clearing alone changes the use
abbrev pub OutsidePromise : Type 0
OutsidePromise =
    (x : Fixed) (w : World) (c : Call)
    → reaches (writes_of c) ≡ false
    → ((step x w c).after.save ≡ w.save)
    × ((step x w c).after.log ≡ w.log)
    × ((kind_of c ≡ Clearing → ⊥) → (step x w c).after.state.core.used ≡ w.state.core.used)
