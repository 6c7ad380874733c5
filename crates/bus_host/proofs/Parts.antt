-- A call on the first parts of the memories, seen from the whole memories.
use mathlib.Core.Path.{◌≡◌, subst, ◌∙◌}
use mathlib.Core.List.{List, ◌++◌}
use Prim.Native.Nat.{ℕ, ◌≤◌}
use lib.ListN.{length, take, drop}
use lib.Seq.{take_at, drop_at, length-take-le}
use Rattle.bus.specs.Calls.{outcome}
use Rattle.dispatch.specs.Step.{step}
use Rattle.dispatch.specs.declared.Call.{Call}
use Rattle.memory.specs.World.{world, fixed}
use Rattle.memory.specs.declared.Memory.{Memory}
use Rattle.bus_host.specs.Host.{lent_parts}
use Rattle.bus_host.specs.declared.host.Lengths.{Lengths}

pub lent_step : (n m : Lengths) → n ≡ m → (number value : ℕ) (after before : Memory) (rom sound v w s l v' w' s' l' : List ℕ) (call : Call)
    → n.vram ≤ length v → n.wram ≤ length w → n.save ≤ length s
    → length v' ≡ length (take n.vram v) → length w' ≡ length (take n.wram w) → length s' ≡ length (take n.save s)
    → outcome number value (world after v' w' s' l') ≡ step (fixed (take n.rom rom) sound) (lent_parts n (world before v w s l)) call
    → (outcome number value (lent_parts m (world after (v' ++ drop n.vram v) (w' ++ drop n.wram w) (s' ++ drop n.save s) l')) ≡ step (fixed (take m.rom rom) sound) (lent_parts m (world before v w s l)) call)
    × ((drop m.vram (v' ++ drop n.vram v) ≡ drop m.vram v) × ((drop m.wram (w' ++ drop n.wram w) ≡ drop m.wram w) × (drop m.save (s' ++ drop n.save s) ≡ drop m.save s)))
lent_step n m e number value after before rom sound v w s l v' w' s' l' call bv bw bs ev ew es h =
    let hv : length v' ≡ n.vram = ev ∙ length-take-le n.vram v bv in
    let hw : length w' ≡ n.wram = ew ∙ length-take-le n.wram w bw in
    let hs : length s' ≡ n.save = es ∙ length-take-le n.save s bs in
    subst
    (λ (k : Lengths).
    (outcome number value (lent_parts k (world after (v' ++ drop n.vram v) (w' ++ drop n.wram w) (s' ++ drop n.save s) l')) ≡ step (fixed (take k.rom rom) sound) (lent_parts k (world before v w s l)) call)
    × ((drop k.vram (v' ++ drop n.vram v) ≡ drop k.vram v) × ((drop k.wram (w' ++ drop n.wram w) ≡ drop k.wram w) × (drop k.save (s' ++ drop n.save s) ≡ drop k.save s))))
    e (
      rw (take_at v' (drop n.vram v) n.vram hv, take_at w' (drop n.wram w) n.wram hw, take_at s' (drop n.save s) n.save hs) h,
      (drop_at v' (drop n.vram v) n.vram hv, (drop_at w' (drop n.wram w) n.wram hw, drop_at s' (drop n.save s) n.save hs)),
    )
