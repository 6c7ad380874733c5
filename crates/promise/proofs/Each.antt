-- What holds of each call, on any world.
use mathlib.Core.Bool.{false, ◌||◌}
use mathlib.Core.Path.{◌≡◌, refl}
use Prim.Native.Nat.{ℕ, ◌/◌, ◌%◌}
use lib.Dec.{eqb}
use Rattle.dispatch.proofs.Numbered.{by_unless}
use Rattle.dispatch.proofs.States.{Answers, reads, changes, clears, state_answers}
use Rattle.memory.specs.World.{World, Fixed}
use Rattle.memory.specs.declared.Memory.{Memory}
use Rattle.mmu.proofs.Saves.{Spares, Clear, spares_trans, write_spares, transfer_spares, oam_clear, block_clear}
use Rattle.mmu.specs.Access.{put}
use Rattle.mmu.specs.Write.{transferred, write_at, word_at}
use Rattle.copies.specs.Copies.{oam_copy}
use Rattle.registers.specs.Transfers.{block_copy}
use Rattle.copies.specs.declared.Copy.{Copy}
use Rattle.rules.proofs.Tests.{by_cond, neither}
use Rattle.promise.specs.Bus.{Outcome, outcome, step, in_save, next_index, Performed, Done, Kind, Reading, Clearing, Other, kind_of}
use Rattle.promise.specs.Bus.call as call
use Rattle.promise.specs.Calls.{writes_of, reaches}
use Rattle.promise.specs.Each.{Untouched, TransferPromise, OutsidePromise}
use Rattle.promise.proofs.Bus.{
  refused_write,
  changed,
  unless,
  in_world,
}
use Rattle.promise.proofs.Writes.{outside_save, write_spared}

-- Transfers

untouched : (w u : World) → Spares w u → Untouched w u
untouched w u s = record { save = s.save; log = s.log; used = s.used }

same : (w : World) → Untouched w w
same w = record { save = refl; log = refl; used = refl }

transfer_untouched : (x : Fixed) (w : World) (k : Copy) (v : ℕ) → Clear k
    → Untouched w (unless (refused_write x w) w (outcome 0 v (transferred x (write_at x 1) k 0 w))).after
transfer_untouched x w k v a =
    by_unless (λ (o : Outcome). Untouched w o.after) (refused_write x w) w _ (λ z. untouched w _ (transfer_spares x 1 k a 0 w)) (λ h. same w)

pub transfer_promise : TransferPromise
unfolding step
transfer_promise x w = (
  λ page. transfer_untouched x w (oam_copy page) 0 (oam_clear page),
  transfer_untouched x w (block_copy w.state) 36 (block_clear w.state),
  λ i v. untouched (put w i v) (write_at x 2 w i v) (write_spared x w i v),
)

-- Calls with no index in A000..BFFF

abbrev Spared : Kind → World → World → Type 0
Spared k w u = (u.save ≡ w.save) × (u.log ≡ w.log) × ((k ≡ Clearing → ⊥) → u.state.core.used ≡ w.state.core.used)

spared : {w u : World} (k : Kind) → Untouched w u → Spared k w u
spared k t = (t.save, t.log, λ h. t.used)

unless_spared : (k : Kind) (n : ℕ) (w : World) (m v : ℕ) (u : World) → Spares w u → Spared k w (unless n w (outcome m v u)).after
unless_spared k n w m v u s =
    by_unless (λ (o : Outcome). Spared k w o.after) n w _ (λ z. spared k (untouched w u s)) (λ h. spared k (same w))

changed_used : (w : World) (n : ℕ) (next : Memory) → next.core.used ≡ w.state.core.used → (changed n w.state next).memory.core.used ≡ w.state.core.used
unfolding changed
changed_used w n next e =
    by_cond (λ (d : Done). d.memory.core.used ≡ w.state.core.used) (eqb n 0) _ _ (λ t. e) (λ f. refl)

state_spared : (w : World) {k : Kind} {p : Performed} → Answers w.state k p → Spared k w (in_world w p).after
state_spared w (reads n v z) = spared Reading (same w)
state_spared w (changes n {next} l) = (refl, refl, λ h. changed_used w n next l.used)
state_spared w clears = (refl, refl, λ h. absurd (h refl))

pub outside_promise : OutsidePromise
unfolding step kind_of writes_of reaches word_at
outside_promise x w (call.ReadByte i) e = spared Reading (same w)
outside_promise x w (call.ReadWord i) e = spared Reading (same w)
outside_promise x w (call.ReadCgbLcdRam i bank) e = spared Reading (same w)
outside_promise x w (call.WriteByte i v) e =
    let o = neither (in_save i) false e in
    unless_spared Other _ w _ _ _ (write_spares x 2 w i v (outside_save i o.0))
outside_promise x w (call.WriteWord i v) e =
    let o = neither (in_save i) (in_save (next_index i) || false) e in
    let p = neither (in_save (next_index i)) false o.1 in
    unless_spared Other _ w _ _ _
    (spares_trans (write_spares x 2 w i (v % 256) (outside_save i o.0))
    (write_spares x 2 _ (next_index i) (v / 256) (outside_save (next_index i) p.0)))
outside_promise x w (call.DoDmaTransfer page) e = spared Other ((transfer_promise x w).0 page)
outside_promise x w call.DoHdma e = spared Other (transfer_promise x w).1
outside_promise x w (call.State c) e = state_spared w (state_answers w.state c)
