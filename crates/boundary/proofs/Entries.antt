-- An entry on a state's image is the call on the state.
use mathlib.Core.Bool.{Bool, true, false, cond}
use mathlib.Core.Path.{◌≡◌, refl, sym, ap}
use Rattle.dispatch.proofs.States.{Answers, reads, changes, clears, state_answers}
use Rattle.dispatch.proofs.Unchanged.{refused_promise}
use Rattle.dispatch.specs.Kinds.{Kind, refused}
use Rattle.dispatch.specs.Step.{step, state_step}
use Rattle.dispatch.specs.declared.Call.{Call}
use Rattle.dispatch.specs.declared.Call.TheVariants as call
use Rattle.dispatch.specs.declared.Performed.{Performed}
use Rattle.dispatch.specs.declared.StateCall.{StateCall}
use Rattle.entry.specs.Entry.{Left, left_in, encoded, state_entry, ask_entry, read_entry, encoded_in, world_entry}
use Rattle.image.specs.Layout.{image_of}
use Rattle.image.specs.Load.{loaded, load_call}
use Rattle.memory.specs.World.{World, Fixed}
use Rattle.mmu.specs.Access.{in_state}
use Rattle.numbers.specs.Numbers.{done}
use Rattle.boundary.specs.Held.{held, changes as changed, on_state, on_world, entry}

module _ (x : Fixed) (w : World) (e : load_call (image_of w.state) ≡ loaded done w.state) where
  -- what the call leaves, in the host's hands
  abbrev stepped : Call → Left
  stepped c = left_in (step x w c).number (step x w c).value (image_of (step x w c).after.state) (step x w c).after

  world_step : (c : Call) → on_world x (held w) c ≡ stepped c
  unfolding world_entry encoded_in
  world_step c = rw e (by_test (refused (step x w c).number) refl)
    where
      by_test : (b : Bool) → refused (step x w c).number ≡ b
          → cond b (left_in (step x w c).number 0 (image_of w.state) w) (stepped c) ≡ stepped c
      by_test true t = let r = refused_promise x w c t in rw (r.0, r.1)
      by_test false t = refl

  abbrev stepped_by : Performed → Left
  stepped_by p = left_in p.number p.value (image_of p.memory) (in_state w p.memory)

  changed_step : (c : StateCall) → (state_step w.state c).value ≡ 0
      → changed (held w) (state_entry (image_of w.state) c) ≡ stepped_by (state_step w.state c)
  unfolding state_entry encoded step
  changed_step c z = rw (e, z) (by_test (refused (state_step w.state c).number) refl)
    where
      by_test : (b : Bool) → refused (state_step w.state c).number ≡ b
          → changed (held w)
          (cond b (record { number = (state_step w.state c).number; image = image_of w.state })
          (record { number = (state_step w.state c).number; image = image_of (state_step w.state c).memory }))
          ≡ left_in (state_step w.state c).number 0 (image_of (state_step w.state c).memory) (in_state w (state_step w.state c).memory)
      by_test true t =
          let r = ap (λ (u : World). u.state) (refused_promise x w (call.State c) t).0 in
          rw r
      by_test false t = refl

  state_step_law : (c : StateCall) {k : Kind} {p : Performed} → Answers w.state k p → p ≡ state_step w.state c
      → on_state k (held w) c ≡ stepped_by (state_step w.state c)
  unfolding ask_entry
  state_step_law c (reads n v z) q = rw (e, ← q)
  state_step_law c (changes n l) q = changed_step c (ap (λ (p : Performed). p.value) (sym q))
  state_step_law c clears q = changed_step c (ap (λ (p : Performed). p.value) (sym q))

  pub entry_step : (c : Call) → entry x (held w) c ≡ stepped c
  unfolding entry step read_entry
  entry_step (call.ReadByte i) = rw e
  entry_step (call.ReadWord i) = rw e
  entry_step (call.ReadCgbLcdRam i bank) = rw e
  entry_step (call.WriteByte i v) = world_step (call.WriteByte i v)
  entry_step (call.WriteWord i v) = world_step (call.WriteWord i v)
  entry_step (call.DoDmaTransfer page) = world_step (call.DoDmaTransfer page)
  entry_step call.DoHdma = world_step call.DoHdma
  entry_step (call.State c) = state_step_law c (state_answers w.state c) refl
