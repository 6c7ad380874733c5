-- What an entry needs: every call leaves a state in range.
use mathlib.Core.Bool.{Bool, true}
use mathlib.Core.List.{List}
use mathlib.Core.Path.{◌≡◌, refl, sym, ap, ◌∙◌}
use Prim.Native.Nat.{ℕ}
use lib.Dec.{eqb}
use lib.ListN.{length}
use Rattle.bus.specs.Calls.{Outcome}
use Rattle.bus.specs.Fresh.{Begun, fresh_call}
use Rattle.dispatch.proofs.Numbered.{by_unless}
use Rattle.dispatch.proofs.Starts.{started}
use Rattle.dispatch.proofs.Open.{write_good}
use Rattle.dispatch.proofs.States.{Answers, reads, changes, clears, state_answers}
use Rattle.dispatch.specs.Kinds.{Kind}
use Rattle.dispatch.specs.Lent.{Lent, start}
use Rattle.dispatch.specs.Step.{step, state_step}
use Rattle.dispatch.specs.declared.Call.{Call}
use Rattle.dispatch.specs.declared.Call.TheVariants as call
use Rattle.dispatch.specs.declared.Performed.{Performed}
use Rattle.dispatch.specs.declared.StateCall.{StateCall}
use Rattle.image.specs.Load.{storable}
use Rattle.memory.proofs.Laws.{used_range}
use Rattle.memory.specs.World.{World, Fixed, with_used}
use Rattle.memory.specs.declared.Memory.{Memory}
use Rattle.mmu.proofs.Laws.{write_stays, word_stays, transfer_stays}
use Rattle.put_bytes.proofs.Storable.{parts, joins, stays_storable}
use Rattle.refusals.proofs.Answers.{both_pass}
use Rattle.refusals.specs.Answers.{changed}
use Rattle.refusals.specs.Refusal.{refused_write, refused_state}
use Rattle.refusals.specs.Answers.{Done}
use Rattle.registers.proofs.Kept.{Kept}
use Rattle.copies.specs.Copies.{oam_copy}
use Rattle.registers.specs.Transfers.{block_copy}
use Rattle.rules.proofs.Tests.{by_cond}
use Rattle.savelog.proofs.Use.{use_wider}
use Rattle.savelog.specs.Log.{log_limit, use_in_range}

kept_storable : {m n : Memory} → Kept m n → storable m ≡ true → storable n ≡ true
kept_storable {m} {n} k h = let p = parts m h in joins n (k.range p.0) (rw k.used p.1)

changed_storable : (k : ℕ) (m n : Memory) → storable m ≡ true → storable n ≡ true → storable (changed k m n).memory ≡ true
unfolding changed
changed_storable k m n h e = by_cond (λ (d : Done). storable d.memory ≡ true) (eqb k 0) _ _ (λ t. e) (λ f. h)

pub used_storable : (m : Memory) → storable m ≡ true → (u : ℕ) → use_in_range u log_limit ≡ true → storable (with_used m u) ≡ true
used_storable m h u e = joins (with_used m u) (used_range m u ∙ (parts m h).0) e

cleared : (m : Memory) → storable m ≡ true → storable (with_used m 0) ≡ true
unfolding use_in_range
cleared m h = used_storable m h 0 refl

answers_storable : {m : Memory} {k : Kind} {p : Performed} → Answers m k p → storable m ≡ true → storable p.memory ≡ true
answers_storable (reads n v z) h = h
answers_storable {m} (changes n {next} k) h = changed_storable n m next h (kept_storable k h)
answers_storable {m} clears h = changed_storable (refused_state m) m (with_used m 0) h (cleared m h)

pub state_storable : (m : Memory) (c : StateCall) → storable m ≡ true → storable (state_step m c).memory ≡ true
state_storable m c = answers_storable (state_answers m c)

module _ (x : Fixed) (w : World) (h : storable w.state ≡ true) where
  abbrev Fine : Outcome → Type 0
  Fine o = storable o.after.state ≡ true

  pub step_storable : (c : Call) → storable (step x w c).after.state ≡ true
  unfolding step
  step_storable (call.ReadByte i) = h
  step_storable (call.ReadWord i) = h
  step_storable (call.ReadCgbLcdRam i bank) = h
  step_storable (call.WriteByte i v) =
      by_unless Fine _ w _
      (λ z. let e = (both_pass (refused_write x w) _ z).0 in stays_storable w (write_good x w e).used _ (write_stays x w (write_good x w e).holds 2 i v)) (λ f. h)
  step_storable (call.WriteWord i v) =
      by_unless Fine _ w _
      (λ z. let e = (both_pass (refused_write x w) _ z).0 in stays_storable w (write_good x w e).used _ (word_stays x w (write_good x w e).holds i v)) (λ f. h)
  step_storable (call.DoDmaTransfer page) =
      by_unless Fine _ w _ (λ e. stays_storable w (write_good x w e).used _ (transfer_stays x w (write_good x w e).holds 1 (oam_copy page) 0)) (λ f. h)
  step_storable call.DoHdma =
      by_unless Fine _ w _ (λ e. stays_storable w (write_good x w e).used _ (transfer_stays x w (write_good x w e).holds 1 (block_copy w.state) 0)) (λ f. h)
  step_storable (call.State c) = state_storable w.state c h

-- a fresh bus that was begun
pub fresh_storable : (kind banks code : ℕ) (colour : Bool) (rom v w save log sound : List ℕ) {b : Begun}
    → b ≡ fresh_call kind banks code colour (length rom) v w (length save) (length log) (length sound) → b.number ≡ 0 → storable b.state ≡ true
fresh_storable kind banks code colour rom v w save log sound e z =
    let l : Lent =
    record { kind = kind; banks = banks; code = code; colour = colour; rom = rom; vram = v; wram = w; image = save; log = log; sound = sound } in
    let s = started l (sym (ap (λ (a : Begun). a.number) e) ∙ z) in
    let u = (start l).state in
    ap (λ (a : Begun). storable a.state) e
    ∙ joins u s.good.holds.state (use_wider u.core.used (length log) log_limit s.good.holds.log s.good.used)
