-- A refused call and a read leave the world as it is.
use mathlib.Core.Bool.{true, false}
use mathlib.Core.Path.{◌≡◌, refl, sym, ◌∙◌}
use Prim.Native.Nat.{ℕ}
use native.Mathlib.Omega.{arith}
use lib.Dec.{eqb}
use lib.ListN.{length, get_or}
use Rattle.bus.specs.Calls.{Outcome, unless}
use Rattle.memory.specs.World.{World, with_used}
use Rattle.memory.specs.declared.Memory.{Memory}
use Rattle.mmu.specs.Access.{read_in, read_word}
use Rattle.mmu.specs.PanDocs.{vram_at}
use Rattle.refusals.specs.Answers.{Done, Word, changed, word_given}
use Rattle.refusals.specs.Refusal.{or_else, refused_read, vram_length_refused, vram_refused, refused_state}
use Rattle.rules.proofs.Tests.{untrue, by_cond}
use Rattle.savelog.specs.Log.{cleared_use}
use Rattle.dispatch.specs.declared.Call.TheVariants as call
use Rattle.dispatch.specs.Step.{step, performed_done, in_world}
use Rattle.dispatch.specs.declared.Performed.{Performed}
use Rattle.dispatch.specs.Kinds.{refused, Kind, Reading, Other, kind_of}
use Rattle.dispatch.specs.Unchanged.{RefusedPromise, ReadPromise}
use Rattle.dispatch.proofs.Numbered.{by_unless, byte_done, word_done}
use Rattle.dispatch.proofs.States.{byte_zero, Answers, reads, changes, clears, state_answers}

-- Refused

word_zero : (n v : ℕ) → refused (word_given n v).number ≡ true → (word_given n v).value ≡ 0
unfolding word_given
word_zero n v =
    by_cond (λ (b : Word). refused b.number ≡ true → b.value ≡ 0) (eqb n 0) _ _ (λ t. untrue) (λ f e. refl)

abbrev Fair : World → Outcome → Type 0
Fair w o = refused o.number ≡ true → (o.after ≡ w) × (o.value ≡ 0)

-- what is done gives 0 or 1
unless_fair : (n : ℕ) (w : World) (o : Outcome) → refused o.number ≡ false → Fair w (unless n w o)
unless_fair n w o d = by_unless (Fair w) n w o (λ z e. untrue (sym d ∙ e)) (λ h e. (refl, refl))

changed_fair : (w : World) (n : ℕ) (next : Memory) → Fair w (in_world w (performed_done (changed n w.state next)))
unfolding changed
changed_fair w n next =
    by_cond (λ (d : Done). Fair w (in_world w (performed_done d))) (eqb n 0) _ _ (λ t e. untrue e) (λ f e. (refl, refl))

state_fair : (w : World) {k : Kind} {p : Performed} → Answers w.state k p → Fair w (in_world w p)
state_fair w (reads n v z) e = (refl, z e)
state_fair w (changes n {next} l) e = changed_fair w n next e
state_fair w clears e = changed_fair w (refused_state w.state) (with_used w.state cleared_use) e

pub refused_promise : RefusedPromise
unfolding step
refused_promise x w (call.ReadByte i) e = (refl, byte_zero (refused_read x w) (read_in x w i) e)
refused_promise x w (call.ReadWord i) e = (refl, word_zero (refused_read x w) (read_word x w.state w.vram w.wram w.save i) e)
refused_promise x w (call.ReadCgbLcdRam i bank) e = (
  refl,
  byte_zero (or_else (refused_state w.state) (or_else (vram_length_refused w.state.core.banks.colour (length w.vram)) (vram_refused w.state.core.banks.colour i bank)))
      (get_or w.vram (vram_at bank i) 0) e,
)
refused_promise x w (call.WriteByte i v) e = unless_fair _ w _ (byte_done i) e
refused_promise x w (call.WriteWord i v) e = unless_fair _ w _ (word_done i) e
refused_promise x w (call.DoDmaTransfer page) e = unless_fair _ w _ refl e
refused_promise x w call.DoHdma e = unless_fair _ w _ refl e
refused_promise x w (call.State c) e = state_fair w (state_answers w.state c) e

-- Reads

no_read : {A : Type 0} → Other ≡ Reading → A
no_read e = let z : ◌≡◌ {A = ℕ} 0 1 = cc in absurd (omega arith)

state_reads : (w : World) {k : Kind} {p : Performed} → Answers w.state k p → k ≡ Reading → (in_world w p).after ≡ w
state_reads w (reads n v z) e = refl
state_reads w (changes n l) e = no_read e
state_reads w clears e = let z : ◌≡◌ {A = ℕ} 0 1 = cc in absurd (omega arith)

pub read_promise : ReadPromise
unfolding step kind_of
read_promise x w (call.ReadByte i) e = refl
read_promise x w (call.ReadWord i) e = refl
read_promise x w (call.ReadCgbLcdRam i bank) e = refl
read_promise x w (call.WriteByte i v) e = no_read e
read_promise x w (call.WriteWord i v) e = no_read e
read_promise x w (call.DoDmaTransfer page) e = no_read e
read_promise x w call.DoHdma e = no_read e
read_promise x w (call.State c) e = state_reads w (state_answers w.state c) e
