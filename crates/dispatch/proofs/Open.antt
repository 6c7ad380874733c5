-- A bus on which every call can be made: none is refused by 3; by 4 one is where the ROM or the sound window that it is lent has a wrong length.
use mathlib.Core.Bool.{Bool, true, false, cond}
use mathlib.Core.Path.{◌≡◌, refl}
use Prim.Native.Nat.{ℕ, ◌%◌, ◌≤◌}
use native.Mathlib.Omega.{arith}
use lib.Dec.{eqb}
use lib.ListN.{length}
use borrow.Author.Tests.{eq-eqb, le-leb}
use Rattle.bus.proofs.Passes.{write_passes}
use Rattle.memory.specs.Ranges.{state_in_range, in_range}
use Rattle.memory.specs.World.{World, Fixed}
use Rattle.mmu.proofs.Laws.{Stays}
use Rattle.mmu.specs.Access.{Holds}
use Rattle.numbers.specs.Numbers.{done, wrong_length}
use Rattle.refusals.proofs.Answers.{both_pass, state_passes}
use Rattle.rules.proofs.Tests.{both_true}
use Rattle.savelog.proofs.Use.{use_parts, use_joins}
use Rattle.savelog.specs.Log.{width, log_limit, use_in_range}
use Rattle.refusals.specs.Refusal.{
  or_else,
  state_refused,
  lengths_fit,
  lengths_refused,
  lent_refused,
  log_refused,
  read_refused,
  write_refused,
  refused_state,
  refused_read,
  refused_write,
}
use Rattle.dispatch.specs.Lent.{fits}

pub record Good (w : World) : Type 0 where
  pub holds : Holds w
  pub used : use_in_range w.state.core.used (length w.log) ≡ true

pub stays_good : (w u : World) → Good w → Stays w u → Good u
stays_good w u g s = record { holds = s.holds; used = s.used g.used }

-- such is one on which no write is refused by 3 or 4
pub write_good : (x : Fixed) (w : World) → refused_write x w ≡ done → Good w
unfolding write_refused in_range
write_good x w e =
    record {
      holds = (write_passes x.rom x.sound w.state w.vram w.wram w.save w.log e).holds;
      used = (both_true (state_in_range w.state) _ (state_passes w.state (length w.log) (both_pass _ _ e).0)).1;
    }

pub good_use : {w : World} → Good w → (w.state.core.used % width ≡ 0) × (w.state.core.used ≤ length w.log)
good_use {w} g = use_parts w.state.core.used (length w.log) g.used

module _ (w : World) (g : Good w) where
  state_open : (limit : ℕ) → w.state.core.used ≤ limit → state_refused w.state limit ≡ done
  unfolding state_refused in_range
  state_open limit h = rw (g.holds.state, use_joins w.state.core.used limit (good_use g).0 h)

  pub alone_open : refused_state w.state ≡ done
  alone_open = state_open log_limit (omega (arith, (good_use g).1, g.holds.log))

  module _ (x : Fixed) where
    abbrev pub lent_number : ℕ
    lent_number = cond (fits w.state.core.cartridge x) done wrong_length

    lengths_number : lengths_refused w.state.core (length x.rom) (length w.vram) (length w.wram) (length w.save) (length x.sound) ≡ lent_number
    unfolding lengths_refused lengths_fit
    lengths_number = let h = g.holds in rw (eq-eqb _ _ h.vram, eq-eqb _ _ h.wram, eq-eqb _ _ h.save)

    pub read_number : refused_read x w ≡ lent_number
    unfolding read_refused or_else
    read_number = rw alone_open lengths_number

    pub write_number : refused_write x w ≡ lent_number
    unfolding write_refused lent_refused or_else log_refused
    write_number =
        rw (state_open (length w.log) (good_use g).1, le-leb _ _ g.holds.log, lengths_number) (either (fits w.state.core.cartridge x))
      where
        either : (b : Bool) → cond (eqb (cond b done wrong_length) done) done (cond b done wrong_length) ≡ cond b done wrong_length
        either true = refl
        either false = refl
