-- What follows from the definitions: laws that callers lean on, and document 01's corners 2 and 3. `promises_hold` ties them to the check.
use Rattle.std.specs.Prelude.{◌≡◌, ℕ, Result, ◌+◌, ◌%◌, ◌<◌, ◌≤◌}
use Rattle.numbers.specs.One.{OnlyOne}
use Rattle.numbers.specs.Refusal.{number_given}
use Rattle.numbers.specs.declared.Refusal.{Refusal}
use Rattle.interrupt.specs.Flags.{requested}
use Rattle.interrupt.specs.declared.Interrupt.TheVariants as Interrupt
use Rattle.timer.specs.PanDocs.{steps}
use Rattle.timer.specs.AtOnce.{at_once}
use Rattle.timer.specs.Overflow.{left_of}
use Rattle.timer.specs.Timer.{clock, updated, update_call, Updates}
use Rattle.timer.specs.declared.Timer.{Timer}

-- 256 x DIV + div_cycles rises by c modulo 65,536
abbrev pub ClockRises : Type 0
ClockRises = (t : Timer) (c : ℕ) → clock (updated t c) ≡ (clock t + c) % 65536

-- TMA and TAC stay
abbrev pub TmaTacStay : Type 0
TmaTacStay = (t : Timer) (c : ℕ) → ((updated t c).tma ≡ t.tma) × ((updated t c).tac ≡ t.tac)

-- steps of TIMA come together
abbrev pub StepsCompose : Type 0
StepsCompose = (m n : ℕ) (t : Timer) → steps (m + n) t ≡ steps n (steps m t)

-- all steps at once are the steps one by one, for every TIMA and TMA and any number of steps
abbrev pub AtOnce : Type 0
AtOnce = (n : ℕ) (t : Timer) → t.tima < 256 → t.tma < 256 → at_once n t ≡ steps n t

-- registers are bytes, and tima_cycles is in its range
pub record Ready (t : Timer) : Type 0 where
  pub div : t.div < 256
  pub tima : t.tima < 256
  pub tma : t.tma < 256
  pub tac : t.tac < 256
  pub flags : t.flags < 256
  pub div_cycles_law : t.div_cycles < 256
  pub tima_cycles_law : t.tima_cycles < 1024

-- a call keeps that
abbrev pub StaysInRange : Type 0
StaysInRange = (t : Timer) (c : ℕ) → Ready t → Ready (update_call t c).timer

-- by fewer cycles TIMA rises and does not pass FF: the flags stay
abbrev pub CalmBefore : Type 0
CalmBefore = (t : Timer) (c : ℕ) → Ready t → c < left_of t → ((updated t c).flags ≡ t.flags) × (t.tima ≤ (updated t c).tima)

-- by that many or more, as a call takes, it requests Timer
abbrev pub AskedFrom : Type 0
AskedFrom = (t : Timer) (c : ℕ) → Ready t → left_of t ≤ c → c ≤ 65536 → (updated t c).flags ≡ requested t.flags Interrupt.Timer

-- document 01, corner 2: a fresh monochrome bus; its page holds DIV D3, TAC F8 and E1 at FF0F
abbrev pub fresh : Timer
fresh = record { div = 0xD3; tima = 0; tma = 0; tac = 0xF8; flags = 0xE1; div_cycles = 0; tima_cycles = 0 }

pub record Corner2 : Type 0 where
  pub under : (update_call fresh 255).timer.div ≡ 0xD3
  pub one : (update_call fresh 256).timer.div ≡ 0xD4
  pub around : (update_call fresh 11520).timer.div ≡ 0

-- document 01, corner 3: TAC 05, TMA F0, TIMA FF on a fresh bus; stored flags 05 read as E5
abbrev pub about : Timer
about = record { div = 0xD3; tima = 0xFF; tma = 0xF0; tac = 5; flags = 0xE1; div_cycles = 0; tima_cycles = 0 }

pub record Corner3 : Type 0 where
  pub under : (update_call about 15).timer.tima ≡ 0xFF
  pub calm : (update_call about 15).timer.flags ≡ 0xE1
  pub reload : (update_call about 16).timer.tima ≡ 0xF0
  pub asked : (update_call about 16).timer.flags ≡ 5
  pub again : (update_call about 272).timer.tima ≡ 0xF0

-- an update by 0 can step TIMA: 1,000 cycles left from TAC 04 are 62 steps of TAC 05, and 8 cycles
abbrev pub waiting : Timer
waiting = record { div = 0; tima = 0; tma = 0; tac = 5; flags = 0xE1; div_cycles = 0; tima_cycles = 1000 }

pub record StepsAtNoCycles : Type 0 where
  pub tima : (update_call waiting 0).timer.tima ≡ 62
  pub rest : (update_call waiting 0).timer.tima_cycles ≡ 8

-- no second outcome fits
abbrev pub OneUpdate : Type 0
OneUpdate = (t : Timer) (c : ℕ) → OnlyOne (Updates t c)

-- nor a second answer, as `update_lent` gives it
abbrev pub OneUpdated : Type 0
OneUpdated = (t : Timer) (c : ℕ) → OnlyOne (λ (r : Result (Unit {0}) Refusal). Updates t c (number_given r))

pub record Promises : Type 0 where
  pub clock_rises : ClockRises
  pub tma_tac_stay : TmaTacStay
  pub steps_compose : StepsCompose
  pub at_once_law : AtOnce
  pub stays_in_range : StaysInRange
  pub calm_before : CalmBefore
  pub asked_from : AskedFrom
  pub corner_2 : Corner2
  pub corner_3 : Corner3
  pub steps_at_no_cycles : StepsAtNoCycles
  pub one_update : OneUpdate
  pub one_updated : OneUpdated
