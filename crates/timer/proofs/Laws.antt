-- Laws of the definitions, and the promises of specs/Promises.antt.
use Rattle.std.proofs.Common.{◌≡◌, ℕ, zero, suc, ◌+◌, ◌%◌, ◌<◌, ◌≤◌, Bool, true, false, cond, ltb, leb, List, [], ◌∷◌, get_or, refl, ap, ◌∙◌, add-zero, add-suc, mod-lt, arith, ltb-true, le-ltb, lt-ltb, le-leb}
use borrow.Author.Tests.{lt-leb}
use Rattle.numbers.specs.Numbers.{done, out_of_range, too_many_cycles}
use Rattle.bit_utils.specs.Bits.{is_set, set_bit}
use Rattle.interrupt.specs.Flags.{requested}
use Rattle.interrupt.specs.declared.Interrupt.TheVariants as Interrupt
use Rattle.timer.specs.PanDocs.{period, counting, with_tima, step_tima, steps}
use Rattle.timer.specs.Timer.{with_rest, divided, counted, updated, timer_in_range, gives, update_call}
use Rattle.timer.specs.Promises.{ClockRises, TmaTacStay, StepsCompose, Ready, StaysInRange, Corner2, Corner3, StepsAtNoCycles}
use Rattle.timer.specs.declared.Timer.{Timer}
use Rattle.timer.specs.Timer.{Updated}

-- the code's table
abbrev periods : List ℕ
periods = 1024 ∷ 16 ∷ 64 ∷ 256 ∷ []

-- the table is Pan Docs' rule
in_table : (i tac : ℕ) → i < 4 → tac % 4 ≡ i → get_or periods i 0 ≡ period tac
unfolding period
in_table zero tac h e = rw e
in_table (suc zero) tac h e = rw e
in_table (suc (suc zero)) tac h e = rw e
in_table (suc (suc (suc zero))) tac h e = rw e
in_table (suc (suc (suc (suc i)))) tac h e = absurd (omega arith)

pub table_period : (tac : ℕ) → get_or periods (tac % 4) 0 ≡ period tac
table_period tac = in_table (tac % 4) tac (omega arith) refl

in_bounds : (i : ℕ) → i < 4 → (0 < get_or periods i 0) × (get_or periods i 0 ≤ 1024)
in_bounds zero h = omega arith
in_bounds (suc zero) h = omega arith
in_bounds (suc (suc zero)) h = omega arith
in_bounds (suc (suc (suc zero))) h = omega arith
in_bounds (suc (suc (suc (suc i)))) h = absurd (omega arith)

pub period_bounds : (tac : ℕ) → (0 < period tac) × (period tac ≤ 1024)
period_bounds tac = rw (table_period tac) at (in_bounds (tac % 4) (omega arith))

-- the call, case by case
pub call_refused : (t : Timer) (c : ℕ) → 1024 ≤ t.tima_cycles → update_call t c ≡ gives out_of_range t
unfolding update_call
call_refused t c h = rw (le-ltb _ 1024 h)

pub call_too_long : (t : Timer) (c : ℕ) → t.tima_cycles < 1024 → 65536 < c → update_call t c ≡ gives too_many_cycles t
unfolding update_call
call_too_long t c h k = rw (lt-ltb _ 1024 h, lt-leb c 65536 k)

pub call_done : (t : Timer) (c : ℕ) → t.tima_cycles < 1024 → c ≤ 65536 → update_call t c ≡ gives done (updated t c)
unfolding update_call
call_done t c h k = rw (lt-ltb _ 1024 h, le-leb c 65536 k)

pub steps_none : (t : Timer) → steps 0 t ≡ t
unfolding steps
steps_none t = refl

pub steps_compose : StepsCompose
unfolding steps
steps_compose m zero t = rw add-zero
steps_compose m (suc n) t = rw add-suc (ap step_tima (steps_compose m n t))

-- what no step of TIMA touches
pub record Kept (t u : Timer) : Type 0 where
  pub div : u.div ≡ t.div
  pub tma : u.tma ≡ t.tma
  pub tac : u.tac ≡ t.tac
  pub div_cycles_law : u.div_cycles ≡ t.div_cycles

same : (t : Timer) → Kept t t
same t = record { div = refl; tma = refl; tac = refl; div_cycles_law = refl }

kept_by_step : (b : Bool) (t : Timer) (x f y g : ℕ) → Kept t (cond b (with_tima t x f) (with_tima t y g))
kept_by_step true t x f y g = record { div = refl; tma = refl; tac = refl; div_cycles_law = refl }
kept_by_step false t x f y g = record { div = refl; tma = refl; tac = refl; div_cycles_law = refl }

pub steps_keep : (n : ℕ) (t : Timer) → Kept t (steps n t)
unfolding steps step_tima
steps_keep zero t = same t
steps_keep (suc n) t =
    let u = steps n t in
    let h = steps_keep n t in
    let k = kept_by_step (ltb u.tima 255) u (u.tima + 1) u.flags u.tma (requested u.flags Interrupt.Timer) in
    record { div = k.div ∙ h.div; tma = k.tma ∙ h.tma; tac = k.tac ∙ h.tac; div_cycles_law = k.div_cycles_law ∙ h.div_cycles_law }

kept_by_count : (b : Bool) (n rest : ℕ) (t : Timer) → Kept t (cond b (with_rest (steps n t) rest) t)
kept_by_count true n rest t =
    let h = steps_keep n t in
    record { div = h.div; tma = h.tma; tac = h.tac; div_cycles_law = h.div_cycles_law }
kept_by_count false n rest t = same t

pub count_keeps : (t : Timer) (c : ℕ) → Kept t (counted t c)
unfolding counted
count_keeps t c = kept_by_count (counting t.tac) _ _ t

pub clock_rises : ClockRises
unfolding divided
clock_rises t c =
    let h = count_keeps (divided t c) c in
    omega (arith, h.div, h.div_cycles_law)

pub tma_tac_stay : TmaTacStay
unfolding divided
tma_tac_stay t c =
    let h = count_keeps (divided t c) c in
    (h.tma, h.tac)

-- registers stay bytes, and tima_cycles stays in its range, step by step
flags_fit : (b : Bool) (x : ℕ) → x < 32 → cond b x (x + 4) < 256
flags_fit true x h = omega arith
flags_fit false x h = omega arith

requested_fits : (flags : ℕ) → requested flags Interrupt.Timer < 256
unfolding set_bit
requested_fits flags = flags_fit (is_set (flags % 32) 2) (flags % 32) (omega arith)

ready_by_step : (b : Bool) (t : Timer) → ltb t.tima 255 ≡ b → Ready t
    → Ready (cond b (with_tima t (t.tima + 1) t.flags) (with_tima t t.tma (requested t.flags Interrupt.Timer)))
ready_by_step true t e r =
    let h = ltb-true t.tima 255 e in
    record { div = r.div; tima = omega arith; tma = r.tma; tac = r.tac; flags = r.flags; div_cycles_law = r.div_cycles_law; tima_cycles_law = r.tima_cycles_law }
ready_by_step false t e r =
    record { div = r.div; tima = r.tma; tma = r.tma; tac = r.tac; flags = requested_fits t.flags; div_cycles_law = r.div_cycles_law; tima_cycles_law = r.tima_cycles_law }

pub steps_ready : (n : ℕ) (t : Timer) → Ready t → Ready (steps n t)
unfolding steps step_tima
steps_ready zero t r = r
steps_ready (suc n) t r = ready_by_step (ltb (steps n t).tima 255) (steps n t) refl (steps_ready n t r)

ready_by_count : (b : Bool) (n rest : ℕ) (t : Timer) → rest < 1024 → Ready t → Ready (cond b (with_rest (steps n t) rest) t)
ready_by_count true n rest t h r =
    let k = steps_ready n t r in
    record { div = k.div; tima = k.tima; tma = k.tma; tac = k.tac; flags = k.flags; div_cycles_law = k.div_cycles_law; tima_cycles_law = h }
ready_by_count false n rest t h r = r

pub count_ready : (t : Timer) (c : ℕ) → Ready t → Ready (counted t c)
unfolding counted
count_ready t c r =
    let p = period_bounds t.tac in
    let l = mod-lt (t.tima_cycles + c) p.0 in
    ready_by_count (counting t.tac) _ _ t (omega arith) r

pub divide_ready : (t : Timer) (c : ℕ) → Ready t → Ready (divided t c)
unfolding divided
divide_ready t c r =
    record { div = omega arith; tima = r.tima; tma = r.tma; tac = r.tac; flags = r.flags; div_cycles_law = omega arith; tima_cycles_law = r.tima_cycles_law }

pub update_ready : (t : Timer) (c : ℕ) → Ready t → Ready (updated t c)
update_ready t c r = count_ready (divided t c) c (divide_ready t c r)

ready_by_call : (b d : Bool) (x y z : Updated) → Ready x.timer → Ready y.timer → Ready z.timer → Ready (cond b (cond d x y) z).timer
ready_by_call true true x y z r s t = r
ready_by_call true false x y z r s t = s
ready_by_call false d x y z r s t = t

pub stays_in_range : StaysInRange
unfolding update_call
stays_in_range t c r =
    ready_by_call (timer_in_range t) (leb c 65536) (gives done (updated t c)) (gives too_many_cycles t) (gives out_of_range t)
    (update_ready t c r) r r

-- the corners are computed
pub corner_2 : Corner2
unfolding update_call counted steps step_tima divided period is_set set_bit
corner_2 = record { under = refl; one = refl; around = refl }

pub corner_3 : Corner3
unfolding update_call counted steps step_tima divided period is_set set_bit
corner_3 = record { under = refl; calm = refl; reload = refl; asked = refl; again = refl }

pub steps_at_no_cycles : StepsAtNoCycles
unfolding update_call counted steps step_tima divided period is_set set_bit
steps_at_no_cycles = record { tima = refl; rest = refl }
