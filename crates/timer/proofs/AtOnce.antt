-- All steps of TIMA at once are the steps one by one.
use Rattle.std.proofs.Common.{◌≡◌, ℕ, zero, suc, ◌+◌, ◌-◌, ◌/◌, ◌%◌, ◌<◌, ◌≤◌, Bool, true, false, cond, sym, refl, ap, ◌∙◌, add-zero, mod-lt, mod-eq_of_lt, add-one, arith, le-ltb, lt-ltb, eq-eqb}
use native.Mathlib.Decide.{dec_lt}
use native.Mathlib.Nat.{mod_self, suc-mod, zero-mod}
use borrow.Author.Tests.{eqb-false}
use Rattle.bit_utils.specs.Bits.{is_set, set_bit}
use Rattle.interrupt.specs.Flags.{requested}
use Rattle.interrupt.specs.declared.Interrupt.TheVariants as Interrupt
use Rattle.timer.specs.PanDocs.{counting, with_tima, step_tima, steps}
use Rattle.timer.specs.AtOnce.{periods_in, stepped, with_stepped, at_once}
use Rattle.timer.specs.Timer.{with_rest, counted}
use Rattle.timer.specs.Promises.{AtOnce}
use Rattle.timer.specs.declared.Periods.{Periods}
use Rattle.timer.specs.declared.Stepped.{Stepped}
use Rattle.timer.specs.declared.Timer.{Timer}
use Rattle.timer.proofs.Laws.{steps_none}

-- a second request leaves the flags
again_by : (x : ℕ) (b : Bool) → x < 32 → is_set x 2 ≡ b → set_bit (cond b x (x + 4) % 32) 2 ≡ cond b x (x + 4)
unfolding set_bit is_set
again_by x true h e =
    let m : x % 32 ≡ x = omega arith in
    rw (m, e)
again_by x false h e =
    let z : x / 4 % 2 ≡ 0 = omega (arith, eqb-false (x / 4 % 2) 1 e) in
    let m : (x + 4) % 32 ≡ x + 4 = omega arith in
    rw (m, eq-eqb ((x + 4) / 4 % 2) 1 (omega arith))

asked_again : (f : ℕ) → requested (requested f Interrupt.Timer) Interrupt.Timer ≡ requested f Interrupt.Timer
unfolding set_bit
asked_again f = again_by (f % 32) (is_set (f % 32) 2) (omega arith) refl

-- the closed form, before TIMA passes FF and from there on
module _ (tima tma flags n : ℕ) where
  pub before : n < 256 - tima → stepped tima tma flags n ≡ record { tima = tima + n; flags = flags }
  unfolding stepped
  before h = rw (lt-ltb n (256 - tima) h)

  pub from : 256 - tima ≤ n
      → stepped tima tma flags n ≡ record { tima = tma + (n - (256 - tima)) % (256 - tma); flags = requested flags Interrupt.Timer }
  unfolding stepped
  from h = rw (le-ltb n (256 - tima) h)

module _ (n : ℕ) (t : Timer) where
  pub once_before : n < 256 - t.tima → at_once n t ≡ with_tima t (t.tima + n) t.flags
  once_before h = ap (with_stepped t) (before t.tima t.tma t.flags n h)

  pub once_from : 256 - t.tima ≤ n
      → at_once n t ≡ with_tima t (t.tma + (n - (256 - t.tima)) % (256 - t.tma)) (requested t.flags Interrupt.Timer)
  once_from h = ap (with_stepped t) (from t.tima t.tma t.flags n h)

-- one step
rises : (t : Timer) → t.tima < 255 → step_tima t ≡ with_tima t (t.tima + 1) t.flags
unfolding step_tima
rises t h = rw (lt-ltb t.tima 255 h)

reloads : (t : Timer) → 255 ≤ t.tima → step_tima t ≡ with_tima t t.tma (requested t.flags Interrupt.Timer)
unfolding step_tima
reloads t h = rw (le-ltb t.tima 255 h)

-- a remainder that is not the greatest rises, and the greatest is followed by 0
module _ (k m : ℕ) where
  rem_more : k % m + 1 < m → (k + 1) % m ≡ k % m + 1
  rem_more h = rw (add-one, add-one) (suc-mod k m ∙ mod-eq_of_lt (rw add-one at h))

  rem_around : 0 < m → m ≤ k % m + 1 → (k + 1) % m ≡ 0
  rem_around p h =
      let l = mod-lt k p in
      let e : suc (k % m) ≡ m = omega arith in
      rw add-one (suc-mod k m ∙ ap (λ (x : ℕ). x % m) e ∙ mod_self m)

-- the closed form goes up as the steps do
module _ (n : ℕ) (t : Timer) (ht : t.tima < 256) (hm : t.tma < 256) where
  abbrev left : ℕ
  left = 256 - t.tima

  abbrev span : ℕ
  span = 256 - t.tma

  abbrev asked : ℕ
  asked = requested t.flags Interrupt.Timer

  rises_before : n + 1 < left → step_tima (at_once n t) ≡ at_once (n + 1) t
  rises_before h =
      rw (once_before n t (omega arith), once_before (n + 1) t h)
      (rises (with_tima t (t.tima + n) t.flags) (omega arith) ∙ ap (λ (x : ℕ). with_tima t x t.flags) (omega arith))

  overflows : n < left → left ≤ n + 1 → step_tima (at_once n t) ≡ at_once (n + 1) t
  overflows h k =
      let z : n + 1 - left ≡ 0 = omega arith in
      rw (once_before n t h, once_from (n + 1) t k, z, zero-mod, add-zero) (reloads (with_tima t (t.tima + n) t.flags) (omega arith))

  module _ (h : left ≤ n) where
    -- steps since the last overflow
    abbrev since : ℕ
    since = (n - left) % span

    one_more : n + 1 - left ≡ n - left + 1
    one_more = omega arith

    rises_from : since + 1 < span → step_tima (at_once n t) ≡ at_once (n + 1) t
    rises_from k =
        rw (once_from n t h, once_from (n + 1) t (omega arith), one_more, rem_more (n - left) span k)
        (rises (with_tima t (t.tma + since) asked) (omega arith) ∙ ap (λ (x : ℕ). with_tima t x asked) (omega arith))

    overflows_again : span ≤ since + 1 → step_tima (at_once n t) ≡ at_once (n + 1) t
    overflows_again k =
        rw (once_from n t h, once_from (n + 1) t (omega arith), one_more, rem_around (n - left) span (omega arith) k, add-zero)
        (reloads (with_tima t (t.tma + since) asked) (omega arith) ∙ ap (with_tima t t.tma) (asked_again t.flags))

  next_by : Dec (n + 1 < left) → Dec (n < left) → Dec ((n - left) % span + 1 < span) → step_tima (at_once n t) ≡ at_once (n + 1) t
  next_by (yes a) b c = rises_before a
  next_by (no a) (yes b) c = overflows b (omega (arith, a))
  next_by (no a) (no b) (yes c) = rises_from (omega (arith, b)) c
  next_by (no a) (no b) (no c) = overflows_again (omega (arith, b)) (omega (arith, c))

  next : step_tima (at_once n t) ≡ at_once (n + 1) t
  next = next_by (dec_lt (n + 1) left) (dec_lt n left) (dec_lt ((n - left) % span + 1) span)

pub at_once_law : AtOnce
unfolding steps
at_once_law zero t ht hm = rw (once_before 0 t (omega arith), add-zero)
at_once_law (suc n) t ht hm = rw (← at_once_law n t ht hm) (sym (next n t ht hm ∙ ap (λ (k : ℕ). at_once k t) (add-one n)))

-- TIMA's part of an update: as many steps as there are full periods
periods_by : (t : Timer) (q r : ℕ) (b : Bool) → {p : Periods} → p ≡ cond b (record { full = q; rest = r }) (record { full = 0; rest = t.tima_cycles })
    → cond b (with_rest (steps q t) r) t ≡ with_rest (steps p.full t) p.rest
periods_by t q r true e = rw e
periods_by t q r false e = rw (e, steps_none t)

module _ (t : Timer) (c : ℕ) {p : Periods} (e : p ≡ periods_in t.tac t.tima_cycles c) where
  counted_periods : counted t c ≡ with_rest (steps p.full t) p.rest
  unfolding counted periods_in
  counted_periods = periods_by t _ _ (counting t.tac) e

  pub counted_at_once : t.tima < 256 → t.tma < 256 → {s : Stepped} → s ≡ stepped t.tima t.tma t.flags p.full
      → counted t c ≡ with_rest (with_stepped t s) p.rest
  counted_at_once ht hm f =
      counted_periods
      ∙ ap (λ (u : Timer). with_rest u p.rest) (sym (at_once_law p.full t ht hm) ∙ ap (with_stepped t) (sym f))
