-- LY = LYC, by the four ways that the comparison goes: other lines, a source that is not selected, a signal that stands, and a request.
use mathlib.Core.Bool.{Bool, true, false, cond, not, ◌&&◌, ◌||◌, and-true}
use mathlib.Core.Logic.{◌⊎◌, ⊎_elim}
use mathlib.Core.Path.{◌≡◌, refl, sym, ap, ◌∙◌, subst}
use Prim.Native.Nat.{ℕ, ◌+◌, ◌-◌, ◌*◌, ◌/◌, ◌%◌, ◌<◌, ◌≤◌}
use native.Mathlib.Omega.{arith}
use lib.Dec.{eqb, ltb}
use borrow.Author.Tests.{eqb-true, eqb-false, eq-eqb, ne_eqb, ltb-true, not-true}
use Rattle.bit_utils.specs.Bits.{is_set, set_bit}
use Rattle.lcd.specs.Lcd.{with_compare, lcd_requested, lyc_signalled, ly_equal, ly_differs}
use Rattle.lcd.specs.Lcd.{ly_compared, scanline_written, lyc_written, status_put, mode_signalled, status_written}
use Rattle.lcd.specs.PanDocs.{mode_selected}
use Rattle.lcd.specs.declared.Screen.{Screen}
use Rattle.rules.proofs.Tests.{by_cond, cond_both, cond_true, cond_false, untrue, both_true, neither}
use Rattle.pan_docs.specs.Bits.{bit}
use Rattle.pan_docs.specs.LyLyc.{equal, raises, no_signal, mode_raises, lyc_raises, status_raises, on, Compared, StatusBits, LyIsLyc}
use Rattle.pan_docs.proofs.Bits.{is_set_law, is_one, is_zero, bit_below, bit_shifted, bit_left}
use Rattle.pan_docs.proofs.Bits.{bit_right, bit_set_here, bit_set_other, bit_unset_here, bit_unset_other}

eqb_sym : (a b : ℕ) (t : Bool) → eqb a b ≡ t → eqb b a ≡ t
eqb_sym a b true e = eq-eqb b a (sym (eqb-true a b e))
eqb_sym a b false e = ne_eqb b a (λ p. eqb-false a b e (sym p))

-- a request keeps five bits and sets the second
requested_others : (flags k : ℕ) → k < 5 → (k ≡ 1 → ⊥) → bit (set_bit (flags % 32) 1) k ≡ bit flags k
requested_others flags k h d = bit_set_other (flags % 32) 1 k d ∙ bit_below flags 5 k h

module _ (s : Screen) where
  differs : eqb s.compare s.lcd.line ≡ false → Compared s (ly_differs s)
  differs f =
      let e : equal s ≡ false = eqb_sym s.compare s.lcd.line false f in
      let r : raises s ≡ false = ap (λ (b : Bool). b && (eqb (bit s.status 6) 1 && eqb s.lcd.signal 0)) e in
      record {
        bit2 = bit_unset_here s.status 2 ∙ sym (cond_false (equal s) 1 0 e);
        others = bit_unset_other s.status 2;
        requested = λ t. untrue (sym r ∙ t);
        other_flags = λ k h d. refl;
        not_requested = λ t. refl;
        line = refl;
        lyc = refl;
        control = refl;
      }

  module _ (e : equal s ≡ true) where
    raises_by : (a b : Bool) → eqb (bit s.status 6) 1 ≡ a → eqb s.lcd.signal 0 ≡ b → raises s ≡ (a && b)
    raises_by a b p q = rw (e, p, q)

    bit2_equal : bit (set_bit s.status 2) 2 ≡ cond (equal s) 1 0
    bit2_equal = bit_set_here s.status 2 ∙ sym (cond_true (equal s) 1 0 e)

    -- the signal moves or not, and nothing is requested
    quiet : (t : Screen) → raises s ≡ false → t.status ≡ set_bit s.status 2 → t.flags ≡ s.flags → t.lcd.line ≡ s.lcd.line
        → t.compare ≡ s.compare → t.control ≡ s.control → Compared s t
    quiet t r p f l c o =
        record {
          bit2 = ap (λ (x : ℕ). bit x 2) p ∙ bit2_equal;
          others = λ k d. ap (λ (x : ℕ). bit x k) p ∙ bit_set_other s.status 2 k d;
          requested = λ y. untrue (sym r ∙ y);
          other_flags = λ k h d. ap (λ (x : ℕ). bit x k) f;
          not_requested = λ y. f;
          line = l;
          lyc = c;
          control = o;
        }

    equals : Compared s (ly_equal s)
    unfolding ly_equal lyc_signalled
    equals =
        by_cond (Compared s) (is_set s.status 6) _ _
        (λ t.
        let a : eqb (bit s.status 6) 1 ≡ true = sym (is_set_law s.status 6) ∙ t in
        by_cond (Compared s) (eqb s.lcd.signal 0) _ _
        (λ z.
        let r : raises s ≡ true = raises_by true true a z in
        record {
          bit2 = bit2_equal;
          others = bit_set_other s.status 2;
          requested = λ y. bit_set_here (s.flags % 32) 1;
          other_flags = requested_others s.flags;
          not_requested = λ y. untrue (sym y ∙ r);
          line = refl;
          lyc = refl;
          control = refl;
        })
        (λ z. quiet _ (raises_by true false a z) refl refl refl refl refl))
        (λ f. quiet _ (raises_by false _ (sym (is_set_law s.status 6) ∙ f) refl) refl refl refl refl refl)

  compared : s.lcd.disabled ≡ false → Compared s (ly_compared s)
  unfolding ly_compared
  compared d =
      subst (Compared s) (sym (cond_false s.lcd.disabled s _ d))
      (by_cond (Compared s) (eqb s.compare s.lcd.line) (ly_equal s) (ly_differs s)
      (λ t. equals (eqb_sym s.compare s.lcd.line true t))
      differs)

  disabled : s.lcd.disabled ≡ true → ly_compared s ≡ s
  unfolding ly_compared
  disabled d = cond_true s.lcd.disabled s _ d

lyc_written_law : (s : Screen) (v : ℕ) → on s → (s.compare ≡ v → ⊥) → Compared (with_compare s v) (lyc_written s v)
unfolding lyc_written
lyc_written_law s v o d =
    subst (Compared (with_compare s v)) (sym (cond_false _ s _ (ne_eqb s.compare v d) ∙ cond_true _ _ _ (is_one s.control 7 o.0)))
    (compared (with_compare s v) o.1)

lyc_off : (s : Screen) (v : ℕ) → bit s.control 7 ≡ 0 → lyc_written s v ≡ with_compare s v
unfolding lyc_written
lyc_off s v o =
    by_cond (λ (t : Screen). t ≡ with_compare s v) (eqb s.compare v) s _ (λ t. ap (λ (x : ℕ). with_compare s x) (eqb-true s.compare v t))
    (λ f. cond_false _ _ _ (is_zero s.control 7 o))

lyc_disabled : (s : Screen) (v : ℕ) → s.lcd.disabled ≡ true → lyc_written s v ≡ with_compare s v
unfolding lyc_written
lyc_disabled s v d =
    by_cond (λ (t : Screen). t ≡ with_compare s v) (eqb s.compare v) s _ (λ t. ap (λ (x : ℕ). with_compare s x) (eqb-true s.compare v t))
    (λ f. cond_both (λ (t : Screen). t ≡ with_compare s v) (is_set s.control 7) (disabled (with_compare s v) d) refl)

lyc_same : (s : Screen) (v : ℕ) → s.compare ≡ v → lyc_written s v ≡ s
unfolding lyc_written
lyc_same s v e = cond_true _ s _ (eq-eqb s.compare v e)

-- FF44
ly_read_only : (s : Screen) (v : ℕ) → (bit s.lcd.line 7 ≡ 0) ⊎ (bit v 7 ≡ 1) → scanline_written s v ≡ s
unfolding scanline_written
ly_read_only s v =
    ⊎_elim (λ e. cond_false _ _ _ (is_zero s.lcd.line 7 e))
    (λ e. cond_both (λ (t : Screen). t ≡ s) (is_set s.lcd.line 7) (cond_true _ _ _ (is_one v 7 e)) refl)

-- FF41

-- no source requests: neither the mode's, nor LYC's
and_none : (a b c : Bool) → (a && (b && (c && false))) ≡ false
and_none false b c = refl
and_none true false c = refl
and_none true true false = refl
and_none true true true = refl

no_source : (z m d e l : Bool) → (z && (m || (d && (e && l)))) ≡ false → ((z && m) ≡ false) × ((d && (e && (l && z))) ≡ false)
no_source false m d e l h = (refl, and_none d e l)
no_source true m d e l h =
    let n = neither m _ h in
    (n.0, ap (λ (b : Bool). d && (e && b)) (and-true l) ∙ n.1)

neither_arm : {A : Type 0} (a b : Bool) (x y : A) → (a && b) ≡ false → cond a (cond b x y) y ≡ y
neither_arm false b x y h = refl
neither_arm true b x y h = cond_false b x y h

module _ (status v : ℕ) where
  read_only : (k : ℕ) → k < 3 → bit (v / 8 % 16 * 8 + status % 8) k ≡ bit status k
  read_only k h = bit_right (v / 8 % 16) 3 {r = status % 8} (omega arith) k h ∙ bit_below status 3 k h

  selected : (k : ℕ) → 3 ≤ k → k ≤ 6 → bit (v / 8 % 16 * 8 + status % 8) k ≡ bit v k
  selected k h l =
      let e : 3 + (k - 3) ≡ k = omega arith in
      bit_left (v / 8 % 16) 3 {r = status % 8} (omega arith) k h
      ∙ bit_below (v / 8) 4 (k - 3) (omega arith)
      ∙ bit_shifted v 3 (k - 3)
      ∙ ap (λ (i : ℕ). bit v i) e

-- what holds before and after the request of the mode's source holds of its part
mode_by : (P : Screen → Type 0) (s : Screen) → P s → P (lcd_requested s) → P (mode_signalled s)
unfolding mode_signalled
mode_by P s p q = cond_both P (eqb s.lcd.signal 0) (cond_both P (mode_selected s.status s.lcd.mode) q p) p

module _ (s : Screen) (v : ℕ) where
  put_bits : StatusBits s (status_put s v) v
  put_bits =
      record {
        sources = selected s.status v;
        mode = λ k h. read_only s.status v k (omega arith);
        other_flags = λ k h d. refl;
        line = refl;
        lyc = refl;
      }

  mode_bits : StatusBits s (mode_signalled (status_put s v)) v
  mode_bits =
      mode_by (λ (t : Screen). StatusBits s t v) (status_put s v) put_bits
      (record {
        sources = selected s.status v;
        mode = λ k h. read_only s.status v k (omega arith);
        other_flags = requested_others s.flags;
        line = refl;
        lyc = refl;
      })

  after_comparing : (t : Screen) → StatusBits s t v → (b : Bool) → t.lcd.disabled ≡ b → StatusBits s (ly_compared t) v
  after_comparing t h true d = subst (λ (u : Screen). StatusBits s u v) (sym (disabled t d)) h
  after_comparing t h false d =
      let c = compared t d in
      record {
        sources = λ k a b. c.others k (λ e. omega arith) ∙ h.sources k a b;
        mode = λ k a. c.others k (λ e. omega arith) ∙ h.mode k a;
        other_flags = λ k a e. c.other_flags k a e ∙ h.other_flags k a e;
        line = c.line ∙ h.line;
        lyc = c.lyc ∙ h.lyc;
      }

  status_written_law : StatusBits s (status_written s v) v
  unfolding status_written
  status_written_law = cond_both (λ (t : Screen). StatusBits s t v) (is_set s.control 7) (after_comparing _ mode_bits _ refl) put_bits

  status_equal : on s → bit (status_written s v).status 2 ≡ cond (equal s) 1 0
  unfolding status_written
  status_equal o =
      let t = mode_signalled (status_put s v) in
      let d : t.lcd.disabled ≡ false = mode_by (λ (u : Screen). u.lcd.disabled ≡ false) (status_put s v) o.1 o.1 in
      let e : equal t ≡ equal s = rw (mode_bits.line, mode_bits.lyc) in
      ap (λ (u : Screen). bit u.status 2) (cond_true _ (ly_compared t) _ (is_one s.control 7 o.0))
      ∙ (compared t d).bit2
      ∙ ap (λ (b : Bool). cond b 1 0) e

  status_off : bit s.control 7 ≡ 0 → bit (status_written s v).status 2 ≡ bit s.status 2
  unfolding status_written
  status_off o =
      ap (λ (u : Screen). bit u.status 2) (cond_false _ _ (status_put s v) (is_zero s.control 7 o)) ∙ read_only s.status v 2 (omega arith)

  status_disabled : s.lcd.disabled ≡ true → bit (status_written s v).status 2 ≡ bit s.status 2
  unfolding status_written
  status_disabled d =
      let P : Screen → Type 0 = λ t. bit t.status 2 ≡ bit s.status 2 in
      let t = mode_signalled (status_put s v) in
      let p = read_only s.status v 2 (omega arith) in
      let u : t.lcd.disabled ≡ true = mode_by (λ (u : Screen). u.lcd.disabled ≡ true) (status_put s v) d d in
      cond_both P (is_set s.control 7) (subst P (sym (disabled t u)) (mode_by P (status_put s v) p p)) p

  -- what was requested stays so
  stays_requested : (t : Screen) → bit t.flags 1 ≡ 1 → bit (ly_compared t).flags 1 ≡ 1
  stays_requested t e = by_disabled t.lcd.disabled refl
    where
      by_raises : (d : t.lcd.disabled ≡ false) (b : Bool) → raises t ≡ b → bit (ly_compared t).flags 1 ≡ 1
      by_raises d true r = (compared t d).requested r
      by_raises d false r = ap (λ (x : ℕ). bit x 1) ((compared t d).not_requested r) ∙ e

      by_disabled : (b : Bool) → t.lcd.disabled ≡ b → bit (ly_compared t).flags 1 ≡ 1
      by_disabled true d = ap (λ (u : Screen). bit u.flags 1) (disabled t d) ∙ e
      by_disabled false d = by_raises d (raises t) refl

  abbrev put : Screen
  put = status_put s v

  lyc_source : eqb (bit put.status 6) 1 ≡ eqb (bit v 6) 1
  lyc_source = ap (λ (b : ℕ). eqb b 1) (selected s.status v 6 (omega arith) (omega arith))

  mode_source_by : (b : Bool) → ltb s.lcd.mode 3 ≡ b
      → cond b (is_set put.status (3 + s.lcd.mode)) false ≡ (b && eqb (bit v (3 + s.lcd.mode)) 1)
  mode_source_by true t =
      let l = ltb-true s.lcd.mode 3 t in
      is_set_law put.status (3 + s.lcd.mode)
      ∙ ap (λ (b : ℕ). eqb b 1) (selected s.status v (3 + s.lcd.mode) (omega arith) (omega arith))
  mode_source_by false f = refl

  mode_source : mode_selected put.status s.lcd.mode ≡ mode_raises s v
  unfolding mode_selected
  mode_source = mode_source_by (ltb s.lcd.mode 3) refl

  -- the mode's part
  mode_signals : mode_signalled put ≡ cond (no_signal s v) (cond (mode_raises s v) (lcd_requested put) put) put
  unfolding mode_signalled
  mode_signals = ap (λ (b : Bool). cond (no_signal s v) (cond b (lcd_requested put) put) put) mode_source

  shown : is_set s.control 7 ≡ true → status_written s v ≡ ly_compared (mode_signalled put)
  unfolding status_written
  shown t = cond_true _ _ _ t

  hidden : is_set s.control 7 ≡ false → status_written s v ≡ put
  unfolding status_written
  hidden f = cond_false _ _ _ f

  -- the comparison's: of what the mode left, where that requested nothing
  raises_put : raises put ≡ (equal s && (eqb (bit v 6) 1 && no_signal s v))
  raises_put = ap (λ (b : Bool). equal s && (b && no_signal s v)) lyc_source

  compare_quiet : (b : Bool) → s.lcd.disabled ≡ b → (not b && (equal s && (eqb (bit v 6) 1 && no_signal s v))) ≡ false
      → (ly_compared put).flags ≡ s.flags
  compare_quiet true d e = ap (λ (u : Screen). u.flags) (disabled put d)
  compare_quiet false d e = (compared put d).not_requested (raises_put ∙ e)

  status_quiet : status_raises s v ≡ false → (status_written s v).flags ≡ s.flags
  status_quiet r = by_shown (is_set s.control 7) refl
    where
      by_shown : (b : Bool) → is_set s.control 7 ≡ b → (status_written s v).flags ≡ s.flags
      by_shown true t =
          let on_true : eqb (bit s.control 7) 1 ≡ true = sym (is_set_law s.control 7) ∙ t in
          let q =
          no_source (no_signal s v) (mode_raises s v) (not s.lcd.disabled) (equal s) (eqb (bit v 6) 1)
          (sym (ap (λ (b : Bool). b && (no_signal s v && (mode_raises s v || lyc_raises s v))) on_true) ∙ r)
          in
          ap (λ (u : Screen). u.flags) (shown t)
          ∙ ap (λ (u : Screen). (ly_compared u).flags) (mode_signals ∙ neither_arm (no_signal s v) (mode_raises s v) (lcd_requested put) put q.0)
          ∙ compare_quiet s.lcd.disabled refl q.1
      by_shown false f = ap (λ (u : Screen). u.flags) (hidden f)

  status_requests : status_raises s v ≡ true → bit (status_written s v).flags 1 ≡ 1
  status_requests r =
      let p = both_true (eqb (bit s.control 7) 1) _ r in
      let q = both_true (no_signal s v) _ p.1 in
      ap (λ (u : Screen). bit u.flags 1) (shown (is_set_law s.control 7 ∙ p.0)) ∙ by_mode q.0 (mode_raises s v) refl q.1
    where
      by_mode : no_signal s v ≡ true → (b : Bool) → mode_raises s v ≡ b → (b || lyc_raises s v) ≡ true
          → bit (ly_compared (mode_signalled put)).flags 1 ≡ 1
      by_mode z true m e =
          let u : mode_signalled put ≡ lcd_requested put = mode_signals ∙ cond_true _ _ _ z ∙ cond_true _ _ _ m in
          stays_requested (mode_signalled put) (ap (λ (u : Screen). bit u.flags 1) u ∙ bit_set_here (s.flags % 32) 1)
      by_mode z false m e =
          let u : mode_signalled put ≡ put = mode_signals ∙ cond_true _ _ _ z ∙ cond_false _ _ _ m in
          let a = both_true (not s.lcd.disabled) _ e in
          let b = both_true (equal s) _ a.1 in
          let y : raises put ≡ true = raises_put ∙ rw (b.0, b.1, z) in
          ap (λ (u : Screen). bit (ly_compared u).flags 1) u ∙ (compared put (not-true _ a.0)).requested y

pub ly_is_lyc : LyIsLyc
ly_is_lyc =
    record {
      compared = compared;
      disabled = disabled;
      ly_read_only = ly_read_only;
      lyc_written_law = lyc_written_law;
      lyc_off = lyc_off;
      lyc_disabled = lyc_disabled;
      lyc_same = lyc_same;
      status_written_law = status_written_law;
      status_equal = status_equal;
      status_off = status_off;
      status_disabled = status_disabled;
      status_requests = status_requests;
      status_quiet = status_quiet;
    }
