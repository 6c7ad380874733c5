-- A bus that can go on refuses a call over lent memories by 4 where a length is wrong, a write besides for want of room alone, no clearing, and no
-- call by 3.
use mathlib.Core.Bool.{Bool, true, false, cond, ◌&&◌, ◌||◌, or-false}
use mathlib.Core.List.{List, [], ◌∷◌}
use mathlib.Core.Path.{◌≡◌, refl, ap, sym, subst, ◌∙◌}
use Prim.Native.Nat.{ℕ, ◌+◌, ◌-◌, ◌*◌, ◌%◌, ◌≤◌}
use native.Mathlib.Omega.{arith}
use lib.Dec.{eqb, ltb, leb}
use lib.ListN.{length, replicate, length-replicate}
use borrow.Author.Tests.{eq-eqb, le-leb, leb-true, lt-ltb, le-ltb, ltb-true, ltb-false, eqb-false}
use Rattle.dispatch.proofs.Open.{Good, alone_open, write_good}
use Rattle.memory.specs.Ranges.{state_in_range, in_range, vram_len, wram_len}
use Rattle.memory.specs.World.{World, world, Fixed}
use Rattle.numbers.specs.Numbers.{done, no_room, out_of_range, wrong_length}
use Rattle.rules.proofs.Tests.{both_true, cond_both}
use Rattle.savelog.proofs.Use.{use_parts, use_joins}
use Rattle.savelog.specs.Log.{width, log_limit, use_in_range}
use Rattle.promise.specs.Bus.{Outcome, Call, in_save, in_sound, next_index, byte_owed, word_owed, step}
use Rattle.promise.specs.Bus.call as call
use Rattle.promise.specs.Bus.on as on
use Rattle.promise.specs.Calls.{writes_of, reaches, sounds}
use Rattle.promise.specs.Gate.{ruled, of_write}
use Rattle.promise.specs.Promise.{free, Refuses}
use Rattle.promise.specs.Runs.{
  Lending,
  Own,
  Another,
  lent_of,
  Turn,
  MistakenLog,
  Lends,
  lent_to,
  made,
  save_fits,
  log_fits,
  memories_fit,
  fits,
  asked,
  terms_of,
  gate_of,
  Able,
}
use Rattle.promise.proofs.Never.{
  Clear,
  or_clear,
  unless_clear,
  byte_clear,
  word_clear,
  lengths_clear,
  vram_length_clear,
  vram_clear,
  byte_room_clear,
  word_room_clear,
  owed_clear,
  state_clear,
  alone_clear,
}
use Rattle.promise.proofs.Bus.{
  or_else,
  lengths_fit,
  lengths_refused,
  log_refused,
  lent_refused,
  either_in_save,
  byte_room,
  word_room,
  state_refused,
  read_refused,
  write_refused,
  refused_state,
  refused_write,
  changed,
  unless,
  state_step,
}

-- Lengths

saves : (ram : ℕ) (own : List ℕ) → length own ≡ ram → (k : Lending) → eqb (length (lent_of k own)) ram ≡ save_fits ram k
saves ram own e Own = eq-eqb (length own) ram e
saves ram own e (Another l) = refl

logs : (own : List ℕ) → length own ≤ log_limit → (k : Lending) → leb (length (lent_of k own)) log_limit ≡ log_fits k
logs own h Own = le-leb (length own) log_limit h
logs own h (Another l) = refl

log_reaches : (used : ℕ) (own : List ℕ) → used ≤ length own → length own ≤ log_limit → (k : Lending) → MistakenLog k
    → used ≤ length (lent_of k own)
log_reaches used own h e Own m = h
log_reaches used own h e (Another l) m = omega (arith, h, e, m)

own_log : (own : List ℕ) (k : Lending) → MistakenLog k → log_fits k ≡ true → lent_of k own ≡ own
own_log own Own m e = refl
own_log own (Another l) m e = absurd (omega (arith, m, leb-true (length l) log_limit e))

-- what is free is what is not used
free_room : (log used n : ℕ) → used ≤ log → ltb log (used + n) ≡ ltb (log - used) n
free_room log used n h = by_test (ltb (log - used) n) refl
  where
    by_test : (b : Bool) → ltb (log - used) n ≡ b → ltb log (used + n) ≡ b
    by_test true e = lt-ltb log (used + n) (omega (arith, ltb-true (log - used) n e, h))
    by_test false e = le-ltb log (used + n) (omega (arith, ltb-false (log - used) n e, h))

-- 4 comes before 2
room_number : (f b : Bool) (w : World) (o : Outcome)
    → (unless (or_else (cond f done wrong_length) (cond b no_room done)) w o).number ≡ cond f (cond b no_room o.number) wrong_length
unfolding unless or_else
room_number true true w o = refl
room_number true false w o = refl
room_number false b w o = refl

-- what counts only where a test passed
where_true : (f : Bool) (x y z : ℕ) → (f ≡ true → x ≡ y) → cond f x z ≡ cond f y z
where_true true x y z h = h refl
where_true false x y z h = refl

two_lengths : (a b : Bool)
    → cond (eqb (cond a done wrong_length) done) (cond b done wrong_length) (cond a done wrong_length) ≡ cond (a && b) done wrong_length
two_lengths true b = refl
two_lengths false b = refl

abbrev pub turn : Fixed → List ℕ → List ℕ → Lending → Lending → Call → Turn
turn x v u k j c = record { read = x; vram = v; wram = u; save = k; log = j; call = c }

-- A bus that can go on

module _ (w : World) (a : Able w) where
  range_parts : (state_in_range w.state ≡ true) × (use_in_range w.state.core.used (length w.log) ≡ true)
  unfolding in_range
  range_parts = both_true (state_in_range w.state) (use_in_range w.state.core.used (length w.log)) a.range

  pub able_use : (w.state.core.used % width ≡ 0) × (w.state.core.used ≤ length w.log)
  able_use = use_parts w.state.core.used (length w.log) range_parts.1

  -- the same bus, with memories that fit
  abbrev pub padded : World
  padded =
      world w.state (replicate (vram_len w.state.core.banks.colour) 0) (replicate (wram_len w.state.core.banks.colour) 0) w.save
      w.log

  pub padded_good : Good padded
  padded_good =
      record {
        holds = record {
          state = range_parts.0;
          vram = length-replicate (vram_len w.state.core.banks.colour) 0;
          wram = length-replicate (wram_len w.state.core.banks.colour) 0;
          save = a.save;
          log = a.log;
        };
        used = range_parts.1;
      }

  alone : refused_state w.state ≡ done
  alone = alone_open padded padded_good

  -- a turn on it
  module _ (t : Turn) (h : Lends (terms_of w).ram t) where
    state_open : state_refused w.state (length (lent_to w t).log) ≡ done
    unfolding state_refused in_range
    state_open =
        rw (
          range_parts.0,
          use_joins w.state.core.used (length (lent_of t.log w.log)) able_use.0
              (log_reaches w.state.core.used w.log able_use.1 a.log t.log h.1),
        )

    pub lent_number : refused_write t.read (lent_to w t) ≡ cond (fits (terms_of w) t) done wrong_length
    unfolding write_refused lent_refused or_else log_refused lengths_refused lengths_fit fits
    lent_number =
        rw (state_open, saves (terms_of w).ram w.save a.save t.save, logs w.log a.log t.log)
        (two_lengths (memories_fit (terms_of w) t) (log_fits t.log))

    pub lent_good : fits (terms_of w) t ≡ true → Good (lent_to w t)
    lent_good e = write_good t.read (lent_to w t) (lent_number ∙ ap (λ (b : Bool). cond b done wrong_length) e)

    -- room in the log that is lent is room in the host's own
    room_same : fits (terms_of w) t ≡ true → (n : ℕ) → ltb (length (lent_to w t).log) (w.state.core.used + n) ≡ ltb (free w) n
    unfolding fits
    room_same e n =
        ap (λ (l : List ℕ). ltb (length l) (w.state.core.used + n))
        (own_log w.log t.log h.1 (both_true (memories_fit (terms_of w) t) (log_fits t.log) e).1)
        ∙ free_room (length w.log) w.state.core.used n able_use.1

    room_ruled : (b : Bool) (n k : ℕ)
        → cond (fits (terms_of w) t) (cond (b && ltb (length (lent_to w t).log) (w.state.core.used + n)) no_room k) wrong_length
        ≡ cond (fits (terms_of w) t) (cond (b && ltb (free w) n) no_room k) wrong_length
    room_ruled b n k =
        where_true (fits (terms_of w) t) _ _ wrong_length (λ e. ap (λ (r : Bool). cond (b && r) no_room k) (room_same e n))

  module _ (x : Fixed) (v u : List ℕ) (k j : Lending) where
    byte_number : (i b : ℕ) → Lends (terms_of w).ram (turn x v u k j (call.WriteByte i b))
        → (made w (turn x v u k j (call.WriteByte i b))).number
        ≡ cond (fits (terms_of w) (turn x v u k j (call.WriteByte i b))) (cond (in_save i && ltb (free w) width) no_room (byte_owed i)) wrong_length
    unfolding step byte_room
    byte_number i b h =
        let t = turn x v u k j (call.WriteByte i b) in
        rw (lent_number t h)
        (room_number (fits (terms_of w) t) (in_save i && ltb (length (lent_to w t).log) (w.state.core.used + width)) (lent_to w t) _
        ∙ room_ruled t h (in_save i) width (byte_owed i))

    word_number : (i b : ℕ) → Lends (terms_of w).ram (turn x v u k j (call.WriteWord i b))
        → (made w (turn x v u k j (call.WriteWord i b))).number
        ≡ cond (fits (terms_of w) (turn x v u k j (call.WriteWord i b)))
        (cond ((in_save i || in_save (next_index i)) && ltb (free w) (2 * width)) no_room (word_owed i)) wrong_length
    unfolding step word_room either_in_save
    word_number i b h =
        let t = turn x v u k j (call.WriteWord i b) in
        rw (lent_number t h)
        (room_number (fits (terms_of w) t)
        ((in_save i || in_save (next_index i)) && ltb (length (lent_to w t).log) (w.state.core.used + 2 * width)) (lent_to w t) _
        ∙ room_ruled t h (in_save i || in_save (next_index i)) (2 * width) (word_owed i))

    -- the machine rules the same
    turn_agrees : (c : Call) → Lends (terms_of w).ram (turn x v u k j c)
        → of_write (writes_of c) (made w (turn x v u k j c)).number
        ≡ of_write (writes_of c) (ruled (length w.log) (gate_of w) (asked (terms_of w) (turn x v u k j c)))
    unfolding writes_of ruled reaches sounds byte_owed word_owed
    turn_agrees (call.ReadByte i) h = refl
    turn_agrees (call.ReadWord i) h = refl
    turn_agrees (call.ReadCgbLcdRam i bank) h = refl
    turn_agrees (call.WriteByte i b) h =
        ap (λ (n : ℕ). n ∷ []) (rw (or-false (in_save i), or-false (in_sound i)) (byte_number i b h))
    turn_agrees (call.WriteWord i b) h =
        ap (λ (n : ℕ). n ∷ []) (rw (or-false (in_save (next_index i)), or-false (in_sound (next_index i))) (word_number i b h))
    turn_agrees (call.DoDmaTransfer page) h = refl
    turn_agrees call.DoHdma h = refl
    turn_agrees (call.State c) h = refl

    write_clear : (c : Call) → Lends (terms_of w).ram (turn x v u k j c) → Clear (refused_write x (lent_to w (turn x v u k j c)))
    write_clear c h =
        let t = turn x v u k j c in
        rw (lent_number t h) (cond_both Clear (fits (terms_of w) t) refl refl)

    turn_clear : (c : Call) → Lends (terms_of w).ram (turn x v u k j c) → Clear (made w (turn x v u k j c)).number
    unfolding step read_refused byte_owed word_owed
    turn_clear (call.ReadByte i) h = byte_clear _ _ (or_clear _ _ (state_clear w.state alone) (lengths_clear w.state _ _ _ _ _))
    turn_clear (call.ReadWord i) h = word_clear _ _ (or_clear _ _ (state_clear w.state alone) (lengths_clear w.state _ _ _ _ _))
    turn_clear (call.ReadCgbLcdRam i bank) h =
        byte_clear _ _ (or_clear _ _ (state_clear w.state alone) (or_clear _ _ (vram_length_clear _ _) (vram_clear _ i bank)))
    turn_clear (call.WriteByte i b) h =
        unless_clear _ _ _ (or_clear _ _ (write_clear (call.WriteByte i b) h) (byte_room_clear _ _ i)) (owed_clear (in_sound i))
    turn_clear (call.WriteWord i b) h =
        unless_clear _ _ _ (or_clear _ _ (write_clear (call.WriteWord i b) h) (word_room_clear _ _ i))
        (owed_clear (in_sound i || in_sound (next_index i)))
    turn_clear (call.DoDmaTransfer page) h = unless_clear _ _ _ (write_clear (call.DoDmaTransfer page) h) refl
    turn_clear call.DoHdma h = unless_clear _ _ _ (write_clear call.DoHdma h) refl
    turn_clear (call.State c) h = alone_clear w.state alone c

    turn_cleared : Lends (terms_of w).ram (turn x v u k j (call.State on.ClearLog)) → (made w (turn x v u k j (call.State on.ClearLog))).number ≡ done
    unfolding step state_step changed
    turn_cleared h = rw alone

  pub agrees : (t : Turn) → Lends (terms_of w).ram t
      → of_write (writes_of t.call) (made w t).number
      ≡ of_write (writes_of t.call) (ruled (length w.log) (gate_of w) (asked (terms_of w) t))
  agrees t h = turn_agrees t.read t.vram t.wram t.save t.log t.call h

  pub never_three : (t : Turn) → Lends (terms_of w).ram t → (made w t).number ≡ out_of_range → ⊥
  never_three t h = eqb-false (made w t).number out_of_range (turn_clear t.read t.vram t.wram t.save t.log t.call h)

  -- one more call
  pub refuses : Refuses (terms_of w) (free w) (Lends (terms_of w).ram) (λ (t : Turn). (made w t).number)
  refuses =
      record {
        bytes = λ t h i v e.
            let at : Call → Turn = turn t.read t.vram t.wram t.save t.log in
            subst
            (λ (c : Call).
            (made w (at c)).number ≡ cond (fits (terms_of w) (at c)) (cond (in_save i && ltb (free w) width) no_room (byte_owed i)) wrong_length)
            (sym e) (byte_number t.read t.vram t.wram t.save t.log i v h);
        words = λ t h i v e.
            let at : Call → Turn = turn t.read t.vram t.wram t.save t.log in
            subst
            (λ (c : Call).
            (made w (at c)).number
            ≡ cond (fits (terms_of w) (at c)) (cond ((in_save i || in_save (next_index i)) && ltb (free w) (2 * width)) no_room (word_owed i)) wrong_length)
            (sym e) (word_number t.read t.vram t.wram t.save t.log i v h);
        clears = λ t h e.
            let at : Call → Turn = turn t.read t.vram t.wram t.save t.log in
            subst (λ (c : Call). (made w (at c)).number ≡ done) (sym e) (turn_cleared t.read t.vram t.wram t.save t.log h);
        range = never_three;
      }
