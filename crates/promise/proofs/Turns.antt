-- A turn on a bus that can go on. If all lengths fit, the call is made on a world of the right lengths; if not, a call over lent memories is refused
-- by 4, a read changes nothing, and a call on the state does what it does with memories that fit. So it leaves what the machine says.
use mathlib.Core.Bool.{Bool, true, false, cond}
use mathlib.Core.List.{List, [], ◌∷◌, ◌++◌}
use mathlib.Core.Path.{◌≡◌, refl, ap, sym, ◌∙◌}
use Prim.Native.Nat.{ℕ, ◌+◌, ◌*◌}
use native.Mathlib.Omega.{arith}
use lib.ListN.{length}
use Rattle.dispatch.proofs.Numbered.{by_unless, byte_refusal, word_refusal}
use Rattle.dispatch.proofs.Open.{Good}
use Rattle.mbc.specs.Mbc.{ram_len}
use Rattle.mbc.specs.declared.cartridge.Cartridge.{Cartridge}
use Rattle.mbc.specs.declared.mbc.Mapper.{Mapper}
use Rattle.memory.specs.World.{World, Fixed}
use Rattle.memory.specs.declared.Memory.{Memory}
use Rattle.mmu.specs.Access.{in_state}
use Rattle.numbers.specs.Numbers.{done, wrong_length}
use Rattle.refusals.proofs.Answers.{both_pass}
use Rattle.savelog.proofs.Prefix.{length_apply_all}
use Rattle.savelog.specs.Log.{width, cleared_use, joined, apply_all}
use Rattle.savelog.specs.declared.Rec.{Rec}
use Rattle.promise.specs.Bus.{Outcome, outcome, step, Call, refused, kind_of}
use Rattle.promise.specs.Bus.call as call
use Rattle.promise.specs.Calls.{ByteWrite, writes_of}
use Rattle.promise.specs.Admitted.{granted, mappers_after, let_in_all, records_of}
use Rattle.promise.specs.Gate.{Terms, Gate, ruled, passed, lets, gate_after, of_write}
use Rattle.promise.specs.Runs.{
  Lending,
  Own,
  Another,
  lent_of,
  keeps,
  Turn,
  Lends,
  lent_to,
  leaves,
  made,
  fits,
  is_clearing,
  asked,
  terms_of,
  gate_of,
  Able,
  used_bytes,
  copied_before,
}
use Rattle.promise.proofs.Bus.{refused_write, unless, state_step}
use Rattle.promise.proofs.Lists.{none_granted}
use Rattle.promise.proofs.Room.{turn, padded, padded_good, lent_number, lent_good, agrees}
use Rattle.promise.proofs.Steps.{Moved, reading, other, moved_refused, moved_read, moved}

-- The host's own is as it was where a call left what it was lent

kept_own : (k : Lending) (own : List ℕ) → keeps k own (lent_of k own) ≡ own
kept_own Own own = refl
kept_own (Another l) own = refl

-- so what a call leaves of memories that fit holds of any
still : (w : World) (a : Able w) (t : Turn) (m : Memory) (n v : ℕ) → Moved (padded w a) t.call (outcome n v (in_state (padded w a) m))
    → Moved w t.call (leaves w t (outcome n v (in_state (lent_to w t) m)))
still w a t m n v s =
    let e = kept_own t.save w.save in
    let f = kept_own t.log w.log in
    record {
      able = record { range = rw f s.able.range; save = rw e s.able.save; log = rw f s.able.log };
      cartridge = s.cartridge;
      colour = s.colour;
      size = rw f s.size;
      mapper = s.mapper;
      used = s.used;
      save = rw e s.save;
      log = rw f s.log;
    }

module _ (w : World) (a : Able w) (x : Fixed) (v u : List ℕ) where
  -- lengths that fit are of the host's own
  moved_fit : (k j : Lending) (c : Call) → Lends (terms_of w).ram (turn x v u k j c) → Good (lent_to w (turn x v u k j c))
      → Moved w c (made w (turn x v u k j c))
  moved_fit Own Own c h g =
      let m = moved x (lent_to w (turn x v u Own Own c)) g c in
      record {
        able = m.able;
        cartridge = m.cartridge;
        colour = m.colour;
        size = m.size;
        mapper = m.mapper;
        used = m.used;
        save = m.save;
        log = m.log;
      }
  moved_fit Own (Another l) c h g = absurd (omega (arith, h.1, g.holds.log))
  moved_fit (Another l) j c h g = absurd (h.0 g.holds.save)

  -- a length is wrong
  module _ (k j : Lending) where
    abbrev at : Call → Turn
    at c = turn x v u k j c

    refused_still : (c : Call) (n : ℕ) → Moved (padded w a) c (outcome n 0 (padded w a))
        → Moved w c (leaves w (at c) (outcome n 0 (lent_to w (at c))))
    refused_still c n s = still w a (at c) w.state n 0 s

    read_still : (c : Call) → ((n b : ℕ) → Moved (padded w a) c (outcome n b (padded w a))) → {n b : ℕ}
        → Moved w c (leaves w (at c) (outcome n b (lent_to w (at c))))
    read_still c s {n} {b} = still w a (at c) w.state n b (s n b)

    by_number : (c : Call) (o : Outcome) → Moved (padded w a) c (outcome (refused_write x (lent_to w (at c))) 0 (padded w a))
        → refused_write x (lent_to w (at c)) ≡ wrong_length
        → Moved w c (leaves w (at c) (unless (refused_write x (lent_to w (at c))) (lent_to w (at c)) o))
    by_number c o s e =
        by_unless (λ (o : Outcome). Moved w c (leaves w (at c) o)) (refused_write x (lent_to w (at c))) (lent_to w (at c)) o
        (λ z. absurd (omega (arith, e, z))) (λ h. refused_still c _ s)

    four : {n : ℕ} → n ≡ wrong_length → refused n ≡ true
    four e = ap (λ (n : ℕ). refused n) e

    moved_unfit : (c : Call) → refused_write x (lent_to w (at c)) ≡ wrong_length → Moved w c (made w (at c))
    unfolding step kind_of writes_of
    moved_unfit (call.ReadByte i) e = read_still (call.ReadByte i) (moved_read (padded w a) (padded_good w a) (call.ReadByte i) reading refl)
    moved_unfit (call.ReadWord i) e = read_still (call.ReadWord i) (moved_read (padded w a) (padded_good w a) (call.ReadWord i) reading refl)
    moved_unfit (call.ReadCgbLcdRam i bank) e =
        read_still (call.ReadCgbLcdRam i bank) (moved_read (padded w a) (padded_good w a) (call.ReadCgbLcdRam i bank) reading refl)
    moved_unfit (call.WriteByte i b) e =
        let c = call.WriteByte i b in
        by_unless (λ (o : Outcome). Moved w c (leaves w (at c) o)) _ (lent_to w (at c)) _
        (λ z. absurd (omega (arith, e, (both_pass (refused_write x (lent_to w (at c))) _ z).0)))
        (λ h. refused_still c _ (moved_refused (padded w a) (padded_good w a) c _ other (byte_refusal x (lent_to w (at c)) i h)))
    moved_unfit (call.WriteWord i b) e =
        let c = call.WriteWord i b in
        by_unless (λ (o : Outcome). Moved w c (leaves w (at c) o)) _ (lent_to w (at c)) _
        (λ z. absurd (omega (arith, e, (both_pass (refused_write x (lent_to w (at c))) _ z).0)))
        (λ h. refused_still c _ (moved_refused (padded w a) (padded_good w a) c _ other (word_refusal x (lent_to w (at c)) i h)))
    moved_unfit (call.DoDmaTransfer page) e =
        let c = call.DoDmaTransfer page in
        by_number c _ (moved_refused (padded w a) (padded_good w a) c _ other (four e)) e
    moved_unfit call.DoHdma e = by_number call.DoHdma _ (moved_refused (padded w a) (padded_good w a) call.DoHdma _ other (four e)) e
    moved_unfit (call.State c) e =
        still w a (at (call.State c)) (state_step w.state c).memory _ _ (moved x (padded w a) (padded_good w a) (call.State c))

turn_moved : (w : World) (a : Able w) (t : Turn) → Lends (terms_of w).ram t → Moved w t.call (made w t)
turn_moved w a t h = by_test (fits (terms_of w) t) refl
  where
    by_test : (b : Bool) → fits (terms_of w) t ≡ b → Moved w t.call (made w t)
    by_test true e = moved_fit w a t.read t.vram t.wram t.save t.log t.call h (lent_good w a t h e)
    by_test false e =
        moved_unfit w a t.read t.vram t.wram t.save t.log t.call
        (lent_number w a t h ∙ ap (λ (b : Bool). cond b done wrong_length) e)

-- By the machine

abbrev terms_by : Cartridge → Bool → ℕ → ℕ → Terms
terms_by c b r l = record { cartridge = c; colour = b; ram = r; log = l }

pub terms_same : (d e : Terms) → d.cartridge ≡ e.cartridge → d.colour ≡ e.colour → d.ram ≡ e.ram → d.log ≡ e.log → d ≡ e
terms_same d e p q r s =
    ap (λ (c : Cartridge). terms_by c d.colour d.ram d.log) p
    ∙ ap (λ (b : Bool). terms_by e.cartridge b d.ram d.log) q
    ∙ ap (λ (n : ℕ). terms_by e.cartridge e.colour n d.log) r
    ∙ ap (λ (n : ℕ). terms_by e.cartridge e.colour e.ram n) s

abbrev gate_by : Mapper → ℕ → Gate
gate_by m u = record { mapper = m; used = u }

pub gate_same : (g k : Gate) → g.mapper ≡ k.mapper → g.used ≡ k.used → g ≡ k
gate_same g k p q = ap (λ (m : Mapper). gate_by m g.used) p ∙ ap (λ (u : ℕ). gate_by k.mapper u) q

first_of : List ℕ → ℕ
first_of [] = 0
first_of (n ∷ ns) = n

-- the number matters where there is a byte write
granted_same : (bs : List ByteWrite) (n m : ℕ) → of_write bs n ≡ of_write bs m → granted n bs ≡ granted m bs
unfolding first_of
granted_same [] n m e = none_granted n [] refl ∙ sym (none_granted m [] refl)
granted_same (b ∷ bs) n m e = ap (λ (k : ℕ). granted k (b ∷ bs)) (ap first_of e)

abbrev pub first : World → Turn → List Rec
first w t = lets (terms_of w) (gate_of w) (asked (terms_of w) t)

pub record Turned (w : World) (t : Turn) : Type 0 where
  pub able : Able (made w t).after
  pub terms : terms_of (made w t).after ≡ terms_of w
  pub gate : gate_of (made w t).after ≡ gate_after (terms_of w) (gate_of w) (asked (terms_of w) t)
  pub save : (made w t).after.save ≡ apply_all w.save (first w t)
  pub log : joined (copied_before (kind_of t.call) (made w t).number (used_bytes w)) ++ used_bytes (made w t).after
      ≡ used_bytes w ++ records_of (first w t)
  pub agree : of_write (writes_of t.call) (made w t).number
      ≡ of_write (writes_of t.call) (ruled (length w.log) (gate_of w) (asked (terms_of w) t))

pub turned : (w : World) (a : Able w) (t : Turn) → Lends (terms_of w).ram t → Turned w t
unfolding gate_after
turned w a t h =
    let m = turn_moved w a t h in
    let u = (made w t).after in
    let c = w.state.core.cartridge in
    let k = w.state.core.mapper in
    let q = agrees w a t h in
    let e : granted (made w t).number (writes_of t.call) ≡ passed (terms_of w) (gate_of w) (asked (terms_of w) t) =
    granted_same (writes_of t.call) (made w t).number (ruled (length w.log) (gate_of w) (asked (terms_of w) t)) q in
    let r : ram_len u.state.core.cartridge u.state.core.mapper ≡ ram_len c k =
    sym m.able.save ∙ ap (λ (s : List ℕ). length s) m.save ∙ length_apply_all w.save _ ∙ a.save in
    record {
      able = m.able;
      terms = terms_same (terms_of u) (terms_of w) m.cartridge m.colour r m.size;
      gate = gate_same (gate_of u) (gate_after (terms_of w) (gate_of w) (asked (terms_of w) t))
          (m.mapper ∙ ap (λ (bs : List ByteWrite). mappers_after c k bs) e)
          (m.used
          ∙ ap
          (λ (bs : List ByteWrite).
          cond (is_clearing (kind_of t.call)) cleared_use (w.state.core.used + length (let_in_all c k bs) * width)) e);
      save = m.save ∙ ap (λ (bs : List ByteWrite). apply_all w.save (let_in_all c k bs)) e;
      log = m.log ∙ ap (λ (bs : List ByteWrite). used_bytes w ++ records_of (let_in_all c k bs)) e;
      agree = q;
    }
