-- What each call leaves: nothing refused, read or transferred stores a byte; a write stores what the mapper lets in; clearing leaves the log's bytes unused.
use mathlib.Core.Bool.{true, cond}
use mathlib.Core.List.{List, [], ◌∷◌, ◌++◌, append-nil}
use mathlib.Core.Path.{◌≡◌, refl, ap, sym, ◌∙◌}
use Prim.Native.Nat.{ℕ, ◌+◌, ◌*◌, ◌/◌, ◌%◌, ◌≤◌}
use native.Mathlib.Omega.{arith}
use lib.Dec.{eqb}
use lib.ListN.{length}
use borrow.Author.Tests.{le-leb, eqb-false}
use Rattle.dispatch.proofs.Numbered.{by_unless, byte_refusal, word_refusal, byte_fits, low_fits, high_fits, byte_done, word_done}
use Rattle.dispatch.proofs.Open.{Good, stays_good, alone_open}
use Rattle.dispatch.proofs.States.{Answers, reads, changes, clears, state_answers}
use Rattle.memory.proofs.Laws.{used_range}
use Rattle.memory.specs.Ranges.{in_range}
use Rattle.memory.specs.World.{World, Fixed, with_used}
use Rattle.mmu.proofs.Laws.{kept_stays, write_stays, transfer_stays}
use Rattle.mmu.proofs.Saves.{Clear, transfer_spares, oam_clear, block_clear}
use Rattle.mmu.specs.Access.{Holds, in_state}
use Rattle.mmu.specs.Write.{transferred, write_at, word_at}
use Rattle.refusals.proofs.Answers.{both_pass}
use Rattle.copies.specs.Copies.{oam_copy}
use Rattle.registers.specs.Transfers.{block_copy}
use Rattle.copies.specs.declared.Copy.{Copy}
use Rattle.rules.proofs.Tests.{by_cond}
use Rattle.savelog.specs.Log.{width, cleared_use, joined, apply_all, use_in_range}
use Rattle.savelog.specs.declared.Rec.{Rec}
use Rattle.promise.specs.Bus.{Outcome, outcome, step, Performed, Call, in_save, next_index, Done, refused, Kind, Reading, Clearing, Other, kind_of}
use Rattle.promise.specs.Bus.call as call
use Rattle.promise.specs.Calls.{ByteWrite, byte, writes_of}
use Rattle.promise.specs.Admitted.{granted, mappers_after, let_in_all, records_of}
use Rattle.promise.specs.Runs.{is_clearing, Able, used_bytes, copied_before}
use Rattle.promise.proofs.Bus.{or_else, refused_write, byte_room, word_room, changed, refused_state, unless, in_world}
use Rattle.promise.proofs.Mappers.{High, transfer_mapper, oam_high, block_high}
use Rattle.promise.proofs.Writes.{write_stores, write_after}
use Rattle.promise.proofs.Lists.{none_granted, Quiet, quiet_refl, Made, Left, left_none, left_more}

pub record Moved (w : World) (c : Call) (o : Outcome) : Type 0 where
  pub able : Able o.after
  pub cartridge : o.after.state.core.cartridge ≡ w.state.core.cartridge
  pub colour : o.after.state.core.banks.colour ≡ w.state.core.banks.colour
  pub size : length o.after.log ≡ length w.log
  pub mapper : o.after.state.core.mapper ≡ mappers_after w.state.core.cartridge w.state.core.mapper (granted o.number (writes_of c))
  pub used : o.after.state.core.used
      ≡ cond (is_clearing (kind_of c)) cleared_use
      (w.state.core.used + length (let_in_all w.state.core.cartridge w.state.core.mapper (granted o.number (writes_of c))) * width)
  pub save : o.after.save ≡ apply_all w.save (let_in_all w.state.core.cartridge w.state.core.mapper (granted o.number (writes_of c)))
  pub log : joined (copied_before (kind_of c) o.number (used_bytes w)) ++ used_bytes o.after
      ≡ used_bytes w ++ records_of (let_in_all w.state.core.cartridge w.state.core.mapper (granted o.number (writes_of c)))

-- a kind of call that clears nothing
pub data NoClear : Kind → Type 0 where
  reading : NoClear Reading
  other : NoClear Other

none_copied : {k : Kind} (n : ℕ) (bytes : List ℕ) → NoClear k → joined (copied_before k n bytes) ≡ []
unfolding joined
none_copied n bytes reading = refl
none_copied n bytes other = refl

unclear : {k : Kind} (a b : ℕ) → NoClear k → cond (is_clearing k) a b ≡ b
unclear a b reading = refl
unclear a b other = refl

pub good_able : (w : World) → Good w → Able w
unfolding in_range
good_able w g = record { range = rw g.holds.state g.used; save = g.holds.save; log = g.holds.log }

module _ (w : World) (g : Good w) where
  holds : Holds w
  holds = g.holds

  abbrev stored : List ByteWrite → List Rec
  stored bs = let_in_all w.state.core.cartridge w.state.core.mapper bs

  moved_left : (c : Call) (o : Outcome) {bs : List ByteWrite} → NoClear (kind_of c) → granted o.number (writes_of c) ≡ bs → Left bs w o.after
      → Moved w c o
  moved_left c o k e l =
      record {
        able = good_able o.after (stays_good w o.after g l.stays);
        cartridge = l.stays.cartridge;
        colour = l.stays.colour;
        size = l.size;
        mapper = rw e l.mapper;
        used = l.used
            ∙ ap (λ (bs : List ByteWrite). w.state.core.used + length (stored bs) * width) (sym e)
            ∙ sym (unclear cleared_use (w.state.core.used + length (stored (granted o.number (writes_of c))) * width) k);
        save = rw e l.save;
        log = rw (e, none_copied o.number (used_bytes w) k) l.log;
      }

  -- a call that is refused
  pub moved_refused : (c : Call) (n : ℕ) → NoClear (kind_of c) → refused n ≡ true → Moved w c (outcome n 0 w)
  unfolding granted
  moved_refused c n k e = moved_left c (outcome n 0 w) k (rw e) (left_none w w (quiet_refl w holds))

  -- a call with no byte write
  module _ (c : Call) (k : NoClear (kind_of c)) (e : writes_of c ≡ []) where
    moved_quiet : (o : Outcome) → Quiet w o.after → Moved w c o
    moved_quiet o q = moved_left c o k (none_granted o.number (writes_of c) e) (left_none w o.after q)

    pub moved_read : (n v : ℕ) → Moved w c (outcome n v w)
    moved_read n v = moved_quiet (outcome n v w) (quiet_refl w holds)

    moved_transfer : (x : Fixed) (v : ℕ) (k : Copy) → Clear k → High k
        → Moved w c (unless (refused_write x w) w (outcome 0 v (transferred x (write_at x 1) k 0 w)))
    moved_transfer x v k a b =
        by_unless (Moved w c) (refused_write x w) w _
        (λ z.
        moved_quiet _
        (record {
          stays = transfer_stays x w holds 1 k 0;
          spares = transfer_spares x 1 k a 0 w;
          mapper = transfer_mapper x 1 k b a 0 w;
        }))
        (λ h. moved_read (refused_write x w) 0)

  -- clearing
  clear_good : Good (in_state w (with_used w.state 0))
  unfolding use_in_range
  clear_good =
      record {
        holds = record {
          state = used_range w.state 0 ∙ holds.state;
          vram = holds.vram;
          wram = holds.wram;
          save = holds.save;
          log = holds.log;
        };
        used = rw (le-leb 0 (length w.log) (omega arith));
      }

  -- a call on the state
  module _ (c : Call) (e : writes_of c ≡ []) where
    moved_clear : kind_of c ≡ Clearing → Moved w c (outcome 0 0 (in_state w (with_used w.state 0)))
    unfolding granted mappers_after let_in_all apply_all records_of joined
    moved_clear k =
        record {
          able = good_able _ clear_good;
          cartridge = refl;
          colour = refl;
          size = refl;
          mapper = rw e;
          used = rw k;
          save = rw e;
          log = rw (k, e) (append-nil (used_bytes w ++ []));
        }

    moved_state : {k : Kind} {p : Performed} → Answers w.state k p → kind_of c ≡ k → Moved w c (in_world w p)
    unfolding changed joined
    moved_state (reads n v z) k = moved_read c (rw k reading) e n v
    moved_state (changes n {next} l) k =
        by_cond (λ (d : Done). Moved w c (outcome d.number 0 (in_state w d.memory))) (eqb n 0) _ _
        (λ t.
        moved_quiet c (rw k other) e _
        (record { stays = kept_stays w holds next l; spares = record { save = refl; log = refl; used = l.used }; mapper = l.mapper }))
        (λ f. moved_read c (rw k other) e n 0)
    moved_state clears k =
        let n = refused_state w.state in
        by_cond (λ (d : Done). Moved w c (outcome d.number 0 (in_state w d.memory))) (eqb n 0) _ _ (λ t. moved_clear k)
        (λ f. absurd (eqb-false n 0 f (alone_open w g)))

  -- a byte write
  made_byte : (x : Fixed) (i v : ℕ) → (in_save i ≡ true → w.state.core.used + width ≤ length w.log) → Made (byte i v) w (write_at x 2 w i v)
  made_byte x i v room =
      record { stays = write_stays x w holds 2 i v; mapper = write_after x w i v room; stores = write_stores x w i v room }

-- a word write: two byte writes
left_word : (x : Fixed) (w : World) → Good w → (i v : ℕ) → word_room w.state.core.used (length w.log) i ≡ 0
    → Left (byte i (v % 256) ∷ byte (next_index i) (v / 256) ∷ []) w (word_at x w i v)
unfolding word_at
left_word x w g i v room =
    let u = write_at x 2 w i (v % 256) in
    let a = made_byte w g x i (v % 256) (λ t. omega (arith, low_fits w.state.core.used (length w.log) i room t)) in
    let h = stays_good w u g a.stays in
    let b = made_byte u h x (next_index i) (v / 256)
    (λ t. omega (arith, high_fits w.state.core.used (length w.log) i room t, a.stores.grown, a.stores.same)) in
    left_more a (left_more b (left_none _ _ (quiet_refl _ b.stays.holds)))

pub moved : (x : Fixed) (w : World) → Good w → (c : Call) → Moved w c (step x w c)
unfolding step kind_of writes_of granted joined
moved x w g (call.ReadByte i) = moved_read w g (call.ReadByte i) reading refl _ _
moved x w g (call.ReadWord i) = moved_read w g (call.ReadWord i) reading refl _ _
moved x w g (call.ReadCgbLcdRam i bank) = moved_read w g (call.ReadCgbLcdRam i bank) reading refl _ _
moved x w g (call.WriteByte i v) =
    let n = or_else (refused_write x w) (byte_room w.state.core.used (length w.log) i) in
    by_unless (Moved w (call.WriteByte i v)) n w _
    (λ z.
    let a = made_byte w g x i v (byte_fits w.state.core.used (length w.log) i (both_pass (refused_write x w) _ z).1) in
    moved_left w g (call.WriteByte i v) _ other (rw (byte_done i)) (left_more a (left_none _ _ (quiet_refl _ a.stays.holds))))
    (λ h. moved_refused w g (call.WriteByte i v) n other (byte_refusal x w i h))
moved x w g (call.WriteWord i v) =
    let n = or_else (refused_write x w) (word_room w.state.core.used (length w.log) i) in
    by_unless (Moved w (call.WriteWord i v)) n w _
    (λ z. moved_left w g (call.WriteWord i v) _ other (rw (word_done i)) (left_word x w g i v (both_pass (refused_write x w) _ z).1))
    (λ h. moved_refused w g (call.WriteWord i v) n other (word_refusal x w i h))
moved x w g (call.DoDmaTransfer page) =
    moved_transfer w g (call.DoDmaTransfer page) other refl x 0 (oam_copy page) (oam_clear page) (oam_high page)
moved x w g call.DoHdma = moved_transfer w g call.DoHdma other refl x 36 (block_copy w.state) (block_clear w.state) (block_high w.state)
moved x w g (call.State c) = moved_state w g (call.State c) refl (state_answers w.state c) refl
