-- OAM DMA at once: what is laid byte by byte is the bytes that were read, and behind them the rest; by each of the calls that make one.
use mathlib.Core.Bool.{Bool, true, false, cond}
use mathlib.Core.List.{List, ◌++◌}
use mathlib.Core.Path.{◌≡◌, refl, sym, ap, subst, ◌∙◌}
use Prim.Native.Nat.{ℕ, zero, suc, ◌+◌, ◌*◌, ◌/◌, ◌%◌, ◌<◌, ◌≤◌}
use native.Mathlib.Omega.{arith}
use lib.Dec.{ltb}
use lib.ListN.{length, get_or, drop, set}
use lib.Seq.{drop-cons, set_at}
use borrow.Author.Tests.{ltb-true, ltb-false}
use Rattle.bus.specs.Calls.{Outcome, outcome, unless}
use Rattle.copies.specs.Copies.{oam_copy}
use Rattle.copies.specs.PanDocs.{oam_pages}
use Rattle.dispatch.proofs.Open.{read_number, write_number, write_good}
use Rattle.dispatch.specs.Step.{step}
use Rattle.dispatch.specs.declared.Call.{Call}
use Rattle.dispatch.specs.declared.Call.TheVariants as call
use Rattle.memory.specs.Region.{region_of}
use Rattle.memory.specs.World.{World, Fixed, with_oam}
use Rattle.memory.specs.declared.Memory.{Memory}
use Rattle.mmu.specs.Access.{read_in, in_state}
use Rattle.mmu.specs.Write.{copy_by, transferred, write_at, word_at}
use Rattle.numbers.specs.Numbers.{done}
use Rattle.refusals.specs.Answers.{byte_given}
use Rattle.refusals.specs.Refusal.{refused_read, refused_write, in_save, in_sound, byte_room, either_in_save, word_room, byte_owed, word_owed}
use Rattle.registers.specs.Page.{write_register}
use Rattle.registers.specs.Register.{register_of, byte_as}
use Rattle.registers.specs.State.{stored, on_screen}
use Rattle.registers.specs.Transfers.{copy_of, finished}
use Rattle.rules.proofs.Tests.{by_cond}
use Rattle.corners.specs.Rows.{bytes}
use Rattle.corners.specs.Transfers.{oam_by, OamDma, called, byte, low, high, Sprites}
use Rattle.corners.proofs.Bytes.{bytes_length, bytes_more, bytes_same}
use Rattle.corners.proofs.Calls.{refused_by, let_in, left_alone, or_none}
use Rattle.corners.proofs.Oam.{laid, read_apart, transfer_some, transfer_none}

-- what is laid

laid_bytes : (f : ℕ → ℕ) (at n : ℕ) (o : List ℕ) → n ≤ length o → laid (λ k. f (at + k)) n o ≡ bytes f at n ++ drop n o
unfolding laid bytes
laid_bytes f at zero o h = refl
laid_bytes f at (suc n) o h =
    ap (λ (l : List ℕ). set l n (f (at + n)))
    (laid_bytes f at n o (omega arith) ∙ ap (λ (l : List ℕ). bytes f at n ++ l) (drop-cons o n 0 (omega arith)))
    ∙ set_at (bytes f at n) (get_or o n 0) (drop (suc n) o) (f (at + n)) n (bytes_length f at n)
    ∙ sym (bytes_more f at n (drop (suc n) o))

-- of what is read, that below E000 counts
oam_same : (f g : ℕ → ℕ) (page : ℕ) (o : List ℕ) → ((i : ℕ) → i < 0xE000 → f i ≡ g i) → oam_by f page o ≡ oam_by g page o
unfolding oam_by
oam_same f g page o s = by_page _ _ (omega arith) (ltb page 0xE0) refl
  where
    by_page : (n : ℕ) (rest : List ℕ) → n ≤ 256 → (b : Bool) → ltb page 0xE0 ≡ b
        → cond b (bytes f (page * 256) n ++ rest) o ≡ cond b (bytes g (page * 256) n ++ rest) o
    by_page n rest l true t =
        let p = ltb-true page 0xE0 t in
        ap (λ (l : List ℕ). l ++ rest) (bytes_same f g (page * 256) n (λ i h. s i (omega arith)))
    by_page n rest l false e = refl

-- the transfer and the writes

module _ (x : Fixed) where
  transfer_at_once : (w : World) (page v : ℕ) → length w.state.oam ≡ 256
      → transferred x (write_at x 1) (oam_copy page) v w ≡ in_state w (with_oam w.state (oam_by (read_in x w) page w.state.oam))
  unfolding oam_by
  transfer_at_once w page v l =
      let o = w.state.oam in
      by_cond (λ (z : List ℕ). transferred x (write_at x 1) (oam_copy page) v w ≡ in_state w (with_oam w.state z)) (ltb page 0xE0) _ o
      (λ t.
      transfer_some x w page v (ltb-true page oam_pages t)
      ∙ ap (λ (z : List ℕ). in_state w (with_oam w.state z)) (laid_bytes (read_in x w) (page * 256) 160 o (omega arith)))
      (λ f. transfer_none x w page v (ltb-false page oam_pages f))

  byte_at_once : (w : World) (page : ℕ) → length w.state.oam ≡ 256
      → write_at x 2 w 0xFF46 page ≡ in_state w (with_oam (stored w.state 0x46 page) (oam_by (read_in x w) page w.state.oam))
  unfolding write_at copy_of region_of register_of byte_as
  byte_at_once w page l =
      let m = stored w.state 0x46 page in
      transfer_at_once (in_state w m) page page l
      ∙ ap (λ (o : List ℕ). in_state w (with_oam m o))
      (oam_same (read_in x (in_state w m)) (read_in x w) page w.state.oam (read_apart x w m refl refl refl))

  -- FF47 and FF45 alone
  next : (w : World) (v : ℕ) → write_at x 2 w 0xFF47 v ≡ in_state w (stored w.state 0x47 v)
  unfolding write_at copy_of copy_by finished region_of register_of byte_as
  next w v = refl

  before : (w : World) (v : ℕ) → write_at x 2 w 0xFF45 v ≡ in_state w (write_register w.state 0x45 v)
  unfolding write_at copy_of copy_by finished region_of
  before w v = refl

module _ (x : Fixed) (w : World) (v : ℕ) (l : length w.state.oam ≡ 256) where
  low_at_once : word_at x w 0xFF46 v
      ≡ in_state w (with_oam (stored (stored w.state 0x46 (v % 256)) 0x47 (v / 256)) (oam_by (read_in x w) (v % 256) w.state.oam))
  unfolding word_at
  low_at_once =
      next x (write_at x 2 w 0xFF46 (v % 256)) (v / 256)
      ∙ ap (λ (u : World). in_state u (stored u.state 0x47 (v / 256))) (byte_at_once x w (v % 256) l)

  second : let m = write_register w.state 0x45 (v % 256) in
      write_at x 2 (in_state w m) 0xFF46 (v / 256) ≡ in_state w (with_oam (stored m 0x46 (v / 256)) (oam_by (read_in x w) (v / 256) w.state.oam))
  unfolding register_of on_screen
  second =
      let m = write_register w.state 0x45 (v % 256) in
      byte_at_once x (in_state w m) (v / 256) l
      ∙ ap (λ (o : List ℕ). in_state w (with_oam (stored m 0x46 (v / 256)) o))
      (oam_same (read_in x (in_state w m)) (read_in x w) (v / 256) w.state.oam (read_apart x w m refl refl refl))

  high_at_once : word_at x w 0xFF45 v
      ≡ in_state w (with_oam (stored (write_at x 2 w 0xFF45 (v % 256)).state 0x46 (v / 256)) (oam_by (read_in x w) (v / 256) w.state.oam))
  unfolding word_at
  high_at_once = rw (before x w (v % 256)) second

-- the calls

module _ (x : Fixed) (w : World) where
  read_value : refused_write x w ≡ done → (i : ℕ) → read_in x w i ≡ (step x w (call.ReadByte i)).value
  unfolding step byte_given
  read_value h i =
      let g = write_good x w h in
      let r : refused_read x w ≡ done = read_number w g x ∙ sym (write_number w g x) ∙ h in rw r

  abbrev Leaves : Memory → ℕ → World → Type 0
  Leaves m page u = u ≡ in_state w (with_oam m (oam_by (read_in x w) page w.state.oam))

  -- a call that only 3 and 4 refuse, by the world that it leaves
  call_at_once : {c : Call} {page : ℕ} {m : Memory} → OamDma x w c page m → (n : ℕ) (o : Outcome) → step x w c ≡ unless n w o
      → n ≡ refused_write x w
      → o.number ≡ done
      → (refused_write x w ≡ done → Leaves m page o.after)
      → ((step x w c).number ≡ refused_write x w)
      × ((refused_write x w ≡ done → ⊥) → (step x w c).after ≡ w)
      × (refused_write x w ≡ done
      → (step x w c).after ≡ in_state w (with_oam m (oam_by (λ i. (step x w (call.ReadByte i)).value) page w.state.oam)))
  call_at_once {c} {page} {m} k n o e r d f = (
    ap (λ (a : Outcome). a.number) e ∙ refused_by n w o d ∙ r,
    λ h. ap (λ (a : Outcome). a.after) (e ∙ left_alone n w o (λ z. h (sym r ∙ z))),
    λ h.
        ap (λ (a : Outcome). a.after) (e ∙ let_in n w o (r ∙ h))
        ∙ f h
        ∙ ap (λ (z : List ℕ). in_state w (with_oam m z))
        (oam_same (read_in x w) (λ i. (step x w (call.ReadByte i)).value) page w.state.oam (λ i b. read_value h i)),
  )

  -- what FF45 written alone leaves
  first : (v : ℕ) → refused_write x w ≡ done → write_at x 2 w 0xFF45 v ≡ (step x w (call.WriteByte 0xFF45 v)).after
  unfolding step byte_room in_save region_of
  first v h = sym (ap (λ (a : Outcome). a.after) (let_in _ w (outcome (byte_owed 0xFF45) 0 (write_at x 2 w 0xFF45 v)) (or_none _ ∙ h)))

pub sprites : Sprites
unfolding step byte_room word_room byte_owed word_owed either_in_save in_save in_sound region_of
sprites x w _ _ _ (called page) l = call_at_once x w (called page) _ _ refl refl refl (λ h. transfer_at_once x w page 0 l)
sprites x w _ _ _ (byte page) l = call_at_once x w (byte page) _ _ refl (or_none _) refl (λ h. byte_at_once x w page l)
sprites x w _ _ _ (low word) l = call_at_once x w (low word) _ _ refl (or_none _) refl (λ h. low_at_once x w word l)
sprites x w _ _ _ (high word) l =
    call_at_once x w (high word) _ _ refl (or_none _) refl
    (λ h.
    subst (λ (u : World). Leaves x w (stored u.state 0x46 (word / 256)) (word / 256) (word_at x w 0xFF45 word)) (first x w (word % 256) h)
    (high_at_once x w word l))
