-- How the entries answer: by the image's number, the lengths', or by what the transfer leaves.
use mathlib.Core.Bool.{Bool, true, false, cond}
use mathlib.Core.List.{List}
use mathlib.Core.Path.{◌≡◌, refl, sym, ap, ◌∙◌}
use Prim.Native.Nat.{ℕ}
use lib.Dec.{eqb, ltb}
use borrow.Author.Tests.{eqb-true, eqb-false, ne_eqb}
use Rattle.bus.proofs.Passes.{write_passes}
use Rattle.bus.specs.Calls.{outcome, unless}
use Rattle.dispatch.specs.Step.{step}
use Rattle.dispatch.specs.declared.Call.{Call}
use Rattle.dispatch.specs.declared.Call.TheVariants as call
use Rattle.image.proofs.OpenLaws.{load_range, load_image}
use Rattle.image.specs.Layout.{used_field}
use Rattle.image.specs.Load.{at, load_call}
use Rattle.image.specs.Patches.{fields}
use Rattle.in_place.proofs.Images.{core}
use Rattle.memory.specs.World.{World, Fixed, fixed}
use Rattle.memory.specs.declared.Core.{Core}
use Rattle.mmu.proofs.Laws.{read_ready}
use Rattle.mmu.specs.Write.{transferred, write_at}
use Rattle.packing.specs.Packing.{Below}
use Rattle.refusals.proofs.Answers.{both_pass}
use Rattle.refusals.proofs.Core.{write_lent}
use Rattle.refusals.specs.Refusal.{or_else, use_refused, lengths_refused, log_refused, lent_refused, write_refused, refused_write}
use Rattle.copies.specs.Copies.{oam_copy}
use Rattle.registers.specs.Transfers.{block_copy}
use Rattle.entry.specs.Entry.{encoded_in, world_entry}
use Rattle.move_bytes.specs.Transfers.{Own, Moved}
use Rattle.put_bytes.specs.Left.{Left, left, world_of, left_by}

pub zero_else : (a : ℕ) → or_else 0 a ≡ a
unfolding or_else
zero_else a = refl

pub either_way : (b : Bool) {x y : Left} → x ≡ y → cond b x y ≡ y
either_way true e = e
either_way false e = refl

-- the number: of the image first, then of what is lent
module _ (i : List ℕ) {n : ℕ} (e : n ≡ (load_call i).number) (rom vram wram save sound log : ℕ) where
  abbrev Number : ℕ → Type 0
  Number k = k ≡ or_else (load_call i).number (write_refused (load_call i).state rom vram wram save sound log)

  pub number_closed : (n ≡ 0 → ⊥) → Number n
  unfolding or_else
  number_closed h = e ∙ rw (ne_eqb (load_call i).number 0 (λ z. h (e ∙ z)))

  pub number_lent : n ≡ 0 → Below 256 i → {u a b c d k : ℕ} → u ≡ at (fields i) used_field → a ≡ use_refused u log
      → b ≡ lengths_refused (load_call i).state.core rom vram wram save sound → c ≡ log_refused log → d ≡ or_else b c → k ≡ or_else a d → Number k
  unfolding lent_refused
  number_lent z below {u} f g h x y w =
      let m = (load_call i).state in
      let t : (load_call i).number ≡ 0 = sym e ∙ z in
      let r : u ≡ m.core.used = f ∙ ap (λ (c : Core). c.used) (core i (below, t)) in
      (w ∙ rw (g, r, y, h, x))
      ∙ sym (write_lent m (load_range i t below) rom vram wram save sound log)
      ∙ sym (ap (λ (a : ℕ). or_else a (write_refused m rom vram wram save sound log)) t ∙ zero_else (write_refused m rom vram wram save sound log))

-- a call that nothing but the image and the lengths refuses, whose value is k
module _ (x : Fixed) (i v w s l : List ℕ) (below : Below 256 i) (c : Call) (k : ℕ) (u : World)
    (f : step x (world_of i v w s l) c ≡ unless (refused_write x (world_of i v w s l)) (world_of i v w s l) (outcome 0 k u)) {n : ℕ}
    (e : n ≡ or_else (load_call i).number (refused_write x (world_of i v w s l))) where
  untaken : ((load_call i).number ≡ 0 → ⊥) → left n 0 i v w s l ≡ world_entry x i v w s l c
  unfolding world_entry or_else
  untaken h = rw (e, ne_eqb (load_call i).number 0 h)

  refused : (load_call i).number ≡ 0 → (n ≡ 0 → ⊥) → left n 0 i v w s l ≡ world_entry x i v w s l c
  unfolding world_entry encoded_in unless
  refused z h =
      let d : n ≡ refused_write x (world_of i v w s l) = e ∙ rw z (zero_else (refused_write x (world_of i v w s l))) in
      let g = load_image i z below in
      rw (z, f, ← d, ne_eqb n 0 h) (sym (either_way (ltb 1 n) (ap (λ (a : List ℕ). left n 0 a v w s l) (sym g)) ∙ ap (λ (a : List ℕ). left n 0 a v w s l) g))

  pub call_refused : (n ≡ 0 → ⊥) → left n 0 i v w s l ≡ world_entry x i v w s l c
  call_refused h = by_number (eqb (load_call i).number 0) refl
    where
      by_number : (b : Bool) → eqb (load_call i).number 0 ≡ b → left n 0 i v w s l ≡ world_entry x i v w s l c
      by_number true q = refused (eqb-true (load_call i).number 0 q) h
      by_number false q = untaken (eqb-false (load_call i).number 0 q)

  pub call_done : n ≡ 0 → {j v' w' s' l' : List ℕ} → left 0 0 j v' w' s' l' ≡ left_by u → left 0 k j v' w' s' l' ≡ world_entry x i v w s l c
  unfolding world_entry encoded_in unless
  call_done z g =
      let q = both_pass (load_call i).number (refused_write x (world_of i v w s l)) (sym e ∙ z) in
      rw (q.0, f, q.1) (ap (λ (a : Left). left 0 k a.image a.vram a.wram a.save a.log) g)

module _ (rom sound i v w s l : List ℕ) (below : Below 256 i) {n : ℕ}
    (p : n ≡ or_else (load_call i).number (refused_write (fixed rom sound) (world_of i v w s l))) where
  pub lent : n ≡ 0 → Own (fixed rom sound) i v w s
  lent z =
      let d = both_pass (load_call i).number (refused_write (fixed rom sound) (world_of i v w s l)) (sym p ∙ z) in
      record {
        bytes = below;
        number = d.0;
        core = refl;
        ready = read_ready (fixed rom sound) (world_of i v w s l) (write_passes rom sound (load_call i).state v w s l d.1);
      }

  module _ (page : ℕ) where
    oam_call : step (fixed rom sound) (world_of i v w s l) (call.DoDmaTransfer page)
        ≡ unless (refused_write (fixed rom sound) (world_of i v w s l)) (world_of i v w s l)
        (outcome 0 0 (transferred (fixed rom sound) (write_at (fixed rom sound) 1) (oam_copy page) 0 (world_of i v w s l)))
    unfolding step
    oam_call = refl

    pub oam_refused : (n ≡ 0 → ⊥) → left n 0 i v w s l ≡ world_entry (fixed rom sound) i v w s l (call.DoDmaTransfer page)
    oam_refused = call_refused (fixed rom sound) i v w s l below (call.DoDmaTransfer page) 0 _ oam_call p

    pub oam_done : n ≡ 0 → {j v' : List ℕ} → ((value : ℕ) → Moved (fixed rom sound) i v w s (oam_copy page) value j v')
        → left 0 0 j v' w s l ≡ world_entry (fixed rom sound) i v w s l (call.DoDmaTransfer page)
    oam_done z g = call_done (fixed rom sound) i v w s l below (call.DoDmaTransfer page) 0 _ oam_call p z (g 0 l)

  block_call : step (fixed rom sound) (world_of i v w s l) call.DoHdma
      ≡ unless (refused_write (fixed rom sound) (world_of i v w s l)) (world_of i v w s l)
      (outcome 0 36 (transferred (fixed rom sound) (write_at (fixed rom sound) 1) (block_copy (load_call i).state) 0 (world_of i v w s l)))
  unfolding step
  block_call = refl

  pub block_refused : (n ≡ 0 → ⊥) → left n 0 i v w s l ≡ world_entry (fixed rom sound) i v w s l call.DoHdma
  block_refused = call_refused (fixed rom sound) i v w s l below call.DoHdma 36 _ block_call p

  pub block_done : n ≡ 0 → {j v' : List ℕ} → ((value : ℕ) → Moved (fixed rom sound) i v w s (block_copy (load_call i).state) value j v')
      → left 0 36 j v' w s l ≡ world_entry (fixed rom sound) i v w s l call.DoHdma
  block_done z g = call_done (fixed rom sound) i v w s l below call.DoHdma 36 _ block_call p z (g 0 l)
