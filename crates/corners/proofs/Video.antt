-- A transfer to video memory: each of its bytes is stored in video memory alone, and its end sets FF51..FF55 and what is hidden of HDMA. One
-- induction over the bytes, and one look at what a write of FF55 may do.
use mathlib.Core.Bool.{Bool, true, false, cond, not, ◌&&◌}
use mathlib.Core.Path.{◌≡◌, refl, sym, ap, subst, ◌∙◌}
use Prim.Native.Nat.{ℕ, zero, suc, ◌+◌, ◌-◌, ◌/◌, ◌%◌, ◌<◌, ◌≤◌}
use native.Mathlib.Omega.{arith}
use lib.Dec.{eqb}
use lib.ListN.{length, get_or, set, length-set}
use lib.Seq.{get_or-set_other}
use Rattle.bus.specs.Calls.{Outcome, outcome, unless}
use Rattle.copies.specs.Copies.{nothing, landed}
use Rattle.copies.specs.declared.Copy.{Copy}
use Rattle.copies.specs.declared.Finish.{Finish}
use Rattle.copies.specs.declared.Finish.TheVariants.{Nothing, Block, General}
use Rattle.dispatch.proofs.Numbered.{by_unless}
use Rattle.dispatch.specs.Step.{step}
use Rattle.dispatch.specs.declared.Call.TheVariants as call
use Rattle.hdma.specs.Hdma.{running, stopped, first_block, starts, destination_used, destination_low, block_ended, general_ended}
use Rattle.hdma.specs.PanDocs.{length_of, hblank}
use Rattle.hdma.specs.declared.Ended.{Ended}
use Rattle.hdma.specs.declared.Hdma.{Hdma}
use Rattle.hdma.specs.declared.Start.TheVariants as start
use Rattle.hdma.specs.declared.Written.{Written}
use Rattle.memory.proofs.Regions.{region_at}
use Rattle.memory.specs.Region.{region_of}
use Rattle.memory.specs.World.{World, Fixed, with_hdma, hdma_in}
use Rattle.memory.specs.declared.Core.{Core}
use Rattle.memory.specs.declared.Memory.{Memory}
use Rattle.memory.specs.declared.region.Region.TheVariants.{Vram}
use Rattle.mmu.proofs.Laws.{write_plain}
use Rattle.mmu.proofs.Places.{put_by}
use Rattle.mmu.specs.Access.{in_state, in_vram}
use Rattle.mmu.specs.PanDocs.{vram_at}
use Rattle.mmu.specs.Write.{copy_by, transferred, write_at, word_at}
use Rattle.refusals.specs.Refusal.{in_save, byte_room, either_in_save, word_room, byte_owed}
use Rattle.registers.specs.Register.{register_of, byte_as}
use Rattle.registers.specs.State.{loaded, stored}
use Rattle.registers.specs.Transfers.{
  transfer_put,
  destination_low_put,
  with_ended,
  block_copy,
  general_copy,
  started_by,
  started,
  copy_of,
  finished,
}
use Rattle.registers.specs.declared.transfers.Started.{Started}
use Rattle.rules.proofs.Tests.{by_cond}
use Rattle.corners.specs.Transfers.{OnlyRegisters, OnlyVideo, place_of, block_bytes, lands_by, TransferLeaves, InBank, Within}
use Rattle.corners.proofs.Calls.{let_in}

-- the registers

registers_refl : (last : ℕ) (m : Memory) → OnlyRegisters last m m
registers_refl last m = record { core = refl; page = λ at h. refl; size = refl; oam = refl; background = refl; sprites = refl }

registers_trans : {last : ℕ} {m n k : Memory} → OnlyRegisters last m n → OnlyRegisters last n k → OnlyRegisters last m k
registers_trans {last} {m} {n} {k} a b =
    record {
      core = b.core ∙ ap (λ (c : Core). hdma_in c k.core.hdma) a.core;
      page = λ at h. b.page at h ∙ a.page at h;
      size = b.size ∙ a.size;
      oam = b.oam ∙ a.oam;
      background = b.background ∙ a.background;
      sprites = b.sprites ∙ a.sprites;
    }

-- one of them, with what is hidden
module _ (last at : ℕ) (a : 0x51 ≤ at) (b : at ≤ last) where
  one_register : (m : Memory) (x : Hdma) (v : ℕ) → OnlyRegisters last m (with_hdma m x (set m.page at v))
  one_register m x v =
      record {
        core = refl;
        page = λ i h. get_or-set_other m.page at i v 0 (λ e. h (omega arith) (omega arith));
        size = length-set m.page at v;
        oam = refl;
        background = refl;
        sprites = refl;
      }

  stored_register : (m : Memory) (v : ℕ) → OnlyRegisters last m (stored m at v)
  stored_register m v = one_register m m.core.hdma v

ended_registers : (m : Memory) (e : Ended) → OnlyRegisters 0x55 m (with_ended m e)
ended_registers m e =
    let h = e.hdma in
    registers_trans (one_register 0x55 0x51 (omega arith) (omega arith) m h e.r51)
    (registers_trans (one_register 0x55 0x52 (omega arith) (omega arith) _ h e.r52)
    (registers_trans (one_register 0x55 0x53 (omega arith) (omega arith) _ h e.r53)
    (registers_trans (one_register 0x55 0x54 (omega arith) (omega arith) _ h e.r54)
    (one_register 0x55 0x55 (omega arith) (omega arith) _ h e.r55))))

finished_registers : (m : Memory) (k : Finish) (v : ℕ) → OnlyRegisters 0x55 m (finished m k v)
unfolding finished
finished_registers m Nothing v = registers_refl 0x55 m
finished_registers m Block v = ended_registers m (block_ended m.core.hdma (loaded m 0x55))
finished_registers m General v = ended_registers m (general_ended m.core.hdma v)

-- FF54 written
low_registers : (m : Memory) (v : ℕ) → OnlyRegisters 0x55 m (destination_low_put m v)
unfolding destination_low_put
low_registers m v =
    let l = destination_low m.core.hdma v in
    by_cond (OnlyRegisters 0x55 m) m.core.banks.colour (transfer_put m 0x54 l) (stored m 0x54 v)
    (λ t. one_register 0x55 0x54 (omega arith) (omega arith) m l.hdma l.byte)
    (λ f. stored_register 0x55 0x54 (omega arith) (omega arith) m v)

-- the world

video_refl : (last place count : ℕ) (w : World) → OnlyVideo last place count w w
video_refl last place count w =
    record { state = registers_refl last w.state; vram = λ i h. refl; size = refl; wram = refl; save = refl; log = refl }

video_trans : {last place count : ℕ} {w u y : World} → OnlyVideo last place count w u → OnlyVideo last place count u y
    → OnlyVideo last place count w y
video_trans a b =
    record {
      state = registers_trans a.state b.state;
      vram = λ i h. b.vram i h ∙ a.vram i h;
      size = b.size ∙ a.size;
      wram = b.wram ∙ a.wram;
      save = b.save ∙ a.save;
      log = b.log ∙ a.log;
    }

video_state : {last place count : ℕ} (w : World) (m : Memory) → OnlyRegisters last w.state m → OnlyVideo last place count w (in_state w m)
video_state w m r = record { state = r; vram = λ i h. refl; size = refl; wram = refl; save = refl; log = refl }

-- with FF56 beside them
video_next : {place count : ℕ} {w u : World} → OnlyVideo 0x55 place count w u → OnlyVideo 0x56 place count w u
video_next a =
    record {
      state = record {
        core = a.state.core;
        page = λ at h. a.state.page at (λ p q. h p (omega arith));
        size = a.state.size;
        oam = a.state.oam;
        background = a.state.background;
        sprites = a.state.sprites;
      };
      vram = a.vram;
      size = a.size;
      wram = a.wram;
      save = a.save;
      log = a.log;
    }

-- the bytes

-- so many bytes of video memory from a place on, and nothing else
record Laid (place count : ℕ) (w u : World) : Type 0 where
  same : u ≡ in_vram w u.vram
  bytes : (i : ℕ) → (place ≤ i → i < place + count → ⊥) → get_or u.vram i 0 ≡ get_or w.vram i 0
  size : length u.vram ≡ length w.vram

laid_video : {place count : ℕ} {w u : World} → Laid place count w u → OnlyVideo 0x55 place count w u
laid_video {place} {count} {w} {u} l =
    subst (OnlyVideo 0x55 place count w) (sym l.same)
    (record { state = registers_refl 0x55 w.state; vram = l.bytes; size = l.size; wram = refl; save = refl; log = refl })

-- byte k of a copy has its address in video memory, and its place
abbrev Falls : ℕ → ℕ → ℕ → ℕ → Type 0
Falls bank place destination k = ((0x8000 ≤ destination + k) × (destination + k < 0xA000)) × (vram_at bank (destination + k) ≡ place + k)

module _ (x : Fixed) (d : ℕ) where
  write_vram : (w : World) (i v : ℕ) → 0x8000 ≤ i → i < 0xA000
      → write_at x d w i v ≡ in_vram w (set w.vram (vram_at w.state.core.banks.vram i) v)
  write_vram w i v a b = write_plain x w d i v (λ e. omega arith) (λ e. omega arith) ∙ sym (put_by w i v (region_at Vram i (a, b)) refl)

  laid_more : (place n destination v : ℕ) (w u : World) → Falls w.state.core.banks.vram place destination n → Laid place n w u
      → Laid place (suc n) w (write_at x d u (destination + n) v)
  laid_more place n destination v w u f l =
      let b : u.state.core.banks.vram ≡ w.state.core.banks.vram = ap (λ (y : World). y.state.core.banks.vram) l.same in
      let at = vram_at u.state.core.banks.vram (destination + n) in
      let p : at ≡ place + n = ap (λ (k : ℕ). vram_at k (destination + n)) b ∙ f.1 in
      subst (Laid place (suc n) w) (sym (write_vram u (destination + n) v f.0.0 f.0.1))
      (record {
        same = ap (λ (y : World). in_vram y (set u.vram at v)) l.same;
        bytes = λ i h. get_or-set_other u.vram at i v 0 (λ e. h (omega arith) (omega arith)) ∙ l.bytes i (λ q r. h q (omega arith));
        size = length-set u.vram at v ∙ l.size;
      })

  copy_laid : (source destination place n : ℕ) (w : World) → ((k : ℕ) → k < n → Falls w.state.core.banks.vram place destination k)
      → Laid place n w (copy_by x (write_at x d) source destination n w)
  unfolding copy_by
  copy_laid source destination place zero w f = record { same = refl; bytes = λ i h. refl; size = refl }
  copy_laid source destination place (suc n) w f =
      laid_more place n destination _ w _ (f n (omega arith)) (copy_laid source destination place n w (λ k h. f k (omega arith)))

-- a transfer of which every byte falls into video memory
abbrev FallsAll : ℕ → ℕ → Copy → ℕ → Type 0
FallsAll bank place c count = (c.count ≡ count) × ((k : ℕ) → k < count → Falls bank place c.destination k)

module _ (x : Fixed) (w : World) (place count : ℕ) (c : Copy) (f : FallsAll w.state.core.banks.vram place c count) where
  transfer_video : (v : ℕ) → OnlyVideo 0x55 place count w (transferred x (write_at x 1) c v w)
  transfer_video v =
      let u = copy_by x (write_at x 1) c.source c.destination c.count w in
      let l = copy_laid x 1 c.source c.destination place count w f.1 in
      let a : OnlyVideo 0x55 place count w u = rw f.0 (laid_video l) in
      video_trans a (video_state u (finished u.state c.finish v) (finished_registers u.state c.finish v))

destination_bounds : (h : Hdma) → (0x8000 ≤ destination_used h) × (destination_used h ≤ 0x9FF0)
unfolding destination_used
destination_bounds h = (omega arith, omega arith)

none_falls : (bank place : ℕ) → FallsAll bank place nothing 0
none_falls bank place = (refl, λ k h. absurd (omega arith))

module _ (m : Memory) where
  block_falls : FallsAll m.core.banks.vram (place_of m) (block_copy m) block_bytes
  block_falls =
      let b = destination_bounds m.core.hdma in
      (refl, λ k h. ((omega (arith, b), omega (arith, b)), omega (arith, b)))

  module _ (v : ℕ) where
    abbrev all : ℕ
    all = landed (destination_used m.core.hdma) (length_of v)

    general_falls : FallsAll m.core.banks.vram (place_of m) (general_copy m v) all
    general_falls =
        let b = destination_bounds m.core.hdma in
        (refl, λ k h. ((omega (arith, b), omega (arith, b)), omega (arith, b)))

    -- what a write of FF55 may do, with how many bytes land by it

    abbrev on : Written
    on = running m.core.hdma v

    abbrev off : Written
    off = stopped m.core.hdma

    module _ (P : Started → ℕ → Type 0) where
      by_started : P (record { memory = stored m 0x55 v; copy = nothing }) 0
          → P (record { memory = transfer_put m 0x55 on; copy = nothing }) 0
          → P (record { memory = transfer_put m 0x55 off; copy = nothing }) 0
          → P (record { memory = transfer_put m 0x55 on; copy = block_copy m }) block_bytes
          → P (record { memory = m; copy = general_copy m v }) all
          → P (started m v) (lands_by m v)
      unfolding started starts first_block lands_by
      by_started p s t b g = by_tests m.core.banks.colour m.core.hdma.on (hblank v) (eqb m.core.lcd.mode 0)
        where
          by_tests : (c o h z : Bool)
              → P
              (cond c
              (started_by m v
              (cond (not o && not h) start.General
              (cond h (cond o (start.Set on) (cond z (start.Block on) (start.Set on))) (start.Set off))))
              (record { memory = stored m 0x55 v; copy = nothing }))
              (cond (c && not o) (cond h (cond z block_bytes 0) all) 0)
          by_tests false o h z = p
          by_tests true true true z = s
          by_tests true true false z = t
          by_tests true false true true = b
          by_tests true false true false = s
          by_tests true false false z = g

-- the writes

module _ (x : Fixed) (w : World) where
  -- the bytes of a transfer, after what its write stored
  module _ (v : ℕ) (c : Copy) (count : ℕ) (f : FallsAll w.state.core.banks.vram (place_of w.state) c count) where
    abbrev then_copied : Memory → World
    then_copied m = transferred x (write_at x 1) c v (in_state w m)

    after_stored : OnlyVideo 0x55 (place_of w.state) count w (then_copied (stored w.state 0x55 v))
    after_stored =
        let m = stored w.state 0x55 v in
        video_trans (video_state w m (stored_register 0x55 0x55 (omega arith) (omega arith) w.state v))
        (transfer_video x (in_state w m) (place_of w.state) count c f v)

    after_switch : (s : Written) → OnlyVideo 0x55 (place_of w.state) count w (then_copied (transfer_put w.state 0x55 s))
    after_switch s =
        let m = transfer_put w.state 0x55 s in
        video_trans (video_state w m (one_register 0x55 0x55 (omega arith) (omega arith) w.state s.hdma s.byte))
        (transfer_video x (in_state w m) (place_of w.state) count c f v)

  byte_video : (v : ℕ) → OnlyVideo 0x55 (place_of w.state) (lands_by w.state v) w (write_at x 2 w 0xFF55 v)
  unfolding write_at copy_of region_of register_of
  byte_video v =
      let m = w.state in
      by_started m v (λ (s : Started) (n : ℕ). OnlyVideo 0x55 (place_of m) n w (transferred x (write_at x 1) s.copy v (in_state w s.memory)))
      (after_stored v nothing 0 (none_falls _ _)) (after_switch v nothing 0 (none_falls _ _) (on m v))
      (after_switch v nothing 0 (none_falls _ _) (off m v))
      (after_switch v (block_copy m) block_bytes (block_falls m) (on m v))
      (transfer_video x w (place_of m) (all m v) (general_copy m v) (general_falls m v) v)

  -- FF54 and FF56 alone
  lower : (v : ℕ) → write_at x 2 w 0xFF54 v ≡ in_state w (destination_low_put w.state v)
  unfolding write_at copy_of copy_by finished region_of register_of
  lower v = refl

  upper : (v : ℕ) → write_at x 2 w 0xFF56 v ≡ in_state w (stored w.state 0x56 v)
  unfolding write_at copy_of copy_by finished region_of register_of byte_as
  upper v = refl

module _ (x : Fixed) (w : World) (v : ℕ) where
  low_video : OnlyVideo 0x56 (place_of w.state) (lands_by w.state (v % 256)) w (word_at x w 0xFF55 v)
  unfolding word_at
  low_video =
      let u = write_at x 2 w 0xFF55 (v % 256) in
      rw (upper x u (v / 256))
      (video_trans (video_next (byte_video x w (v % 256)))
      (video_state u _ (stored_register 0x56 0x56 (omega arith) (omega arith) u.state (v / 256))))

  abbrev lowered : World
  lowered = write_at x 2 w 0xFF54 (v % 256)

  high_video : OnlyVideo 0x55 (place_of lowered.state) (lands_by lowered.state (v / 256)) w (word_at x w 0xFF54 v)
  unfolding word_at
  high_video =
      let a : OnlyVideo 0x55 (place_of lowered.state) (lands_by lowered.state (v / 256)) w lowered =
      subst (OnlyVideo 0x55 (place_of lowered.state) (lands_by lowered.state (v / 256)) w) (sym (lower x w (v % 256)))
      (video_state w _ (low_registers w.state (v % 256))) in
      video_trans a (byte_video x lowered (v / 256))

-- the calls

module _ (x : Fixed) (w : World) where
  -- a call by the world that it leaves where nothing refuses it
  call_video : (last place count n : ℕ) (o : Outcome) → OnlyVideo last place count w o.after → OnlyVideo last place count w (unless n w o).after
  call_video last place count n o v =
      by_unless (λ (a : Outcome). OnlyVideo last place count w a.after) n w o (λ z. v) (λ h. video_refl last place count w)

  word_high : (v : ℕ) → OnlyVideo 0x55 (place_of (step x w (call.WriteByte 0xFF54 (v % 256))).after.state)
      (lands_by (step x w (call.WriteByte 0xFF54 (v % 256))).after.state (v / 256)) w (step x w (call.WriteWord 0xFF54 v)).after
  unfolding step byte_room word_room either_in_save in_save region_of
  word_high v =
      let s = step x w (call.WriteByte 0xFF54 (v % 256)) in
      by_unless (λ (a : Outcome). OnlyVideo 0x55 (place_of s.after.state) (lands_by s.after.state (v / 256)) w a.after) _ w _
      (λ z.
      subst (λ (u : World). OnlyVideo 0x55 (place_of u.state) (lands_by u.state (v / 256)) w (word_at x w 0xFF54 v))
      (sym (ap (λ (a : Outcome). a.after) (let_in _ w (outcome (byte_owed 0xFF54) 0 (lowered x w v)) z)))
      (high_video x w v))
      (λ h. video_refl 0x55 _ _ w)

pub transfer_leaves : TransferLeaves
unfolding step
transfer_leaves x w =
    record {
      called = call_video x w 0x55 _ _ _ _ (transfer_video x w (place_of w.state) block_bytes (block_copy w.state) (block_falls w.state) 0);
      byte = λ v. call_video x w 0x55 _ _ _ _ (byte_video x w v);
      low = λ v. call_video x w 0x56 _ _ _ _ (low_video x w v);
      high = word_high x w;
    }

-- the selected bank

pub in_bank : InBank
in_bank m =
    let b = destination_bounds m.core.hdma in (
      fits block_bytes (omega (arith, b)),
      λ v.
          fits (lands_by m v)
          (by_started m v (λ (s : Started) (n : ℕ). n ≤ 0xA000 - destination_used m.core.hdma) (omega arith) (omega arith) (omega arith)
          (omega (arith, b)) (omega arith)),
    )
  where
    fits : (n : ℕ) → n ≤ 0xA000 - destination_used m.core.hdma → Within m n
    fits n h = let b = destination_bounds m.core.hdma in (omega (arith, b), omega (arith, b))
