-- Every write leaves a world in which the next one can be made; and a copy and a write by cases, as the code makes them.
use Rattle.std.proofs.Common.{◌≡◌, ℕ, zero, suc, ◌+◌, ◌-◌, ◌/◌, ◌%◌, ◌≤◌, true, false, ◌||◌, eqb, Option, Some, None, [], length, set, sym, refl, ap, ◌∙◌, subst, ⊎_elim, add-one, sub-one, arith, length-set, ne_eqb, eqb-true}
use borrow.Author.Tests.{eqb-false}
use Rattle.rules.proofs.Tests.{by_cond, neither, or_cases}
use Rattle.mbc.proofs.Laws.{ram_len_after}
use Rattle.mbc.specs.Mbc.{answer}
use Rattle.mbc.specs.declared.mbc.Stored.{Stored}
use Rattle.memory.proofs.Laws.{used_range, mapper_kept}
use Rattle.memory.proofs.Regions.{region_at}
use Rattle.memory.specs.Region.{region_of}
use Rattle.memory.specs.World.{World, world, Fixed}
use Rattle.memory.specs.declared.Memory.{Memory}
use Rattle.memory.specs.declared.region.Region.{Region}
use Rattle.memory.specs.declared.region.Region.TheVariants.{Rom, Vram, Save, Wram, Oam, Page}
use Rattle.registers.proofs.Kept.{Kept, oam_kept, write_kept, finished_kept}
use Rattle.registers.specs.Page.{write_register}
use Rattle.registers.specs.Transfers.{copy_of, finished}
use Rattle.copies.specs.declared.Copy.{Copy}
use Rattle.copies.specs.declared.Finish.{Finish}
use Rattle.savelog.proofs.Use.{has_room, use_more, appended_length}
use Rattle.savelog.specs.Log.{width, use_in_range, full}
use Rattle.mmu.specs.PanDocs.{vram_at, wram_at}
use Rattle.mmu.specs.Access.{Holds, Ready, read_in, mapper_put, saved, save_put, in_state, in_vram, in_wram, put_in, put}
use Rattle.mmu.specs.Write.{copy_by, transferred, starting, write_at, word_at}
use Rattle.mmu.proofs.Places.{put_by}

-- what a write leaves: a world that holds, of the same kind and cartridge, with a log use in range where it was
pub record Stays (w u : World) : Type 0 where
  pub holds : Holds u
  pub colour : u.state.core.banks.colour ≡ w.state.core.banks.colour
  pub cartridge : u.state.core.cartridge ≡ w.state.core.cartridge
  pub used : use_in_range w.state.core.used (length w.log) ≡ true → use_in_range u.state.core.used (length u.log) ≡ true

pub stays_refl : (w : World) → Holds w → Stays w w
stays_refl w h = record { holds = h; colour = refl; cartridge = refl; used = λ e. e }

pub stays_trans : {w u y : World} → Stays w u → Stays u y → Stays w y
stays_trans s t =
    record {
      holds = t.holds;
      colour = t.colour ∙ s.colour;
      cartridge = t.cartridge ∙ s.cartridge;
      used = λ e. t.used (s.used e);
    }

module _ (w : World) (h : Holds w) where
  pub kept_stays : (n : Memory) → Kept w.state n → Stays w (in_state w n)
  kept_stays n k =
      record {
        holds = record {
          state = k.range h.state;
          vram = rw k.colour h.vram;
          wram = rw k.colour h.wram;
          save = rw (k.cartridge, k.mapper) h.save;
          log = h.log;
        };
        colour = k.colour;
        cartridge = k.cartridge;
        used = λ e. rw k.used e;
      }

  mapper_stays : (i v : ℕ) → Stays w (in_state w (mapper_put w.state i v))
  mapper_stays i v =
      record {
        holds = record {
          state = mapper_kept w.state h.state i v;
          vram = h.vram;
          wram = h.wram;
          save = h.save ∙ sym (ram_len_after w.state.core.cartridge w.state.core.mapper i v);
          log = h.log;
        };
        colour = refl;
        cartridge = refl;
        used = λ e. e;
      }

  vram_stays : (at v : ℕ) → Stays w (in_vram w (set w.vram at v))
  vram_stays at v =
      record {
        holds = record {
          state = h.state;
          vram = length-set w.vram at v ∙ h.vram;
          wram = h.wram;
          save = h.save;
          log = h.log;
        };
        colour = refl;
        cartridge = refl;
        used = λ e. e;
      }

  wram_stays : (at v : ℕ) → Stays w (in_wram w (set w.wram at v))
  wram_stays at v =
      record {
        holds = record {
          state = h.state;
          vram = h.vram;
          wram = length-set w.wram at v ∙ h.wram;
          save = h.save;
          log = h.log;
        };
        colour = refl;
        cartridge = refl;
        used = λ e. e;
      }

  saved_stays : (a : Option Stored) → w.state.core.used + width ≤ length w.log → Stays w (saved a w)
  saved_stays (Some k) room =
      let l = appended_length w.log w.state.core.used k.at k.value room in
      record {
        holds = record {
          state = used_range w.state (w.state.core.used + width) ∙ h.state;
          vram = h.vram;
          wram = h.wram;
          save = length-set w.save k.at k.value ∙ h.save;
          log = rw l h.log;
        };
        colour = refl;
        cartridge = refl;
        used = λ e. rw l (use_more w.state.core.used (length w.log) room e);
      }
  saved_stays None room = stays_refl w h

module _ (w : World) (h : Holds w) where
  save_stays : (i v : ℕ) → Stays w (save_put w i v)
  unfolding save_put
  save_stays i v =
      let a = answer w.state.core.cartridge w.state.core.mapper i v in
      let m = mapper_stays w h i v in
      by_cond (Stays w) (full (length w.log) w.state.core.used 1) w (saved a (in_state w (mapper_put w.state i v))) (λ t. stays_refl w h)
      (λ f. stays_trans m (saved_stays _ m.holds a (has_room (length w.log) w.state.core.used 1 f)))

  put_in_stays : (r : Region) (i v : ℕ) → Stays w (put_in r w i v)
  put_in_stays Rom i v = mapper_stays w h i v
  put_in_stays Vram i v = vram_stays w h (vram_at w.state.core.banks.vram i) v
  put_in_stays Save i v = save_stays i v
  put_in_stays Wram i v = wram_stays w h (wram_at w.state.core.banks.wram i) v
  put_in_stays Oam i v = kept_stays w h _ (oam_kept w.state (set w.state.oam (i - 0xFE00) v))
  put_in_stays Page i v = kept_stays w h _ (write_kept w.state (i - 0xFF00) v)

  pub put_stays : (index v : ℕ) → Stays w (put w index v)
  put_stays index v = put_in_stays (region_of index) index v

  pub put_holds : (index v : ℕ) → Holds (put w index v)
  put_holds index v = (put_stays index v).holds

-- What each byte write and each end of a transfer keeps, every write keeps: an induction over the bytes of a copy and the depth

module _ (x : Fixed) (P : World → Type 0) (each : (w : World) → P w → (index v : ℕ) → P (put w index v))
    (ends : (w : World) → P w → (k : Finish) (v : ℕ) → P (in_state w (finished w.state k v))) where
  copy_keeps : (f : World → ℕ → ℕ → World) → ((w : World) → P w → (index v : ℕ) → P (f w index v)) → (source destination n : ℕ) (w : World)
      → P w → P (copy_by x f source destination n w)
  unfolding copy_by
  copy_keeps f k source destination zero w p = p
  copy_keeps f k source destination (suc n) w p = k _ (copy_keeps f k source destination n w p) _ _

  after_copy : (f : World → ℕ → ℕ → World) → ((w : World) → P w → (index v : ℕ) → P (f w index v)) → (c : Copy) (v : ℕ) (w : World) → P w
      → P (transferred x f c v w)
  after_copy f k c v w p =
      ends (copy_by x f c.source c.destination c.count w)
      (copy_keeps f k c.source c.destination c.count w p) c.finish v

  pub write_keeps : (d : ℕ) (w : World) → P w → (index v : ℕ) → P (write_at x d w index v)
  unfolding write_at
  write_keeps zero w p index v = each w p index v
  write_keeps (suc d) w p index v = after_copy (write_at x d) (write_keeps d) (copy_of w.state index v) v (put w index v) (each w p index v)

  pub transfer_keeps : (d : ℕ) (c : Copy) (v : ℕ) (w : World) → P w → P (transferred x (write_at x d) c v w)
  transfer_keeps d c v w p = after_copy (write_at x d) (write_keeps d) c v w p

  pub word_keeps : (w : World) → P w → (index v : ℕ) → P (word_at x w index v)
  unfolding word_at
  word_keeps w p index v =
      write_keeps 2 (write_at x 2 w index (v % 256)) (write_keeps 2 w p index (v % 256)) ((index + 1) % 65536) (v / 256)

-- so every write leaves a world that holds

module _ (x : Fixed) (w : World) (h : Holds w) where
  stays_put : (u : World) → Stays w u → (index v : ℕ) → Stays w (put u index v)
  stays_put u s index v = stays_trans s (put_stays u s.holds index v)

  stays_end : (u : World) → Stays w u → (k : Finish) (v : ℕ) → Stays w (in_state u (finished u.state k v))
  stays_end u s k v = stays_trans s (kept_stays u s.holds (finished u.state k v) (finished_kept u.state k v))

  pub write_stays : (d index v : ℕ) → Stays w (write_at x d w index v)
  write_stays d index v = write_keeps x (Stays w) stays_put stays_end d w (stays_refl w h) index v

  pub transfer_stays : (d : ℕ) (c : Copy) (v : ℕ) → Stays w (transferred x (write_at x d) c v w)
  transfer_stays d c v = transfer_keeps x (Stays w) stays_put stays_end d c v w (stays_refl w h)

  pub word_stays : (index v : ℕ) → Stays w (word_at x w index v)
  word_stays index v = word_keeps x (Stays w) stays_put stays_end w (stays_refl w h) index v

module _ (x : Fixed) where
  -- with what is lent for reading alone

  pub stays_ready : (w u : World) → Ready x w → Stays w u → Ready x u
  stays_ready w u r s = record { holds = s.holds; rom = rw s.cartridge r.rom; sound = r.sound }

  pub put_ready : (w : World) → Ready x w → (index v : ℕ) → Ready x (put w index v)
  put_ready w r index v = stays_ready w (put w index v) r (put_stays w r.holds index v)

  pub write_ready : (d : ℕ) (w : World) → Ready x w → (index v : ℕ) → Ready x (write_at x d w index v)
  write_ready d w r index v = stays_ready w (write_at x d w index v) r (write_stays x w r.holds d index v)

  -- a read needs no log
  pub read_ready : (w : World) → Ready x w → Ready x (world w.state w.vram w.wram w.save [])
  read_ready w r =
      record {
        holds = record {
          state = r.holds.state;
          vram = r.holds.vram;
          wram = r.holds.wram;
          save = r.holds.save;
          log = omega arith;
        };
        rom = r.rom;
        sound = r.sound;
      }

-- a copy: no byte, one byte more; and with it its registers

module _ (x : Fixed) (f : World → ℕ → ℕ → World) where
  pub copy_none : (source destination : ℕ) (w : World) → copy_by x f source destination 0 w ≡ w
  unfolding copy_by
  copy_none source destination w = refl

  pub copy_more : (source destination n : ℕ) (w u : World) → u ≡ copy_by x f source destination n w
      → f u (destination + n) (read_in x u ((source + n) % 65536)) ≡ copy_by x f source destination (n + 1) w
  unfolding copy_by
  copy_more source destination n w u e =
      rw (add-one n) (ap (λ (u : World). f u (destination + n) (read_in x u ((source + n) % 65536))) e)

  pub transfer_done : (c : Copy) (n v : ℕ) (w : World) {u : World} {r : Memory} → n ≡ c.count
      → u ≡ copy_by x f c.source c.destination n w → r ≡ finished u.state c.finish v → in_state u r ≡ transferred x f c v w
  transfer_done c n v w a e q = rw (q, e, a)

-- what starts a transfer

starting_above : (d index : ℕ) → starting (suc d) index ≡ (eqb index 0xFF46 || eqb index 0xFF55)
unfolding starting
starting_above d index = rw (ne_eqb (suc d) 0 (λ z. omega arith))

pub starting_depth : (d index : ℕ) → starting d index ≡ true → d ≡ 0 → ⊥
unfolding starting
starting_depth zero index e z = let z : ◌≡◌ {A = ℕ} 0 1 = cc in absurd (omega arith)
starting_depth (suc d) index e z = omega arith

pub starting_index : (d index : ℕ) → starting d index ≡ true → (index ≡ 0xFF46 → ⊥) → index ≡ 0xFF55
unfolding starting
starting_index zero index e k = let z : ◌≡◌ {A = ℕ} 0 1 = cc in absurd (omega arith)
starting_index (suc d) index e k =
    ⊎_elim (λ h. absurd (k (eqb-true index 0xFF46 h))) (λ h. eqb-true index 0xFF55 h)
    (or_cases (eqb index 0xFF46) (eqb index 0xFF55) (sym (starting_above d index) ∙ e))

pub starting_page : (d index : ℕ) → starting d index ≡ true → 0xFF00 ≤ index
unfolding starting
starting_page zero index e = let z : ◌≡◌ {A = ℕ} 0 1 = cc in absurd (omega arith)
starting_page (suc d) index e =
    ⊎_elim (λ h. omega (arith, eqb-true index 0xFF46 h)) (λ h. omega (arith, eqb-true index 0xFF55 h))
    (or_cases (eqb index 0xFF46) (eqb index 0xFF55) (sym (starting_above d index) ∙ e))

-- a write by cases

module _ (x : Fixed) (w : World) where
  pub write_plain : (d index v : ℕ) → (index ≡ 0xFF46 → ⊥) → (index ≡ 0xFF55 → ⊥) → write_at x d w index v ≡ put w index v
  unfolding write_at copy_of copy_by finished
  write_plain zero index v a b = refl
  write_plain (suc d) index v a b = rw (ne_eqb index 0xFF46 a, ne_eqb index 0xFF55 b)

  pub write_alone : (d index v : ℕ) → starting d index ≡ false → write_at x d w index v ≡ put w index v
  unfolding write_at
  write_alone zero index v e = refl
  write_alone (suc d) index v e =
      let n = neither (eqb index 0xFF46) (eqb index 0xFF55) (sym (starting_above d index) ∙ e) in
      write_plain (suc d) index v (eqb-false index 0xFF46 n.0) (eqb-false index 0xFF55 n.1)

  put_start : (d index v : ℕ) {n : Memory} → starting d index ≡ true → n ≡ write_register w.state (index - 0xFF00) v
      → in_state w n ≡ put w index v
  put_start d index v s e = put_by w index v (region_at Page index (starting_page d index s)) (ap (in_state w) e)

  pub start_ready : (d index v : ℕ) {n : Memory} → Ready x w → starting d index ≡ true → n ≡ write_register w.state (index - 0xFF00) v
      → Ready x (in_state w n)
  start_ready d index v r s e = subst (Ready x) (sym (put_start d index v s e)) (put_ready x w r index v)

  pub write_transfer : (d index v : ℕ) {k : Copy} {n : Memory} {u : World} → starting d index ≡ true
      → n ≡ write_register w.state (index - 0xFF00) v → k ≡ copy_of w.state index v
      → u ≡ transferred x (write_at x (d - 1)) k v (in_state w n) → u ≡ write_at x d w index v
  unfolding write_at
  write_transfer zero index v s a b e = absurd (starting_depth zero index s refl)
  write_transfer (suc d) index v s a b e =
      rw (b, put_start (suc d) index v s a, sub-one) at e
