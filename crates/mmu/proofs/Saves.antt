-- Only a write in A000..BFFF stores a save byte: any other, with the transfer that it may start, leaves the save, its log and the log's use.
use Rattle.std.proofs.Common.{◌≡◌, ℕ, zero, suc, ◌+◌, ◌-◌, ◌<◌, ◌≤◌, ltb, set, refl, ◌∙◌, arith}
use Rattle.rules.proofs.Tests.{cond_both}
use Rattle.hdma.specs.Hdma.{destination_used}
use Rattle.hdma.specs.declared.Hdma.{Hdma}
use Rattle.memory.proofs.Regions.{within}
use Rattle.memory.specs.Region.{region_of}
use Rattle.memory.specs.World.{World, Fixed}
use Rattle.memory.specs.declared.Memory.{Memory}
use Rattle.memory.specs.declared.region.Region.{Region}
use Rattle.memory.specs.declared.region.Region.TheVariants.{Rom, Vram, Save, Wram, Oam, Page}
use Rattle.registers.proofs.Kept.{Kept, oam_kept, write_kept, finished_kept}
use Rattle.registers.proofs.Starts.{by_copy}
use Rattle.copies.specs.Copies.{oam_copy, nothing}
use Rattle.copies.specs.PanDocs.{oam_pages}
use Rattle.registers.specs.Transfers.{block_copy, general_copy, copy_of, finished}
use Rattle.copies.specs.declared.Copy.{Copy}
use Rattle.mmu.specs.Access.{in_state, put_in, put}
use Rattle.mmu.specs.Write.{copy_by, transferred, write_at}

pub record Spares (w u : World) : Type 0 where
  pub save : u.save ≡ w.save
  pub log : u.log ≡ w.log
  pub used : u.state.core.used ≡ w.state.core.used

pub spares_trans : {w u y : World} → Spares w u → Spares u y → Spares w y
spares_trans s t = record { save = t.save ∙ s.save; log = t.log ∙ s.log; used = t.used ∙ s.used }

spares_kept : (w : World) (n : Memory) → Kept w.state n → Spares w (in_state w n)
spares_kept w n k = record { save = refl; log = refl; used = k.used }

abbrev pub Outside : ℕ → Type 0
Outside i = 0xA000 ≤ i → i < 0xC000 → ⊥

-- one byte

put_in_spares : (w : World) (r : Region) (i v : ℕ) → (r ≡ Save → ⊥) → Spares w (put_in r w i v)
put_in_spares w Rom i v o = record { save = refl; log = refl; used = refl }
put_in_spares w Vram i v o = record { save = refl; log = refl; used = refl }
put_in_spares w Save i v o = absurd (o refl)
put_in_spares w Wram i v o = record { save = refl; log = refl; used = refl }
put_in_spares w Oam i v o = spares_kept w _ (oam_kept w.state (set w.state.oam (i - 0xFE00) v))
put_in_spares w Page i v o = spares_kept w _ (write_kept w.state (i - 0xFF00) v)

pub put_spares : (w : World) (index v : ℕ) → Outside index → Spares w (put w index v)
put_spares w index v o =
    put_in_spares w (region_of index) index v (λ e. let b = within index e in o b.0 b.1)

-- where transfers write: video memory and OAM

abbrev pub Clear : Copy → Type 0
Clear c = (k : ℕ) → k < c.count → Outside (c.destination + k)

none_clear : Clear nothing
none_clear k h = omega arith

pub oam_clear : (page : ℕ) → Clear (oam_copy page)
unfolding oam_copy
oam_clear page = cond_both Clear (ltb page oam_pages) (λ k h a b. omega arith) none_clear

destination_most : (h : Hdma) → destination_used h ≤ 0x9FF0
unfolding destination_used
destination_most h = omega arith

pub block_clear : (m : Memory) → Clear (block_copy m)
block_clear m k h a b = omega (arith, destination_most m.core.hdma)

general_clear : (m : Memory) (v : ℕ) → Clear (general_copy m v)
general_clear m v k h a b = omega (arith, destination_most m.core.hdma)

pub copy_clear : (m : Memory) (index v : ℕ) → Clear (copy_of m index v)
copy_clear m index v = by_copy Clear m index v none_clear (oam_clear v) (block_clear m) (general_clear m v)

-- so transfers and writes

module _ (x : Fixed) where
  copy_spares : (f : World → ℕ → ℕ → World) → ((w : World) (index v : ℕ) → Outside index → Spares w (f w index v))
      → (source destination n : ℕ) (w : World) → ((k : ℕ) → k < n → Outside (destination + k)) → Spares w (copy_by x f source destination n w)
  unfolding copy_by
  copy_spares f s source destination zero w clear = record { save = refl; log = refl; used = refl }
  copy_spares f s source destination (suc n) w clear =
      spares_trans (copy_spares f s source destination n w (λ k h. clear k (omega arith))) (s _ _ _ (clear n (omega arith)))

  after_spares : (f : World → ℕ → ℕ → World) → ((w : World) (index v : ℕ) → Outside index → Spares w (f w index v)) → (c : Copy)
      → Clear c → (v : ℕ) (w : World) → Spares w (transferred x f c v w)
  after_spares f s c clear v w =
      let u = copy_by x f c.source c.destination c.count w in
      spares_trans (copy_spares f s c.source c.destination c.count w clear)
      (spares_kept u (finished u.state c.finish v) (finished_kept u.state c.finish v))

  pub write_spares : (d : ℕ) (w : World) (index v : ℕ) → Outside index → Spares w (write_at x d w index v)
  unfolding write_at
  write_spares zero w index v o = put_spares w index v o
  write_spares (suc d) w index v o =
      spares_trans (put_spares w index v o)
      (after_spares (write_at x d) (write_spares d) (copy_of w.state index v) (copy_clear w.state index v) v (put w index v))

  pub transfer_spares : (d : ℕ) (c : Copy) → Clear c → (v : ℕ) (w : World) → Spares w (transferred x (write_at x d) c v w)
  transfer_spares d c clear v w = after_spares (write_at x d) (write_spares d) c clear v w
