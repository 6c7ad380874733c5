-- Only a write where the bus asks the mapper changes it: any other, with the transfer that it may start, leaves it. Transfers write to video memory and OAM.
use mathlib.Core.Path.{◌≡◌, refl, ◌∙◌}
use Prim.Native.Nat.{ℕ, zero, suc, ◌+◌, ◌-◌, ◌<◌, ◌≤◌}
use native.Mathlib.Omega.{arith}
use lib.Dec.{ltb}
use lib.ListN.{set}
use Rattle.rules.proofs.Tests.{cond_both}
use Rattle.hdma.specs.Hdma.{destination_used}
use Rattle.hdma.specs.declared.Hdma.{Hdma}
use Rattle.mbc.specs.declared.mbc.Stored.{Stored}
use Rattle.std.specs.Prelude.{Option, Some, None}
use Rattle.memory.proofs.Regions.{within}
use Rattle.memory.specs.Region.{region_of}
use Rattle.memory.specs.World.{World, Fixed}
use Rattle.memory.specs.declared.Memory.{Memory}
use Rattle.memory.specs.declared.region.Region.{Region}
use Rattle.memory.specs.declared.region.Region.TheVariants.{Rom, Vram, Save, Wram, Oam, Page}
use Rattle.mmu.proofs.Saves.{Outside, Clear, copy_clear}
use Rattle.mmu.specs.Access.{saved, put_in, put}
use Rattle.mmu.specs.Write.{copy_by, transferred, write_at}
use Rattle.registers.proofs.Kept.{oam_kept, write_kept, finished_kept}
use Rattle.registers.proofs.Starts.{by_copy}
use Rattle.copies.specs.Copies.{oam_copy, nothing}
use Rattle.copies.specs.PanDocs.{oam_pages}
use Rattle.registers.specs.Transfers.{block_copy, general_copy, copy_of}
use Rattle.copies.specs.declared.Copy.{Copy}

abbrev pub SameMapper : World → World → Type 0
SameMapper w u = u.state.core.mapper ≡ w.state.core.mapper

-- one byte

-- what the mapper answers is done on a mapper that was changed before
pub saved_mapper : (w : World) (a : Option Stored) → SameMapper w (saved a w)
saved_mapper w (Some s) = refl
saved_mapper w None = refl

put_in_mapper : (w : World) (r : Region) (i v : ℕ) → (r ≡ Rom → ⊥) → (r ≡ Save → ⊥) → SameMapper w (put_in r w i v)
put_in_mapper w Rom i v a b = absurd (a refl)
put_in_mapper w Vram i v a b = refl
put_in_mapper w Save i v a b = absurd (b refl)
put_in_mapper w Wram i v a b = refl
put_in_mapper w Oam i v a b = (oam_kept w.state (set w.state.oam (i - 0xFE00) v)).mapper
put_in_mapper w Page i v a b = (write_kept w.state (i - 0xFF00) v).mapper

module _ (w : World) (index v : ℕ) where
  pub put_unasked : (region_of index ≡ Rom → ⊥) → (region_of index ≡ Save → ⊥) → SameMapper w (put w index v)
  put_unasked a b = put_in_mapper w (region_of index) index v a b

  put_mapper : 0x8000 ≤ index → Outside index → SameMapper w (put w index v)
  put_mapper h o = put_unasked (λ e. omega (arith, within index e)) (λ e. let b = within index e in o b.0 b.1)

-- where transfers write: past 8000, and clear of the save's window

abbrev pub High : Copy → Type 0
High c = (k : ℕ) → k < c.count → 0x8000 ≤ c.destination + k

none_high : High nothing
none_high k h = omega arith

pub oam_high : (page : ℕ) → High (oam_copy page)
unfolding oam_copy
oam_high page = cond_both High (ltb page oam_pages) (λ k h. omega arith) none_high

destination_least : (h : Hdma) → 0x8000 ≤ destination_used h
unfolding destination_used
destination_least h = omega arith

pub block_high : (m : Memory) → High (block_copy m)
block_high m k h = omega (arith, destination_least m.core.hdma)

general_high : (m : Memory) (v : ℕ) → High (general_copy m v)
general_high m v k h = omega (arith, destination_least m.core.hdma)

pub copy_high : (m : Memory) (index v : ℕ) → High (copy_of m index v)
copy_high m index v = by_copy High m index v none_high (oam_high v) (block_high m) (general_high m v)

-- so transfers

module _ (x : Fixed) where
  abbrev HighWrites : (World → ℕ → ℕ → World) → Type 0
  HighWrites f = (w : World) (index v : ℕ) → 0x8000 ≤ index → Outside index → SameMapper w (f w index v)

  copy_mapper : (f : World → ℕ → ℕ → World) → HighWrites f → (source destination n : ℕ) (w : World)
      → ((k : ℕ) → k < n → 0x8000 ≤ destination + k) → ((k : ℕ) → k < n → Outside (destination + k)) → SameMapper w (copy_by x f source destination n w)
  unfolding copy_by
  copy_mapper f s source destination zero w high clear = refl
  copy_mapper f s source destination (suc n) w high clear =
      s _ _ _ (high n (omega arith)) (clear n (omega arith))
      ∙ copy_mapper f s source destination n w (λ k h. high k (omega arith)) (λ k h. clear k (omega arith))

  after_mapper : (f : World → ℕ → ℕ → World) → HighWrites f → (c : Copy) → High c → Clear c → (v : ℕ) (w : World) → SameMapper w (transferred x f c v w)
  after_mapper f s c high clear v w =
      let u = copy_by x f c.source c.destination c.count w in
      (finished_kept u.state c.finish v).mapper ∙ copy_mapper f s c.source c.destination c.count w high clear

  high_writes : (d : ℕ) → HighWrites (write_at x d)
  unfolding write_at
  high_writes zero w index v h o = put_mapper w index v h o
  high_writes (suc d) w index v h o =
      after_mapper (write_at x d) (high_writes d) (copy_of w.state index v) (copy_high w.state index v) (copy_clear w.state index v) v (put w index v)
      ∙ put_mapper w index v h o

  pub transfer_mapper : (d : ℕ) (c : Copy) → High c → Clear c → (v : ℕ) (w : World) → SameMapper w (transferred x (write_at x d) c v w)
  transfer_mapper d c high clear v w = after_mapper (write_at x d) (high_writes d) c high clear v w
