-- The save's window: an index is in it where its region is the save's.
use Rattle.std.proofs.Common.{◌≡◌, ℕ, true, false, refl, ap, arith}
use Rattle.memory.specs.Region.{region_of}
use Rattle.memory.specs.declared.region.Region.{Region}
use Rattle.memory.specs.declared.region.Region.TheVariants.{Rom, Vram, Save, Wram, Oam, Page}
use Rattle.refusals.specs.Refusal.{is_save, in_save}

is_save_law : (r : Region) → is_save r ≡ true → r ≡ Save
is_save_law Rom e = let z : ◌≡◌ {A = ℕ} 0 1 = cc in absurd (omega arith)
is_save_law Vram e = let z : ◌≡◌ {A = ℕ} 0 1 = cc in absurd (omega arith)
is_save_law Save e = refl
is_save_law Wram e = let z : ◌≡◌ {A = ℕ} 0 1 = cc in absurd (omega arith)
is_save_law Oam e = let z : ◌≡◌ {A = ℕ} 0 1 = cc in absurd (omega arith)
is_save_law Page e = let z : ◌≡◌ {A = ℕ} 0 1 = cc in absurd (omega arith)

pub in_save_true : (i : ℕ) → in_save i ≡ true → region_of i ≡ Save
unfolding in_save
in_save_true i t = is_save_law (region_of i) t

pub in_save_at : (i : ℕ) → region_of i ≡ Save → in_save i ≡ true
unfolding in_save
in_save_at i e = ap is_save e

pub in_save_false : (i : ℕ) → in_save i ≡ false → region_of i ≡ Save → ⊥
in_save_false i f e =
    let t = in_save_at i e in
    let z : ◌≡◌ {A = ℕ} 0 1 = cc in
    omega arith

-- the other regions
pub not_save : (r : Region) → (r ≡ Save → ⊥) → is_save r ≡ false
not_save Rom k = refl
not_save Vram k = refl
not_save Save k = absurd (k refl)
not_save Wram k = refl
not_save Oam k = refl
not_save Page k = refl
