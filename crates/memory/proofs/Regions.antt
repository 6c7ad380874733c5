-- The memory map by its bounds: an index lies within its region, and in no other.
use mathlib.Core.Path.{◌≡◌, subst}
use Prim.Native.Nat.{ℕ, ◌<◌, ◌≤◌}
use native.Mathlib.Omega.{arith}
use lib.Dec.{ltb}
use borrow.Author.Tests.{lt-ltb, le-ltb, ltb-true, ltb-false}
use Rattle.rules.proofs.Tests.{by_cond}
use Rattle.memory.specs.Region.{vram_start, save_start, wram_start, oam_start, page_start, region_of}
use Rattle.memory.specs.declared.region.Region.{Region}
use Rattle.memory.specs.declared.region.Region.TheVariants.{Rom, Vram, Save, Wram, Oam, Page}

-- an index from a region's first on, and below its end
abbrev pub Within : Region → ℕ → Type 0
Within Rom i = i < vram_start
Within Vram i = (vram_start ≤ i) × (i < save_start)
Within Save i = (save_start ≤ i) × (i < wram_start)
Within Wram i = (wram_start ≤ i) × (i < oam_start)
Within Oam i = (oam_start ≤ i) × (i < page_start)
Within Page i = page_start ≤ i

lies_within : (i : ℕ) → Within (region_of i) i
unfolding region_of
lies_within i =
    by_cond (λ (r : Region). Within r i) (ltb i vram_start) Rom _ (λ t. ltb-true i vram_start t)
    (λ a.
    by_cond (λ (r : Region). Within r i) (ltb i save_start) Vram _ (λ t. (ltb-false i vram_start a, ltb-true i save_start t))
    (λ b.
    by_cond (λ (r : Region). Within r i) (ltb i wram_start) Save _ (λ t. (ltb-false i save_start b, ltb-true i wram_start t))
    (λ c.
    by_cond (λ (r : Region). Within r i) (ltb i oam_start) Wram _ (λ t. (ltb-false i wram_start c, ltb-true i oam_start t))
    (λ d.
    by_cond (λ (r : Region). Within r i) (ltb i page_start) Oam Page (λ t. (ltb-false i oam_start d, ltb-true i page_start t))
    (λ e. ltb-false i page_start e)))))

pub within : (i : ℕ) {r : Region} → region_of i ≡ r → Within r i
within i e = subst (λ (r : Region). Within r i) e (lies_within i)

pub region_at : (r : Region) (i : ℕ) → Within r i → region_of i ≡ r
unfolding region_of
region_at Rom i h = rw (lt-ltb i vram_start h)
region_at Vram i h = rw (le-ltb i vram_start h.0, lt-ltb i save_start h.1)
region_at Save i h =
    let a = h.0 in
    rw (le-ltb i vram_start (omega arith), le-ltb i save_start a, lt-ltb i wram_start h.1)
region_at Wram i h =
    let a = h.0 in
    rw (le-ltb i vram_start (omega arith), le-ltb i save_start (omega arith), le-ltb i wram_start a, lt-ltb i oam_start h.1)
region_at Oam i h =
    let a = h.0 in
    rw (
      le-ltb i vram_start (omega arith),
      le-ltb i save_start (omega arith),
      le-ltb i wram_start (omega arith),
      le-ltb i oam_start a,
      lt-ltb i page_start h.1,
    )
region_at Page i h =
    rw (
      le-ltb i vram_start (omega arith),
      le-ltb i save_start (omega arith),
      le-ltb i wram_start (omega arith),
      le-ltb i oam_start (omega arith),
      le-ltb i page_start h,
    )
