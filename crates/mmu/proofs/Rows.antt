-- Bytes within 256 from a multiple of 256: one region has all of them, and those of ROM, video and work memory stand in a row.
use Rattle.std.proofs.Common.{◌≡◌, ℕ, ◌+◌, ◌-◌, ◌*◌, ◌%◌, ◌<◌, ◌≤◌, cond, eqb, ltb, List, length, get_or, sym, ap, arith, ltb-false, ltb-true, le-ltb, lt-ltb, eqb-true}
use borrow.Author.Tests.{eqb-false}
use Rattle.mbc.proofs.Sources.{in_rom}
use Rattle.mbc.specs.Mbc.{rom_bank}
use Rattle.mbc.specs.PanDocs.{rom_address, rom_place}
use Rattle.memory.proofs.Regions.{within, region_at}
use Rattle.memory.specs.Region.{region_of}
use Rattle.memory.specs.World.{Fixed}
use Rattle.memory.specs.declared.Memory.{Memory}
use Rattle.memory.specs.declared.region.Region.TheVariants.{Rom, Vram, Wram}
use Rattle.rules.proofs.Tests.{by_cond}
use Rattle.mmu.specs.Access.{read_byte}
use Rattle.mmu.specs.PanDocs.{echo, vram_at, wram_at}
use Rattle.mmu.proofs.Places.{read_by, echo_within, wram_below}

-- ROM: neither bank begins within a row

pub rom_place_row : (bank source k : ℕ) → source % 256 + k < 256 → source < 0x8000 → rom_place bank (source + k) ≡ rom_place bank source + k
unfolding rom_place
rom_place_row bank source k r h =
    by_cond (λ (t : ℕ). rom_place bank (source + k) ≡ t + k) (ltb source 0x4000) source (rom_address bank source)
    (λ t. let l = ltb-true source 0x4000 t in rw (lt-ltb (source + k) 0x4000 (omega arith)))
    (λ f. let l = ltb-false source 0x4000 f in rw (le-ltb (source + k) 0x4000 (omega arith)) (omega arith))

module _ (x : Fixed) (m : Memory) (v w s : List ℕ) (source n : ℕ) (row : source % 256 + n ≤ 256) where
  pub rom_row : source < 0x8000 → (k : ℕ) → k < n → get_or x.rom (rom_place (rom_bank m.core.mapper) source + k) 0 ≡ read_byte x m v w s (source + k)
  rom_row h k g =
      read_by x m v w s (source + k) (region_at Rom (source + k) (omega arith))
      (rw (in_rom m.core.cartridge m.core.mapper (source + k) (omega arith))
      (ap (λ (j : ℕ). get_or x.rom j 0) (sym (rom_place_row (rom_bank m.core.mapper) source k (omega arith) h))))

-- Video memory

module _ (x : Fixed) (m : Memory) (v w s : List ℕ) (source n : ℕ) (row : source % 256 + n ≤ 256) where
  module _ (e : region_of source ≡ Vram) where
    pub vram_row : (k : ℕ) → k < n → get_or v (vram_at m.core.banks.vram source + k) 0 ≡ read_byte x m v w s (source + k)
    vram_row k h =
        let b = within source e in
        let b₀ = b.0 in
        let b₁ = b.1 in
        let p : vram_at m.core.banks.vram source + k ≡ vram_at m.core.banks.vram (source + k) = omega arith in
        read_by x m v w s (source + k) (region_at Vram (source + k) (omega arith, omega arith)) (ap (λ (j : ℕ). get_or v j 0) p)

-- Work memory: neither the banks nor the echo begin within a row

echo_row : (source k : ℕ) → source % 256 + k < 256 → 0xC000 ≤ source → source < 0xFE00 → echo (source + k) ≡ echo source + k
unfolding echo
echo_row source k r a b =
    by_cond (λ (t : ℕ). echo (source + k) ≡ t + k) (ltb source 0xE000) source (source - 0x2000)
    (λ t. let l = ltb-true source 0xE000 t in rw (lt-ltb (source + k) 0xE000 (omega arith)))
    (λ f. let l = ltb-false source 0xE000 f in rw (le-ltb (source + k) 0xE000 (omega arith)) (omega arith))

echo_low : (source k : ℕ) → source % 256 + k < 256 → 0xC000 ≤ source → echo source < 0xD000 → echo source + k < 0xD000
unfolding echo
echo_low source k r a l =
    by_cond (λ (t : ℕ). t < 0xD000 → t + k < 0xD000) (ltb source 0xE000) source (source - 0x2000) (λ t g. omega arith)
    (λ f g. let h = ltb-false source 0xE000 f in omega arith) l

wram_at_row : (bank source k : ℕ) → source % 256 + k < 256 → 0xC000 ≤ source → source < 0xFE00 → wram_at bank (source + k) ≡ wram_at bank source + k
unfolding wram_at
wram_at_row bank source k r a b =
    let h = echo_within source a b in
    let h₀ = h.0 in
    let h₁ = h.1 in
    rw (echo_row source k r a b)
    (by_cond (λ (t : ℕ). cond (ltb (echo source + k) 0xD000) (echo source + k - 0xC000) (echo source + k - 0xD000 + bank * 0x1000) ≡ t + k) (ltb (echo source) 0xD000)
    (echo source - 0xC000) (echo source - 0xD000 + bank * 0x1000)
    (λ t. let l = ltb-true (echo source) 0xD000 t in rw (lt-ltb (echo source + k) 0xD000 (echo_low source k r a l)) (omega arith))
    (λ f. let l = ltb-false (echo source) 0xD000 f in rw (le-ltb (echo source + k) 0xD000 (omega arith)) (omega arith)))

module _ (x : Fixed) (m : Memory) (v w s : List ℕ) (source n : ℕ) (row : source % 256 + n ≤ 256) (e : region_of source ≡ Wram) where
  pub wram_row : (k : ℕ) → k < n → get_or w (wram_at m.core.banks.wram source + k) 0 ≡ read_byte x m v w s (source + k)
  wram_row k h =
      let b = within source e in
      let b₀ = b.0 in
      let b₁ = b.1 in
      read_by x m v w s (source + k) (region_at Wram (source + k) (omega arith, omega arith))
      (ap (λ (j : ℕ). get_or w j 0) (sym (wram_at_row m.core.banks.wram source k (omega arith) b₀ b₁)))

  pub wram_row_fits : (0x1000 ≤ length w) × (m.core.banks.wram * 0x1000 + 0x1000 ≤ length w) → wram_at m.core.banks.wram source + n ≤ length w
  wram_row_fits f = by_last n row
    where
      by_last : (n : ℕ) → source % 256 + n ≤ 256 → wram_at m.core.banks.wram source + n ≤ length w
      by_last n r =
          let b = within source e in
          let b₀ = b.0 in
          let b₁ = b.1 in
          by_cond (λ (t : ℕ). wram_at m.core.banks.wram source + n ≤ length w) (eqb n 0) 0 0
          (λ z.
          let y = eqb-true n 0 z in
          let q = wram_below m.core.banks.wram source (length w) b₀ b₁ f.0 f.1 in omega arith)
          (λ z.
          let y = eqb-false n 0 z in
          let q = wram_below m.core.banks.wram (source + (n - 1)) (length w) (omega arith) (omega (arith, y)) f.0 f.1 in
          let p = wram_at_row m.core.banks.wram source (n - 1) (omega (arith, y)) b₀ b₁ in
          omega (arith, y))
