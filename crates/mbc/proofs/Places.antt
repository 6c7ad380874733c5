-- The places that a mapper answers for.
use mathlib.Core.Path.{◌≡◌}
use mathlib.Core.Bool.{true, ◌&&◌}
use Prim.Native.Nat.{ℕ, ◌<◌, ◌≤◌}
use native.Mathlib.Omega.{arith}
use lib.Dec.{ltb, leb}
use borrow.Author.Tests.{ltb-true, leb-true, lt-ltb, le-ltb, le-leb}
use Rattle.mbc.specs.Mbc.{mapped}
use Rattle.mbc.proofs.Bools.{and_left, and_right}

pub mapped_rom : (index : ℕ) → index < 0x8000 → mapped index ≡ true
unfolding mapped
mapped_rom index h = rw (lt-ltb index 0x8000 h)

pub mapped_ram : (index : ℕ) → 0xA000 ≤ index → index < 0xC000 → mapped index ≡ true
unfolding mapped
mapped_ram index l h = rw (le-ltb index 0x8000 (omega arith), le-leb 0xA000 index l, lt-ltb index 0xC000 h)

-- a mapped place that is not in ROM is in A000..BFFF
pub in_ram : (index : ℕ) → mapped index ≡ true → 0x8000 ≤ index → (0xA000 ≤ index) × (index < 0xC000)
unfolding mapped
in_ram index e h =
    let both : (leb 0xA000 index && ltb index 0xC000) ≡ true = rw (le-ltb index 0x8000 h) at e in (
      leb-true 0xA000 index (and_left (leb 0xA000 index) (ltb index 0xC000) both),
      ltb-true index 0xC000 (and_right (leb 0xA000 index) (ltb index 0xC000) both),
    )
