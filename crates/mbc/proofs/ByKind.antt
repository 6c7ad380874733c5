-- Which mapper the registers of a kind are, and what is asked of them by it.
use mathlib.Core.Path.{◌≡◌, refl, sym, ap}
use mathlib.Core.Bool.{cond, ◌&&◌}
use Prim.Native.Nat.{ℕ, ◌≤◌}
use native.Mathlib.Omega.{arith}
use lib.Dec.{eqb}
use borrow.Author.Tests.{ne_eqb}
use Rattle.rules.proofs.Tests.{by_cond}
use Rattle.mbc.specs.Mbc.{kind_rom_only, kind_mbc1, kind_mbc2, kind_mbc5, from1, from2, from5, in_range, behaviour, registers_of, mapper_of, same, sound}
use Rattle.mbc.specs.declared.cartridge.Cartridge.{Cartridge}
use Rattle.mbc.specs.declared.held.Registers.{Registers}
use Rattle.mbc.specs.declared.mbc.Mapper.{Mapper}
use Rattle.mbc.specs.declared.mbc.Mapper.TheVariants.{RomOnly, Mbc1, Mbc2, Mbc5}

pub as_rom_only : (r : Registers) → r.kind ≡ kind_rom_only → mapper_of r ≡ RomOnly
as_rom_only r e = rw e

pub as_mbc1 : (r : Registers) → r.kind ≡ kind_mbc1 → mapper_of r ≡ Mbc1 (from1 r)
as_mbc1 r e = rw e

pub as_mbc2 : (r : Registers) → r.kind ≡ kind_mbc2 → mapper_of r ≡ Mbc2 (from2 r)
as_mbc2 r e = rw e

-- a kind past the last counts as the last
pub as_mbc5 : (r : Registers) → kind_mbc5 ≤ r.kind → mapper_of r ≡ Mbc5 (from5 r)
as_mbc5 r h =
    rw (
      ne_eqb r.kind kind_rom_only (λ e. omega (arith, h, e)),
      ne_eqb r.kind kind_mbc1 (λ e. omega (arith, h, e)),
      ne_eqb r.kind kind_mbc2 (λ e. omega (arith, h, e)),
    )

-- only Mbc2 has RAM of its own
pub no_own_ram : (r : Registers) → (r.kind ≡ kind_mbc2 → ⊥) → ◌≡◌ {A = ℕ} 0 (behaviour (mapper_of r)).own_ram
no_own_ram r h =
    by_cond (λ (m : Mapper). ◌≡◌ {A = ℕ} 0 (behaviour m).own_ram) (eqb r.kind kind_rom_only) RomOnly
    (cond (eqb r.kind kind_mbc1) (Mbc1 (from1 r)) (cond (eqb r.kind kind_mbc2) (Mbc2 (from2 r)) (Mbc5 (from5 r))))
    (λ t. refl)
    (λ f.
    by_cond (λ (m : Mapper). ◌≡◌ {A = ℕ} 0 (behaviour m).own_ram) (eqb r.kind kind_mbc1) (Mbc1 (from1 r))
    (cond (eqb r.kind kind_mbc2) (Mbc2 (from2 r)) (Mbc5 (from5 r)))
    (λ t. refl)
    (λ f. rw (ne_eqb r.kind kind_mbc2 h)))

-- a mapper's answer to both questions, as the registers'
pub fit_as : (c : Cartridge) (r : Registers) (m : Mapper) → mapper_of r ≡ m → (same r (registers_of m) && in_range c m) ≡ (sound r && in_range c (mapper_of r))
unfolding sound
fit_as c r m e = ap (λ (n : Mapper). same r (registers_of n) && in_range c n) (sym e)
