-- The proofs' cases: each mapper is lawful, and a kind is one of the mappers'.
use mathlib.Core.Path.{◌≡◌}
use mathlib.Core.Bool.{cond}
use Prim.Native.Nat.{ℕ}
use lib.Dec.{eqb}
use Rattle.rules.proofs.Tests.{by_cond}
use Rattle.mbc.specs.Mbc.{described, in_range, start, starting, kind_rom_only, kind_mbc1, kind_mbc2, from1, from2, from5}
use Rattle.mbc.specs.declared.cartridge.Cartridge.{Cartridge}
use Rattle.mbc.specs.declared.mbc.Mapper.{Mapper}
use Rattle.mbc.specs.declared.mbc.Mapper.TheVariants.{RomOnly, Mbc1, Mbc2, Mbc5}
use Rattle.mbc.proofs.Lawful.{Lawful}
use Rattle.mbc.proofs.Cases.RomOnlyLaws.{rom_only_lawful, rom_only_starts}
use Rattle.mbc.proofs.Cases.Mbc1Laws.{mbc1_lawful, mbc1_starts}
use Rattle.mbc.proofs.Cases.Mbc2Laws.{mbc2_lawful, mbc2_starts}
use Rattle.mbc.proofs.Cases.Mbc5Laws.{mbc5_lawful, mbc5_starts}
pub mod RomOnlyLaws
pub mod Mbc1Laws
pub mod Mbc2Laws
pub mod Mbc5Laws
pub mod Mbc5Exact

pub lawful : (m : Mapper) → Lawful m
lawful RomOnly = rom_only_lawful
lawful (Mbc1 m) = mbc1_lawful m
lawful (Mbc2 m) = mbc2_lawful m
lawful (Mbc5 m) = mbc5_lawful m

-- a mapper that starts is in range where its description is
pub start_in_range : (c : Cartridge) (kind : ℕ) → in_range c (start kind) ≡ described c (start kind)
unfolding start
start_in_range c kind =
    by_cond (λ (m : Mapper). in_range c m ≡ described c m) (eqb kind kind_rom_only) RomOnly
    (cond (eqb kind kind_mbc1) (Mbc1 (from1 (starting kind))) (cond (eqb kind kind_mbc2) (Mbc2 (from2 (starting kind))) (Mbc5 (from5 (starting kind)))))
    (λ e. rom_only_starts c)
    (λ e.
    by_cond (λ (m : Mapper). in_range c m ≡ described c m) (eqb kind kind_mbc1) (Mbc1 (from1 (starting kind)))
    (cond (eqb kind kind_mbc2) (Mbc2 (from2 (starting kind))) (Mbc5 (from5 (starting kind))))
    (λ f. mbc1_starts c)
    (λ f.
    by_cond (λ (m : Mapper). in_range c m ≡ described c m) (eqb kind kind_mbc2) (Mbc2 (from2 (starting kind))) (Mbc5 (from5 (starting kind)))
    (λ g. mbc2_starts c kind) (λ g. mbc5_starts c kind)))
