-- RomOnly's laws.
use mathlib.Core.Path.{◌≡◌, refl}
use mathlib.Core.Bool.{true, not, ◌&&◌, and-true}
use mathlib.Core.Logic.{inl}
use native.Mathlib.Omega.{arith}
use lib.Dec.{eqb}
use borrow.Author.Tests.{not-true}
use Prim.Native.Nat.{◌*◌}
use Rattle.mbc.specs.Mbc.{has_banks, has_code, ram_banks, described, held, in_range, ram_len, ram_source}
use Rattle.mbc.specs.declared.cartridge.Cartridge.{Cartridge}
use Rattle.mbc.specs.declared.mbc.Mapper.TheVariants.{RomOnly}
use Rattle.mbc.proofs.Bools.{and_left, and_right}
use Rattle.mbc.proofs.Cartridges.{banks_most, banks_least, banks_power, code_most, has_ram, some_ram}
use Rattle.mbc.proofs.Lawful.{Lawful, where_whole, where_within}

in_banks : (c : Cartridge) → in_range c RomOnly ≡ true → has_banks 2 c ≡ true
unfolding in_range described
in_banks c e = and_left (has_banks 2 c) (has_code 3 c) (and_left (has_banks 2 c && has_code 3 c) (held c RomOnly) e)

in_code : (c : Cartridge) → in_range c RomOnly ≡ true → has_code 3 c ≡ true
unfolding in_range described
in_code c e = and_right (has_banks 2 c) (has_code 3 c) (and_left (has_banks 2 c && has_code 3 c) (held c RomOnly) e)

pub rom_only_starts : (c : Cartridge) → in_range c RomOnly ≡ described c RomOnly
unfolding in_range held
rom_only_starts c = and-true (described c RomOnly)

pub rom_only_lawful : Lawful RomOnly
unfolding described ram_source ram_len
rom_only_lawful =
    record {
      describes = λ c e.
          let b = and_left (has_banks 2 c) (has_code 3 c) e in
          record { power = banks_power 2 c b; most = omega (arith, banks_most 2 c b); code = omega (arith, code_most 3 c (and_right (has_banks 2 c) (has_code 3 c) e)) };
      holds = λ c e. record { rom = omega (arith, banks_least 2 c (in_banks c e)); ram = omega arith; high = omega arith };
      kind = refl;
      back = refl;
      bits = (omega arith, omega arith);
      owns = inl refl;
      whole = λ c index. where_whole (not (eqb c.code 0)) 0 index;
      within = λ c index e l h.
          where_within (ram_banks c.code * 0x2000) (not (eqb c.code 0)) 0 index
          (λ y. omega (arith, some_ram c.code (has_ram 3 c (in_code c e) (not-true _ y)))) l h;
      kept = λ c index value h. refl;
      like = λ c index value. refl;
      own = λ c index value. refl;
      stays = λ c index value e. e;
    }
