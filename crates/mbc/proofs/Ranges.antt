-- What the ranges say of any mapper, taken out of the tests.
use mathlib.Core.Path.{◌≡◌}
use mathlib.Core.Bool.{true}
use Prim.Native.Nat.{ℕ, ◌<◌, ◌≤◌}
use lib.Dec.{eqb}
use borrow.Author.Tests.{eqb-true}
use Rattle.mbc.specs.Mbc.{described, held, in_range, rom_bank, lengths, rom_len, ram_len}
use Rattle.mbc.specs.declared.cartridge.Cartridge.{Cartridge}
use Rattle.mbc.specs.declared.mbc.Mapper.{Mapper}
use Rattle.mbc.proofs.Bools.{and_left, and_right}
use Rattle.mbc.proofs.Cartridges.{power_least}
use Rattle.mbc.proofs.Lawful.{Described, Held}
use Rattle.mbc.proofs.Cases.{lawful}
pub use Rattle.mbc.proofs.Cartridges.{banks_most, banks_least}
pub use Rattle.mbc.proofs.Places.{in_ram}
pub use Rattle.mbc.proofs.Cases.Mbc1Laws.{Mbc1Facts, mbc1_facts}
pub use Rattle.mbc.proofs.Cases.{start_in_range}

pub in_described : (c : Cartridge) (m : Mapper) → in_range c m ≡ true → Described c
unfolding in_range
in_described c m e = (lawful m).describes c (and_left (described c m) (held c m) e)

pub in_held : (c : Cartridge) (m : Mapper) → in_range c m ≡ true → Held c m
in_held c m e = (lawful m).holds c e

pub some_banks : (c : Cartridge) (m : Mapper) → in_range c m ≡ true → 2 ≤ c.banks
some_banks c m e = power_least c.banks (in_described c m e).power

pub rom_below : (c : Cartridge) (m : Mapper) → in_range c m ≡ true → rom_bank m < c.banks
rom_below c m e = (in_held c m e).rom

pub rom_length : (c : Cartridge) (m : Mapper) (rom save : ℕ) → lengths c m rom save ≡ true → rom ≡ rom_len c
unfolding lengths
rom_length c m rom save e = eqb-true rom (rom_len c) (and_left (eqb rom (rom_len c)) (eqb save (ram_len c m)) e)

pub save_length : (c : Cartridge) (m : Mapper) (rom save : ℕ) → lengths c m rom save ≡ true → save ≡ ram_len c m
unfolding lengths
save_length c m rom save e = eqb-true save (ram_len c m) (and_right (eqb rom (rom_len c)) (eqb save (ram_len c m)) e)
