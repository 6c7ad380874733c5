-- Where a read finds its byte, region by region, and that the address lies in its memory.
use mathlib.Core.List.{List, []}
use mathlib.Core.Path.{◌≡◌, refl, ◌∙◌}
use mathlib.Core.Bool.{true}
use Prim.Native.Nat.{ℕ, ◌<◌, ◌≤◌}
use native.Mathlib.Omega.{arith}
use lib.Dec.{ltb}
use borrow.Author.Tests.{ltb-true, ltb-false, lt-ltb, le-ltb}
use Rattle.rules.proofs.Tests.{by_cond}
use Rattle.mbc.specs.PanDocs.{rom_address, rom_place}
use Rattle.mbc.specs.Mbc.{rom_len, ram_len, in_range, rom_bank, ram_source, source, Within, byte_of, read_at, stored_at, answer}
use Rattle.mbc.specs.declared.cartridge.Cartridge.{Cartridge}
use Rattle.mbc.specs.declared.mbc.Mapper.{Mapper}
use Rattle.mbc.specs.declared.mbc.Source.{Source}
use Rattle.mbc.specs.declared.mbc.Source.TheVariants.{Rom, Save, Half, Fixed}
use Rattle.mbc.proofs.Lawful.{Whole}
use Rattle.mbc.proofs.Cases.{lawful}
use Rattle.mbc.proofs.Ranges.{some_banks, rom_below}

pub in_rom : (c : Cartridge) (m : Mapper) (index : ℕ) → index < 0x8000 → source c m index ≡ Rom (rom_place (rom_bank m) index)
unfolding source
in_rom c m index h = rw (lt-ltb index 0x8000 h)

pub past_rom : (c : Cartridge) (m : Mapper) (index : ℕ) → 0x8000 ≤ index → source c m index ≡ ram_source c m index
unfolding source
past_rom c m index h = rw (le-ltb index 0x8000 h)

pub ram_answer : (c : Cartridge) (m : Mapper) (index value : ℕ) → 0xA000 ≤ index
    → stored_at (ram_len c m) value (ram_source c m index) ≡ answer c m index value
ram_answer c m index value h = rw (past_rom c m index (omega arith))

-- ROM

pub rom_within : (c : Cartridge) (m : Mapper) (index : ℕ) → in_range c m ≡ true → index < 0x8000 → rom_place (rom_bank m) index < rom_len c
unfolding rom_place
rom_within c m index e h =
    by_cond (λ (k : ℕ). k < rom_len c) (ltb index 0x4000) index (rom_address (rom_bank m) index)
    (λ t. omega (arith, some_banks c m e, ltb-true index 0x4000 t))
    (λ f. omega (arith, rom_below c m e, ltb-false index 0x4000 f))

-- A000..BFFF

module _ (c : Cartridge) (m : Mapper) (index : ℕ) (e : in_range c m ≡ true) (l : 0xA000 ≤ index) (h : index < 0xC000) where
  pub ram_within : Within 0 (ram_len c m) (ram_source c m index)
  ram_within = (lawful m).within c index e l h

  apart : (rom save : List ℕ) (s : Source) → Within 0 (ram_len c m) s → byte_of [] save s ≡ byte_of rom save s
  apart rom save (Rom at) b = absurd (omega (arith, b))
  apart rom save (Save at) b = refl
  apart rom save (Half at) b = refl
  apart rom save (Fixed byte) b = refl

  pub ram_read : (rom save : List ℕ) → byte_of [] save (ram_source c m index) ≡ read_at c m rom save index
  ram_read rom save = apart rom save (ram_source c m index) ram_within ∙ rw (past_rom c m index (omega arith))

-- whatever the mapper's state
pub whole : (c : Cartridge) (m : Mapper) (index : ℕ) → Whole (source c m index)
unfolding source
whole c m index =
    by_cond Whole (ltb index 0x8000) (Rom (rom_place (rom_bank m) index)) (ram_source c m index) (λ t. tt) (λ g. (lawful m).whole c index)
