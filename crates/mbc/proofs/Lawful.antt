-- What is proved of each mapper, in its own file; proofs/Cases.antt has them together, and the rest follows from it with no case.
use mathlib.Core.Path.{◌≡◌}
use mathlib.Core.Bool.{Bool, true}
use mathlib.Core.Logic.{◌⊎◌}
use Prim.Native.Nat.{ℕ, ◌+◌, ◌*◌, ◌<◌, ◌≤◌}
use native.Mathlib.Omega.{arith}
use lib.Dec.{lit<}
use Rattle.rules.proofs.Tests.{by_cond}
use Rattle.mbc.specs.PanDocs.{ram_address}
use Rattle.mbc.specs.Behaviour.{ram_where}
use Rattle.mbc.specs.Mbc.{one_of, powers, ram_len, described, in_range, behaviour, known, registers_of, mapper_of, Within, ram_source, after}
use Rattle.mbc.specs.declared.cartridge.Cartridge.{Cartridge}
use Rattle.mbc.specs.declared.mbc.Mapper.{Mapper}
use Rattle.mbc.specs.declared.mbc.Source.{Source}
use Rattle.mbc.specs.declared.mbc.Source.TheVariants.{Rom, Save, Half, Fixed}

-- a source that has its byte in itself has a byte
abbrev pub Whole : Source → Type 0
Whole (Rom at) = Unit {0}
Whole (Save at) = Unit {0}
Whole (Half at) = Unit {0}
Whole (Fixed byte) = byte < 256

-- what a description in range says: N is a power of two, of at most 9 bits as a bank's number; the code has three bits
pub record Described (c : Cartridge) : Type 0 where
  pub power : one_of powers c.banks ≡ true
  pub most : c.banks ≤ 512
  pub code : c.code ≤ 4

-- and the state ranges
pub record Held (c : Cartridge) (m : Mapper) : Type 0 where
  pub rom : (registers_of m).rom < c.banks
  pub ram : (registers_of m).ram ≤ 15
  pub high : (registers_of m).high ≤ 3

pub record Lawful (m : Mapper) : Type 0 where
  pub describes : (c : Cartridge) → described c m ≡ true → Described c
  pub holds : (c : Cartridge) → in_range c m ≡ true → Held c m
  -- registers and back
  pub kind : known (registers_of m).kind ≡ true
  pub back : mapper_of (registers_of m) ≡ m
  pub bits : ((registers_of m).mode < 2) × ((registers_of m).enabled < 2)
  -- a save is as long as the RAM code says, or 512 bytes
  pub owns : ((behaviour m).own_ram ≡ 0) ⊎ ((behaviour m).own_ram ≡ 512)
  -- reads; none at A000..BFFF is of the ROM
  pub whole : (c : Cartridge) (index : ℕ) → Whole (ram_source c m index)
  pub within : (c : Cartridge) (index : ℕ) → in_range c m ≡ true → 0xA000 ≤ index → index < 0xC000 → Within 0 (ram_len c m) (ram_source c m index)
  -- writes
  pub kept : (c : Cartridge) (index value : ℕ) → 0x8000 ≤ index → after c m index value ≡ m
  pub like : (c : Cartridge) (index value : ℕ) → (registers_of (after c m index value)).kind ≡ (registers_of m).kind
  pub own : (c : Cartridge) (index value : ℕ) → (behaviour (after c m index value)).own_ram ≡ (behaviour m).own_ram
  pub stays : (c : Cartridge) (index value : ℕ) → in_range c m ≡ true → in_range c (after c m index value) ≡ true

-- what several mappers share: a bank of the cartridge's RAM

pub where_whole : (on : Bool) (bank index : ℕ) → Whole (ram_where on bank index)
where_whole on bank index = by_cond Whole on (Save (ram_address bank index)) (Fixed 0xFF) (λ y. tt) (λ n. lit< tt)

pub where_within : (len : ℕ) (on : Bool) (bank index : ℕ) → (on ≡ true → bank * 0x2000 + 0x2000 ≤ len) → 0xA000 ≤ index → index < 0xC000
    → Within 0 len (ram_where on bank index)
where_within len on bank index room l h =
    by_cond (Within 0 len) on (Save (ram_address bank index)) (Fixed 0xFF) (λ y. omega (arith, room y)) (λ n. lit< tt)
