-- What the bus leans on: a write keeps a mapper in range, what it stores lies in the save, ROM writes store nothing and RAM writes
-- change no register; a read gives a byte. At the end, document 01's corners 10 and 11.
use mathlib.Core.Path.{◌≡◌, refl, ap}
use mathlib.Core.Bool.{true, false, cond}
use Rattle.std.specs.Prelude.{Option, Some, None}
use Prim.Native.Nat.{ℕ, ◌<◌, ◌≤◌}
use native.Mathlib.Omega.{arith}
use lib.Dec.{ltb, lit≤}
use lib.ListN.{get_or}
use mathlib.Core.List.{List}
use mathlib.Core.Logic.{⊎_elim}
use borrow.Author.Tests.{ltb-true, lt-ltb}
use Rattle.rules.proofs.Tests.{by_cond}
use Rattle.mbc.specs.PanDocs.{zero_as_one, half_byte}
use Rattle.mbc.specs.Mbc.{ram_len, has_banks, described, in_range, behaviour, registers_of, start, rom_bank, ram_source, source, byte_of, read_at, stored_as, stored_at, answer, low1, high1, after1, enable2, after2, after, cartridge_of}
use Rattle.mbc.specs.declared.cartridge.Cartridge.{Cartridge}
use Rattle.mbc.specs.declared.mbc.Mapper.{Mapper}
use Rattle.mbc.specs.declared.mbc.Mapper.TheVariants.{RomOnly}
use Rattle.mbc.specs.declared.mbc.Source.{Source}
use Rattle.mbc.specs.declared.mbc.Source.TheVariants.{Rom, Save, Half, Fixed}
use Rattle.mbc.specs.declared.mbc.Stored.{Stored}
use Rattle.mbc.proofs.Cartridges.{by_ram_banks}
use Rattle.mbc.proofs.Lawful.{Whole}
use Rattle.mbc.proofs.Cases.{lawful}
use Rattle.mbc.proofs.Sources.{whole}
pub use Rattle.mbc.proofs.Places.{mapped_rom, mapped_ram}

-- what a write stores

-- what is stored, where something is
at_in : Option Stored → ℕ
at_in (Some s) = s.at
at_in None = 0

value_in : Option Stored → ℕ
value_in (Some s) = s.value
value_in None = 0

asked_below : (len value byte a : ℕ) (s : Stored) → byte < 256 → cond (ltb a len) (stored_as a byte) None ≡ Some s → (s.at < len) × (s.value < 256)
unfolding at_in value_in
asked_below len value byte a s v =
    by_cond (λ (x : Option Stored). x ≡ Some s → (s.at < len) × (s.value < 256)) (ltb a len) (stored_as a byte) None
    (λ t q.
    let p : a ≡ s.at = ap at_in q in
    let r : byte ≡ s.value = ap value_in q in
    omega (arith, p, r, v, ltb-true a len t))
    (λ f q. let z : ◌≡◌ {A = ℕ} 0 1 = cc in omega arith)

-- said of any source: the address was tested, and the byte is the value or its low half
stored_below : (len value : ℕ) (s : Source) (k : Stored) → value < 256 → stored_at len value s ≡ Some k → (k.at < len) × (k.value < 256)
stored_below len value (Rom a) k v e = let z : ◌≡◌ {A = ℕ} 0 1 = cc in omega arith
stored_below len value (Fixed b) k v e = let z : ◌≡◌ {A = ℕ} 0 1 = cc in omega arith
stored_below len value (Save a) k v e = asked_below len value value a k v e
stored_below len value (Half a) k v e = asked_below len value (half_byte value) a k (omega arith) e

-- the lengths that a save can have
pub by_ram_len : (P : ℕ → Type 0) → P 0 → P 512 → P 0x2000 → P 0x8000 → P 0x20000 → (c : Cartridge) (m : Mapper) → P (ram_len c m)
unfolding ram_len
by_ram_len P none own one four sixteen c m =
    ⊎_elim (λ (e : (behaviour m).own_ram ≡ 0). rw e (by_ram_banks P none one four sixteen c.code)) (λ (e : (behaviour m).own_ram ≡ 512). rw e own) (lawful m).owns

pub ram_len_most : (c : Cartridge) (m : Mapper) → ram_len c m ≤ 0x20000
ram_len_most c m = by_ram_len (λ (n : ℕ). n ≤ 0x20000) (lit≤ tt) (lit≤ tt) (lit≤ tt) (lit≤ tt) (lit≤ tt) c m

pub stored_within : (c : Cartridge) (m : Mapper) (index value : ℕ) (s : Stored) → value < 256
    → answer c m index value ≡ Some s → (s.at < ram_len c m) × ((s.at < 0x20000) × (s.value < 256))
stored_within c m index value s v e =
    let b = stored_below (ram_len c m) value (source c m index) s v e in
    (b.0, (omega (arith, b.0, ram_len_most c m), b.1))

-- a write below 8000 stores nothing
pub rom_write_stores_nothing : (c : Cartridge) (m : Mapper) (index value : ℕ) → index < 0x8000
    → answer c m index value ≡ None
unfolding source
rom_write_stores_nothing c m index value h =
    rw (lt-ltb index 0x8000 h)

-- what a read gives

byte_below : (rom save : List ℕ) (s : Source) → ((i : ℕ) → get_or rom i 0 < 256) → ((i : ℕ) → get_or save i 0 < 256) → Whole s → byte_of rom save s < 256
byte_below rom save (Rom at) r s w = r at
byte_below rom save (Save at) r s w = s at
byte_below rom save (Half at) r s w = omega arith
byte_below rom save (Fixed byte) r s w = w

pub read_below : (c : Cartridge) (m : Mapper) (rom save : List ℕ) (index : ℕ) → ((i : ℕ) → get_or rom i 0 < 256) → ((i : ℕ) → get_or save i 0 < 256)
    → read_at c m rom save index < 256
read_below c m rom save index r s = byte_below rom save (source c m index) r s (whole c m index)

-- what a write does to the registers

-- a write at 8000 or above changes no register
pub ram_write_keeps : (c : Cartridge) (m : Mapper) (index value : ℕ) → 0x8000 ≤ index → after c m index value ≡ m
ram_write_keeps c m index value h = (lawful m).kept c index value h

-- no write changes the kind
pub kind_after : (c : Cartridge) (m : Mapper) (index value : ℕ) → (registers_of (after c m index value)).kind ≡ (registers_of m).kind
kind_after c m index value = (lawful m).like c index value

pub ram_len_after : (c : Cartridge) (m : Mapper) (index value : ℕ) → ram_len c (after c m index value) ≡ ram_len c m
unfolding ram_len
ram_len_after c m index value = rw ((lawful m).own c index value)

-- in range stays in range
pub in_range_after : (c : Cartridge) (m : Mapper) (index value : ℕ) → in_range c m ≡ true → in_range c (after c m index value) ≡ true
in_range_after c m index value e = (lawful m).stays c index value e

-- the all-zero state, which a refused fresh mapper gives, is itself refused
pub zero_refused : in_range (cartridge_of 0 0) RomOnly ≡ false
unfolding in_range described has_banks
zero_refused = refl

-- document 01, corners 10 and 11

pub corner_10_low : rom_bank (after (cartridge_of 4 0) (start 1) 0x2000 0x10) ≡ 0
unfolding start after1 low1 zero_as_one
corner_10_low = refl

pub corner_10_high : rom_bank (after (cartridge_of 4 0) (after (cartridge_of 4 0) (start 1) 0x2000 0x10) 0x4000 0x00) ≡ 1
unfolding start after1 low1 high1 zero_as_one
corner_10_high = refl

pub corner_10_large : rom_bank (after (cartridge_of 128 0) (after (cartridge_of 128 0) (start 1) 0x4000 0x01) 0x2000 0x00) ≡ 33
unfolding start after1 low1 high1 zero_as_one
corner_10_large = refl

pub corner_11 : answer (cartridge_of 2 0) (after (cartridge_of 2 0) (start 2) 0x0000 0x0A) 0xA000 0xAB ≡ stored_as 0 0x0B
unfolding start after2 enable2 source ram_source ram_len
corner_11 = refl
