-- Mbc1's laws: what its ranges say, as a record of facts, and that each of its writes keeps them.
use mathlib.Core.Path.{◌≡◌, refl, sym, ◌∙◌}
use mathlib.Core.Bool.{true, false, cond, ◌&&◌, ◌||◌, or-true}
use mathlib.Core.List.{[], ◌∷◌}
use mathlib.Core.Logic.{inl}
use Prim.Native.Nat.{ℕ, ◌<◌, ◌≤◌, ◌%◌, ◌*◌}
use native.Mathlib.Omega.{arith}
use native.Mathlib.Nat.{mod-lt, mod-le}
use lib.Dec.{eqb, ltb, leb}
use borrow.Author.Tests.{ltb-true, leb-true, eqb-true, lt-ltb, le-ltb, le-leb, eq-eqb}
use Rattle.rules.proofs.Tests.{by_cond}
use Rattle.mbc.specs.PanDocs.{enables, mbc1_bank, two_bits, mode_bit, masked}
use Rattle.mbc.specs.Mbc.{one_of, implies, has_banks, has_code, ram_banks, ram_len, described, held, held1, in_range, suits, ram_bank1, ram_source, starting, from1, kind_mbc1, with_rom, with_ram, with_mode, with_enabled, with_high, enable1, low1, high1, mode1, after1}
use Rattle.mbc.specs.declared.cartridge.Cartridge.{Cartridge}
use Rattle.mbc.specs.declared.mbc1.Mbc1.{Mbc1 as Registers1}
use Rattle.mbc.specs.declared.mbc.Mapper.TheVariants.{Mbc1}
use Rattle.mbc.proofs.Bools.{and_left, and_right, implied, and_implied, weaker}
use Rattle.mbc.proofs.Cartridges.{banks_most, banks_least, banks_power, code_most, four_banks, has_ram, to_3, some_ram}
use Rattle.mbc.proofs.Lawful.{Lawful, where_whole, where_within}
use Rattle.mbc.proofs.Bits.{bit_back, bit_small}

-- what `suits` says of the RAM code
pub mode_needs : (m : Registers1) (code : ℕ) → suits m code ≡ true → m.mode ≡ true → code ≡ 3
unfolding suits
mode_needs m code e h =
    eqb-true code 3
    (implied (m.mode || ltb 0 m.ram) (eqb code 3)
    (and_left (implies (m.mode || ltb 0 m.ram) (eqb code 3)) (implies m.enabled (one_of (2 ∷ 3 ∷ []) code)) e)
    (rw h))

pub enabled_needs : (m : Registers1) (code : ℕ) → suits m code ≡ true → m.enabled ≡ true → one_of (2 ∷ 3 ∷ []) code ≡ true
unfolding suits
enabled_needs m code e h =
    implied m.enabled (one_of (2 ∷ 3 ∷ []) code)
    (and_right (implies (m.mode || ltb 0 m.ram) (eqb code 3)) (implies m.enabled (one_of (2 ∷ 3 ∷ []) code)) e)
    h

pub record Mbc1Facts (c : Cartridge) (m : Registers1) : Type 0 where
  pub banks : has_banks 128 c ≡ true
  pub code : has_code 3 c ≡ true
  pub rom : m.rom < c.banks
  pub ram : m.ram ≤ 3
  pub high : m.high ≤ 3
  pub suit : suits m c.code ≡ true

pub mbc1_facts : (c : Cartridge) (m : Registers1) → in_range c (Mbc1 m) ≡ true → Mbc1Facts c m
unfolding in_range described held
mbc1_facts c m e =
    let d = and_left (has_banks 128 c && has_code 3 c) (ltb m.rom c.banks && (leb m.ram 3 && (leb m.high 3 && suits m c.code))) e in
    let h = and_right (has_banks 128 c && has_code 3 c) (ltb m.rom c.banks && (leb m.ram 3 && (leb m.high 3 && suits m c.code))) e in
    let h1 = and_right (ltb m.rom c.banks) (leb m.ram 3 && (leb m.high 3 && suits m c.code)) h in
    let h2 = and_right (leb m.ram 3) (leb m.high 3 && suits m c.code) h1 in
    record {
      banks = and_left (has_banks 128 c) (has_code 3 c) d;
      code = and_right (has_banks 128 c) (has_code 3 c) d;
      rom = ltb-true _ _ (and_left (ltb m.rom c.banks) (leb m.ram 3 && (leb m.high 3 && suits m c.code)) h);
      ram = leb-true _ _ (and_left (leb m.ram 3) (leb m.high 3 && suits m c.code) h1);
      high = leb-true _ _ (and_left (leb m.high 3) (suits m c.code) h2);
      suit = and_right (leb m.high 3) (suits m c.code) h2;
    }

-- the RAM bank that Mbc1 shows is one that there is
pub ram_below : (c : Cartridge) (m : Registers1) → in_range c (Mbc1 m) ≡ true → m.enabled ≡ true → ram_bank1 m < ram_banks c.code
unfolding ram_bank1
ram_below c m e on =
    let f = mbc1_facts c m e in
    by_cond (λ (b : ℕ). b < ram_banks c.code) m.mode m.ram 0
    (λ h. omega (arith, f.ram, four_banks c.code (mode_needs m c.code f.suit h)))
    (λ h. some_ram c.code (to_3 c.code (code_most 3 c f.code) ∙ enabled_needs m c.code f.suit on))

-- the facts make the range again
pub in_range1 : (c : Cartridge) (m : Registers1) → Mbc1Facts c m → in_range c (Mbc1 m) ≡ true
unfolding in_range described held
in_range1 c m f =
    rw (f.banks, f.code, lt-ltb m.rom c.banks f.rom, le-leb m.ram 3 f.ram, le-leb m.high 3 f.high)
    f.suit

banked : (m : Registers1) (code : ℕ) → suits m code ≡ true → implies (m.mode || ltb 0 m.ram) (eqb code 3) ≡ true
unfolding suits
banked m code e =
    and_left (implies (m.mode || ltb 0 m.ram) (eqb code 3)) (implies m.enabled (one_of (2 ∷ 3 ∷ []) code)) e

ramful : (m : Registers1) (code : ℕ) → suits m code ≡ true → implies m.enabled (one_of (2 ∷ 3 ∷ []) code) ≡ true
unfolding suits
ramful m code e =
    and_right (implies (m.mode || ltb 0 m.ram) (eqb code 3)) (implies m.enabled (one_of (2 ∷ 3 ∷ []) code)) e

pub suit : (m : Registers1) (code : ℕ) → implies (m.mode || ltb 0 m.ram) (eqb code 3) ≡ true
    → implies m.enabled (one_of (2 ∷ 3 ∷ []) code) ≡ true → suits m code ≡ true
unfolding suits
suit m code a b = rw a b

enable_in_range : (c : Cartridge) (m : Registers1) (value : ℕ) → in_range c (Mbc1 m) ≡ true
    → in_range c (Mbc1 (enable1 c m value)) ≡ true
unfolding enable1
enable_in_range c m value e =
    let f = mbc1_facts c m e in
    by_cond (λ (n : Registers1). in_range c (Mbc1 n) ≡ true) (eqb c.code 0) m (with_enabled m (enables value)) (λ z. e)
    (λ z.
    in_range1 c (with_enabled m (enables value))
    (record {
      banks = f.banks;
      code = f.code;
      rom = f.rom;
      ram = f.ram;
      high = f.high;
      suit = suit (with_enabled m (enables value)) c.code (banked m c.code f.suit) (rw (sym (to_3 c.code (code_most 3 c f.code)) ∙ has_ram 3 c f.code z));
    }))

low_in_range : (c : Cartridge) (m : Registers1) (value : ℕ) → in_range c (Mbc1 m) ≡ true
    → in_range c (Mbc1 (low1 c m value)) ≡ true
unfolding low1
low_in_range c m value e =
    let f = mbc1_facts c m e in
    let some : 0 < c.banks = omega (arith, banks_least 128 c f.banks) in
    in_range1 c (with_rom m (masked c.banks (mbc1_bank value (cond m.mode 0 m.high))))
    (record {
      banks = f.banks;
      code = f.code;
      rom = mod-lt (mbc1_bank value (cond m.mode 0 m.high)) some;
      ram = f.ram;
      high = f.high;
      suit = suit (with_rom m (masked c.banks (mbc1_bank value (cond m.mode 0 m.high)))) c.code (banked m c.code f.suit) (ramful m c.code f.suit);
    })

high_in_range : (c : Cartridge) (m : Registers1) (value : ℕ) → in_range c (Mbc1 m) ≡ true
    → in_range c (Mbc1 (high1 c m value)) ≡ true
unfolding high1
high_in_range c m value e =
    let f = mbc1_facts c m e in
    let some : 0 < c.banks = omega (arith, banks_least 128 c f.banks) in
    let ram = masked (ram_banks c.code) (two_bits value) in
    let rom = masked c.banks (mbc1_bank m.rom (two_bits value)) in
    by_cond (λ (n : Registers1). in_range c (Mbc1 n) ≡ true) m.mode (with_ram m ram) (with_high m (two_bits value) rom)
    (λ on.
    in_range1 c (with_ram m ram)
    (record {
      banks = f.banks;
      code = f.code;
      rom = f.rom;
      ram = omega (arith, mod-le (value % 4) (ram_banks c.code));
      high = f.high;
      suit = suit (with_ram m ram) c.code (rw (eq-eqb c.code 3 (mode_needs m c.code f.suit on))) (ramful m c.code f.suit);
    }))
    (λ off.
    in_range1 c (with_high m (two_bits value) rom)
    (record {
      banks = f.banks;
      code = f.code;
      rom = mod-lt (mbc1_bank m.rom (two_bits value)) some;
      ram = f.ram;
      high = omega arith;
      suit = suit (with_high m (two_bits value) rom) c.code (banked m c.code f.suit) (ramful m c.code f.suit);
    }))

mode_in_range : (c : Cartridge) (m : Registers1) (value : ℕ) → in_range c (Mbc1 m) ≡ true
    → in_range c (Mbc1 (mode1 c m value)) ≡ true
unfolding mode1
mode_in_range c m value e =
    let f = mbc1_facts c m e in
    by_cond (λ (n : Registers1). in_range c (Mbc1 n) ≡ true) (mode_bit value) (cond (eqb c.code 3) (with_mode m true) m) (with_mode m false)
    (λ one.
    by_cond (λ (n : Registers1). in_range c (Mbc1 n) ≡ true) (eqb c.code 3) (with_mode m true) m
    (λ three.
    in_range1 c (with_mode m true)
    (record {
      banks = f.banks;
      code = f.code;
      rom = f.rom;
      ram = f.ram;
      high = f.high;
      suit = suit (with_mode m true) c.code (rw three) (ramful m c.code f.suit);
    }))
    (λ other. e))
    (λ zero.
    in_range1 c (with_mode m false)
    (record {
      banks = f.banks;
      code = f.code;
      rom = f.rom;
      ram = f.ram;
      high = f.high;
      suit = suit (with_mode m false) c.code (weaker m.mode (ltb 0 m.ram) (eqb c.code 3) (banked m c.code f.suit)) (ramful m c.code f.suit);
    }))

pub mbc1_starts : (c : Cartridge) → in_range c (Mbc1 (from1 (starting kind_mbc1))) ≡ described c (Mbc1 (from1 (starting kind_mbc1)))
unfolding in_range described held suits
mbc1_starts c =
    and_implied (has_banks 128 c && has_code 3 c) (held1 c (from1 (starting kind_mbc1)))
    (λ d. rw (lt-ltb 1 c.banks (banks_least 128 c (and_left (has_banks 128 c) (has_code 3 c) d)), or-true (eqb c.code 3), or-true (one_of (2 ∷ 3 ∷ []) c.code)))

keeps : (c : Cartridge) (m : Registers1) (index value : ℕ) → 0x8000 ≤ index → after1 c m index value ≡ m
unfolding after1
keeps c m index value h =
    rw (
      le-ltb index 0x2000 (omega arith),
      le-ltb index 0x4000 (omega arith),
      le-ltb index 0x6000 (omega arith),
      le-ltb index 0x8000 h,
    )

stays : (c : Cartridge) (m : Registers1) (index value : ℕ) → in_range c (Mbc1 m) ≡ true → in_range c (Mbc1 (after1 c m index value)) ≡ true
unfolding after1
stays c m index value e =
    by_cond (λ (n : Registers1). in_range c (Mbc1 n) ≡ true) (ltb index 0x2000) (enable1 c m value)
    (cond (ltb index 0x4000) (low1 c m value) (cond (ltb index 0x6000) (high1 c m value) (cond (ltb index 0x8000) (mode1 c m value) m)))
    (λ t. enable_in_range c m value e)
    (λ f.
    by_cond (λ (n : Registers1). in_range c (Mbc1 n) ≡ true) (ltb index 0x4000) (low1 c m value)
    (cond (ltb index 0x6000) (high1 c m value) (cond (ltb index 0x8000) (mode1 c m value) m))
    (λ t. low_in_range c m value e)
    (λ f.
    by_cond (λ (n : Registers1). in_range c (Mbc1 n) ≡ true) (ltb index 0x6000) (high1 c m value) (cond (ltb index 0x8000) (mode1 c m value) m)
    (λ t. high_in_range c m value e)
    (λ f.
    by_cond (λ (n : Registers1). in_range c (Mbc1 n) ≡ true) (ltb index 0x8000) (mode1 c m value) m
    (λ t. mode_in_range c m value e) (λ f. e))))

pub mbc1_lawful : (m : Registers1) → Lawful (Mbc1 m)
unfolding described ram_source ram_len
mbc1_lawful m =
    record {
      describes = λ c e.
          let b = and_left (has_banks 128 c) (has_code 3 c) e in
          record { power = banks_power 128 c b; most = omega (arith, banks_most 128 c b); code = omega (arith, code_most 3 c (and_right (has_banks 128 c) (has_code 3 c) e)) };
      holds = λ c e. let f = mbc1_facts c m e in record { rom = f.rom; ram = omega (arith, f.ram); high = f.high };
      kind = refl;
      back = rw (bit_back m.mode, bit_back m.enabled);
      bits = (bit_small m.mode, bit_small m.enabled);
      owns = inl refl;
      whole = λ c index. where_whole m.enabled (ram_bank1 m) index;
      within = λ c index e l h.
          where_within (ram_banks c.code * 0x2000) m.enabled (ram_bank1 m) index (λ on. omega (arith, ram_below c m e on)) l h;
      kept = λ c index value h. rw (keeps c m index value h);
      like = λ c index value. refl;
      own = λ c index value. refl;
      stays = λ c index value e. stays c m index value e;
    }
