-- Mbc5's laws: what its ranges say, as a record of facts, and that each of its writes keeps them.
use mathlib.Core.Path.{◌≡◌, refl}
use mathlib.Core.Bool.{true, cond, ◌&&◌, or-true}
use mathlib.Core.List.{[], ◌∷◌}
use mathlib.Core.Logic.{inl}
use Prim.Native.Nat.{ℕ, zero, suc, ◌<◌, ◌≤◌, ◌*◌, ◌/◌}
use native.Mathlib.Omega.{arith}
use native.Mathlib.Nat.{mod-lt}
use lib.Dec.{eqb, ltb}
use borrow.Author.Tests.{ltb-true, eqb-true, lt-ltb, le-ltb, ne_eqb}
use Rattle.rules.proofs.Tests.{by_cond, both_true}
use Rattle.mbc.specs.PanDocs.{enables, mbc5_bank, four_bits, masked}
use Rattle.mbc.specs.Mbc.{one_of, implies, has_banks, has_code, ram_banks, ram_len, described, held, held5, in_range, ram_fits, chosen_ram, ram_source, starting, from5, with_rom5, with_ram5, with_enabled5, enable5, low5, ninth5, ram5, after5}
use Rattle.mbc.specs.declared.cartridge.Cartridge.{Cartridge}
use Rattle.mbc.specs.declared.mbc5.Mbc5.{Mbc5 as Registers5}
use Rattle.mbc.specs.declared.mbc.Mapper.TheVariants.{Mbc5}
use Rattle.mbc.proofs.Bools.{and_left, and_right, implied, and_implied}
use Rattle.mbc.proofs.Cartridges.{banks_most, banks_least, banks_power, code_most, has_ram, some_ram, by_banks}
use Rattle.mbc.proofs.Lawful.{Lawful, where_whole, where_within}
use Rattle.mbc.proofs.Bits.{bit_back, bit_small}

-- the RAM bank

pub ram_below : (banks bank : ℕ) → 1 ≤ banks → ram_fits banks bank ≡ true → bank < banks
unfolding ram_fits
ram_below banks bank some e = ltb-true bank banks (rw (ne_eqb banks 0 (λ z. omega (arith, some, z))) at e)

pub below_fits : (banks bank : ℕ) → bank < banks → ram_fits banks bank ≡ true
unfolding ram_fits
below_fits banks bank h = rw (ne_eqb banks 0 (λ z. omega (arith, h, z)), lt-ltb bank banks h)

-- it has four bits
pub ram_most : (code bank : ℕ) → ram_fits (ram_banks code) bank ≡ true → bank ≤ 15
unfolding ram_fits
ram_most code bank =
    by_banks (λ (b : ℕ). ram_fits b bank ≡ true → bank ≤ 15)
    (λ e. omega (arith, eqb-true bank 0 e)) (λ e. omega (arith, ltb-true bank 1 e)) (λ e. omega (arith, ltb-true bank 4 e)) (λ e. omega (arith, ltb-true bank 16 e))
    code

chosen_fits : (banks bank : ℕ) → ram_fits banks (chosen_ram banks bank) ≡ true
unfolding ram_fits chosen_ram
chosen_fits zero bank = refl
chosen_fits (suc n) bank =
    let some : 0 < suc n = omega arith in
    rw (ne_eqb (suc n) 0 (λ z. omega (arith, z))) (lt-ltb _ _ (mod-lt bank some))

pub start_fits : (banks : ℕ) → ram_fits banks 0 ≡ true
unfolding ram_fits
start_fits zero = refl
start_fits (suc n) = rw (ne_eqb (suc n) 0 (λ z. omega (arith, z))) (lt-ltb 0 (suc n) (omega arith))

-- the ranges, as facts and back

pub record Mbc5Facts (c : Cartridge) (m : Registers5) : Type 0 where
  pub banks : has_banks 512 c ≡ true
  pub code : has_code 4 c ≡ true
  pub rom : m.rom < c.banks
  pub ram : ram_fits (ram_banks c.code) m.ram ≡ true
  pub suit : implies m.enabled (one_of (2 ∷ 3 ∷ 4 ∷ []) c.code) ≡ true

pub mbc5_facts : (c : Cartridge) (m : Registers5) → in_range c (Mbc5 m) ≡ true → Mbc5Facts c m
unfolding in_range described held
mbc5_facts c m e =
    let b = both_true (has_banks 512 c && has_code 4 c) (held5 c m) e in
    let d = both_true (has_banks 512 c) (has_code 4 c) b.0 in
    let h = both_true (ltb m.rom c.banks) (ram_fits (ram_banks c.code) m.ram && implies m.enabled (one_of (2 ∷ 3 ∷ 4 ∷ []) c.code)) b.1 in
    let k = both_true (ram_fits (ram_banks c.code) m.ram) (implies m.enabled (one_of (2 ∷ 3 ∷ 4 ∷ []) c.code)) h.1 in
    record { banks = d.0; code = d.1; rom = ltb-true m.rom c.banks h.0; ram = k.0; suit = k.1 }

pub in_range5 : (c : Cartridge) (m : Registers5) → Mbc5Facts c m → in_range c (Mbc5 m) ≡ true
unfolding in_range described held
in_range5 c m f = rw (f.banks, f.code, lt-ltb m.rom c.banks f.rom, f.ram) f.suit

-- the RAM bank that is shown is one that there is
shown_below : (c : Cartridge) (m : Registers5) → in_range c (Mbc5 m) ≡ true → m.enabled ≡ true → m.ram < ram_banks c.code
shown_below c m e on =
    let f = mbc5_facts c m e in
    ram_below (ram_banks c.code) m.ram (some_ram c.code (implied m.enabled (one_of (2 ∷ 3 ∷ 4 ∷ []) c.code) f.suit on)) f.ram

pub mbc5_starts : (c : Cartridge) (kind : ℕ) → in_range c (Mbc5 (from5 (starting kind))) ≡ described c (Mbc5 (from5 (starting kind)))
unfolding in_range described held
mbc5_starts c kind =
    and_implied (has_banks 512 c && has_code 4 c) (held5 c (from5 (starting kind)))
    (λ d. rw (lt-ltb 1 c.banks (banks_least 512 c (and_left (has_banks 512 c) (has_code 4 c) d)), start_fits (ram_banks c.code)) (or-true (one_of (2 ∷ 3 ∷ 4 ∷ []) c.code)))

-- writes

keeps : (c : Cartridge) (m : Registers5) (index value : ℕ) → 0x8000 ≤ index → after5 c m index value ≡ m
unfolding after5
keeps c m index value h =
    rw (
      le-ltb index 0x2000 (omega arith),
      le-ltb index 0x3000 (omega arith),
      le-ltb index 0x4000 (omega arith),
      le-ltb index 0x6000 (omega arith),
    )

module _ (c : Cartridge) (m : Registers5) (e : in_range c (Mbc5 m) ≡ true) where
  enabled : (value : ℕ) → in_range c (Mbc5 (enable5 c m value)) ≡ true
  unfolding enable5
  enabled value =
      let f = mbc5_facts c m e in
      by_cond (λ (n : Registers5). in_range c (Mbc5 n) ≡ true) (eqb c.code 0) m (with_enabled5 m (enables value)) (λ z. e)
      (λ z.
      in_range5 c (with_enabled5 m (enables value))
      (record { banks = f.banks; code = f.code; rom = f.rom; ram = f.ram; suit = rw (has_ram 4 c f.code z) }))

  -- any bank, masked
  selected : (bank : ℕ) → in_range c (Mbc5 (with_rom5 m (masked c.banks bank))) ≡ true
  selected bank =
      let f = mbc5_facts c m e in
      let some : 0 < c.banks = omega (arith, banks_least 512 c f.banks) in
      in_range5 c (with_rom5 m (masked c.banks bank))
      (record { banks = f.banks; code = f.code; rom = mod-lt bank some; ram = f.ram; suit = f.suit })

  banked : (value : ℕ) → in_range c (Mbc5 (ram5 c m value)) ≡ true
  unfolding ram5
  banked value =
      let f = mbc5_facts c m e in
      in_range5 c (with_ram5 m (chosen_ram (ram_banks c.code) (four_bits value)))
      (record { banks = f.banks; code = f.code; rom = f.rom; ram = chosen_fits (ram_banks c.code) (four_bits value); suit = f.suit })

  stays : (index value : ℕ) → in_range c (Mbc5 (after5 c m index value)) ≡ true
  unfolding after5 low5 ninth5
  stays index value =
      by_cond (λ (n : Registers5). in_range c (Mbc5 n) ≡ true) (ltb index 0x2000) (enable5 c m value)
      (cond (ltb index 0x3000) (low5 c m value) (cond (ltb index 0x4000) (ninth5 c m value) (cond (ltb index 0x6000) (ram5 c m value) m)))
      (λ t. enabled value)
      (λ f.
      by_cond (λ (n : Registers5). in_range c (Mbc5 n) ≡ true) (ltb index 0x3000) (low5 c m value)
      (cond (ltb index 0x4000) (ninth5 c m value) (cond (ltb index 0x6000) (ram5 c m value) m))
      (λ t. selected (mbc5_bank value (m.rom / 256)))
      (λ f.
      by_cond (λ (n : Registers5). in_range c (Mbc5 n) ≡ true) (ltb index 0x4000) (ninth5 c m value) (cond (ltb index 0x6000) (ram5 c m value) m)
      (λ t. selected (mbc5_bank m.rom value))
      (λ f.
      by_cond (λ (n : Registers5). in_range c (Mbc5 n) ≡ true) (ltb index 0x6000) (ram5 c m value) m (λ t. banked value) (λ f. e))))

pub mbc5_lawful : (m : Registers5) → Lawful (Mbc5 m)
unfolding described ram_source ram_len
mbc5_lawful m =
    record {
      describes = λ c e.
          let b = and_left (has_banks 512 c) (has_code 4 c) e in
          record { power = banks_power 512 c b; most = banks_most 512 c b; code = code_most 4 c (and_right (has_banks 512 c) (has_code 4 c) e) };
      holds = λ c e. let f = mbc5_facts c m e in record { rom = f.rom; ram = ram_most c.code m.ram f.ram; high = omega arith };
      kind = refl;
      back = rw (bit_back m.enabled);
      bits = (omega arith, bit_small m.enabled);
      owns = inl refl;
      whole = λ c index. where_whole m.enabled m.ram index;
      within = λ c index e l h.
          where_within (ram_banks c.code * 0x2000) m.enabled m.ram index (λ on. omega (arith, shown_below c m e on)) l h;
      kept = λ c index value h. rw (keeps c m index value h);
      like = λ c index value. refl;
      own = λ c index value. refl;
      stays = λ c index value e. stays c m e index value;
    }
