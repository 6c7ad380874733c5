-- MBC5: the window of an index, then its register.
use mathlib.Core.Bool.{Bool, true, false, cond}
use mathlib.Core.List.{List, [], ◌∷◌}
use mathlib.Core.Path.{sym, subst, ◌≡◌, refl, ap, ◌∙◌}
use Prim.Native.Nat.{ℕ, ◌+◌, ◌-◌, ◌*◌, ◌/◌, ◌%◌, ◌^◌, ◌≤◌, ◌<◌}
use native.Mathlib.Omega.{arith}
use lib.Dec.{eqb, ltb}
use lib.Pow.{pow_pos}
use borrow.Author.Tests.{eqb-true, eqb-false, ne_eqb, lt-ltb, le-ltb, ltb-true, ltb-false}
use Rattle.mbc.proofs.Cases.Mbc5Exact.{one_field}
use Rattle.mbc.specs.Mbc.{Apart, apart_of, apart_start, apart_after, apart_all, shown, ram_banks}
use Rattle.mbc.specs.Mbc.{ram_source, ram_len, chosen_ram, enable5, low5, ninth5, ram5, after5, with_enabled5}
use Rattle.mbc.specs.PanDocs.{mbc5_bank}
use Rattle.mbc.specs.declared.cartridge.Cartridge.{Cartridge}
use Rattle.mbc.specs.declared.mbc.Mapper.TheVariants.{Mbc5}
use Rattle.mbc.specs.declared.mbc.Source.TheVariants.{Save, Fixed}
use Rattle.mbc.specs.declared.mbc5.Mbc5.{Mbc5 as Registers}
use Rattle.rules.proofs.Tests.{by_cond, cond_true, cond_false}
use Rattle.pan_docs.specs.Bits.{bit, low}
use Rattle.pan_docs.specs.Banks.{Masked, ram_size}
use Rattle.pan_docs.specs.Rows.{Row, rows_at, wrote_in, wrote_all}
use Rattle.pan_docs.specs.Mbc5.{RamEnable, LowEight, Ninth, RamBank, rows, nine, Does, Register, wrote, written, Mbc5Rules, Mbc5Writes}
use Rattle.pan_docs.proofs.Bits.{bit_mod, bit_below, bit_above, bit_shifted}
use Rattle.pan_docs.proofs.Banks.{enables_bits, masked_as, parts, ram_place, ram_size_law, ram_at, ram_off}
use Rattle.pan_docs.proofs.Rows.{only, none_past}

ninth_bit : (x j : ℕ) → 8 ≤ j → bit (x % 2) (j - 8) ≡ cond (eqb j 8) (bit x 0) 0
ninth_bit x j h =
    by_cond (λ (y : ℕ). bit (x % 2) (j - 8) ≡ y) (eqb j 8) _ 0
    (λ t.
    let e = eqb-true j 8 t in
    let d : j - 8 ≡ 0 = omega arith in
    ap (λ (k : ℕ). bit (x % 2) k) d ∙ bit_below x 1 0 (omega arith))
    (λ f. let d = eqb-false j 8 f in bit_above x 1 (j - 8) (omega arith))

bank_bits : (eight ninth j : ℕ) → bit (mbc5_bank eight ninth) j ≡ nine (bit eight) (bit ninth 0) j
bank_bits eight ninth j =
    parts 8 (eight % 256) (ninth % 2) (omega arith) j _ _ (λ h. bit_below eight 8 j h) (λ h. ninth_bit ninth j h)

module _ (c : Cartridge) (m : Registers) (v : ℕ) where
  enabled : Does RamEnable c m v (enable5 c m v)
  unfolding enable5
  enabled d = cond_false (eqb c.code 0) m _ (ne_eqb c.code 0 d) ∙ ap (λ (b : Bool). with_enabled5 m b) (enables_bits v)

  low_eight : Does LowEight c m v (low5 c m v)
  unfolding low5
  low_eight =
      record {
        kept = refl;
        bank =
            λ n e. masked_as n (mbc5_bank v (m.rom / 256)) e _
            (λ j. bank_bits v (m.rom / 256) j ∙ ap (λ (b : ℕ). nine (bit v) b j) (bit_shifted m.rom 8 0));
      }

  ninth : Does Ninth c m v (ninth5 c m v)
  unfolding ninth5
  ninth = record { kept = refl; bank = λ n e. masked_as n (mbc5_bank m.rom v) e _ (bank_bits m.rom v) }

  chosen : (n banks : ℕ) → banks ≡ 2 ^ n → Masked n (λ j. cond (ltb j 4) (bit v j) 0) (chosen_ram banks (v % 16))
  unfolding chosen_ram
  chosen n banks e j =
      let d : banks ≡ 0 → ⊥ = λ z. omega (arith, pow_pos n) in
      ap (λ (x : ℕ). bit x j) (cond_false (eqb banks 0) 0 _ (ne_eqb banks 0 d)) ∙ masked_as n (v % 16) e _ (bit_mod v 4) j

  ram_bank : Does RamBank c m v (ram5 c m v)
  unfolding ram5
  ram_bank = record { kept = refl; bank = λ n e. chosen n (ram_banks c.code) e }

  module _ (i : ℕ) where
    in_enable : 0x0000 ≤ i → i ≤ 0x1FFF → Does RamEnable c m v (after5 c m i v)
    unfolding after5
    in_enable h l = rw (lt-ltb i 0x2000 (omega arith)) enabled

    in_low : 0x2000 ≤ i → i ≤ 0x2FFF → Does LowEight c m v (after5 c m i v)
    unfolding after5
    in_low h l = rw (le-ltb i 0x2000 h, lt-ltb i 0x3000 (omega arith)) low_eight

    in_ninth : 0x3000 ≤ i → i ≤ 0x3FFF → Does Ninth c m v (after5 c m i v)
    unfolding after5
    in_ninth h l = rw (le-ltb i 0x2000 (omega arith), le-ltb i 0x3000 h, lt-ltb i 0x4000 (omega arith)) ninth

    in_ram : 0x4000 ≤ i → i ≤ 0x5FFF → Does RamBank c m v (after5 c m i v)
    unfolding after5
    in_ram h l =
        rw (le-ltb i 0x2000 (omega arith), le-ltb i 0x3000 (omega arith), le-ltb i 0x4000 h, lt-ltb i 0x6000 (omega arith)) ram_bank

    none : 0x6000 ≤ i → after5 c m i v ≡ m
    unfolding after5
    none h = rw (le-ltb i 0x2000 (omega arith), le-ltb i 0x3000 (omega arith), le-ltb i 0x4000 (omega arith), le-ltb i 0x6000 h)

module _ (c : Cartridge) (m : Registers) (i : ℕ) where
  off : m.enabled ≡ false → ram_source c (Mbc5 m) i ≡ Fixed 0xFF
  unfolding ram_source
  off f = cond_false m.enabled _ _ f

  ram : 0xA000 ≤ i → i ≤ 0xBFFF → m.enabled ≡ true → ram_source c (Mbc5 m) i ≡ Save (m.ram * 2 ^ 13 + low 13 i)
  unfolding ram_source
  ram h l t = cond_true m.enabled _ _ t ∙ ap (λ (a : ℕ). Save a) (ram_place m.ram i h l)

  len : ram_len c (Mbc5 m) ≡ ram_size c.code
  unfolding ram_len
  len = ram_size_law c.code

pub mbc5_rules : Mbc5Rules
mbc5_rules =
    record {
      step = λ c m i v. refl;
      shown = λ m. refl;
      registers =
          λ c m i v h.
          only i (λ r. Does r c m v (after5 c m i v)) rows 0x0000 0x6000 refl (omega arith) h
          (in_enable c m v i, (in_low c m v i, (in_ninth c m v i, (in_ram c m v i, tt))));
      none = λ c m i v h. none c m v i h;
      off = λ c m i v h l f. ram_off c (Mbc5 m) i v (omega arith) (off c m i f);
      ram = λ c m i v h l t. ram_at c (Mbc5 m) i v (omega arith) _ (len c m i) (ram c m i h l t);
    }

-- over a list of writes: the two registers by rows are those of crate mbc, and `one_field` is of these
module _ (a : Apart) (i v : ℕ) where
  outside : i < 0x2000 → apart_after a i v ≡ a
  unfolding apart_after
  outside h = rw (lt-ltb i 0x2000 h)

  in_eight : 0x2000 ≤ i → i ≤ 0x2FFF → apart_after a i v ≡ apart_of v a.ninth
  unfolding apart_after
  in_eight h l = rw (le-ltb i 0x2000 h, lt-ltb i 0x3000 (omega arith))

  in_one : 0x3000 ≤ i → i ≤ 0x3FFF → apart_after a i v ≡ apart_of a.eight v
  unfolding apart_after
  in_one h l = rw (le-ltb i 0x2000 (omega arith), le-ltb i 0x3000 h, lt-ltb i 0x4000 (omega arith))

  past : 0x4000 ≤ i → apart_after a i v ≡ a
  unfolding apart_after
  past h = rw (le-ltb i 0x2000 (omega arith), le-ltb i 0x3000 (omega arith), le-ltb i 0x4000 h)

  step_by : (b : Bool) → ltb i 0x6000 ≡ b → apart_after a i v ≡ wrote_in wrote (rows_at rows i) a v
  step_by true t =
      let r =
      only i (λ r. apart_after a i v ≡ wrote r a v) rows 0x0000 0x6000 refl (omega arith) (ltb-true i 0x6000 t)
      ((λ h l. outside (omega arith)), (in_eight, (in_one, ((λ h l. past h), tt))))
      in
      r.holds ∙ sym (ap (λ (l : List (Row Register)). wrote_in wrote l a v) r.alone)
  step_by false f =
      let h = ltb-false i 0x6000 f in
      past (omega arith) ∙ sym (ap (λ (l : List (Row Register)). wrote_in wrote l a v) (none_past i rows 0x0000 0x6000 refl h))

  step : apart_after a i v ≡ wrote_in wrote (rows_at rows i) a v
  step = step_by (ltb i 0x6000) refl

all : (a : Apart) (ws : List (ℕ × ℕ)) → apart_all a ws ≡ wrote_all wrote rows a ws
all a [] = refl
all a (w ∷ ws) =
    ap (λ (b : Apart). apart_all b ws) (step a w.0 w.1) ∙ all (wrote_in wrote (rows_at rows w.0) a w.1) ws

pub mbc5_writes : Mbc5Writes
mbc5_writes c n ws d e =
    subst (Masked n _) (sym (one_field c ws d ∙ ap (shown c.banks) (all apart_start ws)))
    (masked_as n (mbc5_bank (written ws).eight (written ws).ninth) e _ (bank_bits (written ws).eight (written ws).ninth))
