-- MBC1: the window of an index, then its register.
use mathlib.Core.Bool.{Bool, true, false, cond}
use mathlib.Core.Path.{◌≡◌, refl, sym, ap, ◌∙◌, subst}
use Prim.Native.Nat.{ℕ, ◌+◌, ◌-◌, ◌*◌, ◌%◌, ◌^◌, ◌<◌, ◌≤◌}
use native.Mathlib.Omega.{arith}
use lib.Dec.{eqb, ltb, lit<}
use borrow.Author.Tests.{eq-eqb, ne_eqb, lt-ltb, le-ltb}
use Rattle.mbc.specs.Mbc.{ram_source, ram_len, ram_bank1, enable1, low1, high1, mode1, after1, with_mode, with_enabled, with_high}
use Rattle.mbc.specs.PanDocs.{mbc1_bank, masked}
use Rattle.mbc.specs.declared.cartridge.Cartridge.{Cartridge}
use Rattle.mbc.specs.declared.mbc.Mapper.TheVariants.{Mbc1}
use Rattle.mbc.specs.declared.mbc.Source.TheVariants.{Save, Fixed}
use Rattle.mbc.specs.declared.mbc1.Mbc1.{Mbc1 as Registers}
use Rattle.rules.proofs.Tests.{cond_true, cond_false}
use Rattle.pan_docs.specs.Bits.{bit, low}
use Rattle.pan_docs.specs.Banks.{acts_as_one, ram_size}
use Rattle.pan_docs.specs.Mbc1.{RamEnable, RomBank, UpperBits, Mode, rows, Upper, RamBank, Does, Mbc1Rules}
use Rattle.pan_docs.proofs.Bits.{low_mod, bit_zero, bit_mod}
use Rattle.pan_docs.proofs.Banks.{enables_bits, masked_as, parts, acts, acts_itself, acts_small, ram_place, ram_size_law, ram_at, ram_off}
use Rattle.pan_docs.proofs.Rows.{only}

-- five bits and the upper ones
pub bank_bits : (five upper j x y : ℕ) → (j < 5 → acts_as_one 5 five j ≡ x) → (5 ≤ j → bit upper (j - 5) ≡ y)
    → bit (mbc1_bank five upper) j ≡ cond (ltb j 5) x y
bank_bits five upper j x y p q =
    parts 5 _ upper (acts_small 32 (five % 32) (lit< tt) (omega arith)) j x y (λ h. acts 5 five j h ∙ p h) q

module _ (c : Cartridge) (m : Registers) (v : ℕ) where
  enabled : Does RamEnable c m v (enable1 c m v)
  unfolding enable1
  enabled d = cond_false (eqb c.code 0) m _ (ne_eqb c.code 0 d) ∙ ap (λ (b : Bool). with_enabled m b) (enables_bits v)

  pub low_bank : Does RomBank c m v (low1 c m v)
  unfolding low1
  low_bank f =
      record {
        kept = refl;
        bank =
            λ n e.
            masked_as n (mbc1_bank v (cond m.mode 0 m.high)) e _
            (λ j. bank_bits v (cond m.mode 0 m.high) j _ _ (λ h. refl)
            (λ h. ap (λ (x : ℕ). bit x (j - 5)) (cond_false m.mode 0 m.high f)));
      }

  pub upper_bits : m.mode ≡ false → Upper c m (high1 c m v) v
  unfolding high1
  upper_bits f =
      subst (λ (t : Registers). Upper c m t v) (sym (cond_false m.mode _ _ f))
      (record {
        kept = ap (λ (h : ℕ). with_high m h (masked c.banks (mbc1_bank m.rom (v % 4)))) (sym (low_mod 2 v));
        bank =
            λ n e d.
            masked_as n (mbc1_bank m.rom (v % 4)) e _
            (λ j. bank_bits m.rom (v % 4) j _ _ (λ h. acts_itself 5 m.rom j d) (λ h. bit_mod v 2 (j - 5)));
      })

  ram_bank : m.mode ≡ true → RamBank c m (high1 c m v) v
  unfolding high1
  ram_bank t =
      subst (λ (r : Registers). RamBank c m r v) (sym (cond_true m.mode _ _ t))
      (record { kept = refl; bank = λ n e. masked_as n (v % 4) e _ (bit_mod v 2) })

  mode_by : (b : Bool) → cond b (cond true (with_mode m true) m) (with_mode m false) ≡ with_mode m b
  mode_by true = refl
  mode_by false = refl

  mode_put : Does Mode c m v (mode1 c m v)
  unfolding mode1
  mode_put e = rw (eq-eqb c.code 3 e, bit_zero v) (mode_by (eqb (v % 2) 1))

  module _ (i : ℕ) where
    in_enable : 0x0000 ≤ i → i ≤ 0x1FFF → Does RamEnable c m v (after1 c m i v)
    unfolding after1
    in_enable h l = rw (lt-ltb i 0x2000 (omega arith)) enabled

    in_bank : 0x2000 ≤ i → i ≤ 0x3FFF → Does RomBank c m v (after1 c m i v)
    unfolding after1
    in_bank h l = rw (le-ltb i 0x2000 h, lt-ltb i 0x4000 (omega arith)) low_bank

    in_upper : 0x4000 ≤ i → i ≤ 0x5FFF → Does UpperBits c m v (after1 c m i v)
    unfolding after1
    in_upper h l = rw (le-ltb i 0x2000 (omega arith), le-ltb i 0x4000 h, lt-ltb i 0x6000 (omega arith)) (upper_bits, ram_bank)

    in_mode : 0x6000 ≤ i → i ≤ 0x7FFF → Does Mode c m v (after1 c m i v)
    unfolding after1
    in_mode h l =
        rw (le-ltb i 0x2000 (omega arith), le-ltb i 0x4000 (omega arith), le-ltb i 0x6000 h, lt-ltb i 0x8000 (omega arith)) mode_put

module _ (c : Cartridge) (m : Registers) (i : ℕ) where
  off : m.enabled ≡ false → ram_source c (Mbc1 m) i ≡ Fixed 0xFF
  unfolding ram_source
  off f = cond_false m.enabled _ _ f

  ram : 0xA000 ≤ i → i ≤ 0xBFFF → m.enabled ≡ true → ram_source c (Mbc1 m) i ≡ Save (cond m.mode m.ram 0 * 2 ^ 13 + low 13 i)
  unfolding ram_source ram_bank1
  ram h l t = cond_true m.enabled _ _ t ∙ ap (λ (a : ℕ). Save a) (ram_place (cond m.mode m.ram 0) i h l)

  len : ram_len c (Mbc1 m) ≡ ram_size c.code
  unfolding ram_len
  len = ram_size_law c.code

pub mbc1_rules : Mbc1Rules
mbc1_rules =
    record {
      step = λ c m i v. refl;
      shown = λ m. refl;
      registers =
          λ c m i v h.
          only i (λ r. Does r c m v (after1 c m i v)) rows 0x0000 0x8000 refl (omega arith) h
          (in_enable c m v i, (in_bank c m v i, (in_upper c m v i, (in_mode c m v i, tt))));
      off = λ c m i v h l f. ram_off c (Mbc1 m) i v (omega arith) (off c m i f);
      ram = λ c m i v h l t. ram_at c (Mbc1 m) i v (omega arith) _ (len c m i) (ram c m i h l t);
    }
