-- MBC2: the window and address bit 8, then its register; half bytes.
use mathlib.Core.Bool.{Bool, true, false}
use mathlib.Core.List.{List}
use mathlib.Core.Path.{◌≡◌, refl, sym, ap, ◌∙◌, subst}
use Prim.Native.Nat.{ℕ, ◌≤◌}
use native.Mathlib.Omega.{arith}
use lib.Dec.{lit<}
use lib.ListN.{get_or}
use borrow.Author.Tests.{eq-eqb, ne_eqb, lt-ltb, le-ltb}
use Rattle.mbc.specs.Mbc.{ram_source, ram_len, answer, byte_of, enable2, select2, after2}
use Rattle.mbc.specs.PanDocs.{mbc2_bank, ram_address, bit8}
use Rattle.mbc.specs.declared.cartridge.Cartridge.{Cartridge}
use Rattle.mbc.specs.Answers.{stored_as}
use Rattle.mbc.specs.declared.mbc.Mapper.TheVariants.{Mbc2}
use Rattle.mbc.specs.declared.mbc.Source.TheVariants.{Half, Fixed}
use Rattle.mbc.specs.declared.mbc2.Mbc2.{Mbc2 as Registers}
use Rattle.rules.proofs.Tests.{cond_true, cond_false}
use Rattle.pan_docs.specs.Bits.{bit, low}
use Rattle.pan_docs.specs.Banks.{low_four_a}
use Rattle.pan_docs.specs.Mbc2.{Bank, Mbc2Rules}
use Rattle.pan_docs.proofs.Bits.{low_mod}
use Rattle.pan_docs.proofs.Banks.{enables_bits, masked_as, few, ram_answer, ram_off}

abbrev put : Registers → Bool → Registers
put m on = record { rom = m.rom; enabled = on }

-- address bit 8
module _ (i : ℕ) where
  bit8_clear : bit i 8 ≡ 0 → bit8 i ≡ false
  unfolding bit
  bit8_clear e = ne_eqb _ 1 (λ (p : bit i 8 ≡ 1). omega arith)

  bit8_set : bit i 8 ≡ 1 → bit8 i ≡ true
  unfolding bit
  bit8_set e = eq-eqb _ 1 e

module _ (c : Cartridge) (m : Registers) (i v : ℕ) where
  enable : i ≤ 0x1FFF → bit i 8 ≡ 0 → after2 c m i v ≡ put m (low_four_a v)
  unfolding after2 enable2
  enable h b =
      cond_true _ _ _ (lt-ltb i 0x2000 (omega arith))
      ∙ cond_false (bit8 i) _ _ (bit8_clear i b)
      ∙ ap (λ (on : Bool). put m on) (enables_bits v)

  select : 0x2000 ≤ i → i ≤ 0x3FFF → bit i 8 ≡ 1 → Bank c m (after2 c m i v) v
  unfolding after2 select2
  select h l b =
      subst (λ (t : Registers). Bank c m t v)
      (sym (cond_false _ _ _ (le-ltb i 0x2000 h) ∙ cond_true _ _ _ (lt-ltb i 0x4000 (omega arith)) ∙ cond_true (bit8 i) _ _ (bit8_set i b)))
      (record { kept = refl; bank = λ n e. masked_as n (mbc2_bank v) e _ (few 4 v (lit< tt)) })

  none : 0x4000 ≤ i → after2 c m i v ≡ m
  unfolding after2
  none h = rw (le-ltb i 0x2000 (omega arith), le-ltb i 0x4000 h)

module _ (c : Cartridge) (m : Registers) (i : ℕ) (h : 0xA000 ≤ i) (l : i ≤ 0xA1FF) where
  half : m.enabled ≡ true → ram_source c (Mbc2 m) i ≡ Half (low 9 i)
  unfolding ram_source
  half t =
      let e : ram_address 0 i ≡ low 9 i = omega (arith, low_mod 9 i) in
      cond_true _ _ _ (lt-ltb i 0xA200 (omega arith)) ∙ cond_true m.enabled _ _ t ∙ ap (λ (a : ℕ). Half a) e

  off : m.enabled ≡ false → ram_source c (Mbc2 m) i ≡ Fixed 0xFF
  unfolding ram_source
  off f = cond_true _ _ _ (lt-ltb i 0xA200 (omega arith)) ∙ cond_false m.enabled _ _ f

  stored : (v : ℕ) → m.enabled ≡ true → answer c (Mbc2 m) i v ≡ stored_as (low 9 i) (low 4 v)
  unfolding ram_len
  stored v t =
      ram_answer c (Mbc2 m) i v (omega arith) (half t)
      ∙ cond_true _ _ _ (lt-ltb (low 9 i) 512 (omega (arith, low_mod 9 i)))
      ∙ ap (λ (x : ℕ). stored_as (low 9 i) x) (sym (low_mod 4 v))

  read : (rom save : List ℕ) → m.enabled ≡ true → byte_of rom save (ram_source c (Mbc2 m) i) ≡ low 4 (get_or save (low 9 i) 0)
  read rom save t = rw (half t) (sym (low_mod 4 (get_or save (low 9 i) 0)))

pub mbc2_rules : Mbc2Rules
mbc2_rules =
    record {
      step = λ c m i v. refl;
      shown = λ m. refl;
      enable = enable;
      select = select;
      none = none;
      read = λ c m rom save i h l t. read c m i h l rom save t;
      stored = λ c m i v h l t. stored c m i h l v t;
      off = λ c m i v h l f. ram_off c (Mbc2 m) i v (omega arith) (off c m i h l f);
    }
