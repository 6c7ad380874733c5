-- MBC1 over any list of writes: what the one field shows is Pan Docs' bank, from write to write.
use mathlib.Core.Bool.{Bool, true, false, cond}
use mathlib.Core.List.{List, [], ◌∷◌}
use mathlib.Core.Path.{◌≡◌, refl, sym, ap, ◌∙◌, subst}
use Prim.Native.Nat.{ℕ, ◌-◌, ◌%◌, ◌^◌, ◌<◌, ◌≤◌}
use native.Mathlib.Nat.{mod-eq_of_lt}
use native.Mathlib.Omega.{arith}
use lib.Dec.{eqb, ltb, lit<}
use lib.Pow.{pow-lt}
use borrow.Author.Tests.{eqb-false, ne_eqb, lt-ltb, le-ltb, ltb-true, ltb-false}
use Rattle.mbc.specs.Mbc.{rom_bank, after_all, start, kind_mbc1, enable1, low1, high1, mode1, after1, from1, starting}
use Rattle.mbc.specs.PanDocs.{mbc1_bank, mode_bit, zero_as_one}
use Rattle.mbc.specs.declared.cartridge.Cartridge.{Cartridge}
use Rattle.mbc.specs.declared.mbc.Mapper.TheVariants.{Mbc1}
use Rattle.mbc.specs.declared.mbc1.Mbc1.{Mbc1 as Registers}
use Rattle.rules.proofs.Tests.{by_cond, cond_both, cond_true, cond_false}
use Rattle.pan_docs.specs.Bits.{bit, low}
use Rattle.pan_docs.specs.Banks.{acts_as_one, Masked}
use Rattle.pan_docs.specs.Rows.{Row, rows_at, wrote_in, wrote_all}
use Rattle.pan_docs.specs.Mbc1.{Register, rows, joined, two, Two, two_of, wrote, Mbc1Writes}
use Rattle.pan_docs.proofs.Bits.{low_mod, low_same, bit_none, bit_mod, bit_below}
use Rattle.pan_docs.proofs.Banks.{masked_as, acts_itself}
use Rattle.pan_docs.proofs.Mbc1.{bank_bits, low_bank, upper_bits}
use Rattle.pan_docs.proofs.Rows.{only, none_past}

-- the bank that the two registers make
abbrev shown : Two → ℕ → ℕ
shown a = joined (acts_as_one 5 a.five) (two a.upper)

-- a state that shows it, not in banking mode
record Shows (n : ℕ) (a : Two) (m : Registers) : Type 0 where
  mode : m.mode ≡ false
  high : m.high ≡ low 2 a.upper
  bank : Masked n (shown a) m.rom

remasked : (n bank : ℕ) (f g : ℕ → ℕ) → ((j : ℕ) → f j ≡ g j) → Masked n f bank → Masked n g bank
remasked n bank f g e h j = h j ∙ ap (λ (x : ℕ). cond (ltb j n) x 0) (e j)

rejoined : (f g p q : ℕ → ℕ) → ((j : ℕ) → j < 5 → f j ≡ p j) → ((j : ℕ) → g j ≡ q j) → (j : ℕ) → joined f g j ≡ joined p q j
rejoined f g p q d e j =
    by_cond (λ (x : ℕ). joined f g j ≡ x) (ltb j 5) (p j) (q (j - 5)) (λ t. cond_true (ltb j 5) _ _ t ∙ d j (ltb-true j 5 t))
    (λ s. cond_false (ltb j 5) _ _ s ∙ e (j - 5))

upper_two : (u j : ℕ) → bit (low 2 u) j ≡ two u j
upper_two u j = ap (λ (x : ℕ). bit x j) (low_mod 2 u) ∙ bit_mod u 2 j

-- of 32 banks or more the five bits are those of the register, and not all 0
module _ (n : ℕ) (w : 5 ≤ n) (a : Two) (rom : ℕ) (h : Masked n (shown a) rom) where
  five_bits : (j : ℕ) → j < 5 → bit rom j ≡ acts_as_one 5 a.five j
  five_bits j l = h j ∙ cond_true (ltb j n) _ 0 (lt-ltb j n (omega arith)) ∙ cond_true (ltb j 5) _ _ (lt-ltb j 5 l)

  first_zero : low 5 rom ≡ 0 → bit rom 0 ≡ 0
  first_zero e = sym (bit_below rom 5 0 (lit< tt)) ∙ ap (λ (x : ℕ). bit x 0) (sym (low_mod 5 rom) ∙ e) ∙ bit_none 0

  not_zero_by : (b : Bool) → eqb (low 5 a.five) 0 ≡ b → low 5 rom ≡ 0 → ⊥
  not_zero_by true t e =
      let one : acts_as_one 5 a.five 0 ≡ 1 = cond_true _ _ _ t in
      omega (arith, first_zero e, five_bits 0 (lit< tt) ∙ one)
  not_zero_by false f e =
      let d = eqb-false (low 5 a.five) 0 f in
      d (sym (low_same 5 rom a.five (λ j l. five_bits j l ∙ acts_itself 5 a.five j d)) ∙ e)

  not_zero : low 5 rom ≡ 0 → ⊥
  not_zero = not_zero_by (eqb (low 5 a.five) 0) refl

module _ (c : Cartridge) (n : ℕ) (e : c.banks ≡ 2 ^ n) (w : 5 ≤ n) (o : c.code ≡ 3 → ⊥) (a : Two) (m : Registers) (s : Shows n a m) (v : ℕ) where
  put_enable : Shows n a (enable1 c m v)
  unfolding enable1
  put_enable = cond_both (Shows n a) (eqb c.code 0) s (record { mode = s.mode; high = s.high; bank = s.bank })

  put_low : Shows n (two_of v a.upper) (low1 c m v)
  unfolding low1
  put_low =
      record {
        mode = s.mode;
        high = s.high;
        bank =
            remasked n _ _ _
            (rejoined (acts_as_one 5 v) (bit m.high) (acts_as_one 5 v) (two a.upper) (λ j l. refl)
            (λ j. ap (λ (x : ℕ). bit x j) s.high ∙ upper_two a.upper j))
            ((low_bank c m v s.mode).bank n e);
      }

  put_upper : Shows n (two_of a.five v) (high1 c m v)
  put_upper =
      let u = upper_bits c m v s.mode in
      record {
        mode = ap (λ (t : Registers). t.mode) u.kept ∙ s.mode;
        high = ap (λ (t : Registers). t.high) u.kept;
        bank =
            remasked n _ _ _
            (rejoined (bit m.rom) (two v) (acts_as_one 5 a.five) (two v) (five_bits n w a m.rom s.bank) (λ j. refl))
            (u.bank n e (not_zero n w a m.rom s.bank));
      }

  put_mode : Shows n a (mode1 c m v)
  unfolding mode1
  put_mode =
      cond_both (Shows n a) (mode_bit v) (subst (Shows n a) (sym (cond_false (eqb c.code 3) _ m (ne_eqb c.code 3 o))) s)
      (record { mode = refl; high = s.high; bank = s.bank })

  module _ (i : ℕ) where
    in_enable : 0x0000 ≤ i → i ≤ 0x1FFF → Shows n a (after1 c m i v)
    unfolding after1
    in_enable h l = rw (lt-ltb i 0x2000 (omega arith)) put_enable

    in_bank : 0x2000 ≤ i → i ≤ 0x3FFF → Shows n (two_of v a.upper) (after1 c m i v)
    unfolding after1
    in_bank h l = rw (le-ltb i 0x2000 h, lt-ltb i 0x4000 (omega arith)) put_low

    in_upper : 0x4000 ≤ i → i ≤ 0x5FFF → Shows n (two_of a.five v) (after1 c m i v)
    unfolding after1
    in_upper h l = rw (le-ltb i 0x2000 (omega arith), le-ltb i 0x4000 h, lt-ltb i 0x6000 (omega arith)) put_upper

    in_mode : 0x6000 ≤ i → i ≤ 0x7FFF → Shows n a (after1 c m i v)
    unfolding after1
    in_mode h l =
        rw (le-ltb i 0x2000 (omega arith), le-ltb i 0x4000 (omega arith), le-ltb i 0x6000 h, lt-ltb i 0x8000 (omega arith)) put_mode

    past : 0x8000 ≤ i → after1 c m i v ≡ m
    unfolding after1
    past h = rw (le-ltb i 0x2000 (omega arith), le-ltb i 0x4000 (omega arith), le-ltb i 0x6000 (omega arith), le-ltb i 0x8000 h)

    step_by : (b : Bool) → ltb i 0x8000 ≡ b → Shows n (wrote_in wrote (rows_at rows i) a v) (after1 c m i v)
    step_by true t =
        let r =
        only i (λ r. Shows n (wrote r a v) (after1 c m i v)) rows 0x0000 0x8000 refl (omega arith) (ltb-true i 0x8000 t)
        (in_enable, (in_bank, (in_upper, (in_mode, tt))))
        in
        subst (λ (l : List (Row Register)). Shows n (wrote_in wrote l a v) (after1 c m i v)) (sym r.alone) r.holds
    step_by false f =
        let h = ltb-false i 0x8000 f in
        subst (λ (l : List (Row Register)). Shows n (wrote_in wrote l a v) (after1 c m i v)) (sym (none_past i rows 0x0000 0x8000 refl h))
        (subst (Shows n a) (sym (past h)) s)

    step : Shows n (wrote_in wrote (rows_at rows i) a v) (after1 c m i v)
    step = step_by (ltb i 0x8000) refl

all : (c : Cartridge) (n : ℕ) → c.banks ≡ 2 ^ n → 5 ≤ n → (c.code ≡ 3 → ⊥) → (ws : List (ℕ × ℕ)) (a : Two) (m : Registers) → Shows n a m
    → Masked n (shown (wrote_all wrote rows a ws)) (rom_bank (after_all c (Mbc1 m) ws))
all c n e w o [] a m s = s.bank
all c n e w o (x ∷ ws) a m s =
    all c n e w o ws (wrote_in wrote (rows_at rows x.0) a x.1) (after1 c m x.0 x.1) (step c n e w o a m s x.1 x.0)

fresh : (c : Cartridge) (n : ℕ) → c.banks ≡ 2 ^ n → 5 ≤ n → Masked n (shown (two_of 0 0)) 1
unfolding zero_as_one low bit
fresh c n e w =
    let l : 1 < 2 ^ n = pow-lt {i = 0} {j = n} (omega arith) in
    let f : 1 % 2 ^ n ≡ 1 = mod-eq_of_lt l in
    subst (Masked n (shown (two_of 0 0))) f
    (masked_as n (mbc1_bank 0 0) refl _ (λ j. bank_bits 0 0 j _ _ (λ h. refl) (λ h. upper_two 0 (j - 5))))

pub mbc1_writes : Mbc1Writes
unfolding start low bit
mbc1_writes c n ws e w o =
    all c n e w o ws (two_of 0 0) (from1 (starting kind_mbc1)) (record { mode = refl; high = refl; bank = fresh c n e w })
