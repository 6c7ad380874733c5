-- Mbc5's one field is exact: the masked bank shows what Pan Docs' two registers would. With 512 banks masking loses nothing of nine bits; with fewer N divides
-- 256, so the ninth bit never counts and the low eight are the same modulo N.
use mathlib.Core.Path.{◌≡◌, sym}
use mathlib.Core.Bool.{Bool, true, false, cond}
use mathlib.Core.List.{List, [], ◌∷◌}
use Prim.Native.Nat.{ℕ, ◌/◌, ◌%◌}
use native.Mathlib.Omega.{arith}
use native.Mathlib.Nat.{mod-eq_of_lt}
use lib.Dec.{eqb, ltb}
use Rattle.rules.proofs.Tests.{cond_both}
use Rattle.mbc.specs.PanDocs.{mbc5_bank}
use Rattle.mbc.specs.Mbc.{one_of, powers, has_banks, has_code, described, start, rom_bank, after_all, starting, from5, kind_mbc5, enable5, low5, ninth5, ram5, after5, Apart, apart_start, shown, apart_after, apart_all, OneField}
use Rattle.mbc.specs.declared.cartridge.Cartridge.{Cartridge}
use Rattle.mbc.specs.declared.mbc5.Mbc5.{Mbc5 as Registers5}
use Rattle.mbc.specs.declared.mbc.Mapper.TheVariants.{Mbc5}
use Rattle.mbc.proofs.Bools.{and_left}
use Rattle.mbc.proofs.Cartridges.{banks_power, banks_least, by_power}

-- the low eight bits are written
low_exact : (rom e n v banks : ℕ) → one_of powers banks ≡ true → rom ≡ mbc5_bank e n % banks → mbc5_bank v (rom / 256) % banks ≡ mbc5_bank v n % banks
low_exact rom e n v =
    by_power (λ (b : ℕ). rom ≡ mbc5_bank e n % b → mbc5_bank v (rom / 256) % b ≡ mbc5_bank v n % b)
    (λ h. omega arith) (λ h. omega arith) (λ h. omega arith) (λ h. omega arith) (λ h. omega arith)
    (λ h. omega arith) (λ h. omega arith) (λ h. omega arith) (λ h. omega arith)

-- the ninth
ninth_exact : (rom e n v banks : ℕ) → one_of powers banks ≡ true → rom ≡ mbc5_bank e n % banks → mbc5_bank rom v % banks ≡ mbc5_bank e v % banks
ninth_exact rom e n v =
    by_power (λ (b : ℕ). rom ≡ mbc5_bank e n % b → mbc5_bank rom v % b ≡ mbc5_bank e v % b)
    (λ h. omega arith) (λ h. omega arith) (λ h. omega arith) (λ h. omega arith) (λ h. omega arith)
    (λ h. omega arith) (λ h. omega arith) (λ h. omega arith) (λ h. omega arith)

-- any write
abbrev Shows : ℕ → Registers5 → Apart → Type 0
Shows banks m a = m.rom ≡ shown banks a

under : (banks : ℕ) (b : Bool) (x y : Registers5) (u v : Apart) → Shows banks x u → Shows banks y v → Shows banks (cond b x y) (cond b u v)
under banks true x y u v p q = p
under banks false x y u v p q = q

module _ (c : Cartridge) (power : one_of powers c.banks ≡ true) where
  step : (m : Registers5) (a : Apart) (index value : ℕ) → Shows c.banks m a → Shows c.banks (after5 c m index value) (apart_after a index value)
  unfolding after5 enable5 low5 ninth5 ram5 apart_after
  step m a index value h =
      under c.banks (ltb index 0x2000) _ _ _ _ (cond_both (λ (n : Registers5). Shows c.banks n a) (eqb c.code 0) h h)
      (under c.banks (ltb index 0x3000) _ _ _ _ (low_exact m.rom a.eight a.ninth value c.banks power h)
      (under c.banks (ltb index 0x4000) _ _ _ _ (ninth_exact m.rom a.eight a.ninth value c.banks power h)
      (cond_both (λ (n : Registers5). Shows c.banks n a) (ltb index 0x6000) h h)))

  steps : (m : Registers5) (a : Apart) (ws : List (ℕ × ℕ)) → Shows c.banks m a → rom_bank (after_all c (Mbc5 m) ws) ≡ shown c.banks (apart_all a ws)
  steps m a [] h = h
  steps m a (w ∷ ws) h = steps (after5 c m w.0 w.1) (apart_after a w.0 w.1) ws (step m a w.0 w.1 h)

pub one_field : OneField
unfolding described start
one_field c ws e =
    let b = and_left (has_banks 512 c) (has_code 4 c) e in
    steps c (banks_power 512 c b) (from5 (starting kind_mbc5)) apart_start ws (sym (mod-eq_of_lt (banks_least 512 c b)))
