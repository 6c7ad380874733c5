-- Mbc2's laws.
use mathlib.Core.Path.{◌≡◌, refl}
use mathlib.Core.Bool.{true, cond, ◌&&◌}
use mathlib.Core.Logic.{inr}
use Prim.Native.Nat.{ℕ, ◌<◌, ◌≤◌}
use native.Mathlib.Omega.{arith}
use native.Mathlib.Nat.{mod-lt}
use lib.Dec.{eqb, ltb, lit<}
use borrow.Author.Tests.{ltb-true, eqb-true, lt-ltb, le-ltb}
use Rattle.rules.proofs.Tests.{by_cond}
use Rattle.mbc.specs.PanDocs.{enables, mbc2_bank, bit8, masked, ram_address}
use Rattle.mbc.specs.Mbc.{has_banks, ram_len, described, held, in_range, Within, ram_source, starting, from2, enable2, select2, after2}
use Rattle.mbc.specs.declared.cartridge.Cartridge.{Cartridge}
use Rattle.mbc.specs.declared.mbc2.Mbc2.{Mbc2 as Registers2}
use Rattle.mbc.specs.declared.mbc.Mapper.TheVariants.{Mbc2}
use Rattle.mbc.specs.declared.mbc.Source.TheVariants.{Half, Fixed}
use Rattle.mbc.proofs.Bools.{and_left, and_right, and_implied}
use Rattle.mbc.proofs.Cartridges.{banks_most, banks_least, banks_power}
use Rattle.mbc.proofs.Lawful.{Lawful, Whole}
use Rattle.mbc.proofs.Bits.{bit_back, bit_small}

pub in_banks : (c : Cartridge) (m : Registers2) → in_range c (Mbc2 m) ≡ true → has_banks 16 c ≡ true
unfolding in_range described held
in_banks c m e =
    and_left (has_banks 16 c) (eqb c.code 0) (and_left (has_banks 16 c && eqb c.code 0) (ltb m.rom c.banks) e)

below : (c : Cartridge) (m : Registers2) → in_range c (Mbc2 m) ≡ true → m.rom < c.banks
unfolding in_range described held
below c m e = ltb-true m.rom c.banks (and_right (has_banks 16 c && eqb c.code 0) (ltb m.rom c.banks) e)

in_range2 : (c : Cartridge) (m n : Registers2) → in_range c (Mbc2 m) ≡ true → n.rom < c.banks → in_range c (Mbc2 n) ≡ true
unfolding in_range described held
in_range2 c m n e h =
    rw (and_left (has_banks 16 c && eqb c.code 0) (ltb m.rom c.banks) e) (lt-ltb n.rom c.banks h)

pub mbc2_starts : (c : Cartridge) (kind : ℕ) → in_range c (Mbc2 (from2 (starting kind))) ≡ described c (Mbc2 (from2 (starting kind)))
unfolding in_range described held
mbc2_starts c kind =
    and_implied (has_banks 16 c && eqb c.code 0) (ltb 1 c.banks)
    (λ d. lt-ltb 1 c.banks (banks_least 16 c (and_left (has_banks 16 c) (eqb c.code 0) d)))

keeps : (c : Cartridge) (m : Registers2) (index value : ℕ) → 0x8000 ≤ index → after2 c m index value ≡ m
unfolding after2
keeps c m index value h = rw (le-ltb index 0x2000 (omega arith), le-ltb index 0x4000 (omega arith))

stays : (c : Cartridge) (m : Registers2) (index value : ℕ) → in_range c (Mbc2 m) ≡ true → in_range c (Mbc2 (after2 c m index value)) ≡ true
unfolding after2 enable2 select2
stays c m index value e =
    let enabled : Registers2 = record { rom = m.rom; enabled = enables value } in
    let selected : Registers2 = record { rom = masked c.banks (mbc2_bank value); enabled = m.enabled } in
    let some : 0 < c.banks = omega (arith, banks_least 16 c (in_banks c m e)) in
    by_cond (λ (n : Registers2). in_range c (Mbc2 n) ≡ true) (ltb index 0x2000) (cond (bit8 index) m enabled)
    (cond (ltb index 0x4000) (cond (bit8 index) selected m) m)
    (λ t. by_cond (λ (n : Registers2). in_range c (Mbc2 n) ≡ true) (bit8 index) m enabled (λ o. e) (λ z. in_range2 c m enabled e (below c m e)))
    (λ f.
    by_cond (λ (n : Registers2). in_range c (Mbc2 n) ≡ true) (ltb index 0x4000) (cond (bit8 index) selected m) m
    (λ t.
    by_cond (λ (n : Registers2). in_range c (Mbc2 n) ≡ true) (bit8 index) selected m
    (λ o. in_range2 c m selected e (mod-lt (mbc2_bank value) some)) (λ z. e))
    (λ f. e))

pub mbc2_lawful : (m : Registers2) → Lawful (Mbc2 m)
unfolding described ram_source ram_len
mbc2_lawful m =
    record {
      describes = λ c e.
          let b = and_left (has_banks 16 c) (eqb c.code 0) e in
          record {
            power = banks_power 16 c b;
            most = omega (arith, banks_most 16 c b);
            code = omega (arith, eqb-true c.code 0 (and_right (has_banks 16 c) (eqb c.code 0) e));
          };
      holds = λ c e. record { rom = below c m e; ram = omega arith; high = omega arith };
      kind = refl;
      back = rw (bit_back m.enabled);
      bits = (omega arith, bit_small m.enabled);
      owns = inr refl;
      whole = λ c index.
          by_cond Whole (ltb index 0xA200) (cond m.enabled (Half (ram_address 0 index)) (Fixed 0xFF)) (Fixed 0)
          (λ low. by_cond Whole m.enabled (Half (ram_address 0 index)) (Fixed 0xFF) (λ on. tt) (λ off. lit< tt)) (λ high. lit< tt);
      within = λ c index e l h.
          by_cond (Within 0 (ram_len c (Mbc2 m))) (ltb index 0xA200) (cond m.enabled (Half (ram_address 0 index)) (Fixed 0xFF)) (Fixed 0)
          (λ low.
          let b = ltb-true index 0xA200 low in
          by_cond (Within 0 (ram_len c (Mbc2 m))) m.enabled (Half (ram_address 0 index)) (Fixed 0xFF) (λ on. omega arith) (λ off. lit< tt))
          (λ high. lit< tt);
      kept = λ c index value h. rw (keeps c m index value h);
      like = λ c index value. refl;
      own = λ c index value. refl;
      stays = λ c index value e. stays c m index value e;
    }
