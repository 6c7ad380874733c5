-- No mapper.
use mathlib.Core.Bool.{Bool, not}
use mathlib.Core.Logic.{◌⊎◌, ⊎_elim}
use mathlib.Core.Path.{◌≡◌, refl, ap, ◌∙◌}
use Prim.Native.Nat.{ℕ, ◌+◌, ◌*◌, ◌^◌, ◌≤◌}
use native.Mathlib.Omega.{arith}
use borrow.Author.Tests.{eq-eqb, ne_eqb}
use Rattle.mbc.specs.Mbc.{ram_source, ram_len}
use Rattle.mbc.specs.declared.cartridge.Cartridge.{Cartridge}
use Rattle.mbc.specs.declared.mbc.Mapper.TheVariants.{RomOnly}
use Rattle.mbc.specs.declared.mbc.Source.TheVariants.{Save, Fixed}
use Rattle.rules.proofs.Tests.{cond_true, cond_false}
use Rattle.pan_docs.specs.Bits.{low}
use Rattle.pan_docs.specs.Banks.{ram_size, RamAt}
use Rattle.pan_docs.specs.RomOnly.{RomOnlyRules}
use Rattle.pan_docs.proofs.Bits.{low_mod}
use Rattle.pan_docs.proofs.Banks.{ram_place, ram_size_law, ram_at, ram_off}

module _ (c : Cartridge) (i : ℕ) where
  off : c.code ≡ 0 → ram_source c RomOnly i ≡ Fixed 0xFF
  unfolding ram_source
  off e = cond_false _ _ _ (ap (λ (b : Bool). not b) (eq-eqb c.code 0 e))

  found : 0xA000 ≤ i → i ≤ 0xBFFF → (c.code ≡ 0 → ⊥) → ram_source c RomOnly i ≡ Save (low 13 i)
  unfolding ram_source
  found h l d =
      let e : 0 * 2 ^ 13 + low 13 i ≡ low 13 i = omega arith in
      cond_true _ _ _ (ap (λ (b : Bool). not b) (ne_eqb c.code 0 d)) ∙ ap (λ (a : ℕ). Save a) (ram_place 0 i h l ∙ e)

  len : ram_len c RomOnly ≡ ram_size c.code
  unfolding ram_len
  len = ram_size_law c.code

  at_place : (v : ℕ) → 0xA000 ≤ i → i ≤ 0xBFFF → (c.code ≡ 0 → ⊥) → RamAt c RomOnly i v (low 13 i)
  at_place v h l d = ram_at c RomOnly i v (omega arith) (low 13 i) len (found h l d)

  some : (c.code ≡ 2) ⊎ (c.code ≡ 3) → (c.code ≡ 0 → ⊥) × (8192 ≤ ram_size c.code)
  some =
      ⊎_elim (λ e. ((λ z. omega arith), omega (arith, ap (λ (k : ℕ). ram_size k) e)))
      (λ e. ((λ z. omega arith), omega (arith, ap (λ (k : ℕ). ram_size k) e)))

pub rom_only_rules : RomOnlyRules
rom_only_rules =
    record {
      registers = λ c i v. refl;
      bank = refl;
      ram =
          λ c i v h l e.
          let s = some c i e in
          let a = at_place c i v h l s.0 in
          let k = s.1 in
          (a.read, a.stored (omega (arith, low_mod 13 i)));
      none = λ c i v h l e. ram_off c RomOnly i v (omega arith) (off c i e);
    }
