-- Banks by bits: a bank that is masked, one of two parts, and one in which 0 acts as 1; and the places in a bank.
use mathlib.Core.Bool.{Bool, true, false, cond}
use mathlib.Core.Path.{◌≡◌, refl, sym, ap, ◌∙◌}
use Prim.Native.Nat.{ℕ, zero, suc, ◌+◌, ◌-◌, ◌*◌, ◌%◌, ◌^◌, ◌<◌, ◌≤◌}
use native.Mathlib.Nat.{mod-lt, mod-eq_of_lt}
use native.Mathlib.Omega.{arith}
use lib.Dec.{eqb, ltb}
use lib.Pow.{pow_pos}
use borrow.Author.Tests.{eqb-true, eq-eqb, ne_eqb, ltb-true, ltb-false, lt-ltb, le-ltb}
use Rattle.mbc.specs.Mbc.{source, ram_source, answer, ram_banks, ram_len, stored_at}
use Rattle.mbc.specs.PanDocs.{enables, zero_as_one, masked, ram_address}
use Rattle.mbc.specs.declared.cartridge.Cartridge.{Cartridge}
use Rattle.mbc.specs.declared.mbc.Mapper.{Mapper}
use Rattle.mbc.specs.declared.mbc.Source.{Source}
use Rattle.mbc.specs.declared.mbc.Source.TheVariants.{Save, Fixed}
use Rattle.rules.proofs.Tests.{by_cond, cond_both, cond_true, cond_false, both_true}
use Rattle.pan_docs.specs.Bits.{bit, low}
use Rattle.pan_docs.specs.Banks.{low_four_a, acts_as_one, Masked, ram_size, RamAt, RamOff}
use Rattle.pan_docs.proofs.Bits.{low_mod, bit_small, bit_mod, bit_below, bit_above, bit_left, bit_right, bit_weight}

-- 1010

same_truth : (a b : Bool) → (a ≡ true → b ≡ true) → (b ≡ true → a ≡ true) → a ≡ b
same_truth true b f g = sym (f refl)
same_truth false true f g = g refl
same_truth false false f g = refl

low_four : (v : ℕ) → v % 16 ≡ bit v 3 * 8 + bit v 2 * 4 + bit v 1 * 2 + bit v 0
unfolding low
low_four v = sym (low_mod 4 v) ∙ omega arith

pub enables_bits : (v : ℕ) → enables v ≡ low_four_a v
enables_bits v =
    let f = low_four v in
    let a = bit_small v 3 in
    let b = bit_small v 2 in
    let c = bit_small v 1 in
    let d = bit_small v 0 in
    same_truth (enables v) (low_four_a v)
    (λ t.
    let e = eqb-true (v % 16) 0xA t in
    rw (eq-eqb (bit v 3) 1 (omega arith), eq-eqb (bit v 2) 0 (omega arith), eq-eqb (bit v 1) 1 (omega arith), eq-eqb (bit v 0) 0 (omega arith)))
    (λ t.
    let p = both_true (eqb (bit v 3) 1) _ t in
    let q = both_true (eqb (bit v 2) 0) _ p.1 in
    let r = both_true (eqb (bit v 1) 1) _ q.1 in
    let x = eqb-true (bit v 3) 1 p.0 in
    let y = eqb-true (bit v 2) 0 q.0 in
    let z = eqb-true (bit v 1) 1 r.0 in
    let w = eqb-true (bit v 0) 0 r.1 in
    eq-eqb (v % 16) 0xA (omega arith))

-- a bank modulo 2 ^ n
pub masked_as : {banks : ℕ} (n bank : ℕ) → banks ≡ 2 ^ n → (f : ℕ → ℕ) → ((j : ℕ) → bit bank j ≡ f j) → Masked n f (masked banks bank)
masked_as n bank e f h j =
    ap (λ (k : ℕ). bit (bank % k) j) e ∙ bit_mod bank n j ∙ ap (λ (x : ℕ). cond (ltb j n) x 0) (h j)

-- two parts
pub parts : (n r a : ℕ) → r < 2 ^ n → (j x y : ℕ) → (j < n → bit r j ≡ x) → (n ≤ j → bit a (j - n) ≡ y)
    → bit (r + a * 2 ^ n) j ≡ cond (ltb j n) x y
parts n r a l j x y p q =
    let e : r + a * 2 ^ n ≡ a * 2 ^ n + r = omega arith in
    by_cond (λ (z : ℕ). bit (r + a * 2 ^ n) j ≡ z) (ltb j n) x y
    (λ t. let h = ltb-true j n t in ap (λ (z : ℕ). bit z j) e ∙ bit_right a n l j h ∙ p h)
    (λ f. let h = ltb-false j n f in ap (λ (z : ℕ). bit z j) e ∙ bit_left a n l j h ∙ q h)

-- 0 acts as 1

acts_by : (x v j : ℕ) → bit x j ≡ bit v j → (b : Bool) → bit (cond b 1 x) j ≡ cond b (cond (eqb j 0) 1 0) (bit v j)
acts_by x v j e true = bit_weight 0 j
acts_by x v j e false = e

pub acts : (n v j : ℕ) → j < n → bit (zero_as_one (v % 2 ^ n)) j ≡ acts_as_one n v j
unfolding zero_as_one
acts n v j h = rw (low_mod n v) (acts_by (v % 2 ^ n) v j (bit_below v n j h) (eqb (v % 2 ^ n) 0))

pub acts_itself : (n v j : ℕ) → (low n v ≡ 0 → ⊥) → acts_as_one n v j ≡ bit v j
acts_itself n v j d = rw (ne_eqb (low n v) 0 d)

pub acts_small : (n x : ℕ) → 1 < n → x < n → zero_as_one x < n
unfolding zero_as_one
acts_small n x h l = cond_both (λ (y : ℕ). y < n) (eqb x 0) h l

-- all bits of a bank of n bits
pub few : (n v : ℕ) → 1 < 2 ^ n → (j : ℕ) → bit (zero_as_one (v % 2 ^ n)) j ≡ cond (ltb j n) (acts_as_one n v j) 0
few n v h j =
    let z = zero_as_one (v % 2 ^ n) in
    let e : z % 2 ^ n ≡ z = mod-eq_of_lt (acts_small (2 ^ n) (v % 2 ^ n) h (mod-lt v (pow_pos n))) in
    by_cond (λ (x : ℕ). bit z j ≡ x) (ltb j n) _ 0 (λ t. acts n v j (ltb-true j n t))
    (λ f. ap (λ (x : ℕ). bit x j) (sym e) ∙ bit_above z n j (ltb-false j n f))

-- RAM

pub ram_place : (bank index : ℕ) → 0xA000 ≤ index → index ≤ 0xBFFF → ram_address bank index ≡ bank * 2 ^ 13 + low 13 index
ram_place bank index h l = omega (arith, low_mod 13 index)

pub ram_answer : (c : Cartridge) (m : Mapper) (index v : ℕ) {s : Source} → 0x8000 ≤ index → ram_source c m index ≡ s
    → answer c m index v ≡ stored_at (ram_len c m) v s
unfolding source
ram_answer c m index v h e = rw (le-ltb index 0x8000 h, e)

pub ram_size_law : (code : ℕ) → ram_banks code * 0x2000 ≡ ram_size code
unfolding ram_banks
ram_size_law zero = refl
ram_size_law (suc zero) = refl
ram_size_law (suc (suc zero)) = refl
ram_size_law (suc (suc (suc zero))) = refl
ram_size_law (suc (suc (suc (suc zero)))) = refl
ram_size_law (suc (suc (suc (suc (suc n))))) =
    rw (
      ne_eqb (suc (suc (suc (suc (suc n))))) 2 (λ e. omega arith),
      ne_eqb (suc (suc (suc (suc (suc n))))) 3 (λ e. omega arith),
      ne_eqb (suc (suc (suc (suc (suc n))))) 4 (λ e. omega arith),
    )

module _ (c : Cartridge) (m : Mapper) (index v : ℕ) (h : 0x8000 ≤ index) where
  pub ram_at : (place : ℕ) → ram_len c m ≡ ram_size c.code → ram_source c m index ≡ Save place → RamAt c m index v place
  ram_at place e s =
      let a = ram_answer c m index v h s in
      record {
        read = s;
        stored = λ l. a ∙ cond_true _ _ _ (lt-ltb place (ram_len c m) (omega arith));
        past = λ l. a ∙ cond_false _ _ _ (le-ltb place (ram_len c m) (omega arith));
      }

  pub ram_off : ram_source c m index ≡ Fixed 0xFF → RamOff c m index v
  ram_off s = record { read = s; ignored = ram_answer c m index v h s }
