-- What a cartridge's description says, taken out of the tests; N and its logarithm, both ways.
use mathlib.Core.Path.{◌≡◌, refl, sym, ◌∙◌}
use mathlib.Core.Bool.{Bool, true, false, cond, ◌&&◌, ◌||◌}
use mathlib.Core.List.{[], ◌∷◌}
use Prim.Native.Nat.{ℕ, zero, suc, ◌≤◌, ◌*◌, ◌^◌}
use native.Mathlib.Omega.{arith}
use lib.Dec.{eqb, ltb, leb, lit≤}
use borrow.Author.Tests.{ltb-true, leb-true, le-leb, lt-leb, eqb-true, ne_eqb}
use Rattle.rules.proofs.Tests.{by_cond, both_true}
use Rattle.mbc.specs.Cartridge.{one_of, powers, codes, cartridge_of, has_banks, has_code, ram_banks, log2, banks_of}
use Rattle.mbc.specs.declared.cartridge.Cartridge.{Cartridge}
use Rattle.mbc.proofs.Bools.{and_left, and_right, of_one, every_at}

pub banks_most : (most : ℕ) (c : Cartridge) → has_banks most c ≡ true → c.banks ≤ most
unfolding has_banks
banks_most most c e = leb-true c.banks most (and_left (leb c.banks most) (one_of powers c.banks) e)

pub banks_power : (most : ℕ) (c : Cartridge) → has_banks most c ≡ true → one_of powers c.banks ≡ true
unfolding has_banks
banks_power most c e = and_right (leb c.banks most) (one_of powers c.banks) e

-- what N may be, by cases
pub by_power : (P : ℕ → Type 0) → P 2 → P 4 → P 8 → P 16 → P 32 → P 64 → P 128 → P 256 → P 512 → (n : ℕ) → one_of powers n ≡ true → P n
by_power P a b c d e f g h i = of_one P powers (a, (b, (c, (d, (e, (f, (g, (h, (i, tt)))))))))

pub power_least : (n : ℕ) → one_of powers n ≡ true → 2 ≤ n
power_least =
    by_power (λ (n : ℕ). 2 ≤ n) (lit≤ tt) (lit≤ tt) (lit≤ tt) (lit≤ tt) (lit≤ tt) (lit≤ tt) (lit≤ tt) (lit≤ tt) (lit≤ tt)

pub banks_least : (most : ℕ) (c : Cartridge) → has_banks most c ≡ true → 2 ≤ c.banks
banks_least most c e = power_least c.banks (banks_power most c e)

pub code_most : (most : ℕ) (c : Cartridge) → has_code most c ≡ true → c.code ≤ most
unfolding has_code
code_most most c e = leb-true c.code most (and_left (leb c.code most) (one_of codes c.code) e)

-- 1 is none
pub but_1 : (code : ℕ) → (code ≡ 1 → ⊥) → leb code 4 ≡ one_of codes code
but_1 zero h = refl
but_1 (suc zero) h = absurd (h refl)
but_1 (suc (suc zero)) h = refl
but_1 (suc (suc (suc zero))) h = refl
but_1 (suc (suc (suc (suc zero)))) h = refl
but_1 (suc (suc (suc (suc (suc n))))) h =
    let k : ℕ = suc (suc (suc (suc (suc n)))) in
    let other : (m : ℕ) → m ≤ 4 → eqb k m ≡ false = λ m l. ne_eqb k m (λ e. omega (arith, l, e)) in
    rw (lt-leb k 4 (omega arith), other 0 (lit≤ tt), other 2 (lit≤ tt), other 3 (lit≤ tt), other 4 (lit≤ tt))

pub four_banks : (code : ℕ) → code ≡ 3 → ram_banks code ≡ 4
unfolding ram_banks
four_banks code e = rw e

-- a code other than 0 has RAM
pub has_ram : (most : ℕ) (c : Cartridge) → has_code most c ≡ true → eqb c.code 0 ≡ false → one_of (2 ∷ 3 ∷ 4 ∷ []) c.code ≡ true
unfolding has_code
has_ram most c e z = rw z at (and_right (leb c.code most) (one_of codes c.code) e)

-- where code 4 is none
pub to_3 : (code : ℕ) → code ≤ 3 → one_of (2 ∷ 3 ∷ 4 ∷ []) code ≡ one_of (2 ∷ 3 ∷ []) code
to_3 code h = rw (ne_eqb code 4 (λ e. omega (arith, h, e)))

-- RAM banks are there by code 2, 3 or 4 alone
there : (a b d : Bool) → (a || (b || (d || false))) ≡ ltb 0 (cond a 1 (cond b 4 (cond d 16 0)))
there true b d = refl
there false true d = refl
there false false true = refl
there false false false = refl

pub ram_there : (code : ℕ) → one_of (2 ∷ 3 ∷ 4 ∷ []) code ≡ ltb 0 (ram_banks code)
unfolding ram_banks
ram_there code = there (eqb code 2) (eqb code 3) (eqb code 4)

pub some_ram : (code : ℕ) → one_of (2 ∷ 3 ∷ 4 ∷ []) code ≡ true → 1 ≤ ram_banks code
some_ram code e = ltb-true 0 (ram_banks code) (sym (ram_there code) ∙ e)

-- what the RAM code can say, of the banks and of their bytes
pub by_banks : (P : ℕ → Type 0) → P 0 → P 1 → P 4 → P 16 → (code : ℕ) → P (ram_banks code)
unfolding ram_banks
by_banks P none one four sixteen code =
    by_cond P (eqb code 2) 1 (cond (eqb code 3) 4 (cond (eqb code 4) 16 0)) (λ e. one)
    (λ e. by_cond P (eqb code 3) 4 (cond (eqb code 4) 16 0) (λ f. four) (λ f. by_cond P (eqb code 4) 16 0 (λ g. sixteen) (λ g. none)))

pub by_ram_banks : (P : ℕ → Type 0) → P 0 → P 0x2000 → P 0x8000 → P 0x20000 → (code : ℕ) → P (ram_banks code * 0x2000)
by_ram_banks P none one four sixteen code = by_banks (λ (b : ℕ). P (b * 0x2000)) none one four sixteen code

-- N and its logarithm

pub banks_of_log : (n : ℕ) → one_of powers n ≡ true → banks_of (log2 n) ≡ n
unfolding log2 banks_of
banks_of_log = by_power (λ (n : ℕ). banks_of (log2 n) ≡ n) refl refl refl refl refl refl refl refl refl

pub log_of_banks : (log : ℕ) → log ≤ 9 → log2 (banks_of log) ≡ log
unfolding log2 banks_of
log_of_banks log h = eqb-true _ _ (every_at 10 (λ (l : ℕ). eqb (log2 (banks_of l)) l) refl log (omega arith))

pub banks_power_of : (log : ℕ) → log ≤ 9 → banks_of log ≡ 2 ^ log
unfolding banks_of
banks_power_of log h = rw (le-leb log 9 h)

-- N of a logarithm that is not 0 is one, for Mbc1 and Mbc5 of three bits, for Mbc2 to 4
pub has_banks_7 : (log code : ℕ) → 1 ≤ log → log ≤ 7
    → (has_banks 128 (cartridge_of (banks_of log) code) ≡ true) × (has_banks 512 (cartridge_of (banks_of log) code) ≡ true)
unfolding has_banks banks_of
has_banks_7 zero code l h = absurd (omega arith)
has_banks_7 (suc k) code l h =
    both_true _ _
    (every_at 7 (λ (n : ℕ). has_banks 128 (cartridge_of (banks_of (suc n)) code) && has_banks 512 (cartridge_of (banks_of (suc n)) code)) refl k (omega arith))

pub has_banks_4 : (log code : ℕ) → 1 ≤ log → log ≤ 4 → has_banks 16 (cartridge_of (banks_of log) code) ≡ true
unfolding has_banks banks_of
has_banks_4 zero code l h = absurd (omega arith)
has_banks_4 (suc k) code l h = every_at 4 (λ (n : ℕ). has_banks 16 (cartridge_of (banks_of (suc n)) code)) refl k (omega arith)
