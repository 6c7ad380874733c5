-- A fresh bus whose description and lengths fit is not refused, and every other is.
use mathlib.Core.Bool.{Bool, true, false, cond, ◌&&◌}
use mathlib.Core.List.{List, [], ◌∷◌}
use mathlib.Core.Logic.{inl, inr, ⊎_elim}
use mathlib.Core.Path.{◌≡◌, refl, sym, ap, subst, ◌∙◌}
use Prim.Native.Nat.{ℕ, zero, suc, ◌*◌}
use native.Mathlib.Omega.{arith}
use lib.Dec.{eqb, leb}
use lib.ListN.{length}
use borrow.Author.Tests.{eqb-true, eq-eqb, le-leb, leb-true}
use Rattle.rules.proofs.Tests.{both_true, or_cases, untrue, by_cond, cond_both, cond_true, cond_false, passes}
use Rattle.mbc.specs.Cartridge.{codes}
use Rattle.mbc.specs.Mbc as mbc
use Rattle.mbc.specs.declared.cartridge.Cartridge.{Cartridge}
use Rattle.mbc.specs.Answers.{Fresh}
use Rattle.memory.specs.Start.{started as startedWith}
use Rattle.promise.specs.Described.{OneOf, to16, to128, to512, rams, rams_with4, Described, rom_only, mbc1, mbc2, mbc5}
use Rattle.memory.specs.declared.Memory.{Memory}
use Rattle.promise.specs.Bus.{Lent, start}
use Rattle.promise.specs.Promise.{Begins}
use Rattle.promise.specs.Runs.{Fitting}
use Rattle.promise.proofs.Bus.{or_else, lengths_are, lent_refused, lengths_refused, lengths_fit, fresh_refused, beginning, log_refused}

-- what all of a list pass, one of them passes
abbrev all : {A : Type 0} → (A → Bool) → List A → Bool
all f [] = true
all f (x ∷ xs) = f x && all f xs

one_of_law : {A : Type 0} (f : A → Bool) (xs : List A) → all f xs ≡ true → (a : A) → OneOf a xs → f a ≡ true
one_of_law f [] t a o = absurd o
one_of_law f (x ∷ xs) t a (inl e) = ap f e ∙ (both_true (f x) (all f xs) t).0
one_of_law f (x ∷ xs) t a (inr o) = one_of_law f xs (both_true (f x) (all f xs) t).1 a o

-- what mbc::fresh and the test of lengths ask of a description
record Taken (k banks code length : ℕ) : Type 0 where
  kind : mbc.known k ≡ true
  described : mbc.described (mbc.cartridge_of banks code) (mbc.start k) ≡ true
  ram : length ≡ mbc.ram_len (mbc.cartridge_of banks code) (mbc.start k)

-- the same as a test of a mapper, an N, and a code with its length
abbrev takes : ℕ → ℕ → ℕ × ℕ → Bool
takes kind banks r =
    mbc.known kind
    && (mbc.described (mbc.cartridge_of banks r.0) (mbc.start kind)
    && eqb r.1 (mbc.ram_len (mbc.cartridge_of banks r.0) (mbc.start kind)))

-- which is computed for each N with each code that a mapper has
row : (kind : ℕ) (ns : List ℕ) (rs : List (ℕ × ℕ)) → all (λ (n : ℕ). all (takes kind n) rs) ns ≡ true
    → (banks code ram : ℕ) → OneOf banks ns → OneOf (code, ram) rs → Taken kind banks code ram
row kind ns rs t banks code ram n r =
    let both = both_true _ _ (one_of_law (takes kind banks) rs (one_of_law (λ (n : ℕ). all (takes kind n) rs) ns t banks n) (code, ram) r) in
    let rest = both_true _ _ both.1 in
    record { kind = both.0; described = rest.0; ram = eqb-true _ _ rest.1 }

taken : {kind banks code ram : ℕ} → Described kind banks code ram → Taken kind banks code ram
unfolding mbc.described mbc.start mbc.has_banks mbc.has_code mbc.ram_banks mbc.ram_len
taken (rom_only r) = row 0 (2 ∷ []) rams refl _ _ _ (inl refl) r
taken (mbc1 n r) = row 1 to128 rams refl _ _ _ n r
taken (mbc2 n) = row 2 to16 ((0, 512) ∷ []) refl _ _ _ n (inl refl)
taken (mbc5 n r) = row 3 to512 rams_with4 refl _ _ _ n r

-- The other way: of the N and the codes that the tests know, those up to a mapper's most are the ones that documents 01 and 02 name

abbrev up_to : ℕ → List ℕ → List ℕ
up_to most [] = []
up_to most (x ∷ xs) = cond (leb x most) (x ∷ up_to most xs) (up_to most xs)

listed : (most : ℕ) (xs : List ℕ) (n : ℕ) → leb n most ≡ true → mbc.one_of xs n ≡ true → OneOf n (up_to most xs)
listed most [] n t o = untrue o
listed most (x ∷ xs) n t o =
    ⊎_elim
    (λ h.
    let e = eqb-true n x h in
    subst (λ (l : List ℕ). OneOf n l) (sym (cond_true (leb x most) _ _ (ap (λ (k : ℕ). leb k most) (sym e) ∙ t))) (inl e))
    (λ h. cond_both (λ (l : List ℕ). OneOf n l) (leb x most) (inr (listed most xs n t h)) (listed most xs n t h))
    (or_cases (eqb n x) (mbc.one_of xs n) o)

of_banks : (most : ℕ) (c : Cartridge) → mbc.has_banks most c ≡ true → OneOf c.banks (up_to most mbc.powers)
unfolding mbc.has_banks
of_banks most c h = let b = both_true _ _ h in listed most mbc.powers c.banks b.0 b.1

-- a code with its length
abbrev pairs : (ℕ → ℕ) → List ℕ → List (ℕ × ℕ)
pairs f [] = []
pairs f (x ∷ xs) = (x, f x) ∷ pairs f xs

paired : (f : ℕ → ℕ) (xs : List ℕ) (n : ℕ) → OneOf n xs → OneOf (n, f n) (pairs f xs)
paired f [] n o = absurd o
paired f (x ∷ xs) n (inl e) = inl (ap (λ (k : ℕ). (k, f k)) e)
paired f (x ∷ xs) n (inr o) = inr (paired f xs n o)

of_code : (most : ℕ) (c : Cartridge) (f : ℕ → ℕ) → mbc.has_code most c ≡ true → OneOf (c.code, f c.code) (pairs f (up_to most codes))
unfolding mbc.has_code
of_code most c f h = let b = both_true _ _ h in paired f (up_to most codes) c.code (listed most codes c.code b.0 b.1)

there : (kind banks code : ℕ) → mbc.known kind ≡ true → mbc.described (mbc.cartridge_of banks code) (mbc.start kind) ≡ true
    → Described kind banks code (mbc.ram_len (mbc.cartridge_of banks code) (mbc.start kind))
unfolding mbc.described mbc.start mbc.ram_banks mbc.ram_len
there zero banks code k d =
    let c = mbc.cartridge_of banks code in
    let b = both_true (mbc.has_banks 2 c) (mbc.has_code 3 c) d in
    let ram : ℕ → ℕ = λ n. mbc.ram_banks n * 0x2000 in
    ⊎_elim (λ e. subst (λ (n : ℕ). Described 0 n code (ram code)) (sym e) (rom_only (of_code 3 c ram b.1))) (λ o. absurd o) (of_banks 2 c b.0)
there (suc zero) banks code k d =
    let c = mbc.cartridge_of banks code in
    let b = both_true (mbc.has_banks 128 c) (mbc.has_code 3 c) d in
    mbc1 (of_banks 128 c b.0) (of_code 3 c (λ n. mbc.ram_banks n * 0x2000) b.1)
there (suc (suc zero)) banks code k d =
    let c = mbc.cartridge_of banks code in
    let b = both_true (mbc.has_banks 16 c) (eqb code 0) d in
    subst (λ (n : ℕ). Described 2 banks n 512) (sym (eqb-true code 0 b.1)) (mbc2 (of_banks 16 c b.0))
there (suc (suc (suc zero))) banks code k d =
    let c = mbc.cartridge_of banks code in
    let b = both_true (mbc.has_banks 512 c) (mbc.has_code 4 c) d in
    mbc5 (of_banks 512 c b.0) (of_code 4 c (λ n. mbc.ram_banks n * 0x2000) b.1)
there (suc (suc (suc (suc kind)))) banks code k d = let t = leb-true (suc (suc (suc (suc kind)))) 3 k in absurd (omega arith)

-- The number, by the tests of the description and of the lengths

abbrev known : Lent → Bool
known l = mbc.known l.kind && mbc.described (mbc.cartridge_of l.banks l.code) (mbc.start l.kind)

abbrev sized : Lent → Bool
sized l =
    lengths_are l.colour (mbc.cartridge_of l.banks l.code) (mbc.start l.kind) (length l.rom) (length l.vram) (length l.wram)
    (length l.image) (length l.sound)

abbrev long : Lent → Bool
long l = sized l && leb (length l.log) 65535

fresh_accepted : (kind banks code : ℕ) → mbc.known kind ≡ true → mbc.described (mbc.cartridge_of banks code) (mbc.start kind) ≡ true
    → mbc.fresh kind banks code ≡ record { number = 0; cartridge = mbc.cartridge_of banks code; mapper = mbc.start kind }
unfolding mbc.fresh
fresh_accepted kind banks code k d = rw (k, d)

fresh_none : (l : Lent) → known l ≡ false → (mbc.fresh l.kind l.banks l.code).number ≡ 3
unfolding mbc.fresh
fresh_none l e = ap (λ (f : Fresh). f.number) (cond_false (known l) _ _ e)

by_lengths : (a b : Bool) (m : Memory) (v w : List ℕ)
    → (beginning (or_else 0 (or_else (cond a 0 4) (cond b 0 4))) m v w).number ≡ cond (a && b) 0 4
unfolding beginning or_else
by_lengths true true m v w = refl
by_lengths true false m v w = refl
by_lengths false b m v w = refl

accepted : (l : Lent) → known l ≡ true → (start l).number ≡ cond (long l) 0 4
unfolding fresh_refused lent_refused lengths_refused lengths_fit log_refused startedWith
accepted l t =
    let b = both_true _ _ t in
    rw (fresh_accepted l.kind l.banks l.code b.0 b.1)
    (by_lengths (sized l) (leb (length l.log) 65535) (startedWith (mbc.cartridge_of l.banks l.code) (mbc.start l.kind) l.colour)
    l.vram l.wram)

refused : (l : Lent) → known l ≡ false → (start l).number ≡ 3
unfolding beginning fresh_refused or_else
refused l e = rw (fresh_none l e)

-- what the tests say
fitting : (l : Lent) → known l ≡ true → long l ≡ true → Fitting l
fitting l t h =
    let k = both_true _ _ t in
    let b = both_true _ _ h in
    let rom = both_true _ _ b.0 in
    let vram = both_true _ _ rom.1 in
    let wram = both_true _ _ vram.1 in
    let last = both_true _ _ wram.1 in
    record {
      described =
          subst (λ (n : ℕ). Described l.kind l.banks l.code n) (sym (eqb-true _ _ last.0))
          (there l.kind l.banks l.code k.0 k.1);
      rom = eqb-true _ _ rom.0;
      vram = eqb-true _ _ vram.0;
      wram = eqb-true _ _ wram.0;
      log = leb-true _ _ b.1;
      sound = eqb-true _ _ last.1;
    }

known_by : (l : Lent) (ram : ℕ) → Described l.kind l.banks l.code ram → known l ≡ true
known_by l ram d = let t = taken d in rw (t.kind, t.described)

pub begins : Begins
begins l =
    record {
      fits = λ f.
          let t = taken f.described in
          let tests : long l ≡ true =
          rw (
            eq-eqb _ _ f.rom,
            eq-eqb _ _ f.vram,
            eq-eqb _ _ f.wram,
            eq-eqb _ _ t.ram,
            eq-eqb _ _ f.sound,
            le-leb _ _ f.log,
          ) in
          accepted l (known_by l _ f.described) ∙ cond_true (long l) 0 4 tests;
      only = λ z.
          by_cond (λ (b : Bool). Fitting l) (known l) true false
          (λ t. fitting l t (passes (long l) 4 (omega arith) (sym (accepted l t) ∙ z)))
          (λ e. let y : ◌≡◌ {A = ℕ} 3 0 = sym (refused l e) ∙ z in absurd (omega arith));
      none = λ n.
          by_cond (λ (b : Bool). (start l).number ≡ 3) (known l) true false
          (λ t. let b = both_true _ _ t in absurd (n _ (there l.kind l.banks l.code b.0 b.1)))
          (refused l);
      other = λ ram d n.
          let t = known_by l ram d in
          accepted l t ∙ by_cond (λ (k : ℕ). k ≡ 4) (long l) 0 4 (λ h. absurd (n (fitting l t h))) (λ e. refl);
    }
