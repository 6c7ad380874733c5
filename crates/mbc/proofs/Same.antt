-- Registers compared field by field.
use mathlib.Core.Path.{◌≡◌, refl}
use mathlib.Core.Bool.{true}
use Prim.Native.Nat.{ℕ}
use lib.Dec.{eqb}
use borrow.Author.Tests.{eqb-true, eq-eqb}
use Rattle.mbc.specs.Registers.{same}
use Rattle.mbc.specs.declared.held.Registers.{Registers}
use Rattle.rules.proofs.Tests.{both_true}

pub same_fields : (r s : Registers) → r.kind ≡ s.kind → r.rom ≡ s.rom → r.ram ≡ s.ram → r.mode ≡ s.mode → r.enabled ≡ s.enabled
    → r.high ≡ s.high → same r s ≡ true
unfolding same
same_fields r s p q t u v w =
    rw (
      eq-eqb r.kind s.kind p,
      eq-eqb r.rom s.rom q,
      eq-eqb r.ram s.ram t,
      eq-eqb r.mode s.mode u,
      eq-eqb r.enabled s.enabled v,
      eq-eqb r.high s.high w,
    )

pub same_self : (r : Registers) → same r r ≡ true
same_self r = same_fields r r refl refl refl refl refl refl

numbers : (k r a o e h : ℕ) → Registers
numbers k r a o e h = record { kind = k; rom = r; ram = a; mode = o; enabled = e; high = h }

numbers_are : (k r a o e h : ℕ) (s : Registers) → k ≡ s.kind → r ≡ s.rom → a ≡ s.ram → o ≡ s.mode → e ≡ s.enabled → h ≡ s.high
    → s ≡ numbers k r a o e h
unfolding numbers
numbers_are k r a o e h s p q t u v w = rw (p, q, t, u, v, w)

pub same_is : (r s : Registers) → same r s ≡ true → s ≡ r
unfolding same numbers
same_is r s e =
    let a = both_true (eqb r.kind s.kind) _ e in
    let b = both_true (eqb r.rom s.rom) _ a.1 in
    let c = both_true (eqb r.ram s.ram) _ b.1 in
    let d = both_true (eqb r.mode s.mode) _ c.1 in
    let f = both_true (eqb r.enabled s.enabled) _ d.1 in
    numbers_are r.kind r.rom r.ram r.mode r.enabled r.high s (eqb-true _ _ a.0) (eqb-true _ _ b.0) (eqb-true _ _ c.0)
    (eqb-true _ _ d.0) (eqb-true _ _ f.0) (eqb-true _ _ f.1)
