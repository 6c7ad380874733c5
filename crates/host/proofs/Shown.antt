-- What the colours' entry answers: the image may be refused, then the lent length, and two halves fill the lent bytes.
use mathlib.Core.List.{List, ◌++◌}
use mathlib.Core.Bool.{Bool, true, false}
use mathlib.Core.Path.{◌≡◌, refl, ap, sym, ◌∙◌}
use mir.Val.{bool_byte}
use Prim.Native.Nat.{ℕ}
use native.Mathlib.Omega.{arith}
use lib.ListN.{length, take}
use lib.Seq.{paste, take-paste, length-paste, take_all}
use borrow.Author.Tests.{ne_eqb}
use Rattle.entry.specs.Host.{colors_len, colors_entry}
use Rattle.image.specs.Layout.{bit, channels}
use Rattle.image.specs.Load.{stored, load_call}
use Rattle.image.specs.Load.{Loaded}

-- a flag as C has it
pub flag_byte : (b : Bool) → bool_byte b ≡ bit b
flag_byte true = refl
flag_byte false = refl

halves : (l b s : List ℕ) {m r : List ℕ} → length l ≡ 192 → length b ≡ 96 → length s ≡ 96 → m ≡ paste l 0 b (length b) → r ≡ paste m 96 s (length s)
    → r ≡ b ++ s
halves l b s {m} {r} n hb hs e f =
    let m' : m ≡ paste l 0 b 96 = e ∙ ap (λ (n : ℕ). paste l 0 b n) hb in
    let r' : r ≡ paste m 96 s 96 = f ∙ ap (λ (n : ℕ). paste m 96 s n) hs in
    let k : length m ≡ 192 = ap length m' ∙ length-paste l 0 b 96 (omega arith) (omega arith) ∙ n in
    let j : length r ≡ 192 = ap length r' ∙ length-paste m 96 s 96 (omega arith) (omega arith) ∙ k in
    let first : take 96 m ≡ b = ap (take 96) m' ∙ take-paste l 0 b 96 (omega arith) (omega arith) ∙ take_all 96 b (omega arith) in
    sym (take_all 192 r (omega arith)) ∙ ap (take 192) r' ∙ take-paste m 96 s 96 (omega arith) (omega arith)
    ∙ rw (first, take_all 96 s (omega arith))

module _ (i l : List ℕ) {d : Loaded} (e : d ≡ load_call i) where
  pub unloaded_colors : (d.number ≡ 0 → ⊥) → stored d.number l ≡ colors_entry i l
  unfolding colors_entry
  unloaded_colors h = rw (← e, ne_eqb d.number 0 h)

  module _ (z : d.number ≡ 0) where
    pub other_length : (length l ≡ colors_len → ⊥) → stored 4 l ≡ colors_entry i l
    unfolding colors_entry
    other_length h = rw (← e, z, ne_eqb (length l) colors_len h)

    pub all_colors : length l ≡ colors_len → {b s m r : List ℕ} → b ≡ channels d.state.background → s ≡ channels d.state.sprites → length b ≡ 96
        → length s ≡ 96 → m ≡ paste l 0 b (length b) → r ≡ paste m 96 s (length s) → stored 0 r ≡ colors_entry i l
    unfolding colors_entry
    all_colors n {b} {s} {m} {r} eb es hb hs f g =
        let h : r ≡ b ++ s = halves l b s n hb hs f g in
        rw (← e, z, n, ← eb, ← es, h)
