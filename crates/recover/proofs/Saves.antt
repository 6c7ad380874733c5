-- A save's length is that of whole rows, whose addresses have five digits at most. And how long a report is, part by part.
use mathlib.Core.Bool.{Bool, true, false, ◌||◌}
use mathlib.Core.Path.{◌≡◌, refl, ap, sym, subst, ◌∙◌}
use mathlib.Core.List.{List, [], ◌∷◌, ◌++◌}
use Prim.Native.Nat.{ℕ, ◌+◌, ◌-◌, ◌*◌, ◌/◌, ◌≤◌}
use native.Mathlib.Omega.{arith}
use lib.Dec.{eqb}
use lib.ListN.{length, length-append}
use borrow.Author.Tests.{eqb-true}
use Rattle.rules.proofs.Tests.{untrue}
use Rattle.savelog.specs.Log.{save_limit, save_lengths, one_of}
use Rattle.recover_text.specs.Text.{numbered}
use Rattle.recover_text.specs.Rows.{row_bytes, Rows}
use Rattle.recover_text.proofs.Heard.{parts}

one_case : (P : ℕ → Type 0) (n k : ℕ) (ks : List ℕ) → P k → (one_of n ks ≡ true → P n) → one_of n (k ∷ ks) ≡ true → P n
unfolding one_of
one_case P n k ks p more e = pick (eqb n k) refl e
  where
    pick : (b : Bool) → eqb n k ≡ b → (b || one_of n ks) ≡ true → P n
    pick true q h = subst P (sym (eqb-true n k q)) p
    pick false q h = more h

abbrev WholeRows : ℕ → Type 0
WholeRows n = (n ≡ n / row_bytes * row_bytes) × (n ≤ save_limit)

pub save_rows : (n : ℕ) → one_of n save_lengths ≡ true → WholeRows n
unfolding save_lengths one_of
save_rows n e =
    one_case WholeRows n 0 (512 ∷ 8192 ∷ 32768 ∷ save_limit ∷ []) (refl, omega arith)
    (one_case WholeRows n 512 (8192 ∷ 32768 ∷ save_limit ∷ []) (refl, omega arith)
    (one_case WholeRows n 8192 (32768 ∷ save_limit ∷ []) (refl, omega arith)
    (one_case WholeRows n 32768 (save_limit ∷ []) (refl, omega arith) (one_case WholeRows n save_limit [] (refl, omega arith) (λ h. untrue h)))))
    e

pub rows_of : (old new : List ℕ) → one_of (length old) save_lengths ≡ true → length new ≡ length old → Rows old new 0
rows_of old new e l =
    let w = save_rows (length old) e in
    record { same = sym l; short = omega (arith, w.1); whole = w.0; inside = omega arith }

-- a report in parts: one more, and how long it is at most
module _ (f : ℕ → List ℕ) (from next : ℕ) (h : from ≤ next) where
  joined : numbered f 0 next ≡ numbered f 0 from ++ numbered f from (next - from)
  joined =
      let e : next ≡ from + (next - from) = omega arith in
      let z : 0 + from ≡ from = omega arith in
      ap (numbered f 0) e ∙ parts f 0 from (next - from) ∙ rw z

  pub printed_more : (len n : ℕ) → len ≡ length (numbered f 0 from) → n ≡ 0 + length (numbered f from (next - from)) → len + n ≡ length (numbered f 0 next)
  printed_more len n a b = rw (joined, length-append (numbered f 0 from) (numbered f from (next - from))) (omega arith)
