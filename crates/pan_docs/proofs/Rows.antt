-- Rows that follow one another: an index from the first address to before the end lies in one of them, and in no other.
use mathlib.Core.Bool.{Bool, true, false, cond, ◌&&◌}
use mathlib.Core.List.{List, [], ◌∷◌}
use mathlib.Core.Path.{◌≡◌, refl, ap, ◌∙◌}
use Prim.Native.Nat.{ℕ, suc, ◌<◌, ◌≤◌}
use native.Mathlib.Omega.{arith}
use lib.Dec.{eqb, leb}
use borrow.Author.Tests.{leb-true, leb-false, eqb-true, le-leb, lt-leb}
use Rattle.rules.proofs.Tests.{both_true}
use Rattle.pan_docs.specs.Rows.{Row, within, rows_at, Only}

-- each row begins where the one before it ended
abbrev pub follow : {A : Type 0} → ℕ → List (Row A) → ℕ → Bool
follow a [] end = eqb a end
follow a (r ∷ rs) end = eqb r.first a && (leb a r.last && follow (suc r.last) rs end)

-- within each row, what it says
abbrev pub Each : {A : Type 0} → (A → Type 0) → ℕ → List (Row A) → Type 0
Each P i [] = Unit
Each P i (r ∷ rs) = (r.first ≤ i → i ≤ r.last → P r.what) × Each P i rs

ends : {A : Type 0} (rs : List (Row A)) (a end : ℕ) → follow a rs end ≡ true → a ≤ end
ends [] a end e = omega (arith, eqb-true a end e)
ends (r ∷ rs) a end e =
    let p = both_true (eqb r.first a) _ e in
    let q = both_true (leb a r.last) _ p.1 in
    let l = leb-true a r.last q.0 in
    let b = ends rs (suc r.last) end q.1 in
    omega arith

module _ {A : Type 0} (i : ℕ) where
  within_row : (r : Row A) → r.first ≤ i → i ≤ r.last → within i r ≡ true
  within_row r h k = rw (le-leb r.first i h, le-leb i r.last k)

  past_row : (r : Row A) → r.first ≤ i → r.last < i → within i r ≡ false
  past_row r h k = rw (le-leb r.first i h, lt-leb i r.last k)

  before_row : (r : Row A) → i < r.first → within i r ≡ false
  before_row r h = rw (lt-leb r.first i h)

  none : (rs : List (Row A)) (a end : ℕ) → follow a rs end ≡ true → i < a → rows_at rs i ≡ []
  unfolding rows_at
  none [] a end e h = refl
  none (r ∷ rs) a end e h =
      let p = both_true (eqb r.first a) _ e in
      let q = both_true (leb a r.last) _ p.1 in
      let f = eqb-true r.first a p.0 in
      let l = leb-true a r.last q.0 in
      ap (λ (t : Bool). cond t (r ∷ rows_at rs i) (rows_at rs i)) (before_row r (omega arith)) ∙ none rs (suc r.last) end q.1 (omega arith)

  here_or_later : (P : A → Type 0) (r : Row A) (rs : List (Row A)) (end : ℕ) → follow (suc r.last) rs end ≡ true → r.first ≤ i
      → (i ≤ r.last → P r.what)
      → (r.last < i → Only rs i P)
      → (b : Bool) → leb i r.last ≡ b → Only (r ∷ rs) i P
  unfolding rows_at
  here_or_later P r rs end o f here later true t =
      let k = leb-true i r.last t in
      record {
        of = r;
        alone =
            ap (λ (b : Bool). cond b (r ∷ rows_at rs i) (rows_at rs i)) (within_row r f k)
            ∙ ap (λ (l : List (Row A)). r ∷ l) (none rs (suc r.last) end o (omega arith));
        holds = here k;
      }
  here_or_later P r rs end o f here later false t =
      let k = leb-false i r.last t in
      let n = later k in
      record {
        of = n.of;
        alone = ap (λ (b : Bool). cond b (r ∷ rows_at rs i) (rows_at rs i)) (past_row r f k) ∙ n.alone;
        holds = n.holds;
      }

  pub only : (P : A → Type 0) (rs : List (Row A)) (a end : ℕ) → follow a rs end ≡ true → a ≤ i → i < end → Each P i rs → Only rs i P
  only P [] a end e h l x = absurd (omega (arith, eqb-true a end e))
  only P (r ∷ rs) a end e h l x =
      let p = both_true (eqb r.first a) _ e in
      let q = both_true (leb a r.last) _ p.1 in
      let f = eqb-true r.first a p.0 in
      here_or_later P r rs end q.1 (omega arith) (x.0 (omega arith))
      (λ k. only P rs (suc r.last) end q.1 k l x.1) (leb i r.last) refl

  -- and past the end in none
  pub none_past : (rs : List (Row A)) (a end : ℕ) → follow a rs end ≡ true → end ≤ i → rows_at rs i ≡ []
  unfolding rows_at
  none_past [] a end e h = refl
  none_past (r ∷ rs) a end e h =
      let p = both_true (eqb r.first a) _ e in
      let q = both_true (leb a r.last) _ p.1 in
      let f = eqb-true r.first a p.0 in
      let l = leb-true a r.last q.0 in
      let b = ends rs (suc r.last) end q.1 in
      ap (λ (t : Bool). cond t (r ∷ rows_at rs i) (rows_at rs i)) (past_row r (omega arith) (omega arith))
      ∙ none_past rs (suc r.last) end q.1 h
