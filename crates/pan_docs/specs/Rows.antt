-- A table of Pan Docs: rows of a first and a last address, with what stands there.
use Rattle.std.specs.Prelude.{Bool, cond, ◌&&◌, List, [], ◌∷◌, ◌≡◌, ℕ, leb}

pub record Row (A : Type 0) : Type 0 where
  pub first : ℕ
  pub last : ℕ
  pub what : A

abbrev pub row : {A : Type 0} → ℕ → ℕ → A → Row A
row a b x = record { first = a; last = b; what = x }

abbrev pub within : {A : Type 0} → ℕ → Row A → Bool
within index r = leb r.first index && leb index r.last

-- the rows of a table in which an index lies
unfoldable pub rows_at : {A : Type 0} → List (Row A) → ℕ → List (Row A)
rows_at [] index = []
rows_at (r ∷ rs) index = cond (within index r) (r ∷ rows_at rs index) (rows_at rs index)

-- an index lies in one row and in no other, and of what stands there P holds
pub record Only {A : Type 0} (rows : List (Row A)) (index : ℕ) (P : A → Type 0) : Type 0 where
  pub of : Row A
  pub alone : rows_at rows index ≡ of ∷ []
  pub holds : P of.what

-- A write to the registers in whose rows an index lies, each of which does f; and some writes, each an index and a value

abbrev pub wrote_in : {A S : Type 0} → (A → S → ℕ → S) → List (Row A) → S → ℕ → S
wrote_in f [] s v = s
wrote_in f (r ∷ rs) s v = wrote_in f rs (f r.what s v) v

abbrev pub wrote_all : {A S : Type 0} → (A → S → ℕ → S) → List (Row A) → S → List (ℕ × ℕ) → S
wrote_all f rows s [] = s
wrote_all f rows s (w ∷ ws) = wrote_all f rows (wrote_in f (rows_at rows w.0) s w.1) ws
