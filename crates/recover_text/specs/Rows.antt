-- The rows that recovery changed, in hex.
use Rattle.std.specs.Prelude.{Bool, true, false, cond, ◌&&◌, List, [], ◌∷◌, ◌++◌, ◌≡◌, ℕ, ◌+◌, ◌-◌, ◌*◌, ◌/◌, ◌≤◌, ◌<◌, eqb, length, take, drop}
use Rattle.recover_text.specs.Text.{Put, numbered, address_text, hexes, shown_all}
use Rattle.recover_text.specs.declared.parts.Part.{Part}

abbrev pub row_bytes : ℕ
row_bytes = 16

-- row k of a save, and how many there are
abbrev pub row : ℕ → List ℕ → List ℕ
row k s = take row_bytes (drop (k * row_bytes) s)

abbrev pub row_count : List ℕ → ℕ
row_count s = length s / row_bytes

-- what is shown of row k of two saves, where f says it of a row's address, and of the row before and now
abbrev pub by_row : (ℕ → List ℕ → List ℕ → List ℕ) → List ℕ → List ℕ → ℕ → List ℕ
by_row f old new k = f (k * row_bytes) (row k old) (row k new)

-- `- 0010  4C 55 ..  LU..`: a sign, the address, the bytes in hex and as text
abbrev pub head : ℕ → ℕ → List ℕ
head sign at = sign ∷ 32 ∷ (address_text at ++ (32 ∷ []))

abbrev pub row_line : ℕ → ℕ → List ℕ → List ℕ
row_line sign at bytes = head sign at ++ (hexes bytes ++ ((32 ∷ 32 ∷ []) ++ (shown_all bytes ++ (10 ∷ []))))

-- whether two lists have the same bytes
unfoldable pub same_bytes : List ℕ → List ℕ → Bool
same_bytes [] [] = true
same_bytes [] (y ∷ ys) = false
same_bytes (x ∷ xs) [] = false
same_bytes (x ∷ xs) (y ∷ ys) = eqb x y && same_bytes xs ys

-- nothing of a row that did not change; else its line before, after `-`, and its line now, after `+`
unfoldable pub changed_lines : ℕ → List ℕ → List ℕ → List ℕ
changed_lines at old new = cond (same_bytes old new) [] (row_line 45 at old ++ row_line 43 at new)

abbrev pub row_lines : List ℕ → List ℕ → ℕ → List ℕ
row_lines old new k = changed_lines (k * row_bytes) (row k old) (row k new)

-- where the addresses that are shown end
abbrev pub address_limit : ℕ
address_limit = 131072

-- two lines of 75 bytes at most
abbrev pub row_room : ℕ
row_room = 150

-- Two saves of the same length, whole rows, whose addresses have five digits at most, and a row to begin with.
pub record Rows (old new : List ℕ) (from : ℕ) : Type 0 where
  pub same : length old ≡ length new
  pub short : length old ≤ address_limit
  pub whole : length old ≡ row_count old * row_bytes
  pub inside : from ≤ row_count old

-- What was put of the rows from `from` on, where `lines` is a row's text and `room` the most bytes that it has: the text of the rows up to `next`, in their order,
-- and nothing else; it stops at the last row, or where there is no room for one row more.
pub record Shows (lines : List ℕ → List ℕ → ℕ → List ℕ) (room : ℕ) (old new : List ℕ) (from : ℕ) (o o' : List ℕ) (part : Part) : Type 0 where
  pub onward : from ≤ part.next
  pub within : part.next ≤ row_count old
  pub text : Put o 0 (numbered (lines old new) from (part.next - from)) o' part.len
  pub full : part.len + room ≤ length o → part.next ≡ row_count old
  pub moves : room ≤ length o → from < row_count old → from < part.next

-- parts one after the other are the whole
abbrev pub PartsLaw : Type 0
PartsLaw = (f : ℕ → List ℕ) (from n m : ℕ) → numbered f from (n + m) ≡ numbered f from n ++ numbered f (from + n) m

-- the rows of whole rows are all of a save
abbrev pub RowsLaw : Type 0
RowsLaw = (s : List ℕ) → length s ≡ row_count s * row_bytes → numbered (λ k. row k s) 0 (row_count s) ≡ s
