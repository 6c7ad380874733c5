-- Pieces of text, in ASCII, and how they stand in a buffer.
use Rattle.std.specs.Prelude.{cond, List, [], ◌∷◌, ◌++◌, ◌≡◌, ℕ, zero, suc, ◌+◌, ◌/◌, ◌%◌, ◌≤◌, ltb, eqb, length, take, drop}
use Rattle.lines.specs.Text.{hex_digit, byte_text, index_text}

-- The buffer `o` with the text `t` put at `at`: the text ends at `end`, and every other byte is as it was.
pub record Put (o : List ℕ) (at : ℕ) (t : List ℕ) (o' : List ℕ) (end : ℕ) : Type 0 where
  pub fits : at + length t ≤ length o
  pub ends : end ≡ at + length t
  pub bytes : o' ≡ take at o ++ (t ++ drop end o)

-- the texts of bytes, one after the other
unfoldable pub texts : (ℕ → List ℕ) → List ℕ → List ℕ
texts f [] = []
texts f (b ∷ bs) = f b ++ texts f bs

-- the texts of n things from number `from` on, one after the other
unfoldable pub numbered : (ℕ → List ℕ) → ℕ → ℕ → List ℕ
numbered f from zero = []
numbered f from (suc n) = numbered f from n ++ f (from + n)

-- a number in decimal, of so many digits at most
unfoldable pub decimal_within : ℕ → ℕ → List ℕ
decimal_within zero n = []
decimal_within (suc k) n = cond (ltb n 10) ((48 + n) ∷ []) (decimal_within k (n / 10) ++ ((48 + n % 10) ∷ []))

-- 20 digits write every number of 64 bits
abbrev pub decimal : ℕ → List ℕ
decimal n = decimal_within 20 n

-- a number and what it counts, with an `s` unless it is 1
unfoldable pub counted : ℕ → List ℕ → List ℕ
counted n noun = decimal n ++ ((32 ∷ []) ++ (noun ++ cond (eqb n 1) [] (115 ∷ [])))

-- a byte in two hex digits behind a space
abbrev pub spaced : ℕ → List ℕ
spaced b = 32 ∷ byte_text b

abbrev pub hexes : List ℕ → List ℕ
hexes s = texts spaced s

-- an address in four hex digits, from 10000 on in five
unfoldable pub address_text : ℕ → List ℕ
address_text at = cond (ltb at 65536) (index_text at) (hex_digit (at / 65536) ∷ index_text (at % 65536))

-- a byte as text: itself where ASCII prints it, 32 to 126, else a full stop
unfoldable pub shown : ℕ → ℕ
shown b = cond (ltb b 32) 46 (cond (ltb 126 b) 46 b)

abbrev pub shown_all : List ℕ → List ℕ
shown_all s = texts (λ b. shown b ∷ []) s
