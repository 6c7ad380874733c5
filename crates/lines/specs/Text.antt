-- The bytes of a line: oracle/README.md, "Lines".
use Rattle.std.specs.Prelude.{ℕ, zero, suc, ◌+◌, ◌-◌, ◌*◌, ◌/◌, ◌%◌, ◌≤◌, Bool, false, cond, ◌&&◌, List, [], ◌∷◌, ◌++◌, Option, Some, None, length, drop, ◌==◌, nat_le, nat_lt, slice_index}

-- the number of an uppercase hexadecimal digit: 0 is 48 in ASCII, A is 65; 16 for any other character
unfoldable pub digit_of : ℕ → ℕ
digit_of c =
    cond (nat_le 48 c && nat_le c 57) (c - 48)
    (cond (nat_le 65 c && nat_le c 70) (c - 55)
    16)

-- the number where the character is a digit
unfoldable pub digit_in : ℕ → Option ℕ
digit_in c = cond (nat_lt (digit_of c) 16) (Some (digit_of c)) None

-- the uppercase hexadecimal digit of a number below 16
unfoldable pub hex_digit : ℕ → ℕ
hex_digit n = cond (nat_lt n 10) (48 + n) (55 + n)

-- a byte in two of them, an index or an address in four
abbrev pub byte_text : ℕ → List ℕ
byte_text v = hex_digit (v / 16) ∷ hex_digit (v % 16) ∷ []

abbrev pub index_text : ℕ → List ℕ
index_text i = byte_text (i / 256) ++ byte_text (i % 256)

-- the byte of two digits' numbers, the more significant first
unfoldable pub byte_of : ℕ → ℕ → Option ℕ
byte_of high low = cond (nat_lt high 16 && nat_lt low 16) (Some (high * 16 + low)) None

-- n bytes have room; no field has more than 64
abbrev pub Holds : ℕ → List ℕ → Type 0
Holds n bytes = (n ≤ 64) × (n ≤ length bytes)

-- A line: "A letter, the input's bytes, the output's bytes, as uppercase hex digits (`-` for no bytes)". Between them stands a space, which is 32;
-- - is 45

-- a byte, and those that come after it; no byte ends them
abbrev pub and_then : Option ℕ → List ℕ → List ℕ
and_then (Some b) rest = b ∷ rest
and_then None rest = []

-- the bytes that a text has two digits for, at most n: up to the first two characters that are no byte
unfoldable pub bytes_in : ℕ → List ℕ → List ℕ
bytes_in zero s = []
bytes_in (suc n) s = and_then (byte_of (digit_of (slice_index s 0)) (digit_of (slice_index s 1))) (bytes_in n (drop 2 s))

-- whether a text begins with a field of n bytes
unfoldable pub is_field : ℕ → List ℕ → Bool
is_field n s = cond (n == 0) (slice_index s 0 == 45) (length (bytes_in n s) == n)

-- how many characters a field has
unfoldable pub width_of : ℕ → ℕ
width_of n = cond (n == 0) 1 (n * 2)

-- bytes put at a buffer's start
abbrev pub puts : List ℕ → List ℕ → List ℕ
puts bytes buffer = bytes ++ drop (length bytes) buffer

-- whether a line has the form, and both buffers
pub record Parsed : Type 0 where
  pub right : Bool
  pub given : List ℕ
  pub answer : List ℕ

abbrev pub parsed : Bool → List ℕ → List ℕ → Parsed
parsed right given answer = record { right = right; given = given; answer = answer }

-- the input's field, and where it is one the answer's: what was read of them is put
unfoldable pub all_fields_in : ℕ → ℕ → List ℕ → List ℕ → List ℕ → List ℕ → Parsed
all_fields_in takes gives first second given answer =
    cond (is_field takes first)
    (parsed (is_field gives second) (puts (bytes_in takes first) given) (puts (bytes_in gives second) answer))
    (parsed false (puts (bytes_in takes first) given) answer)

-- a line whose input has `takes` bytes and its answer `gives`; of another length, or without its spaces, it leaves the buffers
unfoldable pub line_of : ℕ → ℕ → List ℕ → List ℕ → List ℕ → Parsed
line_of takes gives s given answer =
    cond (length s == 2 + width_of takes + 1 + width_of gives)
    (cond (slice_index s 1 == 32)
    (cond (slice_index s (2 + width_of takes) == 32)
    (all_fields_in takes gives (drop 2 s) (drop (2 + width_of takes + 1) s) given answer)
    (parsed false given answer))
    (parsed false given answer))
    (parsed false given answer)
