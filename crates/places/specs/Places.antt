-- A field of a row of bytes by its place: how many bits stand before it, and its width; most significant bit first.
use Rattle.std.specs.Prelude.{List, [], ◌∷◌, ℕ, ◌+◌, ◌-◌, ◌*◌, ◌/◌, ◌%◌, ◌^◌, ◌<◌, ◌≤◌, length, take, get_or, set}
use Rattle.packing.specs.Packing.{bits, packed, unpacked, eights}

-- the number that bytes make
unfoldable pub number : List ℕ → ℕ
number l = packed (eights (length l)) l

-- how many bits of l stand behind
abbrev pub behind : List ℕ → ℕ → ℕ → ℕ
behind l bit width = 8 * length l - (bit + width)

unfoldable pub field_at : List ℕ → ℕ → ℕ → ℕ
field_at l bit width = number l / 2 ^ behind l bit width % 2 ^ width

-- the fields of these widths from `bit` on
abbrev pub fields_from : List ℕ → ℕ → List ℕ → List ℕ
fields_from l bit [] = []
fields_from l bit (w ∷ ws) = field_at l bit w ∷ fields_from l (bit + w) ws

-- a number with the w bits above the b lowest replaced by v
unfoldable pub replaced : ℕ → ℕ → ℕ → ℕ → ℕ
replaced n b w v = (n / 2 ^ (w + b) * 2 ^ w + v) * 2 ^ b + n % 2 ^ b

-- the bytes with the field replaced
unfoldable pub put_at : List ℕ → ℕ → ℕ → ℕ → List ℕ
put_at l bit width v = unpacked (eights (length l)) (replaced (number l) (behind l bit width) width v)

-- Fields of a layout `ws` that begins at `bit`, each by its number there and its value: put one after the other; that each is within its width; and
-- what is then in the list of the fields

abbrev pub put_fields : ℕ → List ℕ → List (ℕ × ℕ) → List ℕ → List ℕ
put_fields bit ws [] l = l
put_fields bit ws (p ∷ ps) l = put_fields bit ws ps (put_at l (bit + bits (take p.0 ws)) (get_or ws p.0 0) p.1)

abbrev pub FitAll : List ℕ → List (ℕ × ℕ) → Type 0
FitAll ws [] = 0 < 1
FitAll ws (p ∷ ps) = (p.1 < 2 ^ get_or ws p.0 0) × FitAll ws ps

abbrev pub set_all : List (ℕ × ℕ) → List ℕ → List ℕ
set_all [] fs = fs
set_all (p ∷ ps) fs = set_all ps (set fs p.0 p.1)

-- Where the code takes a field: `least` bits must stand up to its end. (The last test holds its sums within their type.)
abbrev pub Within : ℕ → List ℕ → ℕ → ℕ → Type 0
Within least l bit width = (least ≤ bit + width) × ((bit + width ≤ 8 * length l) × (bit + width < 65536))
