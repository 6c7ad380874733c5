-- The lines of the bus walk: document 01, "Corners that decide", the last paragraph. Characters by their ASCII codes:
-- R 82, W 87, T 84, ? 63, space 32, line feed 10, the digit 0 48.
use Rattle.std.specs.Prelude.{cond, List, [], ◌∷◌, ◌++◌, Option, Some, None, ◌≡◌, ℕ, ◌+◌, ◌*◌, ◌≤◌, eqb, leb, ltb, length, take, drop, get_or}
use Rattle.lines.specs.Text.{digit_of, byte_text, index_text}
use Rattle.commands.specs.declared.bytes.Bytes.{Bytes}
use Rattle.commands.specs.declared.command.Command.{Command}
use Rattle.commands.specs.declared.command.Command.TheVariants.{Read, Write, Update}

-- What a line asks for

-- the number that characters write in a base, the most significant digit first, after digits that wrote n;
-- None where one is no digit of the base, and where the number is above the limit
unfoldable pub number_from : ℕ → ℕ → ℕ → List ℕ → Option ℕ
number_from base limit n [] = Some n
number_from base limit n (c ∷ s) =
    cond (ltb (digit_of c) base)
    (cond (leb (n * base + digit_of c) limit) (number_from base limit (n * base + digit_of c) s) None)
    None

-- a number within the limit, if there is one
abbrev pub Within : ℕ → Option ℕ → Type 0
Within limit (Some n) = n ≤ limit
Within limit None = Unit {0}

-- an index of four hexadecimal digits, a value of two, cycles of decimal digits up to 4,294,967,295
abbrev pub index_in : List ℕ → Option ℕ
index_in s = number_from 16 65535 0 (take 4 (drop 2 s))

abbrev pub value_in : List ℕ → Option ℕ
value_in s = number_from 16 255 0 (take 2 (drop 7 s))

abbrev pub cycles_in : List ℕ → Option ℕ
cycles_in s = number_from 10 4294967295 0 (drop 2 s)

abbrev pub read_of : Option ℕ → Option Command
read_of (Some i) = Some (Read i)
read_of None = None

abbrev pub write_of : Option ℕ → Option ℕ → Option Command
write_of (Some i) (Some v) = Some (Write i v)
write_of (Some i) None = None
write_of None v = None

abbrev pub update_of : Option ℕ → Option Command
update_of (Some c) = Some (Update c)
update_of None = None

-- R index: six characters
unfoldable pub read_line : List ℕ → Option Command
read_line s = cond (eqb (length s) 6) (read_of (index_in s)) None

-- W index value: nine characters, a space between the two
unfoldable pub write_line : List ℕ → Option Command
write_line s = cond (eqb (length s) 9) (cond (eqb (get_or s 6 0) 32) (write_of (index_in s) (value_in s)) None) None

-- T cycles: 1 to 10 digits
unfoldable pub update_line : List ℕ → Option Command
update_line s = cond (ltb (length s) 3) None (cond (ltb 12 (length s)) None (update_of (cycles_in s)))

-- the letter, and a space
unfoldable pub command_of : List ℕ → Option Command
command_of s =
    cond (eqb (get_or s 1 0) 32)
    (cond (eqb (get_or s 0 0) 82) (read_line s)
    (cond (eqb (get_or s 0 0) 87) (write_line s)
    (cond (eqb (get_or s 0 0) 84) (update_line s)
    None)))
    None

-- What is printed, with its line feed

-- letter and index, and the byte
abbrev pub read_text : ℕ → ℕ → List ℕ
read_text i v = 82 ∷ 32 ∷ (index_text i ++ (32 ∷ (byte_text v ++ (10 ∷ []))))

-- letter and index, and the call's number, which is one digit
abbrev pub write_text : ℕ → ℕ → List ℕ
write_text i n = 87 ∷ 32 ∷ (index_text i ++ (32 ∷ (48 + n) ∷ 10 ∷ []))

-- letter and number
abbrev pub update_text : ℕ → List ℕ
update_text n = 84 ∷ 32 ∷ (48 + n) ∷ 10 ∷ []

abbrev pub strange_text : List ℕ
strange_text = 63 ∷ 10 ∷ []

-- what a text holds; it has no more than its ten bytes
abbrev pub text_of : {N : ℕ} → Bytes N → List ℕ
text_of t = take t.len t.bytes

abbrev pub Shows : Bytes 10 → List ℕ → Type 0
Shows t s = (text_of t ≡ s) × (length (text_of t) ≤ 10)
