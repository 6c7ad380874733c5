-- The rows that recovery changed, to be heard.
use Rattle.std.specs.Prelude.{Bool, true, false, cond, not, List, [], ◌∷◌, ◌++◌, ◌≡◌, ℕ, ◌+◌, ◌*◌, ltb, eqb, length, get_or}
use Rattle.lines.specs.Text.{byte_text}
use Rattle.recover_text.specs.Text.{numbered, address_text}
use Rattle.recover_text.specs.Rows.{row_bytes, row, same_bytes}

-- a character of a word: 33 to 126
unfoldable pub in_word : ℕ → Bool
in_word b = cond (ltb b 33) false (ltb b 127)

-- Where a byte of a row stands: 0 before the first word, 1 in a word, 2 behind one. What is said of it there, and where the next byte stands.
unfoldable pub step_text : ℕ → ℕ → List ℕ
step_text place b = cond (in_word b) (cond (eqb place 2) (32 ∷ b ∷ []) (b ∷ [])) []

unfoldable pub step_place : ℕ → ℕ → ℕ
step_place place b = cond (in_word b) 1 (cond (eqb place 0) 0 2)

-- a row's text: its words, with one space between two
unfoldable pub words : ℕ → List ℕ → List ℕ
words place [] = []
words place (b ∷ bs) = step_text place b ++ words (step_place place b) bs

abbrev pub said : List ℕ → List ℕ
said bytes = words 0 bytes

-- "nothing", " becomes "
abbrev pub nothing : List ℕ
nothing = 110 ∷ 111 ∷ 116 ∷ 104 ∷ 105 ∷ 110 ∷ 103 ∷ []

abbrev pub becomes : List ℕ
becomes = 32 ∷ 98 ∷ 101 ∷ 99 ∷ 111 ∷ 109 ∷ 101 ∷ 115 ∷ 32 ∷ []

unfoldable pub or_nothing : List ℕ → List ℕ
or_nothing [] = nothing
or_nothing (b ∷ bs) = b ∷ bs

-- an address and a colon
abbrev pub place : ℕ → List ℕ
place at = address_text at ++ (58 ∷ 32 ∷ [])

-- `0010: LUNA becomes STELLA`
abbrev pub text_line : ℕ → List ℕ → List ℕ → List ℕ
text_line at old new = place at ++ (or_nothing old ++ (becomes ++ (or_nothing new ++ (10 ∷ []))))

-- `001A: 07 becomes 09`
abbrev pub byte_line : ℕ → ℕ → ℕ → List ℕ
byte_line at old new = place at ++ (byte_text old ++ (becomes ++ (byte_text new ++ (10 ∷ []))))

-- a byte that changed has a line of its own: every one, or only where neither value is a character of a word
unfoldable pub tells : Bool → ℕ → ℕ → Bool
tells every old new = cond (eqb old new) false (cond every true (cond (in_word old) false (not (in_word new))))

unfoldable pub byte_heard : Bool → ℕ → ℕ → ℕ → List ℕ
byte_heard every at old new = cond (tells every old new) (byte_line at old new) []

abbrev pub byte_lines : Bool → ℕ → List ℕ → List ℕ → List ℕ
byte_lines every at old new = numbered (λ i. byte_heard every (at + i) (get_or old i 0) (get_or new i 0)) 0 row_bytes

-- Where a row's text changed, a line says so, and its other bytes have lines; where it did not, every byte that changed has one. So a row that changed is heard.
unfoldable pub heard : ℕ → List ℕ → List ℕ → List ℕ
heard at old new =
    cond (same_bytes (said old) (said new))
    (byte_lines true at old new)
    (text_line at (said old) (said new) ++ byte_lines false at old new)

abbrev pub row_heard : List ℕ → List ℕ → ℕ → List ℕ
row_heard old new k = heard (k * row_bytes) (row k old) (row k new)

-- a line of text, of 81 bytes at most, and 16 of 21
abbrev pub heard_room : ℕ
heard_room = 417

-- a row that changed is heard, and no other; which of two changes it was the words need not tell
abbrev pub HeardLaw : Type 0
HeardLaw =
    (at : ℕ) (old new : List ℕ)
    → length old ≡ row_bytes
    → length new ≡ row_bytes
    → (heard at old new ≡ [] → old ≡ new)
    × (old ≡ new → heard at old new ≡ [])
