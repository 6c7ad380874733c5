-- The lines of an input, and what a reader gives of them: "lines ended by a line feed or, unless empty, by the input's end" (document 01,
-- "Corners that decide", the last paragraph). A line feed is 10.
use Rattle.std.specs.Prelude.{◌≡◌, ℕ, ◌-◌, ◌<◌, ◌≤◌, Bool, true, false, cond, ◌⊎◌, List, [], ◌∷◌, ◌++◌, length, take, drop, ◌==◌, nat_lt}
use Rattle.lines.specs.declared.reader.Found.{Found}
use Rattle.lines.specs.declared.reader.Found.TheVariants.{Line, Long, Read, End}
use Rattle.lines.specs.declared.reader.Reader.{Reader}

-- a character that is no line feed begins the first line
abbrev pub begun : ℕ → List (List ℕ) → List (List ℕ)
begun c [] = (c ∷ []) ∷ []
begun c (line ∷ rest) = (c ∷ line) ∷ rest

-- the lines of an input
unfoldable pub lines_of : List ℕ → List (List ℕ)
lines_of [] = []
lines_of (c ∷ s) = cond (c == 10) ([] ∷ lines_of s) (begun c (lines_of s))

-- whether bytes hold a line feed
unfoldable pub fed : List ℕ → Bool
fed [] = false
fed (c ∷ s) = cond (c == 10) true (fed s)

-- the bytes from one place up to another
abbrev pub part : ℕ → ℕ → List ℕ → List ℕ
part from to bytes = take (to - from) (drop from bytes)

-- what a step finds, and where it leaves the reader
pub record Step : Type 0 where
  pub found : Found
  pub next : Reader

abbrev pub step : Found → Reader → Step
step found next = record { found = found; next = next }

-- what is read and not yet given
abbrev pub pending : List ℕ → Reader → List ℕ
pending bytes r = part r.at r.end bytes

-- the line that a step gives
abbrev pub line_found : List ℕ → Found → List ℕ
line_found bytes (Line from to) = part from to bytes
line_found bytes Long = []
line_found bytes Read = []
line_found bytes End = []

abbrev pub line_in : List ℕ → Step → List ℕ
line_in bytes s = line_found bytes s.found

abbrev pub standing : ℕ → ℕ → Bool → Reader
standing at end more = record { at = at; end = end; more = more }

-- what is read and not yet given lies within the buffer
abbrev pub Inside : ℕ → Reader → Type 0
Inside n r = (r.at ≤ r.end) × (r.end ≤ n)

-- what is given lies within the buffer, and so does the rest
abbrev pub LineGiven : ℕ → Found → Type 0
LineGiven n (Line from to) = (from ≤ to) × (to ≤ n)
LineGiven n Long = Unit {0}
LineGiven n Read = Unit {0}
LineGiven n End = Unit {0}

abbrev pub Given : ℕ → Step → Type 0
Given n s = LineGiven n s.found × Inside n s.next

-- What a step finds, where `before` was pending and `more` said whether there may be more to read; `bytes` is the buffer after it

-- a line that a line feed ends: the rest stays
pub record Ended (before : List ℕ) (more : Bool) (bytes : List ℕ) (s : Step) : Type 0 where
  pub cut : before ≡ line_in bytes s ++ (10 ∷ pending bytes s.next)
  pub clear : fed (line_in bytes s) ≡ false
  pub stays : s.next.more ≡ more

-- a line that the input's end ends: it is not empty, and nothing stays
pub record Last (before : List ℕ) (more : Bool) (bytes : List ℕ) (s : Step) : Type 0 where
  pub ended : more ≡ false
  pub clear : fed before ≡ false
  pub some : 0 < length before
  pub all : line_in bytes s ≡ before
  pub none : pending bytes s.next ≡ []
  pub stays : s.next.more ≡ false

-- one read, where no line is whole and there is room: `new`, what the system gave, stands behind; none is the input's end
pub record Came (before : List ℕ) (more : Bool) (bytes : List ℕ) (s : Step) : Type 0 where
  pub reads : more ≡ true
  pub clear : fed before ≡ false
  pub room : length before < length bytes
  pub new : List ℕ
  pub behind : pending bytes s.next ≡ before ++ new
  pub stays : s.next.more ≡ nat_lt 0 (length new)

-- a line that does not fit: the buffer is full, and is dropped
pub record Dropped (before : List ℕ) (more : Bool) (bytes : List ℕ) (s : Step) : Type 0 where
  pub reads : more ≡ true
  pub clear : fed before ≡ false
  pub full : length before ≡ length bytes
  pub none : pending bytes s.next ≡ []
  pub stays : s.next.more ≡ true

-- the end of the input, all of which is given
pub record Over (before : List ℕ) (more : Bool) (bytes : List ℕ) (s : Step) : Type 0 where
  pub ended : more ≡ false
  pub nothing : before ≡ []
  pub none : pending bytes s.next ≡ []
  pub stays : s.next.more ≡ false

abbrev pub FoundAs : Found → List ℕ → Bool → List ℕ → Step → Type 0
FoundAs (Line from to) before more bytes s = Ended before more bytes s ⊎ Last before more bytes s
FoundAs Read before more bytes s = Came before more bytes s
FoundAs Long before more bytes s = Dropped before more bytes s
FoundAs End before more bytes s = Over before more bytes s

abbrev pub Finds : List ℕ → Bool → List ℕ → Step → Type 0
Finds before more bytes s = FoundAs s.found before more bytes s
