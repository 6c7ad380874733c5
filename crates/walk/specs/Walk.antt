-- The bus walk over a whole input: its lines one after the other, each on what the last one left (document 01, "Corners that decide", the
-- last paragraph).
use Rattle.std.specs.Prelude.{Bool, true, false, cond, List, [], ◌∷◌, ◌++◌, Result, Ok, Err, ◌⊎◌, ◌≡◌, ℕ, ◌+◌, ◌≤◌, ◌<◌, length, replicate}
use Rattle.bus.specs.Fresh.{started_by}
use Rattle.commands.specs.Walk.{strange_text}
use Rattle.lines.specs.Contents.{Filled}
use Rattle.lines.specs.Reader.{lines_of, pending, Step, line_in, Finds}
use Rattle.lines.specs.declared.reader.Found.{Found}
use Rattle.lines.specs.declared.reader.Found.TheVariants.{Line, Long, Read, End}
use Rattle.lines.specs.declared.reader.Reader.{Reader}
use Rattle.memory.specs.World.{World, Fixed, world}
use Rattle.walk.specs.declared.Ending.{Ending}
use Rattle.walk.specs.declared.Ending.TheVariants.{Input, Lost}
use Rattle.walk.specs.Line.{Walked, walked, line_walked, rom_byte}

-- a text before what is printed
abbrev pub after : List ℕ → Walked → Walked
after t a = walked (t ++ a.text) a.after

-- each line on the world that the last one left; the texts are joined
unfoldable pub walk_lines : Fixed → World → List (List ℕ) → Walked
walk_lines x w [] = walked [] w
walk_lines x w (s ∷ rest) = after (line_walked x w s).text (walk_lines x (line_walked x w s).after rest)

-- all of an input
abbrev pub walk_all : Fixed → World → List ℕ → Walked
walk_all x w input = walk_lines x w (lines_of input)

-- how it begins: "fresh monochrome, Mbc1, N 2, code 2, RAM zero, ROM byte at a is a modulo 256, sound window zero, log 4,095 bytes"
abbrev pub Begins : Fixed → World → Type 0
Begins x w =
    (w ≡ world (started_by 1 2 2 false) (replicate 8192 0) (replicate 8192 0) (replicate 8192 0) (replicate 4095 0))
    × ((x.sound ≡ replicate 48 0) × ((length x.rom ≡ 32768) × Filled rom_byte x.rom 32768))

-- The walk on its way

-- one line; of a `long` one the first part did not fit the buffer and is dropped: it has no known form
abbrev pub one_line : Fixed → World → Bool → List ℕ → Walked
one_line x w long s = cond long (walked strange_text w) (line_walked x w s)

-- lines of which the first is long; the input's end ends it too
abbrev pub long_first : Fixed → World → List (List ℕ) → Walked
long_first x w [] = walked strange_text w
long_first x w (s ∷ rest) = after strange_text (walk_lines x w rest)

abbrev pub onward : Fixed → World → Bool → List ℕ → Walked
onward x w long s = cond long (long_first x w (lines_of s)) (walk_lines x w (lines_of s))

-- where the walk stands: the bus with its memories, the answers that wait to be printed, what is read and not yet answered;
-- `more`: there may be more to read
pub record Place : Type 0 where
  pub world : World
  pub waiting : List ℕ
  pub long : Bool
  pub rest : List ℕ
  pub more : Bool

abbrev pub place : World → List ℕ → Bool → List ℕ → Bool → Place
place w t long rest more = record { world = w; waiting = t; long = long; rest = rest; more = more }

-- all that is printed from a place on, and what is left at the end, where `future` is still to be read
abbrev pub ahead : Fixed → Place → List ℕ → Walked
ahead x p future = after p.waiting (onward x p.world p.long (p.rest ++ future))

-- where the input has ended nothing is still to be read
abbrev pub Coming : Place → List ℕ → Type 0
Coming p future = p.more ≡ false → future ≡ []

-- From a place to another: `input` is what the system gave on the way, `printed` what was printed. Whatever comes then, the walk prints
-- and leaves the same
pub record Goes (x : Fixed) (printed : List ℕ) (p q : Place) : Type 0 where
  pub input : List ℕ
  pub closed : p.more ≡ false → (input ≡ []) × (q.more ≡ false)
  pub same : (future : List ℕ) → Coming q future → ahead x p (input ++ future) ≡ after printed (ahead x q future)

-- the input has ended, and all of it is answered
abbrev pub Over : Place → Type 0
Over p = (p.more ≡ false) × ((p.long ≡ false) × (p.rest ≡ []))

-- Where a step of the reader leads, by what it found (`bytes` is the buffer after it): a line is answered; a buffer that is dropped begins a
-- long line, or goes on with one; a read answers nothing; the input's end ends a long line

abbrev pub onto : List ℕ → Step → Bool → Walked → Place
onto bytes s long a = place a.after a.text long (pending bytes s.next) s.next.more

abbrev pub place_by : Found → Fixed → Place → List ℕ → Step → Place
place_by (Line from to) x p bytes s = onto bytes s false (after p.waiting (one_line x p.world p.long (line_in bytes s)))
place_by Long x p bytes s = onto bytes s true (walked p.waiting p.world)
place_by Read x p bytes s = onto bytes s p.long (walked p.waiting p.world)
place_by End x p bytes s = onto bytes s false (walked (p.waiting ++ cond p.long strange_text []) p.world)

-- the walk goes on, except at the input's end
abbrev pub does_go_on : Found → Bool
does_go_on (Line from to) = true
does_go_on Long = true
does_go_on Read = true
does_go_on End = false

-- whether answers are lost
abbrev pub is_lost : {T : Type 0} → Result T Ending → Bool
is_lost (Ok done) = false
is_lost (Err Input) = false
is_lost (Err Lost) = true

-- exactly one step of the reader
pub record ByReader (x : Fixed) (p : Place) (bytes : List ℕ) (more : Bool) (q : Place) : Type 0 where
  pub step : Step
  pub finds : Finds p.rest p.more bytes step
  pub on : more ≡ does_go_on step.found
  pub leads : q ≡ place_by step.found x p bytes step

-- where answers are lost nothing is done and the walk ends, and this is told; else it is one step of the reader
pub record Stepped (x : Fixed) (lost : Bool) (p : Place) (bytes : List ℕ) (more gone : Bool) (q : Place) : Type 0 where
  pub told : gone ≡ lost
  pub stops : lost ≡ true → (more ≡ false) × (q ≡ p)
  pub reads : lost ≡ false → ByReader x p bytes more q

-- Before a step, of `used` answers that wait in a buffer of `size` bytes, `now` are left; `lost`: they could not be written

-- they wait on: something that was read is still to be answered, and there is room for a line more, of ten bytes
pub record WaitOn (r : Reader) (used size now : ℕ) (lost : Bool) : Type 0 where
  pub some : r.at < r.end
  pub room : used + 10 ≤ size
  pub all : now ≡ used
  pub kept : lost ≡ false

-- they are printed: one of the two is not so
pub record Printed (r : Reader) (used size now : ℕ) : Type 0 where
  pub due : (r.end ≤ r.at) ⊎ (size < used + 10)
  pub none : now ≡ 0

abbrev pub Shown : Reader → ℕ → ℕ → ℕ → Bool → Type 0
Shown r used size now lost = WaitOn r used size now lost ⊎ Printed r used size now

-- the loop: as many steps as there are
pub record Ran (x : Fixed) (p : Place) (more gone : Bool) (q : Place) : Type 0 where
  pub printed : List ℕ
  pub goes : Goes x printed p q
  pub ends : more ≡ false → gone ≡ false → Over q

-- a walk to the input's end: what it leaves is what walking the whole input leaves
pub record Whole (x : Fixed) (w after : World) : Type 0 where
  pub input : List ℕ
  pub text : List ℕ
  pub all : walk_all x w input ≡ walked text after
