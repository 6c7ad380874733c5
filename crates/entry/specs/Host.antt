-- What a host asks of an image and sets in it beside the calls of the bus: the parts of the state that its drawing and its log need (document 01,
-- "Added by us besides: .. C boundary"). A refusal changes no lent byte and gives 0.
use Rattle.std.specs.Prelude.{Option, Result, Ok, Err, cond, List, [], ◌∷◌, ◌++◌, ℕ, zero, suc, ◌+◌, ◌*◌, ◌%◌, eqb, leb, ℤ, length, take}
use Rattle.dispatch.specs.declared.Call.TheVariants.{ReadByte}
use Rattle.dispatch.specs.declared.StateCall.TheVariants.{Host}
use Rattle.image.specs.Layout.{bit, channels, image_len, image_of}
use Rattle.image.specs.Load.{Stored, stored, load_call}
use Rattle.lcd.specs.Lcd.{numbers_of}
use Rattle.lcd.specs.declared.Lcd.{Lcd}
use Rattle.memory.specs.World.{Fixed, with_used}
use Rattle.memory.specs.Start.{zeroed}
use Rattle.numbers.specs.Numbers.{done, out_of_range, wrong_length}
use Rattle.numbers.specs.Refusal.{refusal_number, number_given}
use Rattle.numbers.specs.declared.Refusal.{Refusal}
use Rattle.std.specs.Result.{result_unwrap_or}
use Rattle.copies.specs.PanDocs.{oam_bytes}
use Rattle.registers.specs.State.{timer_of}
use Rattle.savelog.specs.Log.{width, log_limit, use_in_range}
use Rattle.timer.specs.Overflow.{left_given, left_of}
use Rattle.entry.specs.Entry.{Changed, changed, state_entry, Given, given, read_entry}
use Rattle.entry.specs.declared.HostNumber.{HostNumber}
use Rattle.entry.specs.declared.HostNumber.TheVariants as one

-- The eight numbers that the host sets, screen disabled as 1 or 0; a refused image gives those of the all-zero state

pub record Shown : Type 0 where
  pub number : ℕ
  pub disabled : ℕ
  pub line : ℕ
  pub signal : ℕ
  pub mode : ℕ
  pub delay : ℤ
  pub counter : ℤ
  pub aux : ℤ
  pub window : ℤ

abbrev pub shown : ℕ → ℕ → ℕ → ℕ → ℕ → ℤ → ℤ → ℤ → ℤ → Shown
shown n d l s m y c a w =
    record { number = n; disabled = d; line = l; signal = s; mode = m; delay = y; counter = c; aux = a; window = w }

abbrev pub shown_of : ℕ → Lcd → Shown
shown_of n l = shown n (bit l.disabled) l.line l.signal l.mode l.delay l.counter l.aux l.window

-- the answer, with this paper's number and values for each case
abbrev pub numbers_shown : Result Lcd Refusal → Shown
numbers_shown r = shown_of (number_given r) (result_unwrap_or r zeroed.core.lcd)

abbrev pub numbers_entry : List ℕ → Shown
numbers_entry i = shown_of (load_call i).number (load_call i).state.core.lcd

-- One of the eight set: the host's call, with the other seven as they stand

abbrev pub with_number : Lcd → HostNumber → Lcd
with_number l (one.Disabled x) = numbers_of x l.line l.signal l.mode l.delay l.counter l.aux l.window
with_number l (one.Line x) = numbers_of l.disabled x l.signal l.mode l.delay l.counter l.aux l.window
with_number l (one.Signal x) = numbers_of l.disabled l.line x l.mode l.delay l.counter l.aux l.window
with_number l (one.Mode x) = numbers_of l.disabled l.line l.signal x l.delay l.counter l.aux l.window
with_number l (one.Delay x) = numbers_of l.disabled l.line l.signal l.mode x l.counter l.aux l.window
with_number l (one.Counter x) = numbers_of l.disabled l.line l.signal l.mode l.delay x l.aux l.window
with_number l (one.Aux x) = numbers_of l.disabled l.line l.signal l.mode l.delay l.counter x l.window
with_number l (one.Window x) = numbers_of l.disabled l.line l.signal l.mode l.delay l.counter l.aux x

unfoldable pub set_entry : List ℕ → HostNumber → Changed
set_entry i n = state_entry i (Host (with_number (load_call i).state.core.lcd n))

-- All colours, into as many lent bytes: red, green, blue of the background's 32, then of the sprites'

abbrev pub colors_len : ℕ
colors_len = 192

unfoldable pub colors_entry : List ℕ → List ℕ → Stored
colors_entry i l =
    cond (eqb (load_call i).number done)
    (cond (eqb (length l) colors_len) (stored done (channels (load_call i).state.background ++ channels (load_call i).state.sprites))
    (stored wrong_length l))
    (stored (load_call i).number l)

-- OAM's 40 sprites, FE00..FE9F, into as many lent bytes

unfoldable pub oam_entry : List ℕ → List ℕ → Stored
oam_entry i l =
    cond (eqb (load_call i).number done)
    (cond (eqb (length l) oam_bytes) (stored done (take oam_bytes (load_call i).state.oam)) (stored wrong_length l))
    (stored (load_call i).number l)

-- The cycles left until TIMA overflows (crates/timer/specs/Overflow.antt); a refused image gives 0

-- the answer, with this paper's number and value for each case
abbrev pub overflow_of : Result (Option ℕ) Refusal → Given
overflow_of (Ok n) = given done (left_given n)
overflow_of (Err e) = given (refusal_number e) 0

unfoldable pub overflow_entry : List ℕ → Given
overflow_entry i =
    cond (eqb (load_call i).number done) (given done (left_of (timer_of (load_call i).state))) (given (load_call i).number 0)

-- A block of bytes, into what is lent for it: each is what a read gives, at the index and those behind it, and FFFF is followed by 0000. Refused as
-- the first of them is, then by 4 if it is longer than all there is to read

abbrev pub block_limit : ℕ
block_limit = 65536

-- f 0, f 1, .. : n numbers
unfoldable pub list_of : (ℕ → ℕ) → ℕ → List ℕ
list_of f zero = []
list_of f (suc n) = list_of f n ++ (f n ∷ [])

unfoldable pub block_entry : Fixed → List ℕ → List ℕ → List ℕ → List ℕ → List ℕ → ℕ → Stored
block_entry x i v w s out index =
    cond (eqb (read_entry x i v w s (ReadByte index)).number done)
    (cond (leb (length out) block_limit)
    (stored done (list_of (λ (k : ℕ). (read_entry x i v w s (ReadByte ((index + k) % 65536))).value) (length out)))
    (stored wrong_length out))
    (stored (read_entry x i v w s (ReadByte index)).number out)

-- The log's use, set to whole records within the longest log

unfoldable pub use_entry : List ℕ → ℕ → Changed
use_entry i u =
    cond (eqb (load_call i).number done)
    (cond (use_in_range u log_limit) (changed done (image_of (with_used (load_call i).state u))) (changed out_of_range i))
    (changed (load_call i).number i)

-- What this library is, as one number: its version, 65,536 for each major, 256 for each minor and 1 for each patch, in bits 63..32; an image's
-- length in bits 31..8; a record's in bits 7..0

abbrev pub version : ℕ
version = 3 * 65536 + 0 * 256 + 0

abbrev pub version_number : ℕ
version_number = version * 0x100000000 + image_len * 256 + width
