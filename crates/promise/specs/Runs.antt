-- A bus over a save and a log, and a list of calls on it (demand 3): what each call is lent, what is left, what is admitted, what is copied off.
-- They speak of `fresh_call`, which `fresh::fresh` is, and of `step`, which `dispatch::perform` is for every call.
use Rattle.std.specs.Prelude.{Bool, true, false, cond, ◌&&◌, List, [], ◌∷◌, ◌++◌, ◌≡◌, ℕ, ◌*◌, ◌≤◌, ◌<◌, eqb, leb, length, take}
use Rattle.mbc.specs.Mbc.{rom_len, ram_len, cartridge_of, start as mapper_of}
use Rattle.memory.specs.Ranges.{vram_len, wram_len, sound_len, in_range}
use Rattle.memory.specs.World.{World, world, Fixed}
use Rattle.savelog.specs.Log.{log_limit}
use Rattle.savelog.specs.declared.Rec.{Rec}
use Rattle.promise.specs.Bus.{Outcome, outcome, step, Call, refused, Kind, Reading, Clearing, Other, kind_of, Lent, begin}
use Rattle.promise.specs.Calls.{writes_of}
use Rattle.promise.specs.Described.{Described}
use Rattle.promise.specs.Gate.{Terms, Gate, Asked, admitted_by, of_write}

-- A description and lengths as documents 01 and 02 have them: such a fresh bus is not refused, and no other. "Cartridge and buffers": "ROM is N
-- banks of 16,384 bytes"; "Monochrome: VRAM 8,192, WRAM 8,192. Colour: 16,384 and 32,768"; "Log: 0 to 65,535 bytes"; "The sound window is 48
-- bytes". The image is as long as the RAM
pub record Fitting (l : Lent) : Type 0 where
  pub described : Described l.kind l.banks l.code (length l.image)
  pub rom : length l.rom ≡ l.banks * 16384
  pub vram : length l.vram ≡ cond l.colour 16384 8192
  pub wram : length l.wram ≡ cond l.colour 32768 8192
  pub log : length l.log ≤ 65535
  pub sound : length l.sound ≡ 48

-- What each call is lent. Of save and log: the host's own, as the last call left them, or by mistake another
pub data Lending : Type 0 where
  Own : Lending
  Another : List ℕ → Lending

abbrev pub lent_of : Lending → List ℕ → List ℕ
lent_of Own own = own
lent_of (Another l) own = l

-- the host's own after the call: what it left of it, or what it was, if another was lent
abbrev pub keeps : Lending → List ℕ → List ℕ → List ℕ
keeps Own own left = left
keeps (Another l) own left = own

-- "any list of bus calls, refused ones too". A call's ROM, sound window, video memory and work memory are of any bytes and any length, so that what
-- "the last one left" is one case of many: the host changes the window when it pays a sound write, and a wrong length is refused by 4 where the call
-- is lent it. (A call on the state alone is lent nothing, and does its work whatever a turn brings.)
pub record Turn : Type 0 where
  pub read : Fixed
  pub vram : List ℕ
  pub wram : List ℕ
  pub save : Lending
  pub log : Lending
  pub call : Call

-- a mistake: a save that has not the RAM's length, a log longer than one may be
abbrev pub MistakenSave : ℕ → Lending → Type 0
MistakenSave ram Own = Unit {0}
MistakenSave ram (Another l) = length l ≡ ram → ⊥

abbrev pub MistakenLog : Lending → Type 0
MistakenLog Own = Unit {0}
MistakenLog (Another l) = log_limit < length l

abbrev pub Lends : ℕ → Turn → Type 0
Lends ram t = MistakenSave ram t.save × MistakenLog t.log

abbrev pub AllLend : ℕ → List Turn → Type 0
AllLend ram [] = Unit {0}
AllLend ram (t ∷ ts) = Lends ram t × AllLend ram ts

abbrev pub calls : List Turn → List Call
calls [] = []
calls (t ∷ ts) = t.call ∷ calls ts

-- a call on the state that the last one left, with what it is lent; what is left of the host's own
abbrev pub lent_to : World → Turn → World
lent_to w t = world w.state t.vram t.wram (lent_of t.save w.save) (lent_of t.log w.log)

abbrev pub leaves : World → Turn → Outcome → Outcome
leaves w t o =
    outcome o.number o.value
    (world o.after.state o.after.vram o.after.wram (keeps t.save w.save o.after.save)
    (keeps t.log w.log o.after.log))

abbrev pub made : World → Turn → Outcome
made w t = leaves w t (step t.read (lent_to w t) t.call)

unfoldable pub run : World → List Turn → World
run w [] = w
run w (t ∷ ts) = run (made w t).after ts

abbrev pub after : Lent → List Turn → World
after l ts = run (begin l) ts

-- the number of each call, and of these the writes'
unfoldable pub numbers : World → List Turn → List ℕ
numbers w [] = []
numbers w (t ∷ ts) = (made w t).number ∷ numbers (made w t).after ts

unfoldable pub of_writes : List Call → List ℕ → List ℕ
of_writes [] ns = []
of_writes (c ∷ cs) [] = []
of_writes (c ∷ cs) (n ∷ ns) = of_write (writes_of c) n ++ of_writes cs ns

-- What the machine of specs/Gate.antt is told: of a turn's memories their lengths alone (document 01, "Cartridge and buffers"). The host's own fit.

abbrev pub save_fits : ℕ → Lending → Bool
save_fits ram Own = true
save_fits ram (Another l) = eqb (length l) ram

abbrev pub log_fits : Lending → Bool
log_fits Own = true
log_fits (Another l) = leb (length l) log_limit

abbrev pub memories_fit : Terms → Turn → Bool
memories_fit d t =
    eqb (length t.read.rom) (rom_len d.cartridge)
    && (eqb (length t.vram) (vram_len d.colour)
    && (eqb (length t.wram) (wram_len d.colour) && (save_fits d.ram t.save && eqb (length t.read.sound) sound_len)))

unfoldable pub fits : Terms → Turn → Bool
fits d t = memories_fit d t && log_fits t.log

abbrev pub is_clearing : Kind → Bool
is_clearing Reading = false
is_clearing Clearing = true
is_clearing Other = false

abbrev pub asked : Terms → Turn → Asked
asked d t = record { fits = fits d t; writes = writes_of t.call; clears = is_clearing (kind_of t.call) }

unfoldable pub asked_all : Terms → List Turn → List Asked
asked_all d [] = []
asked_all d (t ∷ ts) = asked d t ∷ asked_all d ts

-- of a fresh bus it is told the description, and begins with the mapper of that kind and an unused log
abbrev pub ram_of : Lent → ℕ
ram_of l = ram_len (cartridge_of l.banks l.code) (mapper_of l.kind)

abbrev pub terms : Lent → Terms
terms l = record { cartridge = cartridge_of l.banks l.code; colour = l.colour; ram = ram_of l; log = length l.log }

abbrev pub opening : Lent → Gate
opening l = record { mapper = mapper_of l.kind; used = 0 }

-- the admitted writes
abbrev pub admitted : Lent → List Turn → List Rec
admitted l ts = admitted_by (terms l) (opening l) (asked_all (terms l) ts)

-- of any other bus, one that was loaded from an image, what its state holds of these
abbrev pub terms_of : World → Terms
terms_of w =
    record {
      cartridge = w.state.core.cartridge;
      colour = w.state.core.banks.colour;
      ram = ram_len w.state.core.cartridge w.state.core.mapper;
      log = length w.log;
    }

abbrev pub gate_of : World → Gate
gate_of w = record { mapper = w.state.core.mapper; used = w.state.core.used }

abbrev pub admitted_from : World → List Turn → List Rec
admitted_from w ts = admitted_by (terms_of w) (gate_of w) (asked_all (terms_of w) ts)

-- such a bus can go on: its state is in range, with a log use within the log, and the host's own save and log are of the lengths that it asks for
pub record Able (w : World) : Type 0 where
  pub range : in_range w.state (length w.log) ≡ true
  pub save : length w.save ≡ ram_len w.state.core.cartridge w.state.core.mapper
  pub log : length w.log ≤ log_limit

-- "The log's used bytes are copied off before each clearing and at the end": a clearing that is refused clears nothing, and nothing is copied

abbrev pub used_bytes : World → List ℕ
used_bytes w = take w.state.core.used w.log

abbrev pub copied_before : Kind → ℕ → List ℕ → List (List ℕ)
copied_before Reading n bytes = []
copied_before Clearing n bytes = cond (refused n) [] (bytes ∷ [])
copied_before Other n bytes = []

unfoldable pub copies_from : World → List Turn → List (List ℕ)
copies_from w [] = used_bytes w ∷ []
copies_from w (t ∷ ts) = copied_before (kind_of t.call) (made w t).number (used_bytes w) ++ copies_from (made w t).after ts

abbrev pub copies : Lent → List Turn → List (List ℕ)
copies l ts = copies_from (begin l) ts
