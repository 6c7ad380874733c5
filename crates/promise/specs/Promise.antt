-- Demand 3, over every list of calls: `promise_holds` has it as its contract.
use Rattle.std.specs.Prelude.{Bool, true, false, cond, ◌&&◌, ◌||◌, List, [], ◌∷◌, ◌++◌, ◌≡◌, ℕ, ◌-◌, ◌*◌, ◌/◌, ◌%◌, ◌<◌, ◌≤◌, ltb, length, take}
use Rattle.mbc.specs.Mbc.{cartridge_of, start as mapper_of}
use Rattle.memory.specs.World.{World}
use Rattle.numbers.specs.Numbers.{done, no_room, out_of_range, wrong_length}
use Rattle.savelog.specs.Log.{width, stored, records, apply_all, outcome, recovery, recover_all, joined, cut_copies}
use Rattle.savelog.specs.declared.Rec.{Rec}
use Rattle.promise.specs.Bus.{in_save, next_index, byte_owed, word_owed, Call, Lent, start, begin}
use Rattle.promise.specs.Bus.call as call
use Rattle.promise.specs.Bus.on as on
use Rattle.promise.specs.Calls.{ByteWrite, byte, writes_of}
use Rattle.promise.specs.Admitted.{let_in_all, records_of}
use Rattle.promise.specs.Described.{Described}
use Rattle.promise.specs.Gate.{Terms, Gate, Asked, gates_after, admitted_by, ruled_all, telling}
use Rattle.promise.specs.Runs.{
  Fitting,
  Turn,
  Lends,
  AllLend,
  calls,
  made,
  run,
  after,
  numbers,
  of_writes,
  fits,
  asked_all,
  ram_of,
  terms,
  opening,
  admitted,
  terms_of,
  gate_of,
  admitted_from,
  Able,
  used_bytes,
  copies_from,
  copies,
}

-- A number of this language has no bound; a byte write's value is a u8, and the halves of a word write's are u8 too
abbrev pub Bytes : List ByteWrite → Type 0
Bytes [] = Unit {0}
Bytes (b ∷ bs) = (b.value < 256) × Bytes bs

abbrev pub Typed : List Call → Type 0
Typed [] = Unit {0}
Typed (c ∷ cs) = Bytes (writes_of c) × Typed cs

-- none of the copies is refused, each over what the one before gave
abbrev pub Recovers : List ℕ → List (List ℕ) → Type 0
Recovers save [] = Unit {0}
Recovers save (c ∷ cs) = ((recovery save c).number ≡ done) × Recovers (recovery save c).save cs

-- Demand 3's words on save and log, of the image at the start, the save and the copies at the end, and the admitted writes of the calls
pub record Told (image left : List ℕ) (copies : List (List ℕ)) (cs : List Call) (admitted : List Rec) : Type 0 where
  -- "The save is that image with exactly those byte writes applied"
  pub save : left ≡ apply_all image admitted
  -- "the log names them in order, address and value": the joined copies are their records, byte for byte
  pub log : joined copies ≡ records_of admitted
  -- and these are read back as they were written
  pub names : Typed cs → records (joined copies) ≡ admitted
  -- "If only the log's first n bytes survive, for any n": what is left of the copies
  pub first : (n : ℕ) → joined (cut_copies n copies) ≡ take n (joined copies)
  -- "recovery over the image, copy by copy, gives the save as it stood right after the last write whose record is whole, or the image if none is"
  pub cut : Typed cs → (n : ℕ) → recover_all image (cut_copies n copies) ≡ apply_all image (take (n / width) admitted)
  pub recovers : Typed cs → (n : ℕ) → Recovers image (cut_copies n copies)

-- the bytes of the log that are free
abbrev pub free : World → ℕ
free w = length w.log - w.state.core.used

-- "that were not refused": the number of one more call, where so many bytes of the log are free. 4 where a length that is lent with it is wrong;
-- else no write is refused but for room, "byte write in A000..BFFF", "word write with either index there" (document 01), which "now needs 4 free
-- bytes, a word write 8" (document 02); no clearing is refused at all, and no call by 3
pub record Refuses (d : Terms) (room : ℕ) (May : Turn → Type 0) (number : Turn → ℕ) : Type 0 where
  pub bytes : (t : Turn) → May t → (i v : ℕ) → t.call ≡ call.WriteByte i v
      → number t ≡ cond (fits d t) (cond (in_save i && ltb room width) no_room (byte_owed i)) wrong_length
  pub words : (t : Turn) → May t → (i v : ℕ) → t.call ≡ call.WriteWord i v
      → number t ≡ cond (fits d t) (cond ((in_save i || in_save (next_index i)) && ltb room (2 * width)) no_room (word_owed i)) wrong_length
  pub clears : (t : Turn) → May t → t.call ≡ call.State on.ClearLog → number t ≡ done
  pub range : (t : Turn) → May t → number t ≡ out_of_range → ⊥

abbrev pub Without : ℕ → List ℕ → Type 0
Without k [] = Unit {0}
Without k (n ∷ ns) = (n ≡ k → ⊥) × Without k ns

-- Who is refused in a list of calls, by the machine of specs/Gate.antt, and how the list goes on
pub record Ruled (w : World) (d : Terms) (g : Gate) (ts : List Turn) : Type 0 where
  -- the numbers that the bus gave to the writes are those that the machine rules, one by one
  pub agree : of_writes (calls ts) (numbers w ts) ≡ ruled_all d g (asked_all d ts)
  -- and the bus keeps the mapper and the use that the machine does
  pub gate : gate_of (run w ts) ≡ gates_after d g (asked_all d ts)
  -- no call was refused by 3
  pub never : Without out_of_range (numbers w ts)
  -- the bus that is left is in range, and can go on: this is what one more call gives
  pub able : Able (run w ts)
  pub next : Refuses d (free (run w ts)) (Lends d.ram) (λ t. (made (run w ts) t).number)
  -- what is used of the log is whole records, and lies within it
  pub within : ((run w ts).state.core.used % width ≡ 0) × ((run w ts).state.core.used ≤ length (run w ts).log)
  -- other calls may follow: the admitted writes of these come first, the copies so far are the first bytes of the later ones, and "the save as it
  -- stood" is the one at the start with as many of all admitted writes as these calls had
  pub more : (later : List Turn)
      → admitted_by d g (asked_all d (ts ++ later)) ≡ admitted_by d g (asked_all d ts) ++ admitted_from (run w ts) later
  pub grows : (later : List Turn) → AllLend d.ram later
      → joined (copies_from w (ts ++ later)) ≡ joined (copies_from w ts) ++ records_of (admitted_from (run w ts) later)
  pub stood : (later : List Turn)
      → (run w ts).save ≡ apply_all w.save (take (length (admitted_by d g (asked_all d ts))) (admitted_by d g (asked_all d (ts ++ later))))

pub record Kept (l : Lent) (ts : List Turn) : Type 0 where
  pub told : Told l.image (after l ts).save (copies l ts) (calls ts) (admitted l ts)
  pub ruled : Ruled (begin l) (terms l) (opening l) ts

-- "Take a fresh bus over a save image and any list of bus calls"
abbrev pub Promise : Type 0
Promise = (l : Lent) (ts : List Turn) → (start l).number ≡ done → AllLend (ram_of l) ts → Kept l ts

-- and these are the ones that are not refused: a description and lengths as documents 01 and 02 have them, and no others. "Numbers a call gives
-- back", in the order 3, 4: 3 where the description is none, whatever is lent; where it is one, 4 unless all lengths fit
pub record Judged (l : Lent) (number : ℕ) : Type 0 where
  pub fits : Fitting l → number ≡ done
  pub only : number ≡ done → Fitting l
  pub none : ((ram : ℕ) → Described l.kind l.banks l.code ram → ⊥) → number ≡ out_of_range
  pub other : (ram : ℕ) → Described l.kind l.banks l.code ram → (Fitting l → ⊥) → number ≡ wrong_length

abbrev pub Begins : Type 0
Begins = (l : Lent) → Judged l (start l).number

-- Save and log depend on the description, the image, the log's length, and the writes and clearings alone: not on a byte of ROM, video memory, work
-- memory or the sound window, nor on reads, transfers, timer, buttons or screen among the calls
pub record Same (l k : Lent) : Type 0 where
  pub kind : l.kind ≡ k.kind
  pub banks : l.banks ≡ k.banks
  pub code : l.code ≡ k.code
  pub colour : l.colour ≡ k.colour
  pub image : l.image ≡ k.image
  pub log : length l.log ≡ length k.log

abbrev pub Independent : Type 0
Independent =
    (l k : Lent) (ts us : List Turn)
    → Same l k
    → (start l).number ≡ done
    → (start k).number ≡ done
    → AllLend (ram_of l) ts
    → AllLend (ram_of k) us
    → telling (asked_all (terms l) ts) ≡ telling (asked_all (terms k) us)
    → ((after l ts).save ≡ (after k us).save) × (joined (copies l ts) ≡ joined (copies k us))

-- From any bus that can go on, as one that was loaded from an image: the same, behind what its log held
pub record Continued (w : World) (ts : List Turn) : Type 0 where
  pub save : (run w ts).save ≡ apply_all w.save (admitted_from w ts)
  pub log : joined (copies_from w ts) ≡ used_bytes w ++ records_of (admitted_from w ts)
  pub ruled : Ruled w (terms_of w) (gate_of w) ts
  -- if what its log held gives its save over some older image, all copies over that image give the save at the end, and the first n bytes of them
  -- what their whole records give
  pub older : (image : List ℕ) → recovery image (used_bytes w) ≡ outcome done w.save → Typed (calls ts)
      → (recover_all image (copies_from w ts) ≡ (run w ts).save)
      × ((n : ℕ)
      → recover_all image (cut_copies n (copies_from w ts)) ≡ apply_all image (take (n / width) (records (used_bytes w) ++ admitted_from w ts)))
      × ((n : ℕ) → Recovers image (cut_copies n (copies_from w ts)))
  -- an unused log: all as from a fresh bus
  pub unused : w.state.core.used ≡ 0 → Told w.save (run w ts).save (copies_from w ts) (calls ts) (admitted_from w ts)

abbrev pub Resumed : Type 0
Resumed = (w : World) (ts : List Turn) → Able w → AllLend (terms_of w).ram ts → Continued w ts

-- an example, Mbc2: RAM is off and lets nothing in; 0000 given 0A enables it; A000 given AB stores 0B (corner 11); A200 has no RAM
abbrev pub Example : Type 0
Example =
    let_in_all (cartridge_of 2 0) (mapper_of 2) (byte 0xA000 0x55 ∷ byte 0x0000 0x0A ∷ byte 0xA000 0xAB ∷ byte 0xA200 0x12 ∷ [])
    ≡ stored 0 0x0B ∷ []

-- and MBC5 with RAM code 4 (document 02, wish 3): the last byte of the last of 16 banks is at 131,071
abbrev pub WideExample : Type 0
WideExample =
    let_in_all (cartridge_of 2 4) (mapper_of 3) (byte 0x0000 0x0A ∷ byte 0x4000 0x0F ∷ byte 0xBFFF 0xAB ∷ [])
    ≡ stored 131071 0xAB ∷ []

-- and the machine, for this Mbc2 with a log of one record: RAM is enabled; a byte is stored; the next has no room, 2; one is lent a wrong length, 4;
-- the log is cleared; a byte is stored
abbrev pub wrote : Bool → ℕ → ℕ → Asked
wrote fits i v = record { fits = fits; writes = byte i v ∷ []; clears = false }

abbrev pub cleared : Asked
cleared = record { fits = true; writes = []; clears = true }

abbrev pub RoomExample : Type 0
RoomExample =
    let d : Terms = record { cartridge = cartridge_of 2 0; colour = false; ram = 512; log = 4 } in
    let g : Gate = record { mapper = mapper_of 2; used = 0 } in
    let asks : List Asked =
    wrote true 0x0000 0x0A ∷ wrote true 0xA000 0xAB ∷ wrote true 0xA001 0x01 ∷ wrote false 0xA001 0x02 ∷ cleared ∷ wrote true 0xA001 0x03 ∷ [] in
    (ruled_all d g asks ≡ 0 ∷ 0 ∷ 2 ∷ 4 ∷ 0 ∷ []) × (admitted_by d g asks ≡ stored 0 0x0B ∷ stored 1 0x03 ∷ [])
