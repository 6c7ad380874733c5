-- Demand 3 at the C boundary: `boundary_holds` has it as its contract.
use Rattle.std.specs.Prelude.{true, List, ◌++◌, ◌≡◌, ℕ, ◌/◌, ◌%◌, ◌≤◌, length, take}
use Rattle.dispatch.specs.Lent.{Lent, start}
use Rattle.entry.specs.Entry.{Fresh, fresh_entry, used_entry}
use Rattle.image.specs.Layout.{image_len}
use Rattle.image.specs.Load.{storable}
use Rattle.memory.specs.World.{World}
use Rattle.numbers.specs.Numbers.{done, out_of_range, wrong_length}
use Rattle.packing.specs.Packing.{Below}
use Rattle.promise.specs.Admitted.{records_of}
use Rattle.promise.specs.Gate.{Terms, Gate, admitted_by, ruled_all}
use Rattle.promise.specs.Promise.{Typed, Recovers, Told, Refuses, Without, Judged}
use Rattle.promise.specs.Runs.{
  Turn,
  Lends,
  AllLend,
  calls,
  run,
  of_writes,
  asked_all,
  ram_of,
  terms,
  opening,
  admitted,
  terms_of,
  gate_of,
  admitted_from,
  copies_from,
}
use Rattle.savelog.specs.Log.{width, log_limit, records, apply_all, outcome, recovery, recover_all, joined, cut_copies}
use Rattle.boundary.specs.Held.{
  Held,
  held,
  entered,
  entry_run,
  entry_answers,
  answers,
  numbers_of,
  used_in,
  used_of,
  free_in,
  entry_copies,
  bus_in,
}
use Rattle.boundary.specs.Types.{TurnTyped, TurnsTyped, WorldTyped}

-- Entries on a state's image are the calls on the state: image, memories, answers and copies alike, over every list, refused ones too
pub record Alike (w : World) (ts : List Turn) : Type 0 where
  pub same_held : entry_run (held w) ts ≡ held (run w ts)
  pub same_answers : entry_answers (held w) ts ≡ answers w ts
  pub same_copies : entry_copies (held w) ts ≡ copies_from w ts

abbrev pub EntryRuns : Type 0
EntryRuns = (w : World) (ts : List Turn) → WorldTyped w → storable w.state ≡ true → TurnsTyped ts → Alike w ts

-- Who is refused, by the numbers that the entries give, and how the list goes on (crate promise, `Ruled`)
pub record EntryRuled (h : Held) (d : Terms) (g : Gate) (ts : List Turn) : Type 0 where
  -- the machine rules the same, write by write
  pub agree : of_writes (calls ts) (numbers_of (entry_answers h ts)) ≡ ruled_all d g (asked_all d ts)
  -- no entry was refused by 3, and the image that is left is taken
  pub never : Without out_of_range (numbers_of (entry_answers h ts))
  pub taken : (used_entry (entry_run h ts).image).number ≡ done
  -- what one more entry gives
  pub next : Refuses d (free_in (entry_run h ts)) (λ t. Lends d.ram t × TurnTyped t) (λ t. (entered (entry_run h ts) t).number)
  pub within : (used_in (entry_run h ts) % width ≡ 0) × (used_in (entry_run h ts) ≤ length (entry_run h ts).log)
  -- the copies so far are the first bytes of the later ones
  pub grows : (later : List Turn) → AllLend d.ram later → TurnsTyped later
      → take (length (joined (entry_copies h ts))) (joined (entry_copies h (ts ++ later))) ≡ joined (entry_copies h ts)
  -- and the save as it stood is the one at the start with as many of all admitted writes as these calls had
  pub stood : (later : List Turn)
      → (entry_run h ts).save ≡ apply_all h.save (take (length (admitted_by d g (asked_all d ts))) (admitted_by d g (asked_all d (ts ++ later))))

-- What a host holds after the fresh entry, given an image buffer of any bytes
abbrev pub freshly : List ℕ → Lent → Fresh
freshly image l = fresh_entry image l.vram l.wram (start l)

abbrev pub held_at : List ℕ → Lent → Held
held_at image l =
    record { image = (freshly image l).image; vram = (freshly image l).vram; wram = (freshly image l).wram; save = l.image; log = l.log }

-- and so demand 3 of what it holds (crate promise, `Kept`): the admitted writes are those of the description and the calls
pub record EntryKept (l : Lent) (h : Held) (ts : List Turn) : Type 0 where
  pub told : Told l.image (entry_run h ts).save (entry_copies h ts) (calls ts) (admitted l ts)
  -- the values are of their C types, so that records are read back as they were written
  pub typed : Typed (calls ts)
  pub ruled : EntryRuled h (terms l) (opening l) ts

abbrev pub EntryPromise : Type 0
EntryPromise =
    (image : List ℕ) (l : Lent) (ts : List Turn)
    → (freshly image l).number ≡ done
    → Below 256 l.image
    → AllLend (ram_of l) ts
    → TurnsTyped ts
    → EntryKept l (held_at image l) ts

-- and which are not refused (crate promise, `Judged`), with a buffer of an image's length; 4 with any other, whatever the description: "Order: 3
-- (after an image's length, by 4)" (document 01)
abbrev pub EntryBegins : Type 0
EntryBegins =
    (image : List ℕ) (l : Lent)
    → (length image ≡ image_len → Judged l (freshly image l).number)
    × ((length image ≡ image_len → ⊥) → (freshly image l).number ≡ wrong_length)

-- From any image that is taken, over a save and a log of its lengths (crate promise, `Able`, `Continued`)
pub record Holding (h : Held) : Type 0 where
  pub image : Below 256 h.image
  pub save : Below 256 h.save
  pub taken : (used_entry h.image).number ≡ done
  pub ram : length h.save ≡ (terms_of (bus_in h)).ram
  pub log : length h.log ≤ log_limit
  pub used : used_in h ≤ length h.log

pub record EntryContinued (h : Held) (ts : List Turn) : Type 0 where
  pub save : (entry_run h ts).save ≡ apply_all h.save (admitted_from (bus_in h) ts)
  pub log : joined (entry_copies h ts) ≡ used_of h ++ records_of (admitted_from (bus_in h) ts)
  pub ruled : EntryRuled h (terms_of (bus_in h)) (gate_of (bus_in h)) ts
  pub older : (image : List ℕ) → recovery image (used_of h) ≡ outcome done h.save
      → (recover_all image (entry_copies h ts) ≡ (entry_run h ts).save)
      × ((n : ℕ)
      → recover_all image (cut_copies n (entry_copies h ts)) ≡ apply_all image (take (n / width) (records (used_of h) ++ admitted_from (bus_in h) ts)))
      × ((n : ℕ) → Recovers image (cut_copies n (entry_copies h ts)))
  pub unused : used_in h ≡ 0 → Told h.save (entry_run h ts).save (entry_copies h ts) (calls ts) (admitted_from (bus_in h) ts)

abbrev pub EntryResumed : Type 0
EntryResumed = (h : Held) (ts : List Turn) → Holding h → AllLend (terms_of (bus_in h)).ram ts → TurnsTyped ts → EntryContinued h ts
