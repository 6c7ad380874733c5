-- Lists of C entries (crate entry, specs/Entries.antt), as a host makes them one after another: each is lent what its turn says (crate promise,
-- specs/Runs.antt), and the host goes on with the image that it left, and with what it left of the host's own.
use Rattle.std.specs.Prelude.{List, [], ◌∷◌, ◌++◌, ℕ, ◌-◌, length, take}
use Rattle.dispatch.specs.Kinds.{kind_of}
use Rattle.entry.specs.Entry.{Given, given, used_entry, Left}
pub use Rattle.entry.specs.Entries.{Held, held, asks, changes, on_state, on_reading, on_world}
unfoldable pub use Rattle.entry.specs.Entries.{entry}
use Rattle.image.specs.Load.{load_call}
use Rattle.memory.specs.World.{World, world}
use Rattle.promise.specs.Runs.{Turn, lent_of, keeps, made, copied_before}

abbrev pub lent_held : Held → Turn → Held
lent_held h t =
    record {
      image = h.image;
      vram = t.vram;
      wram = t.wram;
      save = lent_of t.save h.save;
      log = lent_of t.log h.log;
    }

abbrev pub entered : Held → Turn → Left
entered h t = entry t.read (lent_held h t) t.call

abbrev pub does_go_on : Held → Turn → Left → Held
does_go_on h t l =
    record {
      image = l.image;
      vram = l.vram;
      wram = l.wram;
      save = keeps t.save h.save l.save;
      log = keeps t.log h.log l.log;
    }

abbrev pub next : Held → Turn → Held
next h t = does_go_on h t (entered h t)

unfoldable pub entry_run : Held → List Turn → Held
entry_run h [] = h
entry_run h (t ∷ ts) = entry_run (next h t) ts

-- what they answered: number and value
unfoldable pub entry_answers : Held → List Turn → List Given
entry_answers h [] = []
entry_answers h (t ∷ ts) = given (entered h t).number (entered h t).value ∷ entry_answers (next h t) ts

unfoldable pub answers : World → List Turn → List Given
answers w [] = []
answers w (t ∷ ts) = given (made w t).number (made w t).value ∷ answers (made w t).after ts

abbrev pub numbers_of : List Given → List ℕ
numbers_of [] = []
numbers_of (g ∷ gs) = g.number ∷ numbers_of gs

-- how many bytes of the log are used, as the entry for them says; these bytes; how many are free
abbrev pub used_in : Held → ℕ
used_in h = (used_entry h.image).value

abbrev pub used_of : Held → List ℕ
used_of h = take (used_in h) h.log

abbrev pub free_in : Held → ℕ
free_in h = length h.log - used_in h

-- the used bytes, copied off before each clearing that is done, and at the end
unfoldable pub entry_copies : Held → List Turn → List (List ℕ)
entry_copies h [] = used_of h ∷ []
entry_copies h (t ∷ ts) = copied_before (kind_of t.call) (entered h t).number (used_of h) ++ entry_copies (next h t) ts

-- the bus in the host's hands, with the state that its image holds
abbrev pub bus_in : Held → World
bus_in h = world (load_call h.image).state h.vram h.wram h.save h.log
