-- A C host between two entries: what it holds in its hands, and which entry makes a call (specs/Entry.antt). Lists of entries fold it (crate
-- boundary).
use Rattle.std.specs.Prelude.{List, [], ℕ}
use Rattle.dispatch.specs.Kinds.{Kind, Reading, Clearing, Other, state_kind}
use Rattle.dispatch.specs.declared.Call.{Call}
use Rattle.dispatch.specs.declared.Call.TheVariants as call
use Rattle.dispatch.specs.declared.StateCall.{StateCall}
use Rattle.image.specs.Layout.{image_of}
use Rattle.memory.specs.World.{World, Fixed, fixed}
use Rattle.entry.specs.Entry.{Changed, state_entry, Given, ask_entry, read_entry, Left, left, world_entry}

-- the state as an image, and the memories that it lends
pub record Held : Type 0 where
  pub image : List ℕ
  pub vram : List ℕ
  pub wram : List ℕ
  pub save : List ℕ
  pub log : List ℕ

abbrev pub held : World → Held
held w = record { image = image_of w.state; vram = w.vram; wram = w.wram; save = w.save; log = w.log }

abbrev pub kept : Left → Held
kept l = record { image = l.image; vram = l.vram; wram = l.wram; save = l.save; log = l.log }

-- an entry that asks changes nothing; one on the state alone changes the image
abbrev pub asks : Held → Given → Left
asks h g = left g.number g.value h.image h.vram h.wram h.save h.log

abbrev pub changes : Held → Changed → Left
changes h c = left c.number 0 c.image h.vram h.wram h.save h.log

abbrev pub on_state : Kind → Held → StateCall → Left
on_state Reading h c = asks h (ask_entry h.image c)
on_state Clearing h c = changes h (state_entry h.image c)
on_state Other h c = changes h (state_entry h.image c)

abbrev pub on_reading : Fixed → Held → Call → Left
on_reading x h c = asks h (read_entry x h.image h.vram h.wram h.save c)

abbrev pub on_world : Fixed → Held → Call → Left
on_world x h c = world_entry x h.image h.vram h.wram h.save h.log c

-- the entry of each call: that those of crate host are these is the contract of `enter` (crate enter)
unfoldable pub entry : Fixed → Held → Call → Left
entry x h (call.ReadByte i) = on_reading x h (call.ReadByte i)
entry x h (call.ReadWord i) = on_reading x h (call.ReadWord i)
entry x h (call.ReadCgbLcdRam i bank) = asks h (read_entry (fixed [] []) h.image h.vram [] [] (call.ReadCgbLcdRam i bank))
entry x h (call.WriteByte i v) = on_world x h (call.WriteByte i v)
entry x h (call.WriteWord i v) = on_world x h (call.WriteWord i v)
entry x h (call.DoDmaTransfer page) = on_world x h (call.DoDmaTransfer page)
entry x h call.DoHdma = on_world x h call.DoHdma
entry x h (call.State c) = on_state (state_kind c) h c
