-- What the transfers leave, on every world, in range or not, and of a call that is refused too: `transfers_hold` has it as its contract.
use Rattle.std.specs.Prelude.{cond, not, ◌&&◌, List, ◌++◌, ◌≡◌, ℕ, ◌+◌, ◌*◌, ◌/◌, ◌%◌, ◌<◌, ◌≤◌, eqb, ltb, length, get_or, drop}
use Rattle.copies.specs.Copies.{landed}
use Rattle.dispatch.specs.Step.{step}
use Rattle.dispatch.specs.declared.Call.{Call}
use Rattle.dispatch.specs.declared.Call.TheVariants as call
use Rattle.hdma.specs.Hdma.{destination_used}
use Rattle.hdma.specs.PanDocs.{length_of, hblank}
use Rattle.memory.specs.World.{World, Fixed, with_oam, hdma_in}
use Rattle.memory.specs.declared.Memory.{Memory}
use Rattle.mmu.specs.Access.{in_state}
use Rattle.mmu.specs.PanDocs.{vram_at}
use Rattle.numbers.specs.Numbers.{done}
use Rattle.refusals.specs.Refusal.{refused_write}
use Rattle.registers.specs.State.{stored}
use Rattle.corners.specs.Rows.{bytes}

-- Blocks and general transfers

-- Document 01, "The bus", of a block: "FF51..FF54 show them; FF55 falls by 1"; of a general transfer: "FF51..FF55 become FF". Of the state the
-- bytes from FF51 to a last one may change, and HDMA's own record: on, source, destination. Nothing else does: no bank, no number of the screen.
pub record OnlyRegisters (last : ℕ) (m n : Memory) : Type 0 where
  pub core : n.core ≡ hdma_in m.core n.core.hdma
  pub page : (at : ℕ) → (0x51 ≤ at → at ≤ last → ⊥) → get_or n.page at 0 ≡ get_or m.page at 0
  pub size : length n.page ≡ length m.page
  pub oam : n.oam ≡ m.oam
  pub background : n.background ≡ m.background
  pub sprites : n.sprites ≡ m.sprites

-- and of what is lent only so many bytes of video memory, from a place on
pub record OnlyVideo (last place count : ℕ) (w u : World) : Type 0 where
  pub state : OnlyRegisters last w.state u.state
  pub vram : (i : ℕ) → (place ≤ i → i < place + count → ⊥) → get_or u.vram i 0 ≡ get_or w.vram i 0
  pub size : length u.vram ≡ length w.vram
  pub wram : u.wram ≡ w.wram
  pub save : u.save ≡ w.save
  pub log : u.log ≡ w.log

-- where the first byte lands: in the selected bank, at the destination, of which only bits 12..4 count
abbrev pub place_of : Memory → ℕ
place_of m = vram_at m.core.banks.vram (destination_used m.core.hdma)

-- "HDMA block: 16 bytes"
abbrev pub block_bytes : ℕ
block_bytes = 16

-- How many land by a write of FF55 ("Colour only"): "with HDMA on" none; "with it off, bit 7 set starts it (one block at once in LCD mode 0);
-- clear runs GDMA of 16 + 16 x value bytes", of which no more land than there are below A000 ("Our one change")
unfoldable pub lands_by : Memory → ℕ → ℕ
lands_by m v =
    cond (m.core.banks.colour && not m.core.hdma.on)
    (cond (hblank v) (cond (eqb m.core.lcd.mode 0) block_bytes 0) (landed (destination_used m.core.hdma) (length_of v)))
    0

-- the call for a block; FF55 written; a word written with FF55 as its low half, which stores FF56 too; and as its high half, after FF54, which
-- sets where the bytes land
pub record LeftBy (x : Fixed) (w : World) : Type 0 where
  pub called : OnlyVideo 0x55 (place_of w.state) block_bytes w (step x w call.DoHdma).after
  pub byte : (v : ℕ) → OnlyVideo 0x55 (place_of w.state) (lands_by w.state v) w (step x w (call.WriteByte 0xFF55 v)).after
  pub low : (word : ℕ)
      → OnlyVideo 0x56 (place_of w.state) (lands_by w.state (word % 256)) w (step x w (call.WriteWord 0xFF55 word)).after
  pub high : (word : ℕ)
      → let m = (step x w (call.WriteByte 0xFF54 (word % 256))).after.state in
      OnlyVideo 0x55 (place_of m) (lands_by m (word / 256)) w (step x w (call.WriteWord 0xFF54 word)).after

-- neither a block nor a general transfer changes anything but video memory and the registers that document 01 names
abbrev pub TransferLeaves : Type 0
TransferLeaves = (x : Fixed) (w : World) → LeftBy x w

-- "Our one change: neither GDMA nor an HDMA block writes outside 8000..9FFF, wherever its destination stands": all of these lie in the selected bank
abbrev pub Within : Memory → ℕ → Type 0
Within m count =
    (m.core.banks.vram * 0x2000 ≤ place_of m) × (place_of m + count ≤ m.core.banks.vram * 0x2000 + 0x2000)

abbrev pub InBank : Type 0
InBank = (m : Memory) → Within m block_bytes × ((v : ℕ) → Within m (lands_by m v))

-- OAM DMA

-- Pan Docs, "OAM DMA Transfer": "A write of XX to FF46 copies XX00..XX9F to FE00..FE9F, XX from 00 to DF". At once: what reads of these 160 give,
-- and behind them the last 96 of OAM as they were. Pages E0..FF, of which Pan Docs say nothing, copy nothing (document 02, wish 1).
unfoldable pub oam_by : (ℕ → ℕ) → ℕ → List ℕ → List ℕ
oam_by read page oam = cond (ltb page 0xE0) (bytes read (page * 256) 160 ++ drop 160 oam) oam

-- The calls that make one, each with its page, and with the state that the call leaves but for OAM. Its own call stores nothing else; FF46 written
-- "keeps the page"; a word written with FF46 as its low half stores FF47 too; as its high half, it is what FF45 written alone leaves, with FF46
pub data OamDma (x : Fixed) (w : World) : Call → ℕ → Memory → Type 0 where
  called : (page : ℕ) → OamDma x w (call.DoDmaTransfer page) page w.state
  byte : (page : ℕ) → OamDma x w (call.WriteByte 0xFF46 page) page (stored w.state 0x46 page)
  low : (word : ℕ) → OamDma x w (call.WriteWord 0xFF46 word) (word % 256) (stored (stored w.state 0x46 (word % 256)) 0x47 (word / 256))
  high : (word : ℕ)
      → OamDma x w (call.WriteWord 0xFF45 word) (word / 256)
      (stored (step x w (call.WriteByte 0xFF45 (word % 256))).after.state 0x46 (word / 256))

-- It is refused by 3 and 4 as every write is, and by no other number, and then leaves all as it was. Where it is not, it leaves this state with OAM
-- by the reads before it, and what is lent as it was. OAM has 256 bytes, as its type says.
abbrev pub Sprites : Type 0
Sprites =
    (x : Fixed) (w : World) (c : Call) (page : ℕ) (m : Memory)
    → OamDma x w c page m
    → length w.state.oam ≡ 256
    → ((step x w c).number ≡ refused_write x w)
    × ((refused_write x w ≡ done → ⊥) → (step x w c).after ≡ w)
    × (refused_write x w ≡ done
    → (step x w c).after ≡ in_state w (with_oam m (oam_by (λ i. (step x w (call.ReadByte i)).value) page w.state.oam)))
