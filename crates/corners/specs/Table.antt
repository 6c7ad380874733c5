-- Document 01, "Corners that decide": the starred ones. "Addresses and bytes are hex; N, cycles, banks and colours decimal. Each corner, and each count
-- of cycles, starts from a fresh bus; 5, 7, 9, 13 in colour." A corner that names no kind of machine is shown on both.
use Rattle.std.specs.Prelude.{Bool, true, false, List, [], ◌∷◌, ◌++◌, ℕ, ◌+◌, take, set, get_or, replicate}
use Rattle.mbc.specs.Mbc.{rom_bank}
use Rattle.memory.specs.Start.{black}
use Rattle.palette.specs.declared.Color.{Color}
use Rattle.corners.specs.Rows.{Lent, bytes, Description, read, write, cycle, press, poll, block, Line, does, gives, shows, Row, Every}

abbrev monochrome : List Bool
monochrome = false ∷ []

abbrev colour : List Bool
colour = true ∷ []

abbrev either : List Bool
either = false ∷ true ∷ []

-- Cartridges: kind (0 RomOnly, 1 Mbc1, 2 Mbc2, 3 Mbc5), N, RAM code

abbrev described : ℕ → ℕ → ℕ → Description
described kind banks code = record { kind = kind; banks = banks; code = code }

-- with a save of 8,192 bytes
abbrev pub rom_only : Description
rom_only = described 0 2 2

abbrev pub mbc1 : ℕ → Description
mbc1 n = described 1 n 0

abbrev pub mbc2 : Description
mbc2 = described 2 2 0

-- Calls

abbrev reads : ℕ → ℕ → Line
reads index value = gives (read index) value

abbrev given : ℕ → ℕ → Line
given index value = does (write index value)

abbrev cycles : ℕ → Line
cycles n = does (cycle n)

abbrev presses : ℕ → Line
presses button = does (press button)

abbrev update : Line
update = does poll

abbrev hdma_block : Line
hdma_block = gives block 36

-- buttons follow `Button`'s order
abbrev up : ℕ
up = 0

abbrev a : ℕ
a = 4

-- What no call reads

abbrev selects : ℕ → Line
selects bank = shows (λ w. rom_bank w.state.core.mapper ∷ []) (bank ∷ [])

abbrev work_bank : ℕ → Line
work_bank bank = shows (λ w. w.state.core.banks.wram ∷ []) (bank ∷ [])

abbrev oam_is : List ℕ → Line
oam_is l = shows (λ w. w.state.oam) l

abbrev vram_is : List ℕ → Line
vram_is l = shows (λ w. w.vram) l

abbrev save_is : List ℕ → Line
save_is l = shows (λ w. w.save) l

-- the log's first bytes, as many as are used
abbrev log_is : List ℕ → Line
log_is l = shows (λ w. take w.state.core.used w.log) l

abbrev channels : Color → List ℕ
channels c = c.red ∷ c.green ∷ c.blue ∷ []

abbrev first_colour : ℕ → ℕ → ℕ → Line
first_colour r g b = shows (λ w. channels (get_or w.state.background 0 black)) (r ∷ g ∷ b ∷ [])

abbrev row : ℕ → List Bool → Description → List Line → Row
row n machines cartridge lines = record { corner = n; machines = machines; cartridge = cartridge; lines = lines }

-- TAC 05, TMA F0, TIMA FF
abbrev counting : List Line
counting = given 0xFF07 0x05 ∷ given 0xFF06 0xF0 ∷ given 0xFF05 0xFF ∷ []

-- bytes at the start, at the end and past the end of what an OAM DMA copies, and OAM with them
abbrev marked : ℕ → List Line
marked at = given at 0x5A ∷ given (at + 0x9F) 0xA5 ∷ given (at + 0xA0) 0x3C ∷ []

abbrev copied : List ℕ
copied = 0x5A ∷ replicate 158 0 ++ 0xA5 ∷ replicate 96 0

-- a transfer's source and destination
abbrev from_to : ℕ → ℕ → ℕ → ℕ → List Line
from_to a b c d = given 0xFF51 a ∷ given 0xFF52 b ∷ given 0xFF53 c ∷ given 0xFF54 d ∷ []

-- video memory with these bytes at 9FF0, and as it was else
abbrev landed : List ℕ → List ℕ
landed l = replicate 0x1FF0 0 ++ l ++ replicate 0x2000 0

-- 1. * Fresh: FF44 reads 90, FF00 reads C0.
abbrev pub corner1 : List Row
corner1 = row 1 either rom_only (reads 0xFF44 0x90 ∷ reads 0xFF00 0xC0 ∷ []) ∷ []

-- 2. * Fresh monochrome: 255 cycles leave DIV D3, 256 give D4, 11,520 give 00.
abbrev pub corner2 : List Row
corner2 =
    row 2 monochrome rom_only (cycles 255 ∷ reads 0xFF04 0xD3 ∷ [])
    ∷ row 2 monochrome rom_only (cycles 256 ∷ reads 0xFF04 0xD4 ∷ [])
    ∷ row 2 monochrome rom_only (cycles 11520 ∷ reads 0xFF04 0x00 ∷ [])
    ∷ []

-- 3. * TAC 05, TMA F0, TIMA FF: 15 cycles change nothing in TIMA; 16 give F0, FF0F reads E5; 272 give F0.
abbrev pub corner3 : List Row
corner3 =
    row 3 either rom_only (counting ++ cycles 15 ∷ reads 0xFF05 0xFF ∷ [])
    ∷ row 3 either rom_only (counting ++ cycles 16 ∷ reads 0xFF05 0xF0 ∷ reads 0xFF0F 0xE5 ∷ [])
    ∷ row 3 either rom_only (counting ++ cycles 272 ∷ reads 0xFF05 0xF0 ∷ [])
    ∷ []

-- 4. * DMA page 7F copies (document 02, wish 1), 80 copies, DF copies, E0 none.
abbrev pub corner4 : Lent → List Row
corner4 lent =
    row 4 either rom_only (given 0xFEA0 0x77 ∷ given 0xFF46 0x7F ∷ oam_is (bytes lent.rom 0x7F00 160 ++ 0x77 ∷ replicate 95 0) ∷ [])
    ∷ row 4 either rom_only (marked 0x8000 ++ given 0xFF46 0x80 ∷ oam_is copied ∷ [])
    ∷ row 4 either rom_only (marked 0xDF00 ++ given 0xFF46 0xDF ∷ oam_is copied ∷ [])
    ∷ row 4 either rom_only (given 0xFE00 0x77 ∷ marked 0xC000 ++ given 0xFF46 0xE0 ∷ oam_is (set (replicate 256 0) 0 0x77) ∷ [])
    ∷ []

-- 5. * FF51 keeps 7F and C0; 80 and BF become 00.
abbrev pub corner5 : List Row
corner5 =
    row 5 colour rom_only (given 0xFF51 0x7F ∷ reads 0xFF51 0x7F ∷ [])
    ∷ row 5 colour rom_only (given 0xFF51 0xC0 ∷ reads 0xFF51 0xC0 ∷ [])
    ∷ row 5 colour rom_only (given 0xFF51 0x80 ∷ reads 0xFF51 0x00 ∷ [])
    ∷ row 5 colour rom_only (given 0xFF51 0xBF ∷ reads 0xFF51 0x00 ∷ [])
    ∷ []

-- 6. * Colour FF70 given 00 reads 40, bank 1. (From a fresh bus, and from bank 5.)
abbrev pub corner6 : List Row
corner6 =
    row 6 colour rom_only (given 0xFF70 0x00 ∷ reads 0xFF70 0x40 ∷ work_bank 1 ∷ [])
    ∷ row 6 colour rom_only (given 0xFF70 0x05 ∷ work_bank 5 ∷ given 0xFF70 0x00 ∷ reads 0xFF70 0x40 ∷ work_bank 1 ∷ [])
    ∷ []

-- 7. * HDMA block from 7FF0 to 9FF0: FF51..FF54 read A0 00 80 00.
abbrev pub corner7 : Lent → List Row
corner7 lent =
    row 7 colour rom_only
    (from_to 0x7F 0xF0 0x9F 0xF0
    ++ hdma_block
    ∷ reads 0xFF51 0xA0
    ∷ reads 0xFF52 0x00
    ∷ reads 0xFF53 0x80
    ∷ reads 0xFF54 0x00
    ∷ reads 0x9FF0 (lent.rom 0x7FF0)
    ∷ [])
    ∷ []

-- 9. * Destination 9FF0, FF55 given 01: 16 bytes land, the save is untouched. (They come from 0000 on.)
abbrev pub corner9 : Lent → List Row
corner9 lent =
    row 9 colour rom_only
    (from_to 0x00 0x00 0x9F 0xF0
    ++ given 0xFF55 0x01
    ∷ vram_is (landed (bytes lent.rom 0 16))
    ∷ save_is (bytes lent.save 0 8192)
    ∷ log_is []
    ∷ [])
    ∷ []

-- 10. * Mbc1, N 4: 2000 given 10 selects 0; 4000 given 00 then selects 1. N 128: 4000 given 1 then 2000 given 0 selects 33.
abbrev pub corner10 : List Row
corner10 =
    row 10 either (mbc1 4) (given 0x2000 0x10 ∷ selects 0 ∷ given 0x4000 0x00 ∷ selects 1 ∷ [])
    ∷ row 10 either (mbc1 128) (given 0x4000 0x01 ∷ given 0x2000 0x00 ∷ selects 33 ∷ [])
    ∷ []

-- 11. * Mbc2 enabled: A000 given AB stores 0B.
abbrev pub corner11 : Lent → List Row
corner11 lent =
    row 11 either mbc2 (given 0x0000 0x0A ∷ given 0xA000 0xAB ∷ save_is (set (bytes lent.save 0 512) 0 0x0B) ∷ []) ∷ []

-- 12. * Address 1234, value 56: bytes 84 8D 15 80, as document 02 has it. (Address 1234 of the save is at B234.)
abbrev pub corner12 : List Row
corner12 =
    row 12 either rom_only (given 0xB234 0x56 ∷ reads 0xB234 0x56 ∷ log_is (0x84 ∷ 0x8D ∷ 0x15 ∷ 0x80 ∷ []) ∷ []) ∷ []

-- 13. * FF68 80, then FF69 1F, 7C: colour (31, 0, 31), FF68 reads C2.
abbrev pub corner13 : List Row
corner13 =
    row 13 colour rom_only
    (given 0xFF68 0x80 ∷ given 0xFF69 0x1F ∷ given 0xFF69 0x7C ∷ first_colour 31 0 31 ∷ reads 0xFF68 0xC2 ∷ [])
    ∷ []

-- 14. * Press A, press Up, update, fresh monochrome: FF0F reads F1, FF00 reads CB.
abbrev pub corner14 : List Row
corner14 = row 14 monochrome rom_only (presses a ∷ presses up ∷ update ∷ reads 0xFF0F 0xF1 ∷ reads 0xFF00 0xCB ∷ []) ∷ []

abbrev pub table : Lent → List Row
table lent =
    corner1
    ++ corner2
    ++ corner3
    ++ corner4 lent
    ++ corner5
    ++ corner6
    ++ corner7 lent
    ++ corner9 lent
    ++ corner10
    ++ corner11 lent
    ++ corner12
    ++ corner13
    ++ corner14

-- the theorem: whatever the lent bytes are, every row holds
abbrev pub Corners : Type 0
Corners = (lent : Lent) → Every lent (table lent)
