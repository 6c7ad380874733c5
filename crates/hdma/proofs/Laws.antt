-- What the proofs here and the bus cite of the definitions: addresses stay multiples of 16, bytes stay bytes, a block lands in video memory;
-- and document 01's corners 5, 7, 8, computed.
use Rattle.std.proofs.Common.{◌≡◌, ℕ, ◌+◌, ◌/◌, ◌%◌, ◌<◌, ◌≤◌, Bool, true, false, eqb, ltb, refl, arith}
use Rattle.bit_utils.specs.Bits.{is_set}
use Rattle.rules.proofs.Tests.{cond_both}
use Rattle.hdma.specs.PanDocs.{source_of, destination_of, length_of, hblank, general}
use Rattle.hdma.specs.Hdma.{Address, InRange, kept_below, source_high, source_low, destination_high, destination_low}
use Rattle.hdma.specs.Hdma.{running, stopped, first_block, starts, source_used, destination_used, risen, stepped}
use Rattle.hdma.specs.Hdma.{still_on, block_ended, general_ended, start_of}
use Rattle.hdma.specs.declared.Hdma.{Hdma}
use Rattle.hdma.specs.declared.Start.{Start}
use Rattle.hdma.specs.declared.Start.TheVariants.{Set, Block, General}
use Rattle.hdma.specs.declared.Ended.{Ended}

-- the upper four bits of a byte
pub upper_bits : (v : ℕ) → v < 256 → v / 16 % 16 ≡ v / 16
upper_bits v h = omega arith

abbrev Byte : ℕ → Type 0
Byte x = x < 256

-- What holds of each thing that a write of FF55 may do holds of what it does

pub by_start : (P : Start → Type 0) (h : Hdma) (mode v : ℕ) → P (Set (running h v)) → P (Block (running h v)) → P (Set (stopped h))
    → P General → P (starts h mode v)
unfolding starts first_block
by_start P h mode v s b t g =
    cond_both P (general h.on v) g
    (cond_both P (hblank v) (cond_both P h.on s (cond_both P (eqb mode 0) b s)) t)

-- Addresses

pub source_address : (high low : ℕ) → high < 256 → Address (source_of high low)
source_address high low h = (omega arith, omega arith)

pub destination_address : (high low : ℕ) → Address (destination_of high low)
destination_address high low = (omega arith, omega arith)

pub risen_address : (a n : ℕ) → a % 16 ≡ 0 → n % 16 ≡ 0 → Address (risen a n)
risen_address a n h k = (omega arith, omega arith)

pub stepped_address : (edge past a : ℕ) → Address past → Address a → Address (stepped edge past a)
unfolding stepped
stepped_address edge past a p h =
    cond_both Address (eqb (risen a 16) edge) p (risen_address a 16 h.0 refl)

pub kept_byte : (limit v : ℕ) → v < 256 → kept_below limit v < 256
unfolding kept_below
kept_byte limit v h =
    cond_both Byte (ltb v 0x80) h (cond_both Byte (ltb v limit) (omega arith) h)

-- In range stays in range, through every function

pub source_high_range : (h : Hdma) (v : ℕ) → InRange h → v < 256 → InRange (source_high h v).hdma
unfolding source_high
source_high_range h v r b = (source_address _ h.source (kept_byte _ v b), r.1)

pub source_low_range : (h : Hdma) (v : ℕ) → InRange h → InRange (source_low h v).hdma
unfolding source_low
source_low_range h v r = (source_address (h.source / 256) v (omega arith), r.1)

pub destination_high_range : (h : Hdma) (v : ℕ) → InRange h → InRange (destination_high h v).hdma
unfolding destination_high
destination_high_range h v r = (r.0, destination_address v h.destination)

pub destination_low_range : (h : Hdma) (v : ℕ) → InRange h → InRange (destination_low h v).hdma
unfolding destination_low
destination_low_range h v r = (r.0, destination_address (h.destination / 256) v)

pub block_range : (h : Hdma) (r55 : ℕ) → InRange h → InRange (block_ended h r55).hdma
unfolding block_ended
block_range h r55 r =
    (stepped_address _ _ h.source (refl, omega arith) r.0, stepped_address _ _ h.destination (refl, omega arith) r.1)

pub general_range : (h : Hdma) (v : ℕ) → InRange h → InRange (general_ended h v).hdma
unfolding general_ended
general_range h v r =
    let m : length_of v % 16 ≡ 0 = omega arith in
    (risen_address h.source _ r.0.0 m, risen_address h.destination _ r.1.0 m)

pub start_range : (r51 r52 r53 r54 : ℕ) → r51 < 256 → InRange (start_of r51 r52 r53 r54)
unfolding start_of
start_range r51 r52 r53 r54 b = (source_address _ r52 (kept_byte _ r51 b), destination_address r53 r54)

-- Bytes

pub source_high_byte : (h : Hdma) (v : ℕ) → v < 256 → (source_high h v).byte < 256
unfolding source_high
source_high_byte h v b = kept_byte _ v b

pub source_low_byte : (h : Hdma) (v : ℕ) → v < 256 → (source_low h v).byte < 256
unfolding source_low
source_low_byte h v b = omega arith

pub destination_high_byte : (h : Hdma) (v : ℕ) → (destination_high h v).byte < 256
unfolding destination_high
destination_high_byte h v = omega arith

pub destination_low_byte : (h : Hdma) (v : ℕ) → v < 256 → (destination_low h v).byte < 256
unfolding destination_low
destination_low_byte h v b = omega arith

abbrev pub Bytes : Ended → Type 0
Bytes e = (e.r51 < 256) × (e.r52 < 256) × (e.r53 < 256) × (e.r54 < 256) × (e.r55 < 256)

pub block_bytes : (h : Hdma) (r55 : ℕ) → InRange h → Bytes (block_ended h r55)
unfolding block_ended
block_bytes h r55 r = let n = block_range h r55 r in (omega arith, omega arith, omega arith, omega arith, omega arith)

pub general_bytes : (h : Hdma) (v : ℕ) → Bytes (general_ended h v)
unfolding general_ended
general_bytes h v = (omega arith, omega arith, omega arith, omega arith, omega arith)

-- Where a transfer copies

pub length_range : (v : ℕ) → (16 ≤ length_of v) × (length_of v ≤ 2048)
length_range v = (omega arith, omega arith)

-- byte i of a block is read below 65,536 and lands in video memory
pub block_source : (h : Hdma) (i : ℕ) → InRange h → i < 16 → source_used h + i < 65536
unfolding source_used
block_source h i r l = omega arith

pub block_lands : (h : Hdma) (i : ℕ) → i < 16 → (0x8000 ≤ destination_used h + i) × (destination_used h + i < 0xA000)
unfolding destination_used
block_lands h i l = (omega arith, omega arith)

-- in range a transfer reads from the address itself, and lands there where that is in video memory
pub source_itself : (h : Hdma) → InRange h → source_used h ≡ h.source
unfolding source_used
source_itself h r = omega arith

pub destination_itself : (h : Hdma) → InRange h → 0x8000 ≤ h.destination → h.destination < 0xA000
    → destination_used h ≡ h.destination
unfolding destination_used
destination_itself h r l u = omega arith

-- Corners of document 01, and traps

abbrev off : ℕ → ℕ → Hdma
off s d = record { on = false; source = s; destination = d }

-- 5: FF51 keeps 7F and C0; 80 and BF become 00
pub corner_5 : (h : Hdma)
    → ((source_high h 0x7F).byte ≡ 0x7F)
    × ((source_high h 0xC0).byte ≡ 0xC0)
    × ((source_high h 0x80).byte ≡ 0)
    × ((source_high h 0xBF).byte ≡ 0)
unfolding source_high kept_below
corner_5 h = (refl, refl, refl, refl)

-- 7: after a block from 7FF0 to 9FF0, FF51..FF54 read A0 00 80 00
pub corner_7 : (on : Bool) (r55 : ℕ)
    → let e = block_ended (record { on = on; source = 0x7FF0; destination = 0x9FF0 }) r55 in
    (e.r51 ≡ 0xA0) × (e.r52 ≡ 0) × (e.r53 ≡ 0x80) × (e.r54 ≡ 0)
unfolding block_ended stepped
corner_7 on r55 = (refl, refl, refl, refl)

-- 8: fresh colour, FF55 given 00: 16 bytes from FFF0 to 9FF0; hidden source 0000, destination A000
pub fresh_colour_law : start_of 0xFF 0xFF 0xFF 0xFF ≡ off 0xFFF0 0x9FF0
unfolding start_of kept_below
fresh_colour_law = refl

pub corner_8_starts : (mode : ℕ) → starts (off 0xFFF0 0x9FF0) mode 0 ≡ General
unfolding is_set starts
corner_8_starts mode = refl

pub corner_8_ends : ((general_ended (off 0xFFF0 0x9FF0) 0).hdma ≡ off 0 0xA000) × (length_of 0 ≡ 16)
unfolding general_ended
corner_8_ends = (refl, refl)

-- the next block lands at 8000 all the same
pub lands_again : destination_used (off 0 0xA000) ≡ 0x8000
unfolding destination_used
lands_again = refl

-- a block on fresh monochrome: FF51..FF55 read 00 10 00 10 FE
pub monochrome_block : block_ended (off 0 0) 0xFF
    ≡ record { hdma = off 0x10 0x10; r51 = 0; r52 = 0x10; r53 = 0; r54 = 0x10; r55 = 0xFE }
unfolding block_ended stepped still_on
monochrome_block = refl

-- only a block's source jumps from 8000 to A000, a general transfer's runs on
pub runs_on : ((general_ended (off 0x7FF0 0x8000) 0).hdma.source ≡ 0x8000) × ((block_ended (off 0x7FF0 0x8000) 0).hdma.source ≡ 0xA000)
unfolding general_ended block_ended stepped
runs_on = (refl, refl)

-- in LCD mode 0, FF55 given 80 copies a block at once
pub first_at_once : starts (off 0 0x8000) 0 0x80
    ≡ Block (record { hdma = record { on = true; source = 0; destination = 0x8000 }; byte = 0 })
unfolding is_set first_block starts
first_at_once = refl
