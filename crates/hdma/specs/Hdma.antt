-- The colour transfers' registers and addresses (document 01, "The bus": FF51, "HDMA block", "FF55"; the masks F0 and 1F are the Rust's),
-- built from Pan Docs where the Rust follows them. Pan Docs make FF51..FF54 write-only; here they read what was stored.
use Rattle.std.specs.Prelude.{◌≡◌, ℕ, ◌+◌, ◌*◌, ◌/◌, ◌%◌, ◌<◌, Bool, true, false, cond, ◌==◌, nat_lt}
use Rattle.hdma.specs.PanDocs.{source_of, destination_of, length_of, hblank, general, done_byte}
use Rattle.hdma.specs.declared.Hdma.{Hdma}
use Rattle.hdma.specs.declared.Written.{Written}
use Rattle.hdma.specs.declared.Start.{Start}
use Rattle.hdma.specs.declared.Start.TheVariants.{Set, Block, General}
use Rattle.hdma.specs.declared.Ended.{Ended}

-- an address is of 16 bits and a multiple of 16 (document 01, "State ranges")
abbrev pub Address : ℕ → Type 0
Address a = (a % 16 ≡ 0) × (a < 65536)

abbrev pub InRange : Hdma → Type 0
InRange h = Address h.source × Address h.destination

abbrev pub with_source : Hdma → ℕ → Hdma
with_source h s = record { on = h.on; source = s; destination = h.destination }

abbrev pub with_destination : Hdma → ℕ → Hdma
with_destination h d = record { on = h.on; source = h.source; destination = d }

-- a source's high byte from 80 to below the limit becomes 0
unfoldable pub kept_below : ℕ → ℕ → ℕ
kept_below limit high = cond (nat_lt high 0x80) high (cond (nat_lt high limit) 0 high)

-- FF51: 80..BF becomes 0
unfoldable pub source_high : Hdma → ℕ → Written
source_high h value =
    record {
      hdma = with_source h (source_of (kept_below 0xC0 value) h.source);
      byte = kept_below 0xC0 value;
    }

-- FF52 keeps bits 7..4
unfoldable pub source_low : Hdma → ℕ → Written
source_low h value =
    record { hdma = with_source h (source_of (h.source / 256) value); byte = value / 16 * 16 }

-- FF53 keeps bits 4..0
unfoldable pub destination_high : Hdma → ℕ → Written
destination_high h value =
    record { hdma = with_destination h (destination_of value h.destination); byte = value % 32 }

-- FF54 keeps bits 7..4
unfoldable pub destination_low : Hdma → ℕ → Written
destination_low h value =
    record { hdma = with_destination h (destination_of (h.destination / 256) value); byte = value / 16 * 16 }

-- FF55 switches HDMA on or off and stores a byte
abbrev pub switched : Hdma → Bool → ℕ → Written
switched h on byte = record { hdma = record { on = on; source = h.source; destination = h.destination }; byte = byte }

-- bit 7 set: HDMA is on, and the low 7 bits are stored
abbrev pub running : Hdma → ℕ → Written
running h value = switched h true (value % 128)

-- bit 7 clear stops it and stores FF (Pan Docs: 80 and what is left)
abbrev pub stopped : Hdma → Written
stopped h = switched h false 255

-- an HBlank transfer that begins in LCD mode 0 copies its first block at once
unfoldable pub first_block : ℕ → Written → Start
first_block mode w = cond (mode == 0) (Block w) (Set w)

-- what a write of FF55 does
unfoldable pub starts : Hdma → ℕ → ℕ → Start
starts h mode value =
    cond (general h.on value) General
    (cond (hblank value) (cond h.on (Set (running h value)) (first_block mode (running h value)))
    (Set (stopped h)))

-- where a transfer's bytes come from, and where the first lands: video memory, wherever the hidden destination stands
unfoldable pub source_used : Hdma → ℕ
source_used h = source_of (h.source / 256) h.source

unfoldable pub destination_used : Hdma → ℕ
destination_used h = destination_of (h.destination / 256) h.destination

-- an address goes up, wrapping at 65,536
abbrev pub risen : ℕ → ℕ → ℕ
risen address n = (address + n) % 65536

-- an address after a block: up 16, and the edge becomes another address
unfoldable pub stepped : ℕ → ℕ → ℕ → ℕ
stepped edge past address = cond (risen address 16 == edge) past (risen address 16)

-- a block's source: 8000 becomes A000 (not in Pan Docs)
abbrev pub next_source : ℕ → ℕ
next_source = stepped 0x8000 0xA000

-- a block's destination: A000 becomes 8000
abbrev pub next_destination : ℕ → ℕ
next_destination = stepped 0xA000 0x8000

-- FF55 falls by 1, wrapping
abbrev pub fallen : ℕ → ℕ
fallen byte = (byte + 255) % 256

-- FF51..FF54 show the addresses
abbrev pub shown_in : Hdma → ℕ → Ended
shown_in h r55 =
    record {
      hdma = h;
      r51 = h.source / 256;
      r52 = h.source % 256;
      r53 = h.destination / 256;
      r54 = h.destination % 256;
      r55 = r55;
    }

-- HDMA after a block that leaves FF55 so: FF switches it off
unfoldable pub still_on : Bool → ℕ → Bool
still_on on left = cond (left == 255) false on

-- after a block's bytes
unfoldable pub block_ended : Hdma → ℕ → Ended
block_ended h r55 =
    shown_in
    (record {
      on = still_on h.on (fallen r55);
      source = next_source h.source;
      destination = next_destination h.destination;
    })
    (fallen r55)

-- after a general transfer's bytes: both addresses rise by the full length, and FF51..FF55 become FF (Pan Docs: FF55)
unfoldable pub general_ended : Hdma → ℕ → Ended
general_ended h value =
    record {
      hdma = record {
        on = h.on;
        source = risen h.source (length_of value);
        destination = risen h.destination (length_of value);
      };
      r51 = done_byte;
      r52 = done_byte;
      r53 = done_byte;
      r54 = done_byte;
      r55 = done_byte;
    }

-- a fresh colour bus, from FF51..FF54 of its start page (the Rust's from_cartridge): a high byte 80..9F becomes 0
unfoldable pub start_of : ℕ → ℕ → ℕ → ℕ → Hdma
start_of r51 r52 r53 r54 =
    record { on = false; source = source_of (kept_below 0xA0 r51) r52; destination = destination_of r53 r54 }
