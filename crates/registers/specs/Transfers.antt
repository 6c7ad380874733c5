-- The transfers (document 01, "The bus": HDMA block, FF55, "Our one change"; OAM DMA's bytes are crate copies'): FF51..FF55, which bytes a write copies, and the
-- registers after the last byte.
use Rattle.std.specs.Prelude.{cond, ℕ, eqb, set}
use Rattle.copies.specs.Copies.{nothing, oam_copy, landed}
use Rattle.copies.specs.declared.Copy.{Copy}
use Rattle.copies.specs.declared.Finish.{Finish}
use Rattle.copies.specs.declared.Finish.TheVariants.{Nothing, Block, General}
use Rattle.hdma.specs.Hdma.{source_high, source_low, destination_high, destination_low, starts, source_used, destination_used, block_ended, general_ended}
use Rattle.hdma.specs.PanDocs.{length_of}
use Rattle.hdma.specs.declared.Ended.{Ended}
use Rattle.hdma.specs.declared.Start.{Start}
use Rattle.hdma.specs.declared.Start.TheVariants as start
use Rattle.hdma.specs.declared.Written.{Written}
use Rattle.memory.specs.World.{with_hdma}
use Rattle.memory.specs.declared.Memory.{Memory}
use Rattle.registers.specs.Colour.{in_colour}
use Rattle.registers.specs.State.{loaded, stored}
use Rattle.registers.specs.declared.transfers.Started.{Started}

-- the hidden addresses, and a byte of the page
abbrev pub transfer_put : Memory → ℕ → Written → Memory
transfer_put m at w = with_hdma m w.hdma (set m.page at w.byte)

unfoldable pub source_high_put : Memory → ℕ → Memory
source_high_put m v = in_colour m 0x51 v (transfer_put m 0x51 (source_high m.core.hdma v))

unfoldable pub source_low_put : Memory → ℕ → Memory
source_low_put m v = in_colour m 0x52 v (transfer_put m 0x52 (source_low m.core.hdma v))

unfoldable pub destination_high_put : Memory → ℕ → Memory
destination_high_put m v = in_colour m 0x53 v (transfer_put m 0x53 (destination_high m.core.hdma v))

unfoldable pub destination_low_put : Memory → ℕ → Memory
destination_low_put m v = in_colour m 0x54 v (transfer_put m 0x54 (destination_low m.core.hdma v))

-- FF51..FF55 as a transfer leaves them
abbrev pub with_ended : Memory → Ended → Memory
with_ended m e =
    with_hdma m e.hdma
    (set (set (set (set (set m.page 0x51 e.r51) 0x52 e.r52) 0x53 e.r53) 0x54 e.r54) 0x55 e.r55)

-- an HDMA block: 16 bytes
abbrev pub block_copy : Memory → Copy
block_copy m =
    record { source = source_used m.core.hdma; destination = destination_used m.core.hdma; count = 16; finish = Block }

-- a general transfer: of its bytes, those that land in video memory ("Our one change")
abbrev pub general_copy : Memory → ℕ → Copy
general_copy m v =
    record {
      source = source_used m.core.hdma;
      destination = destination_used m.core.hdma;
      count = landed (destination_used m.core.hdma) (length_of v);
      finish = General;
    }

-- FF55 as it is decided: the state before any byte is copied, and what is copied; a general transfer sets the registers at its end
abbrev pub started_by : Memory → ℕ → Start → Started
started_by m v (start.Set w) = record { memory = transfer_put m 0x55 w; copy = nothing }
started_by m v (start.Block w) = record { memory = transfer_put m 0x55 w; copy = block_copy m }
started_by m v start.General = record { memory = m; copy = general_copy m v }

-- a monochrome machine just stores it
unfoldable pub started : Memory → ℕ → Started
started m v =
    cond m.core.banks.colour (started_by m v (starts m.core.hdma m.core.lcd.mode v))
    (record { memory = stored m 0x55 v; copy = nothing })

abbrev pub start_put : Memory → ℕ → Memory
start_put m v = (started m v).memory

abbrev pub start_copy : Memory → ℕ → Copy
start_copy m v = (started m v).copy

-- what a byte write copies, from the state before it
unfoldable pub copy_of : Memory → ℕ → ℕ → Copy
copy_of m index v = cond (eqb index 0xFF46) (oam_copy v) (cond (eqb index 0xFF55) (start_copy m v) nothing)

-- the registers after the last byte
unfoldable pub finished : Memory → Finish → ℕ → Memory
finished m Nothing v = m
finished m Block v = with_ended m (block_ended m.core.hdma (loaded m 0x55))
finished m General v = with_ended m (general_ended m.core.hdma v)
