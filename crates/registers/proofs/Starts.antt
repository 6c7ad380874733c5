-- What a byte write copies is one of four things.
use Prim.Native.Nat.{ℕ}
use lib.Dec.{eqb}
use Rattle.hdma.proofs.Laws.{by_start}
use Rattle.hdma.specs.declared.Start.{Start}
use Rattle.memory.specs.declared.Memory.{Memory}
use Rattle.rules.proofs.Tests.{cond_both}
use Rattle.copies.specs.Copies.{nothing, oam_copy}
use Rattle.registers.specs.Transfers.{block_copy, general_copy, started_by, started, copy_of}
use Rattle.copies.specs.declared.Copy.{Copy}
use Rattle.registers.specs.declared.transfers.Started.{Started}

pub by_copy : (P : Copy → Type 0) (m : Memory) (index v : ℕ) → P nothing → P (oam_copy v) → P (block_copy m) → P (general_copy m v)
    → P (copy_of m index v)
unfolding copy_of started
by_copy P m index v n o b g =
    cond_both P (eqb index 0xFF46) o
    (cond_both P (eqb index 0xFF55)
    (cond_both (λ (s : Started). P s.copy) m.core.banks.colour
    (by_start (λ (s : Start). P (started_by m v s).copy) m.core.hdma m.core.lcd.mode v n b n g) n)
    n)
