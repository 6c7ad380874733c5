-- The registers that the mapper has after the write; its kind stays, so they are put as one number.
use Rattle.put_bytes.proofs.PutLaws.{mapped_kind}
use Rattle.put_bytes.proofs.put_mapper.Goals as goal

pub put_registers-requires : goal.put_registers-requires
put_registers-requires c = let P = c.requires in (P.0.size, (rw (c.after.ensures, c.registers_at-r.ensures, c.cartridge_at-cartridge.ensures) P.1, rw (c.after.ensures, c.registers_at-r.ensures, c.cartridge_at-cartridge.ensures) (mapped_kind _ P.0 _ _)))
