-- What crate hdma gives of the byte is in range; it is put in colour, else the byte is stored.
use native.Mathlib.Omega.{arith}
use Rattle.hdma.specs.Hdma.{source_high}
use Rattle.registers.proofs.Kept.{in_kept}
use Rattle.registers.specs.Transfers.{source_high_put}
use Rattle.registers.specs.declared.register.Register.TheVariants as is
use Rattle.in_place.proofs.Images.{address_storable, address_written}
use Rattle.in_place.proofs.transfers.write_source_high.Goals as goal

pub write_address-requires-clause-kept : goal.write_address-requires-clause-kept
unfolding source_high_put
write_address-requires-clause-kept c = λ w p b.
    address_storable _ c.requires 0x51 (omega arith) c.args.value source_high p.1 (in_kept is.SourceHigh _ 0x51 c.args.value) b

pub returns : goal.returns
unfolding source_high_put
returns c =
    address_written _ c.requires 0x51 (omega arith) c.args.value source_high
    (λ b. let r = c.write_address.ensures.coloured b in (r.0, r.1.1, r.2)) c.write_address.ensures.plain
