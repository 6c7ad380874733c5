-- In colour the bank is selected, else the byte is stored.
use mathlib.Core.Path.{ap}
use native.Mathlib.Omega.{arith}
use Rattle.memory.specs.declared.Banks.{Banks}
use Rattle.registers.proofs.Kept.{in_kept}
use Rattle.registers.specs.Colour.{wram_bank_put}
use Rattle.registers.specs.PanDocs.{wram_bank_of}
use Rattle.registers.specs.declared.register.Register.TheVariants as is
use Rattle.in_place.proofs.Images.{bank_storable, bank_put}
use Rattle.in_place.proofs.colour.write_wram_bank.Goals as goal

pub put_bank-requires : goal.put_bank-requires
unfolding wram_bank_put
put_bank-requires c = (c.requires, (ap (λ (b : Banks). b.colour) c.banks_at.ensures, bank_storable _ c.requires 0x70 (omega arith) c.args.value _ (λ (b : Banks). record { colour = b.colour; vram = b.vram; wram = wram_bank_of c.args.value }) c.banks_at.ensures (rw c.wram_bank.ensures) (in_kept is.WramBank _ 0x70 _)))

pub returns : goal.returns
unfolding wram_bank_put
returns c = bank_put _ c.requires 0x70 (omega arith) c.args.value _ (λ (b : Banks). record { colour = b.colour; vram = b.vram; wram = wram_bank_of c.args.value }) c.banks_at.ensures (rw c.wram_bank.ensures) c.put_bank.ensures
