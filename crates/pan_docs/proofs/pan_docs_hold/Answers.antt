-- Each theorem is that of its file in proofs/.
use Rattle.pan_docs.proofs.Addresses.{addresses}
use Rattle.pan_docs.proofs.Colour.{colour_registers}
use Rattle.pan_docs.proofs.Control.{control_bits}
use Rattle.pan_docs.proofs.Interrupts.{interrupt_bits}
use Rattle.pan_docs.proofs.Joypad.{joypad_bits}
use Rattle.pan_docs.proofs.LyLyc.{ly_is_lyc}
use Rattle.pan_docs.proofs.Map.{memory_map}
use Rattle.pan_docs.proofs.Mbc1.{mbc1_rules}
use Rattle.pan_docs.proofs.Mbc1Writes.{mbc1_writes}
use Rattle.pan_docs.proofs.Mbc2.{mbc2_rules}
use Rattle.pan_docs.proofs.Mbc5.{mbc5_rules, mbc5_writes}
use Rattle.pan_docs.proofs.Ones.{bits_that_read_one}
use Rattle.pan_docs.proofs.Palettes.{palette_bits}
use Rattle.pan_docs.proofs.RomOnly.{rom_only_rules}
use Rattle.pan_docs.proofs.Timer.{timer_bits}
use Rattle.pan_docs.proofs.Transfers.{transfer_registers}
use Rattle.pan_docs.proofs.pan_docs_hold.Goals as goal

pub returns : goal.returns
returns c = record {
  map = memory_map;
  addresses = addresses;
  ones = bits_that_read_one;
  control = control_bits;
  ly_is_lyc = ly_is_lyc;
  colour = colour_registers;
  transfers = transfer_registers;
  palettes = palette_bits;
  timer = timer_bits;
  interrupts = interrupt_bits;
  joypad = joypad_bits;
  rom_only_law = rom_only_rules;
  mbc1 = mbc1_rules;
  mbc1_writes = mbc1_writes;
  mbc2 = mbc2_rules;
  mbc5 = mbc5_rules;
  mbc5_writes = mbc5_writes;
}
