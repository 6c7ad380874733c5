-- The theorems of this crate. Each file is of one section of Pan Docs, quotes it, and says where document 01 departs; RomOnly is document 01's.
use Rattle.pan_docs.specs.Addresses.{Addresses}
use Rattle.pan_docs.specs.Colour.{ColourRegisters}
use Rattle.pan_docs.specs.Control.{ControlBits}
use Rattle.pan_docs.specs.Interrupts.{InterruptBits}
use Rattle.pan_docs.specs.Joypad.{JoypadBits}
use Rattle.pan_docs.specs.LyLyc.{LyIsLyc}
use Rattle.pan_docs.specs.Map.{MemoryMap}
use Rattle.pan_docs.specs.Mbc1.{Mbc1Rules, Mbc1Writes}
use Rattle.pan_docs.specs.Mbc2.{Mbc2Rules}
use Rattle.pan_docs.specs.Mbc5.{Mbc5Rules, Mbc5Writes}
use Rattle.pan_docs.specs.Ones.{BitsThatReadOne}
use Rattle.pan_docs.specs.Palettes.{PaletteBits}
use Rattle.pan_docs.specs.RomOnly.{RomOnlyRules}
use Rattle.pan_docs.specs.Timer.{TimerBits}
use Rattle.pan_docs.specs.Transfers.{TransferRegisters}

pub record PanDocs : Type 0 where
  pub map : MemoryMap
  pub addresses : Addresses
  pub ones : BitsThatReadOne
  pub control : ControlBits
  pub ly_is_lyc : LyIsLyc
  pub colour : ColourRegisters
  pub transfers : TransferRegisters
  pub palettes : PaletteBits
  pub timer : TimerBits
  pub interrupts : InterruptBits
  pub joypad : JoypadBits
  pub rom_only_law : RomOnlyRules
  pub mbc1 : Mbc1Rules
  pub mbc1_writes : Mbc1Writes
  pub mbc2 : Mbc2Rules
  pub mbc5 : Mbc5Rules
  pub mbc5_writes : Mbc5Writes
