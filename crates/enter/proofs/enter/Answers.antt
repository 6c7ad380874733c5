-- Each call by its own arm: the entry itself, or what it gives with all else as it was.
use mathlib.Core.Path.{ap}
use Rattle.entry.specs.EntryContracts.{holding}
use Rattle.entry.specs.Entries.{asks, entry}
use Rattle.enter.proofs.Elsewhere.{elsewhere}
use Rattle.enter.proofs.enter.Goals as goal

pub returns-in-ReadByte : goal.returns-in-ReadByte
unfolding entry
returns-in-ReadByte c = rw (c.in-ReadByte.is, c.of_value.ensures, c.from.ensures) (ap (asks (holding _ _ _ _ _)) c.pouch_read_byte-number.ensures)

pub returns-in-ReadWord : goal.returns-in-ReadWord
unfolding entry
returns-in-ReadWord c = rw (c.in-ReadWord.is, c.of_value-in-ReadWord.ensures) (ap (asks (holding _ _ _ _ _)) c.pouch_read_word-number.ensures)

pub returns-in-ReadCgbLcdRam : goal.returns-in-ReadCgbLcdRam
unfolding entry
returns-in-ReadCgbLcdRam c = rw (c.in-ReadCgbLcdRam.is, c.of_value-in-ReadCgbLcdRam.ensures, c.from-in-ReadCgbLcdRam.ensures) (ap (asks (holding _ _ _ _ _)) c.pouch_read_cgb_lcd_ram-number.ensures)

pub returns-in-WriteByte : goal.returns-in-WriteByte
returns-in-WriteByte c = rw (c.in-WriteByte.is, c.of_number.ensures) c.pouch_write_byte.ensures

pub returns-in-WriteWord : goal.returns-in-WriteWord
returns-in-WriteWord c = rw (c.in-WriteWord.is, c.of_number-in-WriteWord.ensures) c.pouch_write_word.ensures

pub returns-in-DoDmaTransfer : goal.returns-in-DoDmaTransfer
returns-in-DoDmaTransfer c = rw (c.in-DoDmaTransfer.is, c.of_number-in-DoDmaTransfer.ensures) c.pouch_do_dma_transfer.ensures

pub returns-in-DoHdma : goal.returns-in-DoHdma
returns-in-DoHdma c = rw (c.in-DoHdma.is, c.of_value-in-DoHdma.ensures) c.pouch_do_hdma-number.ensures

pub returns-in-State : goal.returns-in-State
returns-in-State c = rw c.in-State.is (elsewhere _ _ _ _ _ _ _ _ _ _ _ c.enter_state.ensures)
