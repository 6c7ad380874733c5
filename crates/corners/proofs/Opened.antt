-- All that the rows compute with, under one name: `unfolding opened` opens it.
use Rattle.bit_utils.specs.Bits as bits
use Rattle.bus.specs.Calls as calls
use Rattle.hdma.specs.Hdma as hdma
use Rattle.joypad.specs.Joypad as joypad
use Rattle.mbc.specs.Mbc as mbc
use Rattle.mbc.specs.PanDocs as banks
use Rattle.memory.specs.Region as region
use Rattle.memory.specs.Start as start
use Rattle.mmu.specs.Access as access
use Rattle.mmu.specs.PanDocs as map
use Rattle.mmu.specs.Write as write
use Rattle.palette.specs.Palette as palette
use Rattle.palette.specs.PanDocs as colours
use Rattle.refusals.specs.Answers as answers
use Rattle.refusals.specs.Refusal as refusal
use Rattle.registers.specs.Colour as colour
use Rattle.registers.specs.Page as page
use Rattle.registers.specs.Register as register
use Rattle.registers.specs.Transfers as transfers
use Rattle.savelog.specs.Log as log
use Rattle.selects.specs.PanDocs as selected
use Rattle.timer.specs.PanDocs as counter
use Rattle.timer.specs.Timer as timer
use Rattle.corners.specs.Rows as rows
use Rattle.corners.proofs.Oam as oam
use Rattle.corners.proofs.Quick as quick

unfoldable pub opened : Unit {0}
unfolding
    bits.is_set bits.set_bit bits.unset_bit calls.unless hdma.kept_below hdma.source_high hdma.source_low hdma.destination_high hdma.destination_low
    hdma.first_block hdma.starts hdma.source_used hdma.destination_used hdma.stepped hdma.still_on hdma.block_ended
    hdma.general_ended hdma.start_of joypad.named joypad.bit_of joypad.after_press joypad.polled joypad.pad_read mbc.ram_banks mbc.ram_len mbc.start
    mbc.ram_source mbc.source mbc.low1 mbc.high1 mbc.after1 mbc.enable2 mbc.after2 banks.zero_as_one banks.rom_place start.monochrome_page start.colour_page
    start.start_page start.start_hdma start.started region.region_of access.save_put map.echo map.wram_at write.copy_by write.write_at
    palette.moved colours.byte_at colours.put_at answers.changed refusal.in_save refusal.in_sound refusal.byte_room refusal.byte_owed refusal.cycles_refused
    colour.wram_bank_put colour.background_index_put colour.background_data_put page.by_kind page.line_read page.plain_read page.shown_as page.read_register
    register.register_of register.byte_as selected.wram_bank_of transfers.source_high_put transfers.source_low_put transfers.destination_high_put transfers.destination_low_put
    transfers.started transfers.copy_of transfers.finished log.bytes_of log.record_number log.record_bytes log.appended counter.period
    counter.step_tima counter.steps timer.divided timer.counted rows.bytes rows.due oam.written oam.dma oam.oam_after oam.laid quick.quick quick.quickly
opened = tt
