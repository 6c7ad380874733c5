-- Below 8000, or what the mapper answers.
use Rattle.mbc.proofs.Places.{in_ram}
use Rattle.put_bytes.proofs.PutLaws.{mapped_range}
use Rattle.host.proofs.Mappers.{rom_answer}
use Rattle.host.proofs.mapper.record_of.Goals as goal

pub returns-then-index-lt-VRAM_START : goal.returns-then-index-lt-VRAM_START
returns-then-index-lt-VRAM_START c = rom_answer _ _ _ _ c.if-index-lt-VRAM_START.true

pub registers_at-registers-requires : goal.registers_at-registers-requires
registers_at-registers-requires c = c.requires.0.size

pub cartridge_at-cartridge-requires : goal.cartridge_at-cartridge-requires
cartridge_at-cartridge-requires c = c.requires.0.size

pub answer-requires : goal.answer-requires
answer-requires c = (rw (c.cartridge_at-cartridge.ensures, c.registers_at-registers.ensures) (mapped_range _ c.requires.0), in_ram _ c.requires.1 c.if-index-lt-VRAM_START.false)

pub returns : goal.returns
returns c = rw (c.record_stored.ensures, c.answer.ensures, c.cartridge_at-cartridge.ensures, c.registers_at-registers.ensures)
