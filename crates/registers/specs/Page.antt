-- What FF00 + at reads, and what a byte write stores there (document 01, "The bus": "Reads with bits forced", "Writes", "Colour only").
use Rattle.std.specs.Prelude.{Bool, cond, List, ◌≡◌, ℕ, ◌-◌, ◌<◌, ◌≤◌, eqb, ltb, get_or}
use Rattle.std.specs.Int.Bits.{bit_or}
use Rattle.interrupt.specs.PanDocs.{flags_read}
use Rattle.joypad.specs.Joypad.{pad_read}
use Rattle.lcd.specs.Lcd.{scanline_written, lyc_written, control_written, status_written}
use Rattle.lcd.specs.declared.Lcd.{Lcd}
use Rattle.memory.specs.declared.Memory.{Memory}
use Rattle.registers.specs.Colour.{speed_put, vram_bank_put, wram_bank_put, background_index_put, background_data_put, sprite_index_put, sprite_data_put}
use Rattle.registers.specs.PanDocs.{status_ones, vram_bank_ones}
use Rattle.registers.specs.Register.{register_of, byte_as}
use Rattle.registers.specs.State.{loaded, stored, on_screen}
use Rattle.registers.specs.Transfers.{source_high_put, source_low_put, destination_high_put, destination_low_put, start_put}
use Rattle.registers.specs.declared.page.Part.{Part}
use Rattle.registers.specs.declared.page.Part.TheVariants as part
use Rattle.registers.specs.declared.register.Register.{Register}
use Rattle.registers.specs.declared.register.Register.TheVariants as is

-- colour gives one byte, monochrome another
unfoldable pub by_kind : Bool → ℕ → ℕ → ℕ
by_kind cgb colour monochrome = cond cgb colour monochrome

-- FF44 gives the scan line, or 0 with the screen disabled
unfoldable pub line_read : Lcd → ℕ
line_read lcd = cond lcd.disabled 0 lcd.line

-- the rest of the page: FF10..FF3F reads the sound window, all else as stored
unfoldable pub plain_read : ℕ → List ℕ → ℕ → ℕ
plain_read byte sound at = cond (ltb at 0x10) byte (cond (ltb at 0x40) (get_or sound (at - 0x10) 0) byte)

-- what FF00 + at reads, where the page holds `byte`: by the machine's kind, what FF44 gives and the joypad's state
unfoldable pub shown_as : ℕ → Bool → ℕ → ℕ → List ℕ → ℕ → ℕ
shown_as byte cgb line pad sound at =
    cond (eqb at 0x00) (pad_read byte pad)
    (cond (eqb at 0x03) 0xFF
    (cond (eqb at 0x07) (bit_or byte 0xF8)
    (cond (eqb at 0x0E) 0xFF
    (cond (eqb at 0x0F) (flags_read byte)
    (cond (eqb at 0x41) (bit_or byte status_ones)
    (cond (eqb at 0x44) line
    (cond (eqb at 0x4C) 0xFF
    (cond (eqb at 0x4F) (bit_or byte vram_bank_ones)
    (cond (eqb at 0x68) (by_kind cgb (bit_or byte 0x40) 0xC0)
    (cond (eqb at 0x69) (by_kind cgb (bit_or byte 0xF8) 0xFF)
    (cond (eqb at 0x6A) (by_kind cgb (bit_or byte 0x40) 0xC0)
    (cond (eqb at 0x6B) (by_kind cgb (bit_or byte 0xF8) 0xFF)
    (cond (eqb at 0x70) (by_kind cgb (bit_or byte 0x40) 0xFF)
    (cond (eqb at 0x76) (by_kind cgb 0x00 0xFF)
    (cond (eqb at 0x77) (by_kind cgb 0x00 0xFF)
    (plain_read byte sound at))))))))))))))))

-- Where the parts lie that the code tells apart. Nothing of this need be believed: what a read gives is `shown_as`
abbrev pub InPart : Part → ℕ → Type 0
InPart part.Low at = at < 0x10
InPart part.Sound at = (0x10 ≤ at) × (at < 0x40)
InPart part.Line at = at ≡ 0x44
InPart part.Screen at = ((0x40 ≤ at) × (at < 0x50)) × (at ≡ 0x44 → ⊥)
InPart part.Colour at = 0x50 ≤ at

unfoldable pub read_register : Memory → List ℕ → ℕ → ℕ
read_register m sound at = shown_as (loaded m at) m.core.banks.colour (line_read m.core.lcd) m.core.joypad.state sound at

-- a byte write to a register; one in FF10..FF3F changes no bus byte
abbrev pub write_in : Register → Memory → ℕ → ℕ → Memory
write_in is.Sound m at v = m
write_in is.Control m at v = on_screen (λ s. control_written s v) m
write_in is.Status m at v = on_screen (λ s. status_written s v) m
write_in is.Line m at v = on_screen (λ s. scanline_written s v) m
write_in is.Compare m at v = on_screen (λ s. lyc_written s v) m
write_in is.Speed m at v = speed_put m v
write_in is.VramBank m at v = vram_bank_put m v
write_in is.SourceHigh m at v = source_high_put m v
write_in is.SourceLow m at v = source_low_put m v
write_in is.DestinationHigh m at v = destination_high_put m v
write_in is.DestinationLow m at v = destination_low_put m v
write_in is.Start m at v = start_put m v
write_in is.BackgroundIndex m at v = background_index_put m v
write_in is.BackgroundData m at v = background_data_put m v
write_in is.SpriteIndex m at v = sprite_index_put m v
write_in is.SpriteData m at v = sprite_data_put m v
write_in is.WramBank m at v = wram_bank_put m v
write_in is.Byte m at v = stored m at (byte_as at v)

abbrev pub write_register : Memory → ℕ → ℕ → Memory
write_register m at v = write_in (register_of at) m at v
