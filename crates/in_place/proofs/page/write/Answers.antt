-- Each register by the function that its arm calls.
use Rattle.in_place.proofs.Images.{held, by_arm, byte_stored}
use Rattle.registers.specs.Colour.{background_index_put, background_data_put, sprite_index_put, sprite_data_put}
use Rattle.in_place.proofs.page.write.Goals as goal

pub returns-in-Sound : goal.returns-in-Sound
returns-in-Sound c = by_arm _ c.requires _ _ c.register_of.ensures c.in-Sound.is (held _ c.requires).same

pub returns-in-Control : goal.returns-in-Control
returns-in-Control c = by_arm _ c.requires _ _ c.register_of.ensures c.in-Control.is c.do_lcd_control_write.ensures

pub returns-in-Status : goal.returns-in-Status
returns-in-Status c = by_arm _ c.requires _ _ c.register_of.ensures c.in-Status.is c.do_lcd_status_write.ensures

pub returns-in-Line : goal.returns-in-Line
returns-in-Line c = by_arm _ c.requires _ _ c.register_of.ensures c.in-Line.is c.do_scanline_write.ensures

pub returns-in-Compare : goal.returns-in-Compare
returns-in-Compare c = by_arm _ c.requires _ _ c.register_of.ensures c.in-Compare.is c.do_lyc_write.ensures

pub returns-in-Speed : goal.returns-in-Speed
returns-in-Speed c = by_arm _ c.requires _ _ c.register_of.ensures c.in-Speed.is c.write_speed.ensures

pub returns-in-VramBank : goal.returns-in-VramBank
returns-in-VramBank c = by_arm _ c.requires _ _ c.register_of.ensures c.in-VramBank.is c.write_vram_bank.ensures

pub returns-in-SourceHigh : goal.returns-in-SourceHigh
returns-in-SourceHigh c = by_arm _ c.requires _ _ c.register_of.ensures c.in-SourceHigh.is c.write_source_high.ensures

pub returns-in-SourceLow : goal.returns-in-SourceLow
returns-in-SourceLow c = by_arm _ c.requires _ _ c.register_of.ensures c.in-SourceLow.is c.write_source_low.ensures

pub returns-in-DestinationHigh : goal.returns-in-DestinationHigh
returns-in-DestinationHigh c = by_arm _ c.requires _ _ c.register_of.ensures c.in-DestinationHigh.is c.write_destination_high.ensures

pub returns-in-DestinationLow : goal.returns-in-DestinationLow
returns-in-DestinationLow c = by_arm _ c.requires _ _ c.register_of.ensures c.in-DestinationLow.is c.write_destination_low.ensures

pub returns-in-Start : goal.returns-in-Start
returns-in-Start c = by_arm _ c.requires _ _ c.register_of.ensures c.in-Start.is c.write_start.ensures

pub returns-in-BackgroundIndex : goal.returns-in-BackgroundIndex
unfolding background_index_put
returns-in-BackgroundIndex c = by_arm _ c.requires _ _ c.register_of.ensures c.in-BackgroundIndex.is c.write_index.ensures

pub returns-in-BackgroundData : goal.returns-in-BackgroundData
unfolding background_data_put
returns-in-BackgroundData c = by_arm _ c.requires _ _ c.register_of.ensures c.in-BackgroundData.is c.write_data.ensures

pub returns-in-SpriteIndex : goal.returns-in-SpriteIndex
unfolding sprite_index_put
returns-in-SpriteIndex c = by_arm _ c.requires _ _ c.register_of.ensures c.in-SpriteIndex.is c.write_index-in-SpriteIndex.ensures

pub returns-in-SpriteData : goal.returns-in-SpriteData
unfolding sprite_data_put
returns-in-SpriteData c = by_arm _ c.requires _ _ c.register_of.ensures c.in-SpriteData.is c.write_data-in-SpriteData.ensures

pub returns-in-WramBank : goal.returns-in-WramBank
returns-in-WramBank c = by_arm _ c.requires _ _ c.register_of.ensures c.in-WramBank.is c.write_wram_bank.ensures

pub returns-in-Byte : goal.returns-in-Byte
returns-in-Byte c = by_arm _ c.requires _ _ c.register_of.ensures c.in-Byte.is (byte_stored _ c.requires _ _ c.byte_as.ensures c.store.ensures)
