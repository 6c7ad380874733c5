-- The groups, one after the other.
use Rattle.image.specs.Patches.{put, lcd_fields, hdma_fields, joypad_fields, clock_fields, cartridge_fields, mapping_fields, mapping_put, clock_put}
use mathlib.Core.Path.{ap, ◌∙◌}
use Rattle.image.proofs.fields.put_groups.Goals as goal

pub returns : goal.returns
unfolding mapping_put clock_put
returns c = let k = c.args.core in
    c.put_mapping.ensures
    ∙ ap (put (mapping_fields k.mapper k.used))
    (c.put_cartridge.ensures
    ∙ ap (put (cartridge_fields k.cartridge))
    (c.put_clock.ensures
    ∙ ap (put (clock_fields k.clock))
    (c.put_joypad.ensures
    ∙ ap (put (joypad_fields k.joypad))
    (c.put_hdma.ensures
    ∙ ap (put (hdma_fields k.hdma)) (c.put_lcd.ensures ∙ ap (put (lcd_fields k.lcd)) c.put_banks.ensures)))))
