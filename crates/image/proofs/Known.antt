-- The known images, computed.
use mathlib.Core.Path.{refl}
use Rattle.packing.specs.Packing.{repacked}
use Rattle.hdma.specs.Hdma.{kept_below, start_of}
use Rattle.mbc.specs.Mbc as mbc
use Rattle.mbc.specs.Mbc.{start, log2, described, held, has_banks, has_code, ram_banks, suits, ram_fits}
use Rattle.memory.specs.Ranges.{banks_in_range, hdma_in_range, groups_in_range, palettes_in_range, state_in_range, in_range}
use Rattle.memory.specs.Start.{monochrome_page, colour_page, start_page, start_hdma, started}
use Rattle.palette.specs.Palette as palette
use Rattle.savelog.specs.Log.{use_in_range}
use Rattle.image.specs.Known.{Known}
use Rattle.image.specs.Layout.{widths, values, image_of}
use Rattle.image.specs.Load.{storable}

pub known : Known
unfolding
    image_of repacked widths values log2 started start_page monochrome_page colour_page start start_hdma start_of kept_below storable in_range
    state_in_range groups_in_range banks_in_range hdma_in_range mbc.in_range described held has_banks has_code ram_banks suits ram_fits
    palettes_in_range palette.colors_in_range palette.in_range use_in_range
known =
    record {
      fresh_monochrome_law = (refl, refl);
      fresh_colour_law = (refl, refl);
      mbc1 = (refl, refl);
      mbc2 = (refl, refl);
      mbc5 = (refl, refl);
    }
