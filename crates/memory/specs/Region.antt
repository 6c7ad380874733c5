-- Where an index lies (Pan Docs, "Memory Map"; FEA0..FEFF is OAM too: document 01, "The bus").
use Rattle.std.specs.Prelude.{cond, ℕ, ltb}
use Rattle.memory.specs.declared.region.Region.{Region}
use Rattle.memory.specs.declared.region.Region.TheVariants.{Rom, Vram, Save, Wram, Oam, Page}

-- where the regions start; ROM starts at 0
abbrev pub vram_start : ℕ
vram_start = 0x8000

abbrev pub save_start : ℕ
save_start = 0xA000

abbrev pub wram_start : ℕ
wram_start = 0xC000

-- where work memory's bytes start a second time
abbrev pub echo_start : ℕ
echo_start = 0xE000

abbrev pub oam_start : ℕ
oam_start = 0xFE00

abbrev pub page_start : ℕ
page_start = 0xFF00

-- high memory, in the page
abbrev pub hram_start : ℕ
hram_start = 0xFF80

-- 0000-7FFF ROM; 8000-9FFF video memory; A000-BFFF cartridge RAM; C000-DFFF work memory, and E000-FDFF the same bytes as C000-DDFF;
-- FE00-FEFF object attribute memory; FF00-FFFF I/O, high memory and interrupt enable
unfoldable pub region_of : ℕ → Region
region_of index =
    cond (ltb index vram_start) Rom
    (cond (ltb index save_start) Vram
    (cond (ltb index wram_start) Save
    (cond (ltb index oam_start) Wram
    (cond (ltb index page_start) Oam
    Page))))
