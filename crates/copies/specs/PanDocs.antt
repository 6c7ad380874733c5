-- From Pan Docs: OAM DMA, and the end of video memory.
use Rattle.std.specs.Prelude.{ℕ, ◌*◌}

-- OAM DMA Transfer: a write of XX, from 00 to DF, copies XX00..XX9F to FE00..FE9F
abbrev pub oam_pages : ℕ
oam_pages = 0xE0

abbrev pub oam_source : ℕ → ℕ
oam_source page = page * 256

abbrev pub oam_bytes : ℕ
oam_bytes = 160

abbrev pub oam_start : ℕ
oam_start = 0xFE00

-- Memory Map: video memory ends before A000
abbrev pub vram_end : ℕ
vram_end = 0xA000
