-- Which bytes a transfer copies (Pan Docs, "OAM DMA Transfer"; document 01, "The bus": "Our one change").
use Rattle.std.specs.Prelude.{cond, ℕ, ◌+◌, ◌-◌, ◌≤◌, min, ltb}
use Rattle.copies.specs.PanDocs.{oam_pages, oam_source, oam_bytes, oam_start, vram_end}
use Rattle.copies.specs.declared.Copy.{Copy}
use Rattle.copies.specs.declared.Finish.TheVariants.{Nothing}

abbrev pub nothing : Copy
nothing = record { source = 0; destination = 0; count = 0; finish = Nothing }

-- OAM DMA: of its pages Pan Docs' bytes; E0..FF, of which they say nothing, copy nothing (document 02, wish 1)
unfoldable pub oam_copy : ℕ → Copy
oam_copy page =
    cond (ltb page oam_pages) (record { source = oam_source page; destination = oam_start; count = oam_bytes; finish = Nothing }) nothing

-- of a general transfer's bytes, those that land in video memory ("Our one change")
abbrev pub landed : ℕ → ℕ → ℕ
landed destination length = min length (vram_end - destination)

-- where a copy may write: below FEA0, so that no address wraps
abbrev pub Bounded : Copy → Type 0
Bounded c = c.destination + c.count ≤ 0xFEA0
