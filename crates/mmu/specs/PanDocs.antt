-- From Pan Docs, "Memory Map": where an index lies in the memory of its region.
use Rattle.std.specs.Prelude.{ℕ, ◌+◌, ◌-◌, ◌*◌, cond, nat_lt}
use Rattle.memory.specs.Region.{vram_start, wram_start, echo_start}

-- 8000-9FFF: video memory, in a bank of 8 KiB
abbrev pub vram_at : ℕ → ℕ → ℕ
vram_at bank index = index - vram_start + bank * 0x2000

-- E000-FDFF: the same bytes as C000-DDFF
unfoldable pub echo : ℕ → ℕ
echo index = cond (nat_lt index echo_start) index (index - 0x2000)

-- C000-CFFF: work memory, bank 0; D000-DFFF: the bank of 4 KiB that is selected
unfoldable pub wram_at : ℕ → ℕ → ℕ
wram_at bank index =
    cond (nat_lt (echo index) 0xD000) (echo index - wram_start) (echo index - 0xD000 + bank * 0x1000)
