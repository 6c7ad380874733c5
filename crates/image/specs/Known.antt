-- Images of five known states, byte by byte, worked out bit by bit from document 01's sentence alone ("State image, .., most significant bit first:
-- OAM 256 bytes; high page 256; 32 background then 32 sprite colours, ..", widths as document 02 has them) and not from Layout.antt: a layout with
-- two fields exchanged, alike in both directions, would pass the laws of Laws.antt, and is seen here. Any two fields of one width differ in some
-- state, and none is 0 in all of them, as the last three bits are.
use Rattle.std.specs.Prelude.{Bool, true, false, List, [], ◌∷◌, ◌++◌, map, ◌≡◌, ℕ, zero, suc, ◌+◌, ◌-◌, ◌%◌, pos, negsuc, replicate}
use Rattle.mbc.specs.Mbc.{cartridge_of, start, kind_rom_only, kind_mbc1}
use Rattle.mbc.specs.declared.cartridge.Cartridge.{Cartridge}
use Rattle.mbc.specs.declared.mbc.Mapper.{Mapper}
use Rattle.mbc.specs.declared.mbc.Mapper.TheVariants.{Mbc1, Mbc2, Mbc5}
use Rattle.memory.specs.declared.Memory.{Memory}
use Rattle.memory.specs.Start.{monochrome_page, colour_page, started}
use Rattle.palette.specs.declared.Color.{Color}
use Rattle.image.specs.Layout.{image_of}
use Rattle.image.specs.Load.{storable}

-- A fresh bus: OAM and colours 0, the page from the Rust's table

abbrev pub fresh_bytes : List ℕ → List ℕ → List ℕ
fresh_bytes page fields = replicate 256 0 ++ page ++ replicate 120 0 ++ fields

-- WRAM bank 1, released FF, scan line 144, LCD mode 1; Mbc1 of 2 banks and RAM code 2, ROM bank 1
abbrev pub fresh_monochrome : List ℕ
fresh_monochrome =
    0x02 ∷ 0x00 ∷ 0x7F ∷ 0xC8 ∷ 0x00 ∷ 0x00 ∷ 0x80 ∷ 0x00 ∷ 0x00 ∷ 0x00 ∷ 0x00 ∷ 0x00 ∷ 0x00 ∷ 0x00 ∷ 0x00 ∷ 0x00 ∷ 0x00 ∷
    0x00 ∷ 0x00 ∷ 0x00 ∷ 0x00 ∷ 0x00 ∷ 0x00 ∷ 0x00 ∷ 0x00 ∷ 0x00 ∷ 0x00 ∷ 0x00 ∷ 0x08 ∷ 0xA0 ∷ 0x08 ∷ 0x00 ∷ 0x00 ∷ 0x00 ∷ []

-- RomOnly without RAM; in colour the hidden addresses are FFF0 and 9FF0 (corner 8)
abbrev pub fresh_colour : List ℕ
fresh_colour =
    0x82 ∷ 0x00 ∷ 0x7F ∷ 0xC8 ∷ 0x00 ∷ 0x00 ∷ 0x80 ∷ 0x00 ∷ 0x1F ∷ 0xFE ∷ 0x13 ∷ 0xFE ∷ 0x00 ∷ 0x00 ∷ 0x00 ∷ 0x00 ∷ 0x00 ∷
    0x00 ∷ 0x00 ∷ 0x00 ∷ 0x00 ∷ 0x00 ∷ 0x00 ∷ 0x00 ∷ 0x00 ∷ 0x00 ∷ 0x00 ∷ 0x00 ∷ 0x00 ∷ 0x80 ∷ 0x08 ∷ 0x00 ∷ 0x00 ∷ 0x00 ∷ []

-- States of mixed contents: OAM rises and the page falls

abbrev pub up_from : ℕ → ℕ → List ℕ
up_from k zero = []
up_from k (suc n) = k ∷ up_from (suc k) n

abbrev pub rising : List ℕ
rising = up_from 0 256

abbrev pub falling : List ℕ
falling = map (λ (k : ℕ). 255 - k) rising

abbrev pub background_at : ℕ → Color
background_at k = record { red = k; green = 31 - k; blue = (k + 7) % 32 }

abbrev pub sprite_at : ℕ → Color
sprite_at k = record { red = 31 - k; green = (k + 20) % 32; blue = k }

-- the first fields as the document names them, up to the direction mark; then the cartridge and its mapper
abbrev pub mixed : (colour disabled on : Bool) (vram wram : ℕ) (action direction : Bool) → Cartridge → Mapper → Memory
mixed colour disabled on vram wram action direction cartridge mapper =
    record {
      oam = rising;
      page = falling;
      background = map background_at (up_from 0 32);
      sprites = map sprite_at (up_from 0 32);
      core =
          record {
            banks = record { colour = colour; vram = vram; wram = wram };
            joypad = record { action = action; direction = direction; state = 0x12; released = 0xE7 };
            lcd =
                record {
                  disabled = disabled;
                  line = 0x34;
                  signal = 0x56;
                  mode = 0x78;
                  delay = negsuc 1;
                  counter = pos 0x01234567;
                  aux = pos 0x09ABCDEF;
                  window = negsuc 999;
                };
            clock = record { div = 0x9A; tima = 777 };
            hdma = record { on = on; source = 0xC120; destination = 0x8340 };
            cartridge = cartridge;
            mapper = mapper;
            used = 0x5678;
          };
    }

-- 32 background colours, then 32 of sprites: 15 bits each
abbrev pub mixed_colours : List ℕ
mixed_colours =
    0x07 ∷ 0xCE ∷ 0x1F ∷ 0x20 ∷ 0x5D ∷ 0x48 ∷ 0xF8 ∷ 0xA2 ∷ 0x6D ∷ 0x65 ∷ 0xD3 ∷ 0x0D ∷ 0x96 ∷ 0x9F ∷ 0x0E ∷ 0x45 ∷ 0xDE ∷ 0x9B ∷ 0x41 ∷ 0x55 ∷
    0x8A ∷ 0xE9 ∷ 0x26 ∷ 0x4E ∷ 0x6D ∷ 0x95 ∷ 0x1D ∷ 0x1A ∷ 0xBE ∷ 0x16 ∷ 0x83 ∷ 0xEF ∷ 0x17 ∷ 0x62 ∷ 0x4D ∷ 0xCC ∷ 0xD9 ∷ 0xAA ∷ 0x2F ∷ 0x75 ∷
    0x57 ∷ 0x2C ∷ 0x9E ∷ 0xDD ∷ 0x1E ∷ 0xC1 ∷ 0xFF ∷ 0x93 ∷ 0x03 ∷ 0x45 ∷ 0x0E ∷ 0xC8 ∷ 0x2E ∷ 0x0C ∷ 0x7D ∷ 0x11 ∷ 0x3C ∷ 0x12 ∷ 0xFC ∷ 0x06 ∷
    0xFD ∷ 0x01 ∷ 0xEA ∷ 0x87 ∷ 0xB6 ∷ 0x17 ∷ 0x2E ∷ 0x3D ∷ 0xE0 ∷ 0x9A ∷ 0xC9 ∷ 0x73 ∷ 0xA3 ∷ 0x63 ∷ 0x67 ∷ 0xBF ∷ 0x11 ∷ 0x6E ∷ 0xA6 ∷ 0xBE ∷
    0x55 ∷ 0x3E ∷ 0xB9 ∷ 0x81 ∷ 0x92 ∷ 0x0B ∷ 0x62 ∷ 0x27 ∷ 0x40 ∷ 0x6F ∷ 0x79 ∷ 0x20 ∷ 0xE2 ∷ 0xC5 ∷ 0xA6 ∷ 0x93 ∷ 0x0F ∷ 0x35 ∷ 0xA2 ∷ 0x8A ∷
    0x4D ∷ 0x52 ∷ 0xAB ∷ 0x21 ∷ 0x77 ∷ 0x3B ∷ 0x30 ∷ 0x66 ∷ 0xE4 ∷ 0xAE ∷ 0xD1 ∷ 0x1F ∷ 0xB1 ∷ 0xC3 ∷ 0x82 ∷ 0x8F ∷ 0x43 ∷ 0x2F ∷ 0x02 ∷ 0x7F ∷ []

abbrev pub mixed_bytes : List ℕ → List ℕ
mixed_bytes fields = rising ++ falling ++ mixed_colours ++ fields

-- 128 banks, code 3: ROM bank 77, RAM bank 2, mode 1, enabled, high bits 2
abbrev pub mixed_mbc1 : Memory
mixed_mbc1 =
    mixed true false true 0 5 true false (cartridge_of 128 3) (Mbc1 (record { rom = 77; ram = 2; mode = true; enabled = true; high = 2 }))

abbrev pub mixed_mbc1_fields : List ℕ
mixed_mbc1_fields =
    0xAB ∷ 0x09 ∷ 0x73 ∷ 0x9A ∷ 0x2B ∷ 0x3C ∷ 0x4D ∷ 0x61 ∷ 0x38 ∷ 0x24 ∷ 0x10 ∷ 0x68 ∷ 0x1F ∷ 0xFF ∷ 0xFF ∷ 0xFF ∷ 0xC0 ∷
    0x24 ∷ 0x68 ∷ 0xAC ∷ 0xE1 ∷ 0x35 ∷ 0x79 ∷ 0xBD ∷ 0xFF ∷ 0xFF ∷ 0xFF ∷ 0x83 ∷ 0x0B ∷ 0xB2 ∷ 0x69 ∷ 0x72 ∷ 0xB3 ∷ 0xC0 ∷ []

-- monochrome; 16 banks: ROM bank 9, enabled
abbrev pub mixed_mbc2 : Memory
mixed_mbc2 = mixed false true false 0 1 true true (cartridge_of 16 0) (Mbc2 (record { rom = 9; enabled = true }))

abbrev pub mixed_mbc2_fields : List ℕ
mixed_mbc2_fields =
    0x43 ∷ 0x89 ∷ 0x73 ∷ 0x9A ∷ 0x2B ∷ 0x3C ∷ 0x4D ∷ 0x61 ∷ 0x38 ∷ 0x24 ∷ 0x10 ∷ 0x68 ∷ 0x1F ∷ 0xFF ∷ 0xFF ∷ 0xFF ∷ 0xC0 ∷
    0x24 ∷ 0x68 ∷ 0xAC ∷ 0xE1 ∷ 0x35 ∷ 0x79 ∷ 0xBD ∷ 0xFF ∷ 0xFF ∷ 0xFF ∷ 0x83 ∷ 0x12 ∷ 0x00 ∷ 0x48 ∷ 0x22 ∷ 0xB3 ∷ 0xC0 ∷ []

-- 512 banks, code 4: ROM bank 341, RAM bank 13, enabled
abbrev pub mixed_mbc5 : Memory
mixed_mbc5 = mixed true false true 1 6 false true (cartridge_of 512 4) (Mbc5 (record { rom = 341; ram = 13; enabled = true }))

abbrev pub mixed_mbc5_fields : List ℕ
mixed_mbc5_fields =
    0xBC ∷ 0x89 ∷ 0x73 ∷ 0x9A ∷ 0x2B ∷ 0x3C ∷ 0x4D ∷ 0x61 ∷ 0x38 ∷ 0x24 ∷ 0x10 ∷ 0x68 ∷ 0x1F ∷ 0xFF ∷ 0xFF ∷ 0xFF ∷ 0xC0 ∷
    0x24 ∷ 0x68 ∷ 0xAC ∷ 0xE1 ∷ 0x35 ∷ 0x79 ∷ 0xBD ∷ 0xFF ∷ 0xFF ∷ 0xFF ∷ 0x83 ∷ 0x1C ∷ 0xCA ∷ 0xAE ∷ 0xA2 ∷ 0xB3 ∷ 0xC0 ∷ []

-- a state that is in range, and its bytes
abbrev pub Is : Memory → List ℕ → Type 0
Is m bytes = (storable m ≡ true) × (image_of m ≡ bytes)

pub record Known : Type 0 where
  pub fresh_monochrome_law : Is (started (cartridge_of 2 2) (start kind_mbc1) false) (fresh_bytes monochrome_page fresh_monochrome)
  pub fresh_colour_law : Is (started (cartridge_of 2 0) (start kind_rom_only) true) (fresh_bytes colour_page fresh_colour)
  pub mbc1 : Is mixed_mbc1 (mixed_bytes mixed_mbc1_fields)
  pub mbc2 : Is mixed_mbc2 (mixed_bytes mixed_mbc2_fields)
  pub mbc5 : Is mixed_mbc5 (mixed_bytes mixed_mbc5_fields)
