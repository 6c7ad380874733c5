-- The bus with what is lent to it. A call is a function on worlds; what is lent for reading alone stands apart.
use Rattle.std.specs.Prelude.{List, ℕ}
use Rattle.hdma.specs.declared.Hdma.{Hdma}
use Rattle.joypad.specs.declared.Controller.{Controller}
use Rattle.lcd.specs.declared.Lcd.{Lcd}
use Rattle.mbc.specs.declared.cartridge.Cartridge.{Cartridge}
use Rattle.mbc.specs.declared.mbc.Mapper.{Mapper}
use Rattle.palette.specs.declared.Color.{Color}
use Rattle.memory.specs.declared.Banks.{Banks}
use Rattle.memory.specs.declared.Clock.{Clock}
use Rattle.memory.specs.declared.Core.{Core}
use Rattle.memory.specs.declared.Memory.{Memory}

-- the state, video memory, work memory, the save and its log
pub record World : Type 0 where
  pub state : Memory
  pub vram : List ℕ
  pub wram : List ℕ
  pub save : List ℕ
  pub log : List ℕ

abbrev pub world : Memory → List ℕ → List ℕ → List ℕ → List ℕ → World
world m v w s l = record { state = m; vram = v; wram = w; save = s; log = l }

-- the cartridge's ROM and the sound window
pub record Fixed : Type 0 where
  pub rom : List ℕ
  pub sound : List ℕ

abbrev pub fixed : List ℕ → List ℕ → Fixed
fixed r s = record { rom = r; sound = s }

-- The state with one part changed (there is no other way to say so: a record names all its fields)

abbrev pub with_oam : Memory → List ℕ → Memory
with_oam m x = record { oam = x; page = m.page; background = m.background; sprites = m.sprites; core = m.core }

abbrev pub with_page : Memory → List ℕ → Memory
with_page m x = record { oam = m.oam; page = x; background = m.background; sprites = m.sprites; core = m.core }

abbrev pub with_background : Memory → List Color → List ℕ → Memory
with_background m x p = record { oam = m.oam; page = p; background = x; sprites = m.sprites; core = m.core }

abbrev pub with_sprites : Memory → List Color → List ℕ → Memory
with_sprites m x p = record { oam = m.oam; page = p; background = m.background; sprites = x; core = m.core }

abbrev pub with_core : Memory → Core → Memory
with_core m x = record { oam = m.oam; page = m.page; background = m.background; sprites = m.sprites; core = x }

-- these groups, and all else 0: how a state starts
abbrev pub core_of : Banks → Lcd → Hdma → Controller → Cartridge → Mapper → Core
core_of b l h j c m = record { banks = b; lcd = l; hdma = h; joypad = j; clock = record { div = 0; tima = 0 }; cartridge = c; mapper = m; used = 0 }

-- with a page beside it
abbrev pub with_both : Memory → Core → List ℕ → Memory
with_both m x p = with_page (with_core m x) p

abbrev pub banks_in : Core → Banks → Core
banks_in c x = record { banks = x; lcd = c.lcd; hdma = c.hdma; joypad = c.joypad; clock = c.clock; cartridge = c.cartridge; mapper = c.mapper; used = c.used }

abbrev pub lcd_in : Core → Lcd → Core
lcd_in c x = record { banks = c.banks; lcd = x; hdma = c.hdma; joypad = c.joypad; clock = c.clock; cartridge = c.cartridge; mapper = c.mapper; used = c.used }

abbrev pub hdma_in : Core → Hdma → Core
hdma_in c x = record { banks = c.banks; lcd = c.lcd; hdma = x; joypad = c.joypad; clock = c.clock; cartridge = c.cartridge; mapper = c.mapper; used = c.used }

abbrev pub joypad_in : Core → Controller → Core
joypad_in c x = record { banks = c.banks; lcd = c.lcd; hdma = c.hdma; joypad = x; clock = c.clock; cartridge = c.cartridge; mapper = c.mapper; used = c.used }

abbrev pub clock_in : Core → Clock → Core
clock_in c x = record { banks = c.banks; lcd = c.lcd; hdma = c.hdma; joypad = c.joypad; clock = x; cartridge = c.cartridge; mapper = c.mapper; used = c.used }

abbrev pub mapper_in : Core → Mapper → Core
mapper_in c x = record { banks = c.banks; lcd = c.lcd; hdma = c.hdma; joypad = c.joypad; clock = c.clock; cartridge = c.cartridge; mapper = x; used = c.used }

abbrev pub used_in : Core → ℕ → Core
used_in c x = record { banks = c.banks; lcd = c.lcd; hdma = c.hdma; joypad = c.joypad; clock = c.clock; cartridge = c.cartridge; mapper = c.mapper; used = x }

abbrev pub with_banks : Memory → Banks → List ℕ → Memory
with_banks m x p = with_both m (banks_in m.core x) p

abbrev pub with_lcd : Memory → Lcd → List ℕ → Memory
with_lcd m x p = with_both m (lcd_in m.core x) p

abbrev pub with_hdma : Memory → Hdma → List ℕ → Memory
with_hdma m x p = with_both m (hdma_in m.core x) p

abbrev pub with_joypad : Memory → Controller → List ℕ → Memory
with_joypad m x p = with_both m (joypad_in m.core x) p

abbrev pub with_clock : Memory → Clock → List ℕ → Memory
with_clock m x p = with_both m (clock_in m.core x) p

abbrev pub with_mapper : Memory → Mapper → Memory
with_mapper m x = with_core m (mapper_in m.core x)

abbrev pub with_used : Memory → ℕ → Memory
with_used m x = with_core m (used_in m.core x)
