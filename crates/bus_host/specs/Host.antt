-- What the host of the whole-bus lists lends (oracle/README.md, "The whole bus"): of each memory, what the bus needs.
use Rattle.std.specs.Prelude.{Bool, cond, List, ◌++◌, ℕ, ltb, length, take, drop}
use Rattle.mbc.specs.Mbc.{rom_len, ram_len}
use Rattle.mbc.specs.declared.cartridge.Cartridge.{Cartridge}
use Rattle.mbc.specs.declared.mbc.Mapper.{Mapper}
use Rattle.memory.specs.Ranges.{vram_len, wram_len}
use Rattle.memory.specs.World.{World, world}
use Rattle.memory.specs.declared.Memory.{Memory}
use Rattle.bus_host.specs.declared.host.Lengths.{Lengths}

unfoldable pub smaller : ℕ → ℕ → ℕ
smaller a b = cond (ltb a b) a b

abbrev pub lengths : ℕ → ℕ → ℕ → ℕ → Lengths
lengths r v w s = record { rom = r; vram = v; wram = w; save = s }

-- the lengths that a bus needs ("The whole bus": the save has the length of documents 01 and 02)
abbrev pub lengths_of : Cartridge → Mapper → Bool → Lengths
lengths_of c m colour = record { rom = rom_len c; vram = vram_len colour; wram = wram_len colour; save = ram_len c m }

-- as far as there are so many bytes
abbrev pub lent_of : Lengths → ℕ → ℕ → ℕ → ℕ → Lengths
lent_of n r v w s = record { rom = smaller n.rom r; vram = smaller n.vram v; wram = smaller n.wram w; save = smaller n.save s }

abbrev pub lengths_in : Memory → ℕ → ℕ → ℕ → ℕ → Lengths
lengths_in m = lent_of (lengths_of m.core.cartridge m.core.mapper m.core.banks.colour)

-- the sound window ("The whole bus": N and Y bring its 48 bytes), as far as there is room
abbrev pub heard : List ℕ → ℕ → List ℕ → List ℕ
heard given from sound = take (smaller 48 (length sound)) (drop from given) ++ drop (smaller 48 (length sound)) sound

-- the memories' parts that are lent
abbrev pub lent_parts : Lengths → World → World
lent_parts n w = world w.state (take n.vram w.vram) (take n.wram w.wram) (take n.save w.save) w.log
