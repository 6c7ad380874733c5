-- The digests of the letter Z (oracle/README.md, "The whole bus", at its end): one fold over bytes.
use Rattle.std.specs.Prelude.{List, [], ◌∷◌, ◌++◌, ℕ, ◌+◌, ◌*◌, ◌/◌, ◌%◌, ℤ, length, take}
use Rattle.std.specs.Int.{w32}
use Rattle.std.proofs.Common.{of_z}
use Rattle.memory.specs.World.{World}
use Rattle.palette.specs.declared.Color.{Color}
use Rattle.bus_host.specs.Host.{smaller}

-- "for each byte h = (h * 257 + byte + 1) modulo 4,294,967,291"
abbrev pub mixed : ℕ → ℕ → ℕ
mixed h b = (h * 257 + b + 1) % 4294967291

unfoldable pub digest : ℕ → List ℕ → ℕ
digest h [] = h
digest h (b ∷ bs) = digest (mixed h b) bs

-- "red, green, blue, a byte each"
unfoldable pub color_bytes : List Color → List ℕ
color_bytes [] = []
color_bytes (c ∷ cs) = c.red ∷ c.green ∷ c.blue ∷ color_bytes cs

-- numbers of two and of four bytes, the most significant first, the latter in two's complement
abbrev pub word_bytes : ℕ → List ℕ
word_bytes n = n / 256 ∷ n % 256 ∷ []

abbrev pub signed_bytes : ℤ → List ℕ
signed_bytes z = word_bytes (of_z w32 z / 65536) ++ word_bytes (of_z w32 z % 65536)

-- "log use (2), the log's bytes in use"
abbrev pub log_bytes : ℕ → List ℕ → List ℕ
log_bytes used log = word_bytes used ++ take (smaller used (length log)) log

-- "Memories: VRAM, WRAM, save, log use (2), the log's bytes in use"
abbrev pub memory_bytes : World → List ℕ
memory_bytes w = w.vram ++ w.wram ++ w.save ++ log_bytes w.state.core.used w.log
