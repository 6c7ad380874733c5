-- A mapper's fields as numbers (document 01, "State image": kind, ROM bank, RAM bank, mode, enabled, high bits). specs/Mbc.antt has them of each mapper.
use Rattle.std.specs.Prelude.{Bool, cond, ◌&&◌, ℕ, eqb}
use Rattle.mbc.specs.declared.held.Registers.{Registers}

-- "The part we take": mappers start with ROM bank 1, all else 0 or off
abbrev pub starting : ℕ → Registers
starting kind = record { kind = kind; rom = 1; ram = 0; mode = 0; enabled = 0; high = 0 }

abbrev pub bit : Bool → ℕ
bit b = cond b 1 0

abbrev pub is_on : ℕ → Bool
is_on n = eqb n 1

unfoldable pub same : Registers → Registers → Bool
same r s =
    eqb r.kind s.kind
    && (eqb r.rom s.rom
    && (eqb r.ram s.ram && (eqb r.mode s.mode && (eqb r.enabled s.enabled && eqb r.high s.high))))
