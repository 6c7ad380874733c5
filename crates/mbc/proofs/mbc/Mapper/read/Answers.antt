-- ROM at its place, which lies in it; all else is the save's.
use mathlib.Core.Path.{◌∙◌}
use native.Mathlib.Omega.{arith}
use Rattle.mbc.proofs.RegisterLaws.{mapper_held}
use Rattle.mbc.proofs.Sources.{rom_within, ram_read}
use Rattle.mbc.proofs.Places.{in_ram}
use Rattle.mbc.proofs.mbc.Mapper.read.Goals as goal

pub bounds-rom-rom_place : goal.bounds-rom-rom_place
bounds-rom-rom_place c = let p = c.rom_place.ensures in omega (arith, rw c.from-held.ensures at p, rom_within _ _ _ c.requires.0 c.if-index-lt32768.true, c.requires.1.1.0)

pub returns : goal.returns
returns c = let r = in_ram _ c.requires.1.0 c.if-index-lt32768.false in (c.read_ram.ensures ∙ rw (mapper_held c.args.self c.from-held.result c.from-held.ensures)) ∙ ram_read _ _ _ c.requires.0 r.0 r.1 _ _
