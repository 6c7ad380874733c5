-- What the source keeps: the address lies in the save, so the test of it is decided.
use mathlib.Core.Path.{◌∙◌}
use Rattle.mbc.specs.Mbc.{ram_len, mapper_of}
use Rattle.mbc.proofs.Sources.{ram_within, ram_answer}
use Rattle.mbc.proofs.held.Registers.answer.Goals as goal

pub returns : goal.returns
returns c = let p = c.requires in c.kept.ensures.in_save (ram_len c.args.cartridge (mapper_of c.args.self)) (rw c.ram_source-source.ensures (ram_within _ _ _ p.0 p.1.0 p.1.1)) ∙ (rw c.ram_source-source.ensures (ram_answer _ _ _ _ p.1.0))
