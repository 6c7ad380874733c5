-- What a mapper is to the rest: one such record for each, at the end of its own file; specs/Mbc.antt names it in one case and has what is common.
use Rattle.std.specs.Prelude.{Bool, cond, ℕ}
use Rattle.mbc.specs.PanDocs.{ram_address, off_byte}
use Rattle.mbc.specs.declared.cartridge.Cartridge.{Cartridge}
use Rattle.mbc.specs.declared.mbc.Mapper.{Mapper}
use Rattle.mbc.specs.declared.mbc.Source.{Source}
use Rattle.mbc.specs.declared.mbc.Source.TheVariants.{Save, Fixed}
use Rattle.mbc.specs.declared.held.Registers.{Registers}

pub record Behaviour : Type 0 where
  -- the cartridges that it is described for
  pub described : Cartridge → Bool
  -- its state ranges
  pub held : Cartridge → Bool
  -- bytes of RAM of its own; 0 where the RAM code says how many
  pub own_ram : ℕ
  -- where a read at A000..BFFF finds its byte
  pub ram_source : Cartridge → ℕ → Source
  -- itself after a write
  pub after : Cartridge → ℕ → ℕ → Mapper
  -- its fields as numbers; those that it lacks hold their starting values
  pub registers : Registers

-- a bank of the cartridge's RAM at A000..BFFF, where it is on
abbrev pub ram_where : Bool → ℕ → ℕ → Source
ram_where on bank index = cond on (Save (ram_address bank index)) (Fixed off_byte)
