-- Document 01's number and values for each case of a mapper's answers ("For every case of an enum answer, a definition gives this paper's number and values.
-- The promises use that definition").
use Rattle.std.specs.Prelude.{ℕ, Option, Some, None, Result, Ok, Err}
use Rattle.std.specs.Result.{result_unwrap_or}
use Rattle.numbers.specs.Numbers.{done}
use Rattle.numbers.specs.Refusal.{number_given, refusal_number}
use Rattle.numbers.specs.declared.Refusal.{Refusal}
use Rattle.mbc.specs.Cartridge.{cartridge_of}
use Rattle.mbc.specs.declared.cartridge.Cartridge.{Cartridge}
use Rattle.mbc.specs.declared.mbc.Mapper.{Mapper}
use Rattle.mbc.specs.declared.mbc.Mapper.TheVariants.{RomOnly}
use Rattle.mbc.specs.declared.mbc.Stored.{Stored}
use Rattle.mbc.specs.declared.mbc.Written.{Written}

-- a byte that a write asks the save to store
abbrev pub stored_as : ℕ → ℕ → Option Stored
stored_as at value = Some (record { at = at; value = value })

pub record Fresh : Type 0 where
  pub number : ℕ
  pub cartridge : Cartridge
  pub mapper : Mapper

pub record ReadByte : Type 0 where
  pub number : ℕ
  pub value : ℕ

pub record WriteByte : Type 0 where
  pub number : ℕ
  pub mapper : Mapper
  pub answer : Option Stored

-- a refusal gives the all-zero state
abbrev pub fresh_of : Result (Cartridge × Mapper) Refusal → Fresh
fresh_of (Ok made) = record { number = done; cartridge = made.0; mapper = made.1 }
fresh_of (Err e) = record { number = refusal_number e; cartridge = cartridge_of 0 0; mapper = RomOnly }

-- a refusal gives 0
abbrev pub read_of : Result ℕ Refusal → ReadByte
read_of r = record { number = number_given r; value = result_unwrap_or r 0 }

-- a refusal changes nothing
abbrev pub wrote_of : Mapper → Result Written Refusal → WriteByte
wrote_of m (Ok w) = record { number = done; mapper = w.mapper; answer = w.answer }
wrote_of m (Err e) = record { number = refusal_number e; mapper = m; answer = None }
