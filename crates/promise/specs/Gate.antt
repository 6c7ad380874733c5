-- Who is refused, and so what is admitted, without asking the bus: a machine that is told the cartridge's description, the log's length and what
-- each call asks for. It holds no memory and no register but the mapper's, and makes no call: `step` is not named here.
use Rattle.std.specs.Prelude.{Bool, cond, ◌&&◌, ◌||◌, List, [], ◌∷◌, ◌++◌, ℕ, ◌+◌, ◌-◌, ◌*◌, ltb, length}
use Rattle.mbc.specs.declared.cartridge.Cartridge.{Cartridge}
use Rattle.mbc.specs.declared.mbc.Mapper.{Mapper}
use Rattle.numbers.specs.Numbers.{done, owed, no_room, wrong_length}
use Rattle.savelog.specs.Log.{width, cleared_use}
use Rattle.savelog.specs.declared.Rec.{Rec}
use Rattle.promise.specs.Calls.{ByteWrite, some, reaches, sounds}
use Rattle.promise.specs.Admitted.{granted, mappers_after, let_in_all}

-- what it is told beforehand: the cartridge, whether the machine is in colour, the length of the save that these ask for, and the log's length
pub record Terms : Type 0 where
  pub cartridge : Cartridge
  pub colour : Bool
  pub ram : ℕ
  pub log : ℕ

-- what it is told of a call: whether all lengths that are lent with it are right, the byte writes that it asks for, whether it clears the log
pub record Asked : Type 0 where
  pub fits : Bool
  pub writes : List ByteWrite
  pub clears : Bool

-- what it remembers between calls: the mapper, and the log's use
pub record Gate : Type 0 where
  pub mapper : Mapper
  pub used : ℕ

-- A write's number (document 01, "Numbers a call gives back"): 4 for a wrong length; else 2, "byte write in A000..BFFF", "word write with either
-- index there", for want of room, which is "4 free bytes, a word write 8" (document 02); else 1 where the host owes a sound write, or 0.
-- A call with no byte write needs no number here: nothing of it can be let in, and a clearing is always done.
unfoldable pub ruled : ℕ → Gate → Asked → ℕ
ruled log g a =
    cond a.fits
    (cond (reaches a.writes && ltb (log - g.used) (length a.writes * width)) no_room (cond (sounds a.writes) owed done))
    wrong_length

abbrev pub passed : Terms → Gate → Asked → List ByteWrite
passed d g a = granted (ruled d.log g a) a.writes

abbrev pub lets : Terms → Gate → Asked → List Rec
lets d g a = let_in_all d.cartridge g.mapper (passed d g a)

-- each record takes its bytes of the log, and a clearing gives them back
unfoldable pub gate_after : Terms → Gate → Asked → Gate
gate_after d g a =
    record {
      mapper = mappers_after d.cartridge g.mapper (passed d g a);
      used = cond a.clears cleared_use (g.used + length (lets d g a) * width);
    }

unfoldable pub gates_after : Terms → Gate → List Asked → Gate
gates_after d g [] = g
gates_after d g (a ∷ rest) = gates_after d (gate_after d g a) rest

-- the admitted writes of a list of calls
unfoldable pub admitted_by : Terms → Gate → List Asked → List Rec
admitted_by d g [] = []
admitted_by d g (a ∷ rest) = lets d g a ++ admitted_by d (gate_after d g a) rest

-- the numbers of its writes, in order
abbrev pub of_write : List ByteWrite → ℕ → List ℕ
of_write bs n = cond (some bs) (n ∷ []) []

unfoldable pub ruled_all : Terms → Gate → List Asked → List ℕ
ruled_all d g [] = []
ruled_all d g (a ∷ rest) = of_write a.writes (ruled d.log g a) ++ ruled_all d (gate_after d g a) rest

-- the calls that matter to it: those that ask for a byte write, and the clearings
unfoldable pub telling : List Asked → List Asked
telling [] = []
telling (a ∷ rest) = cond (a.clears || some a.writes) (a ∷ []) [] ++ telling rest
