-- Two names lead to one file: what the system tells of each has one device and one number there.
use Rattle.std.specs.Prelude.{Bool, ◌&&◌, eqb}
use Rattle.recover.specs.declared.told.Told.{Told}

unfoldable pub one_file : Told → Told → Bool
one_file a b = eqb a.id.device b.id.device && eqb a.id.inode b.id.inode
