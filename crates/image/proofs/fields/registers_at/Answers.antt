-- The parts of the number are the fields (`registers_by_law`).
use Prim.Native.Nat.{◌/◌, ◌%◌}
use native.Mathlib.Omega.{arith}
use mathlib.Core.Path.{◌≡◌}
use Rattle.image.proofs.MappingLaws.{registers_by_law}
use Rattle.image.proofs.fields.registers_at.Goals as goal

pub returns : goal.returns
returns c = let n = c.mapping_at-n.result in
    let kind : n / 16777216 ≡ n / 16777216 % 4 = omega (arith, c.mapping_at-n.ensures.1) in
    let high : n % 4 ≡ n / 1 % 4 = omega arith in
    rw (kind, high, c.mapping_at-n.ensures.0) (registers_by_law _ c.requires)
