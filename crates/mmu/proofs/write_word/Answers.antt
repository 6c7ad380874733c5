-- Two byte writes; after the first the world is ready for the second (`write_ready`).
use Rattle.mmu.proofs.Laws.{write_ready}
use Rattle.mmu.specs.Write.{word_at}
use Rattle.mmu.specs.Access.{Ready}
use Rattle.std.proofs.Common.{sym, subst, arith, ◌≡◌, ◌/◌, ◌%◌}
use Rattle.mmu.proofs.write_word.Goals as goal

pub write_byte-requires : goal.write_byte-requires
write_byte-requires c = subst (Ready _) (sym c.write_byte-half.ensures) (write_ready _ _ _ c.requires _ _)

pub returns : goal.returns
unfolding word_at
returns c =
    let high : c.args.value / 256 % 256 ≡ c.args.value / 256 = omega (arith, c.ranges.value)
    in rw (c.write_byte-half.ensures, c.to_le_bytes.ensures, high) at c.write_byte.ensures
