-- An image whose length is right and whose mapper fits, by a load's number; and a load's number by the rest.
use mathlib.Core.Bool.{cond, ◌&&◌}
use mathlib.Core.List.{List}
use mathlib.Core.Path.{◌≡◌, sym, ◌∙◌}
use Prim.Native.Nat.{ℕ}
use native.Mathlib.Omega.{arith}
use Rattle.rules.proofs.Tests.{passes, both_true}
use Rattle.numbers.specs.Numbers.{done, out_of_range}
use Rattle.packing.specs.Packing.{Below}
use Rattle.image.specs.Load.{load_call}
use Rattle.image.specs.Patches.{fields, head_fits, mapper_fits, tail_fits, rest_fits, Mapped}
use Rattle.image.proofs.LoadLaws.{load_fits}
use Rattle.image.proofs.OpenLaws.{load_length}

-- A load's number

module _ (l : List ℕ) (below : Below 256 l) where
  pub load_mapped : (load_call l).number ≡ done → Mapped l
  load_mapped h =
      let size = load_length l h in
      let fits = passes (head_fits (fields l) && tail_fits (fields l)) out_of_range (omega arith) (sym (load_fits l size below) ∙ h) in
      record { size = size; mapper = (both_true (mapper_fits (fields l)) _ (both_true (head_fits (fields l)) _ fits).1).0 }

  pub mapped_load : Mapped l → (load_call l).number ≡ cond (rest_fits (fields l)) done out_of_range
  mapped_load p = rw (load_fits l p.size below, p.mapper)
