-- The code tests the bits of `enable & flags`, Pan Docs the bits of both: the same.
use Rattle.std.specs.Prelude.{◌≡◌, ℕ, [], ◌∷◌, refl}
use Rattle.std.specs.List.{find}
use lib.Bits.{bit_and}
use Rattle.bit_utils.specs.Bits.{is_set}
use Rattle.bit_utils.proofs.Laws.{is_set_and}
use Rattle.interrupt.specs.PanDocs.{bit_of, waits, first_of}
use Rattle.interrupt.specs.declared.Interrupt.{Interrupt}
use Rattle.interrupt.specs.declared.Interrupt.TheVariants.{Vblank, Lcd, Timer, Serial, Joypad}

pub first_in_order : (enable flags : ℕ)
    → find (λ (i : Interrupt). is_set (bit_and enable flags) (bit_of i)) (Vblank ∷ Lcd ∷ Timer ∷ Serial ∷ Joypad ∷ []) ≡ first_of enable flags
unfolding first_of waits
first_in_order enable flags =
    rw (is_set_and enable flags 0, is_set_and enable flags 1, is_set_and enable flags 2, is_set_and enable flags 3, is_set_and enable flags 4) refl
