-- The bytes read hold the field, and a shift and a remainder take it out.
use mathlib.Core.Path.{ap, ◌∙◌}
use Prim.Native.Nat.{ℕ, ◌+◌, ◌-◌, ◌*◌, ◌/◌, ◌%◌, ◌^◌}
use native.Mathlib.Nat.{mod-lt}
use native.Mathlib.Omega.{arith}
use lib.Pow.{pow_pos}
use Rattle.packing.proofs.Steps.{power}
use Rattle.places.proofs.Laws.{field_window}
use Rattle.places.proofs.field_at.Goals as goal

pub returns : goal.returns
returns g c = let l = c.args.bytes.now in
    let w = c.args.width in
    let bit = c.args.bit in
    let end = (bit + w + 7) / 8 in
    let s = end * 8 - (bit + w) in
    let f = field_window l (λ i. (c.shared_slice_known-1.given i).fits) (end - g.row.N) g.row.N (omega arith) s w bit (omega arith) (omega arith) in
    let e = ap (λ (x : ℕ). x / 2 ^ s % 2 ^ w) c.window-n.ensures ∙ f in
    rw (power w (omega arith)) (e, mod-lt (c.window-n.result / 2 ^ s) (pow_pos w))
