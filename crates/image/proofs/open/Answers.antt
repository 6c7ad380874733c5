-- What `taken` refuses gives the all-zero state; what it takes, the fields.
use mathlib.Core.Path.{sym, ap, ◌∙◌}
use Rattle.std.proofs.lemmas.Result.{err_from_is_err_and}
use Rattle.packing.specs.Packing.{Below}
use Rattle.memory.specs.declared.Core.{Core}
use Rattle.image.specs.Load.{Opened, opened_of, open_call}
use Rattle.image.proofs.LoadLaws.{state_core}
use Rattle.image.proofs.OpenLaws.{load_err, load_length, load_state}
use Rattle.image.proofs.open.Goals as goal

pub returns-in_err-taken : goal.returns-in_err-taken
unfolding open_call
returns-in_err-taken c =
    let x = err_from_is_err_and c.from_residual.result c.from_residual.ensures.1 in
    rw (x.1, x.2) (ap opened_of (load_err c.args.image.now c.in_err-taken.field-0.0 c.in_err-taken.ensures))

pub core_at-requires : goal.core_at-requires
core_at-requires c = load_length c.args.image.now (sym c.in_ok-taken.ensures)

abbrev opened : Core → Opened
opened k = record { number = 0; core = k }

pub returns : goal.returns
unfolding open_call
returns c = let l = c.args.image.now in
    let below : Below 256 l = λ i. (c.shared_slice_known-1.given i).fits in
    let h = sym c.in_ok-taken.ensures in
    ap opened (c.core_at.ensures ∙ sym (state_core l (load_length l h) below)) ∙ ap opened_of (sym (load_state l h))
