-- What `open` gave, and the arrays.
use mathlib.Core.Path.{sym, ap, ◌∙◌}
use Rattle.std.proofs.Common.{Ok, Err}
use Rattle.std.proofs.lemmas.Result.{err_from_is_err_and}
use Rattle.image.specs.Load.{Loaded, loaded}
use Rattle.image.proofs.OpenLaws.{load_err, load_length, load_state, open_number, open_core}
use Rattle.image.proofs.decode.Goals as goal

pub returns-in_err-core : goal.returns-in_err-core
returns-in_err-core c =
    let l = c.args.image.now in
    let x = err_from_is_err_and c.from_residual.result c.from_residual.ensures.1 in
    rw (x.1, x.2) (load_err l c.in_err-core.field-0.0 (open_number l (Err c.in_err-core.field-0.0) c.in_err-core.ensures))

pub state_of-requires : goal.state_of-requires
state_of-requires c = let l = c.args.image.now in
    let h = sym (open_number l (Ok c.in_ok-core.core) c.in_ok-core.ensures) in
    (load_length l h, open_core l (Ok c.in_ok-core.core) c.in_ok-core.ensures ∙ ap (λ (r : Loaded). r.state.core) (load_state l h))

pub returns : goal.returns
returns c = let l = c.args.image.now in
    ap (loaded 0) c.state_of.ensures ∙ sym (load_state l (sym (open_number l (Ok c.in_ok-core.core) c.in_ok-core.ensures)))
