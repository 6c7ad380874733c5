-- The use is set to 0.
use mathlib.Core.Path.{◌∙◌}
use Rattle.quick_state.proofs.Parts.{cleared_use_law}
use Rattle.quick_state.proofs.fields.clear_log.Goals as goal

pub returns : goal.returns
returns c = c.set_log_used.ensures ∙ cleared_use_law _ (λ i. (c.slice_known-1.given i).fits) c.clear.ensures
