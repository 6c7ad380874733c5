-- A page is a lent buffer with the text so far at its start.
use Rattle.std.specs.Prelude.{List, ◌≡◌, ℕ}
use Rattle.recover_text.specs.Text.{Put}
use Rattle.recover_text.specs.declared.put.Page.{Page}

-- The page `p` with the text `t` put behind its own: it is the same buffer still, and what it holds is as `Put` says.
pub record Puts (p : Page) (t : List ℕ) (p' : Page) : Type 0 where
  pub same_reference : p'.out.ghost_name ≡ p.out.ghost_name
  pub text : Put p.out.now p.end t p'.out.now p'.end
