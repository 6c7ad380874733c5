-- No second outcome: by the law of crate numbers.
use Rattle.std.proofs.Common.{◌≡◌, refl, Result, Ok, Err}
use Rattle.bus.specs.Calls.{Outcome}
use Rattle.bus.proofs.One.{memories}
use Rattle.memory.specs.World.{World}
use Rattle.memory.specs.declared.Memory.{Memory}
use Rattle.numbers.proofs.One.{only_one, answered, answered_back}
use Rattle.numbers.specs.declared.Refusal.{Refusal}
use Rattle.transfer_calls.specs.Transfers.{OneMoved, left_by, moved_by}
use Rattle.transfer_calls.specs.declared.Moved.{Moved}

-- the answer is found in what is left

abbrev answer : Outcome → Result Memory Refusal
answer o = answered o.number o.after.state

back : (w : World) (r : Result Memory Refusal) (b : _) → answer (left_by w r b) ≡ r
back w (Ok m) b = answered_back (Ok m) m
back w (Err e) b = answered_back (Err e) _

left : (w : World) (r : Result Memory Refusal) (b : _) → memories (left_by w r b) ≡ b
left w (Ok m) b = refl
left w (Err e) b = refl

abbrev moved : Outcome → Result Moved Refusal
moved o = answered o.number (record { memory = o.after.state; cycles = o.value })

moved_back : (w : World) (r : Result Moved Refusal) (b : _) → moved (moved_by w r b) ≡ r
moved_back w (Ok m) b = answered_back (Ok m) m
moved_back w (Err e) b = answered_back (Err e) _

moved_left : (w : World) (r : Result Moved Refusal) (b : _) → memories (moved_by w r b) ≡ b
moved_left w (Ok m) b = refl
moved_left w (Err e) b = refl

pub one_moved : OneMoved
one_moved =
    record {
      pages = λ x w page. only_one (left_by w) answer memories (back w) (left w) _;
      blocks = λ x w. only_one (moved_by w) moved memories (moved_back w) (moved_left w) _;
    }
