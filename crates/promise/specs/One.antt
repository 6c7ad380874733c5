-- Document 01, "How much a contract must say": "show that no second outcome fits". What the contract of a call says of its result and of the
-- memories that it may write has a name in the call's crate, which shows that two outcomes which both meet it are the same (`OnlyOne`, crate
-- numbers). Those of the bus stand here together: `perform`, so every call of demand 3's lists; `write_byte`, `write_word`; `do_dma_transfer`,
-- `do_hdma`; `fresh`. Recovery, append, the converters, the lent timer and the image's store have theirs in `laws_hold`, `converters_hold`,
-- `promises_hold` of savelog, timer and image.
-- A call that may write no memory, a read or one on the state alone, has a contract `r ≡ ..` over its inputs, which says so by its form. `perform`
-- makes each of them too, and its proof knows of them these contracts alone.
use Rattle.bus.specs.Fresh.{OneStart}
use Rattle.dispatch.specs.Step.{OnePerformed}
use Rattle.transfer_calls.specs.Transfers.{OneMoved}
use Rattle.write_calls.specs.Writes.{OneWritten}

abbrev pub OneOutcome : Type 0
OneOutcome = OnePerformed × OneWritten × OneMoved × OneStart
