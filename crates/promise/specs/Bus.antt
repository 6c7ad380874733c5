-- The definitions of the bus that the promise is made over, under one roof: where they stand is said here alone.
pub use Rattle.bus.specs.Calls.{Outcome, outcome}
pub use Rattle.dispatch.specs.Kinds.{refused, Kind, Reading, Clearing, Other}
unfoldable pub use Rattle.dispatch.specs.Kinds.{kind_of}
pub use Rattle.dispatch.specs.Lent.{Lent, start, begin}
unfoldable pub use Rattle.dispatch.specs.Step.{step}
pub use Rattle.dispatch.specs.declared.Performed.{Performed}
pub use Rattle.dispatch.specs.declared.Call.{Call}
pub use Rattle.dispatch.specs.declared.Call.TheVariants as call
pub use Rattle.dispatch.specs.declared.StateCall.TheVariants as on
pub use Rattle.refusals.specs.Refusal.{next_index}
unfoldable pub use Rattle.refusals.specs.Refusal.{in_save, in_sound, byte_owed, word_owed}
pub use Rattle.refusals.specs.Answers.{Done}
