-- What the proofs open of the bus, beside specs/Bus.antt: where it stands is said here alone.
unfoldable pub use Rattle.bus.specs.Calls.{unless}
unfoldable pub use Rattle.bus.specs.Fresh.{fresh_refused, beginning}
pub use Rattle.dispatch.specs.Step.{in_world}
unfoldable pub use Rattle.dispatch.specs.Step.{state_step}
unfoldable pub use Rattle.refusals.specs.Answers.{changed, byte_given, word_given, flag_given, waiting_given}
pub use Rattle.refusals.specs.Refusal.{refused_state, refused_read, refused_write, lengths_are}
unfoldable pub use Rattle.refusals.specs.Refusal.{or_else, lengths_fit, lengths_refused, log_refused, lent_refused, either_in_save}
unfoldable pub use Rattle.refusals.specs.Refusal.{byte_room, word_room, state_refused, read_refused, write_refused}
unfoldable pub use Rattle.refusals.specs.Refusal.{raw_refused, cycles_refused, vram_length_refused, vram_refused, has_bank}
