-- What the contracts of recover cite.
pub mod Files
pub mod Begin
