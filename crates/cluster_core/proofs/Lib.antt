pub mod RowLemmas
mod RoomLemmas
mod RunLemmas
mod StartLemmas
mod EndingLemmas
mod HandingLemmas
mod CountingLemmas
mod ReadyLemmas
mod OutboxLemmas
mod ActingLemmas
mod AppliedLemmas
pub mod DefinedLemmas
mod MergeLemmas
