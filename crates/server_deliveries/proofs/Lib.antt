pub mod DeliverLemmas
pub mod EventLemmas
mod PassLemmas
