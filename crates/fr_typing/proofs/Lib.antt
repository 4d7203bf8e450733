pub mod FindingLemmas
pub mod CaptureLemmas
pub mod Agree
pub mod Outcomes
pub mod PlaceLemmas
pub mod Threaded
