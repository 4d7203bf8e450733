pub mod PlaceLemmas
pub mod RankLemmas
pub mod MarkLemmas
mod ForkLemmas
mod BlockLemmas
