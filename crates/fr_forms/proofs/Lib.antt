pub mod FormLemmas
pub mod NodeLemmas
pub mod PartLemmas
pub mod ResolveLemmas
pub mod BuiltLemmas
