pub mod Below
mod MessageLemmas
mod OthersLemmas
