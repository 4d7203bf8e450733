pub mod PinLemmas
