-- What this law stands on, passed on to the laws above it, which need not list that then.
pub use Rattle.law_words_ends.proofs.Below.law_words_kept.Below.coloured_heap as coloured_heap
pub use Rattle.law_words_ends.proofs.Below.law_counts_sums as law_counts_sums
pub use Rattle.law_words_ends.proofs.Below.coherent_memory as coherent_memory
pub use Rattle.law_words_ends.proofs.Below.law_words_kept as law_words_kept
pub use Rattle.law_words_ends.proofs.Below.law_heap_still as law_heap_still
pub use Rattle.law_words_ends.proofs.Below.law_words_paths as law_words_paths
pub use Rattle.law_words_ends.proofs as law_words_ends
