-- What this law stands on, passed on to the laws above it, which need not list that then.
pub use Rattle.law_copies_kept.proofs as law_copies_kept
pub use Rattle.law_words_ends.proofs.Below.law_words_borrows.Below.law_counts_asking as law_counts_asking
pub use Rattle.law_walks_others.proofs.Below.law_counts_sums as law_counts_sums
pub use Rattle.law_walks_others.proofs.Below.coherent_memory as coherent_memory
pub use Rattle.law_words_ends.proofs.Below.law_counts_things as law_counts_things
pub use Rattle.law_walks_others.proofs.Below.law_words_paths as law_words_paths
pub use Rattle.law_words_ends.proofs.Below.law_words_kept as law_words_kept
pub use Rattle.law_walks_others.proofs.Below.law_results_reads as law_results_reads
pub use Rattle.law_walks_others.proofs.Below.law_heap_still as law_heap_still
pub use Rattle.law_walks_others.proofs.Below.law_counts_waiting as law_counts_waiting
pub use Rattle.law_walks_others.proofs as law_walks_others
pub use Rattle.law_walks_others.proofs.Below.law_results_events as law_results_events
pub use Rattle.law_words_ends.proofs as law_words_ends
