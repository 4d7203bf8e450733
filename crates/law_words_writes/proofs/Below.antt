-- What this law stands on, passed on to the laws above it, which need not list that then.
pub use Rattle.law_words_values.proofs as law_words_values
pub use Rattle.law_words_values.proofs.Below.law_words_kept as law_words_kept
pub use Rattle.law_words_asked.proofs as law_words_asked
pub use Rattle.law_words_asked.proofs.Below.law_heap_still as law_heap_still
pub use Rattle.law_words_asked.proofs.Below.law_words_paths as law_words_paths
pub use Rattle.law_words_asked.proofs.Below.law_results_events as law_results_events
pub use Rattle.law_words_values.proofs.Below.law_results_reads as law_results_reads
pub use Rattle.law_words_asked.proofs.Below.law_plain_threads as law_plain_threads
