-- What this law stands on, passed on to the laws above it, which need not list that then.
pub use Rattle.law_words_values.proofs.Below.law_counts_sums as law_counts_sums
pub use Rattle.law_words_values.proofs.Below.fr_typing as fr_typing
pub use Rattle.law_words_values.proofs as law_words_values
pub use Rattle.law_words_values.proofs.Below.coherent_memory as coherent_memory
pub use Rattle.law_words_values.proofs.Below.law_counts_things as law_counts_things
pub use Rattle.law_words_values.proofs.Below.law_words_paths as law_words_paths
pub use Rattle.law_counts_waiting.proofs.Below.law_words_kept as law_words_kept
pub use Rattle.law_words_values.proofs.Below.law_results_reads as law_results_reads
pub use Rattle.law_counts_waiting.proofs.Below.law_words_asked as law_words_asked
pub use Rattle.law_words_values.proofs.Below.law_heap_still as law_heap_still
pub use Rattle.law_counts_waiting.proofs as law_counts_waiting
pub use Rattle.law_counts_waiting.proofs.Below.law_results_events as law_results_events
