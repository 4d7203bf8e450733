-- What this law stands on, passed on to the laws above it, which need not list that then.
pub use Rattle.law_words_writes.proofs.Below.law_words_paths as law_words_paths
pub use Rattle.law_words_writes.proofs.Below.law_results_events as law_results_events
pub use Rattle.law_words_writes.proofs.Below.law_results_reads.Below.law_counts_sums as law_counts_sums
pub use Rattle.law_words_writes.proofs.Below.law_results_reads.Below.fr_plain as fr_plain
pub use Rattle.law_words_writes.proofs.Below.law_results_reads.Below.fr_store as fr_store
pub use Rattle.law_heap_steps.proofs as law_heap_steps
pub use Rattle.law_words_writes.proofs.Below.law_results_reads as law_results_reads
pub use Rattle.law_heap_steps.proofs.Below.law_heap_still as law_heap_still
pub use Rattle.law_words_writes.proofs.Below.law_plain_threads as law_plain_threads
pub use Rattle.law_words_writes.proofs as law_words_writes
pub use Rattle.law_words_writes.proofs.Below.law_words_asked as law_words_asked
