-- What this law stands on, passed on to the laws above it, which need not list that then.
pub use Rattle.law_types_still.proofs as law_types_still
pub use Rattle.law_heap_writes.proofs as law_heap_writes
pub use Rattle.law_heap_writes.proofs.Below.law_heap_steps as law_heap_steps
pub use Rattle.law_types_still.proofs.Below.law_words_paths as law_words_paths
pub use Rattle.law_types_still.proofs.Below.law_plain_values as law_plain_values
pub use Rattle.law_heap_writes.proofs.Below.law_results_reads as law_results_reads
pub use Rattle.law_counts_limits.proofs.Below.law_counts_things as law_counts_things
pub use Rattle.law_heap_writes.proofs.Below.law_results_events as law_results_events
pub use Rattle.law_types_still.proofs.Below.law_counts_sums as law_counts_sums
pub use Rattle.law_types_still.proofs.Below.fr_store as fr_store
pub use Rattle.law_types_still.proofs.Below.fr_typing as fr_typing
pub use Rattle.law_types_still.proofs.Below.law_heap_still as law_heap_still
