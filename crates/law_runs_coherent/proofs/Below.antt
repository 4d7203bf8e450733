-- What this law stands on, passed on to the laws above it, which need not list that then.
pub use Rattle.coherent_types.proofs.Below.fr_typing as fr_typing
pub use Rattle.coherent_types.proofs.Below.coherent_memory as coherent_memory
pub use Rattle.law_counts_sums.proofs as law_counts_sums
pub use Rattle.law_words_issued.proofs as law_words_issued
pub use Rattle.law_counts_things.proofs as law_counts_things
pub use Rattle.law_copies_writes.proofs.Below.law_words_ends as law_words_ends
pub use Rattle.law_counts_limits.proofs as law_counts_limits
pub use Rattle.law_types_events.proofs.Below.law_heap_writes as law_heap_writes
pub use Rattle.law_counts_waiting.proofs.Below.law_results_events as law_results_events
pub use Rattle.law_types_events.proofs.Below.law_heap_steps as law_heap_steps
pub use Rattle.law_counts_waiting.proofs.Below.law_plain_threads as law_plain_threads
pub use Rattle.law_counts_asking.proofs.Below.law_heap_still as law_heap_still
