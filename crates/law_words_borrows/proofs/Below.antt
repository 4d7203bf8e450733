-- What this law stands on, passed on to the laws above it, which need not list that then.
pub use Rattle.law_counts_asking.proofs as law_counts_asking
pub use Rattle.law_words_values.proofs as law_words_values
pub use Rattle.law_words_values.proofs.Below.law_words_kept as law_words_kept
pub use Rattle.law_heap_steps.proofs.Below.law_counts_sums as law_counts_sums
pub use Rattle.law_heap_steps.proofs.Below.fr_store as fr_store
pub use Rattle.law_heap_steps.proofs.Below.coherent_memory as coherent_memory
pub use Rattle.law_words_values.proofs.Below.law_counts_things as law_counts_things
pub use Rattle.law_words_values.proofs.Below.law_words_paths as law_words_paths
pub use Rattle.law_counts_asking.proofs.Below.law_results_reads as law_results_reads
pub use Rattle.law_heap_steps.proofs as law_heap_steps
pub use Rattle.law_words_values.proofs.Below.coherent_types as coherent_types
