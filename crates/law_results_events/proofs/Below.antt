-- What this law stands on, passed on to the laws above it, which need not list that then.
pub use Rattle.law_words_kept.proofs as law_words_kept
pub use Rattle.law_results_reads.proofs.Below.law_counts_sums as law_counts_sums
pub use Rattle.law_results_reads.proofs.Below.fr_store as fr_store
pub use Rattle.law_results_reads.proofs.Below.fr_typing as fr_typing
pub use Rattle.law_results_reads.proofs.Below.coherent_memory as coherent_memory
pub use Rattle.law_results_reads.proofs.Below.owner_box as owner_box
pub use Rattle.law_results_reads.proofs.Below.law_words_paths as law_words_paths
pub use Rattle.law_results_reads.proofs as law_results_reads
pub use Rattle.law_heap_still.proofs as law_heap_still
pub use Rattle.law_results_reads.proofs.Below.coherent_types as coherent_types
pub use Rattle.law_plain_threads.proofs as law_plain_threads
