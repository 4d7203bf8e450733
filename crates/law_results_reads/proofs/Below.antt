-- What this law stands on, passed on to the laws above it, which need not list that then.
pub use Rattle.law_counts_sums.proofs.Below.coloured_heap as coloured_heap
pub use Rattle.law_counts_sums.proofs as law_counts_sums
pub use Rattle.law_counts_sums.proofs.Below.fr_plain as fr_plain
pub use Rattle.law_counts_sums.proofs.Below.fr_store as fr_store
pub use Rattle.law_counts_sums.proofs.Below.fr_typing as fr_typing
pub use Rattle.law_counts_sums.proofs.Below.coherent_memory as coherent_memory
pub use Rattle.law_counts_sums.proofs.Below.owner_box as owner_box
pub use Rattle.law_words_paths.proofs as law_words_paths
pub use Rattle.law_words_paths.proofs.Below.coherent_types as coherent_types
