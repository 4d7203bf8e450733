-- What this law stands on, passed on to the laws above it, which need not list that then.
pub use Rattle.law_counts_things.proofs.Below.law_counts_sums as law_counts_sums
pub use Rattle.law_counts_things.proofs.Below.fr_typing as fr_typing
pub use Rattle.law_counts_things.proofs.Below.coherent_memory as coherent_memory
pub use Rattle.law_counts_things.proofs as law_counts_things
