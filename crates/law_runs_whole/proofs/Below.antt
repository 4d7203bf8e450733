-- What this law stands on, passed on to the laws above it, which need not list that then.
pub use Rattle.law_runs_coherent.proofs.Below.law_counts_sums as law_counts_sums
pub use Rattle.law_runs_coherent.proofs.Below.fr_typing as fr_typing
pub use Rattle.law_runs_coherent.proofs.Below.coherent_memory as coherent_memory
pub use Rattle.code_meaning.proofs as code_meaning
pub use Rattle.law_runs_coherent.proofs.Below.law_words_issued as law_words_issued
pub use Rattle.law_runs_coherent.proofs.Below.law_counts_things as law_counts_things
pub use Rattle.law_runs_coherent.proofs.Below.law_words_ends as law_words_ends
pub use Rattle.law_runs_coherent.proofs.Below.law_counts_limits as law_counts_limits
