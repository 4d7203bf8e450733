-- What this law stands on, passed on to the laws above it, which need not list that then.
pub use Rattle.law_entries_writes.proofs.Below.law_entries_reads.Below.law_words_borrows as law_words_borrows
pub use Rattle.law_entries_writes.proofs.Below.law_entries_reads as law_entries_reads
pub use Rattle.law_entries_writes.proofs.Below.law_entries_variables as law_entries_variables
pub use Rattle.law_runs_whole.proofs.Below.law_counts_limits as law_counts_limits
pub use Rattle.law_runs_whole.proofs as law_runs_whole
