-- What this law stands on, passed on to the laws above it, which need not list that then.
pub use Rattle.law_entries_reads.proofs as law_entries_reads
pub use Rattle.law_entries_reads.proofs.Below.law_entries_variables as law_entries_variables
pub use Rattle.law_entries_reads.proofs.Below.law_copies_kept as law_copies_kept
