-- What this law stands on, passed on to the laws above it, which need not list that then.
pub use Rattle.law_runs_whole.proofs.Below.law_counts_things as law_counts_things
pub use Rattle.law_runs_whole.proofs as law_runs_whole
pub use Rattle.law_runs_whole.proofs.Below.law_counts_limits as law_counts_limits
pub use Rattle.law_runs_rounds.proofs as law_runs_rounds
