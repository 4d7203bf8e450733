-- What this law stands on, passed on to the laws above it, which need not list that then.
pub use Rattle.law_length_runs.proofs as law_length_runs
pub use Rattle.law_length_runs.proofs.Below.law_counts_things as law_counts_things
pub use Rattle.law_length_runs.proofs.Below.law_runs_rounds as law_runs_rounds
pub use Rattle.law_length_runs.proofs.Below.law_runs_whole as law_runs_whole
pub use Rattle.law_length_runs.proofs.Below.law_counts_limits as law_counts_limits
