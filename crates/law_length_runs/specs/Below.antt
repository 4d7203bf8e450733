-- What this law stands on, passed on to the laws above it, which need not list that then.
pub use Rattle.law_runs_whole.specs.Below.law_counts_things as law_counts_things
pub use Rattle.law_runs_whole.specs as law_runs_whole
pub use Rattle.law_runs_rounds.specs as law_runs_rounds
