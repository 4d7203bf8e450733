-- What this law stands on, passed on to what stands above it, which need not list that then.
pub use Rattle.law_runs_right.specs as law_runs_right
