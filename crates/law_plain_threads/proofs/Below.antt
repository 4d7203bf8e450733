-- What this law stands on, passed on to the laws above it, which need not list that then.
pub use Rattle.law_plain_values.proofs as law_plain_values
