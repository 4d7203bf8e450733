-- What this stands on, passed on to the laws above it, which need not list that then.
pub use Rattle.fr_typing.proofs as fr_typing
