-- What this stands on, passed on to the laws above it, which need not list that then.
pub use Rattle.fr_plain.proofs as fr_plain
pub use Rattle.fr_store.proofs as fr_store
pub use Rattle.fr_plain.proofs.Below.fr_typing as fr_typing
