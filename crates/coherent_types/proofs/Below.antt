-- What this law stands on, passed on to the laws above it, which need not list that then.
pub use Rattle.coherent_memory.proofs.Below.fr_store as fr_store
pub use Rattle.coherent_memory.proofs.Below.fr_typing as fr_typing
pub use Rattle.coherent_memory.proofs as coherent_memory
