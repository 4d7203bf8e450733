-- What this law stands on, passed on to the laws above it, which need not list that then.
pub use Rattle.coherent_types.proofs.Below.fr_store as fr_store
pub use Rattle.coherent_types.proofs.Below.fr_typing as fr_typing
pub use Rattle.coherent_types.proofs.Below.coherent_memory as coherent_memory
pub use Rattle.coherent_types.proofs as coherent_types
