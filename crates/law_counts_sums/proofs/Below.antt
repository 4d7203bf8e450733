-- What this law stands on, passed on to the laws above it, which need not list that then.
pub use Rattle.coherent_memory.proofs.Below.coloured_heap as coloured_heap
pub use Rattle.coherent_memory.proofs.Below.fr_plain as fr_plain
pub use Rattle.coherent_memory.proofs.Below.fr_store as fr_store
pub use Rattle.coherent_memory.proofs.Below.fr_typing as fr_typing
pub use Rattle.coherent_memory.proofs as coherent_memory
pub use Rattle.coherent_memory.proofs.Below.owner_box as owner_box
