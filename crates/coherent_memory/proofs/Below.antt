-- What this law stands on, passed on to the laws above it, which need not list that then.
pub use Rattle.coloured_heap.proofs as coloured_heap
pub use Rattle.fr_code.proofs as fr_code
pub use Rattle.fr_code.proofs.Below.fr_plain as fr_plain
pub use Rattle.fr_code.proofs.Below.fr_sound as fr_sound
pub use Rattle.fr_code.proofs.Below.fr_store as fr_store
pub use Rattle.fr_code.proofs.Below.fr_typing as fr_typing
pub use Rattle.server_model.proofs.Below.owner_box as owner_box
