-- What this stands on, passed on to the laws above it, which need not list that then.
pub use Rattle.fr_sound.proofs.Below.fr_plain as fr_plain
pub use Rattle.fr_sound.proofs as fr_sound
pub use Rattle.fr_sound.proofs.Below.fr_store as fr_store
pub use Rattle.fr_sound.proofs.Below.fr_typing as fr_typing
