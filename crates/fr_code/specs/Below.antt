-- What this stands on, passed on to the laws above it, which need not list that then.
pub use Rattle.fr_sound.specs.Below.fr_base as fr_base
pub use Rattle.fr_sound.specs.Below.fr_plain as fr_plain
pub use Rattle.fr_sound.specs as fr_sound
pub use Rattle.fr_sound.specs.Below.fr_store as fr_store
pub use Rattle.fr_sound.specs.Below.fr_terms as fr_terms
pub use Rattle.fr_sound.specs.Below.fr_typing as fr_typing
