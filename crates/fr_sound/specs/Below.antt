-- What this stands on, passed on to the laws above it, which need not list that then.
pub use Rattle.fr_plain.specs.Below.fr_base as fr_base
pub use Rattle.fr_plain.specs as fr_plain
pub use Rattle.fr_store.specs as fr_store
pub use Rattle.fr_plain.specs.Below.fr_terms as fr_terms
pub use Rattle.fr_plain.specs.Below.fr_typing as fr_typing
