-- What this stands on, passed on to the laws above it, which need not list that then.
pub use Rattle.fr_base.specs as fr_base
pub use Rattle.fr_terms.specs as fr_terms
pub use Rattle.fr_typing.specs as fr_typing
