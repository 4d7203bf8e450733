-- What this law stands on, passed on to the laws above it, which need not list that then.
pub use Rattle.fr_base.specs as fr_base
pub use Rattle.fr_code.specs as fr_code
pub use Rattle.fr_plain.specs as fr_plain
pub use Rattle.fr_terms.specs as fr_terms
pub use Rattle.fr_typing.specs as fr_typing
