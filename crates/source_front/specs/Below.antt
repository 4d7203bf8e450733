-- What this stands on, passed on to what stands above it, which need not list that then.
pub use Rattle.fr_syntax.specs as fr_syntax
