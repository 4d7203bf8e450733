-- What this stands on, passed on to the laws above it, which need not list that then.
pub use Rattle.colour_retire.specs as colour_retire
