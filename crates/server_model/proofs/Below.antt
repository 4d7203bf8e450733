-- What this stands on, passed on to the laws above it, which need not list that then.
pub use Rattle.owner_box.proofs as owner_box
