-- What this law stands on, passed on to the laws above it, which need not list that then.
pub use Rattle.law_walks_own.proofs.Below.law_copies_kept.Below.law_words_borrows as law_words_borrows
pub use Rattle.law_walks_own.proofs.Below.law_walks_others as law_walks_others
pub use Rattle.law_walks_own.proofs as law_walks_own
