-- What this law stands on, passed on to the laws above it, which need not list that then.
pub use Rattle.law_copies_kept.specs.Below.law_words_borrows as law_words_borrows
pub use Rattle.law_entries_variables.specs as law_entries_variables
pub use Rattle.law_copies_kept.specs as law_copies_kept
