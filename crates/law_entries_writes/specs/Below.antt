-- What this law stands on, passed on to the laws above it, which need not list that then.
pub use Rattle.law_entries_reads.specs as law_entries_reads
pub use Rattle.law_entries_reads.specs.Below.law_entries_variables as law_entries_variables
pub use Rattle.law_entries_reads.specs.Below.law_copies_kept as law_copies_kept
pub use Rattle.law_heap_writes.specs.Below.law_words_asked as law_words_asked
