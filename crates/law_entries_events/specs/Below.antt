-- What this law stands on, passed on to the laws above it, which need not list that then.
pub use Rattle.law_entries_writes.specs.Below.law_entries_reads.Below.law_words_borrows as law_words_borrows
pub use Rattle.law_entries_writes.specs.Below.law_entries_reads as law_entries_reads
pub use Rattle.law_entries_writes.specs.Below.law_entries_variables as law_entries_variables
pub use Rattle.law_runs_whole.specs as law_runs_whole
pub use Rattle.law_runs_whole.specs.Below.code_meaning as code_meaning
pub use Rattle.law_entries_writes.specs.Below.law_entries_variables.Below.coloured_heap as coloured_heap
