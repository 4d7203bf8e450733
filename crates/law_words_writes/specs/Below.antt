-- What this law stands on, passed on to the laws above it, which need not list that then.
pub use Rattle.law_words_values.specs as law_words_values
pub use Rattle.law_words_values.specs.Below.law_words_kept as law_words_kept
pub use Rattle.law_words_asked.specs as law_words_asked
pub use Rattle.law_words_asked.specs.Below.law_heap_still as law_heap_still
pub use Rattle.law_words_asked.specs.Below.law_words_paths as law_words_paths
pub use Rattle.law_words_values.specs.Below.law_results_reads as law_results_reads
pub use Rattle.law_words_asked.specs.Below.law_plain_threads as law_plain_threads
