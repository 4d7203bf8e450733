-- What this law stands on, passed on to the laws above it, which need not list that then.
pub use Rattle.law_words_ends.specs.Below.law_words_kept.Below.coloured_heap as coloured_heap
pub use Rattle.law_words_ends.specs.Below.law_counts_sums as law_counts_sums
pub use Rattle.law_words_ends.specs.Below.fr_base as fr_base
pub use Rattle.law_words_ends.specs.Below.global_addr as global_addr
pub use Rattle.law_words_ends.specs.Below.coherent_memory as coherent_memory
pub use Rattle.law_words_ends.specs.Below.heap_partition as heap_partition
pub use Rattle.law_words_ends.specs.Below.journal as journal
pub use Rattle.law_words_ends.specs.Below.migration as migration
pub use Rattle.law_words_ends.specs.Below.owner_box as owner_box
pub use Rattle.law_words_ends.specs.Below.law_words_values.Below.read_cache as read_cache
pub use Rattle.law_words_ends.specs.Below.server_model as server_model
pub use Rattle.law_words_ends.specs.Below.server_msgs as server_msgs
pub use Rattle.law_words_ends.specs.Below.law_words_kept as law_words_kept
pub use Rattle.law_words_ends.specs.Below.law_words_values.Below.law_heap_still as law_heap_still
pub use Rattle.law_words_ends.specs.Below.thread_state as thread_state
pub use Rattle.law_words_ends.specs.Below.law_words_paths as law_words_paths
pub use Rattle.law_words_ends.specs as law_words_ends
