-- What this law stands on, passed on to the laws above it, which need not list that then.
pub use Rattle.law_words_ends.specs as law_words_ends
pub use Rattle.law_words_ends.specs.Below.law_words_kept as law_words_kept
pub use Rattle.law_counts_waiting.specs.Below.law_counts_sums as law_counts_sums
pub use Rattle.law_counts_waiting.specs.Below.fr_base as fr_base
pub use Rattle.law_counts_waiting.specs.Below.fr_code as fr_code
pub use Rattle.law_counts_waiting.specs.Below.fr_store as fr_store
pub use Rattle.law_copies_kept.specs as law_copies_kept
pub use Rattle.law_counts_waiting.specs.Below.global_addr as global_addr
pub use Rattle.law_counts_waiting.specs.Below.coherent_memory as coherent_memory
pub use Rattle.law_counts_waiting.specs.Below.heap_partition as heap_partition
pub use Rattle.law_counts_waiting.specs.Below.mut_borrow as mut_borrow
pub use Rattle.law_counts_waiting.specs.Below.owner_box as owner_box
pub use Rattle.law_counts_waiting.specs.Below.law_words_paths as law_words_paths
pub use Rattle.law_counts_waiting.specs.Below.server_model as server_model
pub use Rattle.law_counts_waiting.specs.Below.server_msgs as server_msgs
pub use Rattle.law_counts_waiting.specs.Below.thread_state as thread_state
pub use Rattle.law_counts_waiting.specs.Below.coherent_types as coherent_types
