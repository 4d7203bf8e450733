-- What this law stands on, passed on to the laws above it, which need not list that then.
pub use Rattle.law_counts_things.specs.Below.colour_retire as colour_retire
pub use Rattle.law_counts_things.specs.Below.law_counts_sums as law_counts_sums
pub use Rattle.law_counts_things.specs.Below.fr_base as fr_base
pub use Rattle.law_counts_things.specs.Below.global_addr as global_addr
pub use Rattle.law_counts_things.specs.Below.coherent_memory as coherent_memory
pub use Rattle.law_counts_things.specs.Below.heap_partition as heap_partition
pub use Rattle.law_counts_things.specs.Below.join_home as join_home
pub use Rattle.law_counts_things.specs.Below.journal as journal
pub use Rattle.law_counts_things.specs as law_counts_things
pub use Rattle.law_counts_things.specs.Below.migration as migration
pub use Rattle.law_counts_things.specs.Below.mutex_home as mutex_home
pub use Rattle.law_counts_things.specs.Below.owner_box as owner_box
pub use Rattle.law_counts_things.specs.Below.read_cache as read_cache
pub use Rattle.law_counts_things.specs.Below.server_model as server_model
pub use Rattle.law_counts_things.specs.Below.server_msgs as server_msgs
pub use Rattle.law_counts_things.specs.Below.thread_state as thread_state
