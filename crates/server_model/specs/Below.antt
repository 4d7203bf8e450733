-- What this stands on, passed on to the laws above it, which need not list that then.
pub use Rattle.owner_box.specs.Below.colour_retire as colour_retire
pub use Rattle.fr_base.specs as fr_base
pub use Rattle.fr_plain.specs as fr_plain
pub use Rattle.fr_plain.specs.Below.fr_typing as fr_typing
pub use Rattle.global_addr.specs as global_addr
pub use Rattle.place_walk.specs.Below.heap_partition as heap_partition
pub use Rattle.join_home.specs as join_home
pub use Rattle.journal.specs as journal
pub use Rattle.migration.specs as migration
pub use Rattle.mut_borrow.specs as mut_borrow
pub use Rattle.mutex_home.specs as mutex_home
pub use Rattle.owner_box.specs as owner_box
pub use Rattle.place_walk.specs as place_walk
pub use Rattle.place_walk.specs.Below.read_cache as read_cache
pub use Rattle.server_msgs.specs as server_msgs
pub use Rattle.place_walk.specs.Below.thread_state as thread_state
