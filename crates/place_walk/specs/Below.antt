-- What this stands on, passed on to the laws above it, which need not list that then.
pub use Rattle.heap_partition.specs as heap_partition
pub use Rattle.read_cache.specs as read_cache
pub use Rattle.thread_state.specs as thread_state
