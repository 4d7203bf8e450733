-- Weights of things: how much each thing counts for a sentence of coherent memory. Their sums over all things say the sentence.
use Rattle.std.specs.Prelude.{ℕ, ◌+◌, ◌==◌, nat_lt, ◌&&◌}
use Rattle.server_model.specs.Below.fr_base.declared.name.ObjNo.{ObjNo}
use Rattle.server_model.specs.Below.fr_base.declared.name.MutexNo.{MutexNo}
use Rattle.server_model.specs.Below.fr_base.declared.release.Released.{Released}
use Rattle.server_model.specs.Below.fr_base.declared.release.Released.TheVariants as released
use Rattle.server_model.specs.Below.global_addr.Words.{server_of, address_of}
use Rattle.server_model.specs.Below.heap_partition.declared.value.Owned.{Owned}
use Rattle.server_model.specs.Below.heap_partition.declared.value.Owned.TheVariants as owned
use Rattle.server_model.specs.Below.server_msgs.declared.message.Message.{Message}
use Rattle.server_model.specs.Below.server_msgs.declared.message.Message.TheVariants.{Fetched, Drop, Dupped, Release}
use Rattle.coherent_memory.specs.Names.{one, if_so, same_object, same_mutex, boxes, mutex_values, task_values}
use Rattle.coherent_memory.specs.Things.{Thing, holds, lies, flies, vacant, retired, copied, uses, sent, stands, at_home, counts}

-- CELLS AND OWNERS

-- a cell of the object
abbrev pub cells : ObjNo → Thing → ℕ
cells o (lies s a c) = one (same_object c.object o)
cells o (flies w c) = one (same_object c.object o)
cells o x = 0

abbrev pub drops : ObjNo → Message → ℕ
drops o (Drop w p) = one (same_object p o)
drops o m = 0

-- a box of the object in a place that owns, or its `drop` message
abbrev pub owners : ObjNo → Thing → ℕ
owners o (holds p v) = boxes o v
owners o (lies s a c) = boxes o c.value
owners o (flies w c) = boxes o c.value
owners o (sent s m) = drops o m
owners o x = 0

abbrev pub owned_object : (ObjNo → ℕ) → Owned → ℕ
owned_object f (owned.Box p) = f p.object
owned_object f v = 0

abbrev pub dropped_object : (ObjNo → ℕ) → Message → ℕ
dropped_object f (Drop w o) = f o
dropped_object f m = 0

-- the objects of which a thing is a cell or that it owns, with a weight
abbrev pub objects : (ObjNo → ℕ) → Thing → ℕ
objects f (holds p v) = owned_object f v
objects f (lies s a c) = f c.object + owned_object f c.value
objects f (flies w c) = f c.object + owned_object f c.value
objects f (sent s m) = dropped_object f m
objects f x = 0

-- ADDRESSES

-- a state of the address: an object lies there, or it is free, or retired
abbrev pub states : ℕ × ℕ → Thing → ℕ
states at (lies r a c) = one (r == at.0 && a == at.1)
states at (vacant r a next) = one (r == at.0 && a == at.1)
states at (retired r a) = one (r == at.0 && a == at.1)
states at x = 0

-- the address is below its server's next one
abbrev pub below : ℕ × ℕ → Thing → ℕ
below at (counts r next old started made events) = one (r == at.0 && nat_lt at.1 next)
below at x = 0

-- the address of which a thing is a state, with a weight
abbrev pub addresses : (ℕ × ℕ → ℕ) → Thing → ℕ
addresses f (lies r a c) = f (r, a)
addresses f (vacant r a next) = f (r, a)
addresses f (retired r a) = f (r, a)
addresses f x = 0

abbrev pub lies_at : ℕ → ObjNo → Thing → ℕ
lies_at s o (lies r a c) = one (r == s && same_object c.object o)
lies_at s o x = 0

-- the object lies where that word leads
abbrev pub lies_under : ℕ → ObjNo → Thing → ℕ
lies_under w o (lies r a c) = one ((server_of w == r && address_of w == a) && same_object c.object o)
lies_under w o x = 0

-- COPIES

abbrev pub fetched_under : ℕ → Message → ℕ
fetched_under w (Fetched v c t) = one (v == w)
fetched_under w m = 0

-- a copy under the word, cached or in a message
abbrev pub copies : ℕ → Thing → ℕ
copies w (copied s c) = one (c.word == w)
copies w (sent s m) = fetched_under w m
copies w x = 0

-- a copy under the word in that server's cache
abbrev pub cached : ℕ → ℕ → Thing → ℕ
cached s w (copied r c) = one (r == s && c.word == w)
cached s w x = 0

-- a use of the word at that server
abbrev pub uses_of : ℕ × ℕ → Thing → ℕ
uses_of at (uses r w) = one (r == at.0 && w == at.1)
uses_of at x = 0

-- the users of the word in that server's cache
abbrev pub users_of : ℕ × ℕ → Thing → ℕ
users_of at (copied r c) = if_so (r == at.0 && c.word == at.1) c.users
users_of at x = 0

-- the word at a server that a thing uses or keeps, with a weight
abbrev pub kept_words : (ℕ × ℕ → ℕ) → Thing → ℕ
kept_words f (uses r w) = f (r, w)
kept_words f (copied r c) = f (r, c.word)
kept_words f x = 0

-- MUTEXES AND TASKS

abbrev pub is_home_of : MutexNo → Thing → ℕ
is_home_of m (at_home s n) = one (same_mutex n.number m)
is_home_of m x = 0

abbrev pub released_mutex : MutexNo → Released → ℕ
released_mutex m (released.Mutex n) = one (same_mutex n m)
released_mutex m (released.Task t) = 0

abbrev pub shares_sent : MutexNo → Message → ℕ
shares_sent m (Release x) = released_mutex m x
shares_sent m (Dupped n t) = one (same_mutex n m)
shares_sent m x = 0

-- a share of the mutex: a value of it in a place that owns, its `release`, a dup that was answered and isn't taken
abbrev pub shares_of : MutexNo → Thing → ℕ
shares_of m (holds p v) = mutex_values m v
shares_of m (lies s a c) = mutex_values m c.value
shares_of m (flies w c) = mutex_values m c.value
shares_of m (sent s x) = shares_sent m x
shares_of m x = 0

-- the shares that the mutex's home counts
abbrev pub shares_at_home : MutexNo → Thing → ℕ
shares_at_home m (at_home s n) = if_so (same_mutex n.number m) n.shares
shares_at_home m x = 0

abbrev pub owned_share : (MutexNo → ℕ) → Owned → ℕ
owned_share f (owned.Mutex m) = f m
owned_share f v = 0

abbrev pub released_share : (MutexNo → ℕ) → Released → ℕ
released_share f (released.Mutex m) = f m
released_share f (released.Task t) = 0

abbrev pub sent_share : (MutexNo → ℕ) → Message → ℕ
sent_share f (Release x) = released_share f x
sent_share f (Dupped m t) = f m
sent_share f m = 0

-- the mutexes of which a thing has shares, or counts them, with a weight
abbrev pub shared_mutexes : (MutexNo → ℕ) → Thing → ℕ
shared_mutexes f (holds p v) = owned_share f v
shared_mutexes f (lies s a c) = owned_share f c.value
shared_mutexes f (flies w c) = owned_share f c.value
shared_mutexes f (sent s x) = sent_share f x
shared_mutexes f (at_home s n) = f n.number
shared_mutexes f x = 0

abbrev pub released_task : ℕ → Released → ℕ
released_task t (released.Mutex m) = 0
released_task t (released.Task u) = one (u == t)

abbrev pub tasks_sent : ℕ → Message → ℕ
tasks_sent t (Release x) = released_task t x
tasks_sent t m = 0

-- a task value of the thread in a place that owns, or its `release`
abbrev pub tasks_of : ℕ → Thing → ℕ
tasks_of t (holds p v) = task_values t v
tasks_of t (lies s a c) = task_values t c.value
tasks_of t (flies w c) = task_values t c.value
tasks_of t (sent s m) = tasks_sent t m
tasks_of t x = 0

-- THREADS

abbrev pub is_thread : ℕ → Thing → ℕ
is_thread t (stands s p x) = one (x.number == t)
is_thread t x = 0

-- the number of the thread that a thing is, with a weight
abbrev pub numbers : (ℕ → ℕ) → Thing → ℕ
numbers f (stands s p x) = f x.number
numbers f x = 0
