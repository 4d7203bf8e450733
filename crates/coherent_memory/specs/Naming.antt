-- NAMES, and what the types of a server's parts keep (this project's rules). Each function counts what breaks the sentence above it.
use Rattle.std.specs.Prelude.{ℕ, ◌+◌, ◌*◌, ◌%◌, ◌^◌, ◌-◌, ◌==◌, nat_lt, nat_le, Bool, true, not, ◌&&◌, ◌||◌, List, [], ◌∷◌, Option, Some, None}
use Rattle.server_model.specs.Below.fr_base.declared.name.ObjNo.{ObjNo}
use Rattle.server_model.specs.Below.fr_base.declared.name.MutexNo.{MutexNo}
use Rattle.server_model.specs.Below.fr_base.declared.release.Released.{Released}
use Rattle.server_model.specs.Below.fr_base.declared.release.Released.TheVariants as released
use Rattle.server_model.specs.Below.fr_base.declared.settings.Options.{Options}
use Rattle.server_model.specs.Below.heap_partition.declared.value.Owned.{Owned}
use Rattle.server_model.specs.Below.heap_partition.declared.value.Owned.TheVariants as owned
use Rattle.server_model.specs.Below.thread_state.View.{is_pinned, is_over}
use Rattle.server_model.specs.Below.thread_state.declared.value.Value.{Value}
use Rattle.server_model.specs.Below.thread_state.declared.phase.Phase.{Phase}
use Rattle.server_model.specs.Below.thread_state.declared.phase.Phase.TheVariants as phase
use Rattle.server_model.specs.Below.read_cache.Cache.{Copy}
use Rattle.server_model.specs.Below.join_home.Tasks.{TaskState, asked, in_pair}
use Rattle.server_model.specs.Below.server_msgs.declared.message.Message.{Message}
use Rattle.server_model.specs.Below.server_msgs.declared.message.Message.TheVariants.{Fetch, Fetched, Move, Moved, Drop, Lock, Granted, Dup, Dupped, Release, Join, Joined, Finished}
use Rattle.server_model.specs.Servers.{Server, Cluster}
use Rattle.coherent_memory.specs.Names.{tot, one, other, if_so, some}
use Rattle.coherent_memory.specs.Things.{Thing, holds, shares, borrows, lies, flies, copied, sent, stands, at_home, queued, noted, retired, counts}
use Rattle.coherent_memory.specs.Follow.{Standing, thread_at}
use Rattle.coherent_memory.specs.Sight.{Sight}
use Rattle.coherent_memory.specs.Balances.{more_than_one}
use Rattle.coherent_memory.specs.Weights.{is_thread, numbers}
use Rattle.coherent_memory.specs.Placing.{sum_over}
use Rattle.coherent_memory.specs.Walking.{sum_threads}
use Rattle.coherent_memory.specs.Requests.{home_of}
use Rattle.coherent_memory.specs.Sharing.{owned_mutex, message_mutex, mutexes}

-- NUMBERS

-- no two threads or parcels have the same number
abbrev pub numbers_wrong : Sight → ℕ
numbers_wrong s = more_than_one is_thread numbers s.things

abbrev pub was_made : ObjNo → Option Standing → Bool
was_made o None = true
was_made o (Some x) = is_over x.thread.phase || nat_lt o.count x.thread.made

abbrev pub not_made : Sight → Thing → ℕ
not_made s (lies r a c) = other (was_made c.object (thread_at s.ground.threads c.object.thread))
not_made s (flies w c) = other (was_made c.object (thread_at s.ground.threads c.object.thread))
not_made s x = 0

-- the number of each object is below the `made` of the thread that made it, where that thread isn't over
abbrev pub made_wrong : Sight → ℕ
made_wrong s = sum_over s (not_made s)

-- COUNTS

-- the threads that a thing names, with a weight; an object names the thread that made it
abbrev pub owned_thread : (ℕ → ℕ) → Owned → ℕ
owned_thread f (owned.Task t) = f t
owned_thread f (owned.Box p) = f p.object.thread
owned_thread f v = 0

abbrev pub released_thread : (ℕ → ℕ) → Released → ℕ
released_thread f (released.Mutex m) = 0
released_thread f (released.Task t) = f t

abbrev pub message_thread : (ℕ → ℕ) → Message → ℕ
message_thread f (Fetch w o s t) = f o.thread + f t
message_thread f (Fetched w c t) = f c.object.thread + owned_thread f c.value + f t
message_thread f (Move w o s t) = f o.thread + f t
message_thread f (Moved w c t) = f t
message_thread f (Drop w o) = f o.thread
message_thread f (Lock m s t) = f t
message_thread f (Granted m v t) = f t
message_thread f (Dup m s t) = f t
message_thread f (Dupped m t) = f t
message_thread f (Release x) = released_thread f x
message_thread f (Join u s t) = f u + f t
message_thread f (Joined u v t) = f u + f t
message_thread f (Finished t v) = f t
message_thread f m = 0

abbrev pub phase_thread : (ℕ → ℕ) → Phase → ℕ
phase_thread f (phase.WaitJoin t) = f t
phase_thread f (phase.WaitPar a b) = f a + f b
phase_thread f (phase.GotPar a b) = f a + f b
phase_thread f p = 0

abbrev pub noted_thread : (ℕ → ℕ) → TaskState → ℕ
noted_thread f (asked s t) = f t
noted_thread f (in_pair t over) = f t
noted_thread f x = 0

abbrev pub threads : (ℕ → ℕ) → Thing → ℕ
threads f (holds p v) = owned_thread f v
threads f (shares l r) = f r.object.thread
threads f (borrows l r) = f r.object.thread
threads f (lies s a c) = f c.object.thread + owned_thread f c.value
threads f (flies w c) = f c.object.thread + owned_thread f c.value
threads f (copied s c) = f c.cell.object.thread + owned_thread f c.cell.value
threads f (sent s m) = message_thread f m
threads f (stands s p t) = f t.number + phase_thread f t.phase
threads f (queued m s t) = f t
threads f (noted s x) = f x.thread + noted_thread f x.state
threads f x = 0

-- which of the threads that its home started a thread is, from 1; main has 0
abbrev pub count_of : ℕ → ℕ
count_of t = t % 2 ^ 32

abbrev pub started_at : ℕ → ℕ → Thing → ℕ
started_at s n (counts r next old started made events) = one (r == s && nat_le n started)
started_at s n x = 0

abbrev pub made_at : ℕ → ℕ → Thing → ℕ
made_at s n (counts r next old started made events) = one (r == s && nat_le n made)
made_at s n x = 0

abbrev pub uncounted_thread : Sight → ℕ → ℕ
uncounted_thread s t = other (some (sum_over s (started_at (home_of t) (count_of t))))

abbrev pub uncounted_mutex : Sight → MutexNo → ℕ
uncounted_mutex s m = other (some (sum_over s (made_at m.home m.count)))

abbrev pub fetched_mutex : (MutexNo → ℕ) → Message → ℕ
fetched_mutex f (Fetched w c t) = owned_mutex f c.value
fetched_mutex f m = message_mutex f m

-- the mutexes that a thing names, with a weight, those at their homes and in copies too
abbrev pub named_mutexes : (MutexNo → ℕ) → Thing → ℕ
named_mutexes f (at_home s m) = f m.number
named_mutexes f (copied s c) = owned_mutex f c.cell.value
named_mutexes f (sent s m) = fetched_mutex f m
named_mutexes f x = mutexes f x

-- the count of each thread and mutex that is named anywhere, in copies too, is at most the count that its server has reached
abbrev pub counted_wrong : Sight → ℕ
counted_wrong s = sum_over s (threads (uncounted_thread s)) + sum_over s (named_mutexes (uncounted_mutex s))

abbrev pub zeroth_thread : ℕ → ℕ
zeroth_thread t = one (count_of t == 0 && not (t == 0))

abbrev pub zeroth_mutex : MutexNo → ℕ
zeroth_mutex m = one (m.count == 0)

-- no mutex, and no thread but main, has the count 0
abbrev pub zeroth_wrong : Sight → ℕ
zeroth_wrong s = sum_over s (threads zeroth_thread) + sum_over s (named_mutexes zeroth_mutex)

abbrev pub event_count : Thing → ℕ
event_count (counts r next old started made events) = events
event_count x = 0

-- how many events a cluster has done
abbrev pub events_of : Sight → ℕ
events_of s = sum_over s event_count

abbrev pub above : ℕ → ℕ → ℕ
above limit n = other (nat_le n limit)

abbrev pub many_names : ℕ → Thing → ℕ
many_names n (counts r next old started made events) = above (2 * n) started + above (2 * n) made
many_names n (stands r p t) = above (2 * n) t.made
many_names n x = 0

-- no such count and no `made` is above twice the number of events
abbrev pub names_count_wrong : Sight → ℕ
names_count_wrong s = let n = events_of s in sum_over s (many_names n)

abbrev pub large_counts : ℕ → Thing → ℕ
large_counts n (counts r next old started made events) = above (16 * n) next + above (16 * n) old
large_counts n (copied r c) = above (16 * n) c.users
large_counts n (at_home r m) = above (16 * n) m.shares
large_counts n x = 0

-- no next address and no number of retired addresses, of users of a word or of shares of a mutex is above 16 times it
abbrev pub large_wrong : Sight → ℕ
large_wrong s = let n = events_of s in sum_over s (large_counts n)

-- WHAT THE TYPES OF THE PARTS KEEP

abbrev pub rising_from : ℕ → List ℕ → ℕ
rising_from n [] = 0
rising_from n (m ∷ ms) = other (nat_lt n m) + rising_from m ms

-- the numbers rise
abbrev pub rising : List ℕ → ℕ
rising [] = 0
rising (n ∷ ns) = rising_from n ns

abbrev pub numbers_of : {A : Type 0} → (A → ℕ) → List A → List ℕ
numbers_of f [] = []
numbers_of f (x ∷ xs) = f x ∷ numbers_of f xs

abbrev pub free_colours : ℕ × ℕ → ℕ
free_colours pair = one (pair.1 == 0)

abbrev pub is_retired : ℕ → Thing → ℕ
is_retired s (retired r a) = one (r == s)
is_retired s x = 0

abbrev pub same_word : ℕ → Copy → ℕ
same_word w c = one (c.word == w)

abbrev pub cached_twice : List Copy → Copy → ℕ
cached_twice cs c = other (tot (same_word c.word) cs == 1)

abbrev pub pins : List Value → ℕ
pins vs = tot (λ v. one (is_pinned v)) vs

-- one of so many servers by rising number; its partition is its own under the run's colours, with the retired addresses counted and no free address
-- without a colour; a cache has a word once; mutexes, tasks and threads stand by rising number
abbrev pub server_wrong : Sight → ℕ → Server → ℕ
server_wrong s n x =
    other (x.rest.number == n) + other (x.rest.partition.server == n) + other (x.rest.partition.limit == s.options.colours) + tot free_colours x.rest.partition.free
    + other (sum_over s (is_retired n) == x.rest.partition.retired) + tot (cached_twice x.rest.cache) x.rest.cache + other (x.rest.mutexes.home == n)
    + rising (numbers_of (λ m. m.number.count) x.rest.mutexes.there) + rising (numbers_of (λ t. t.thread) x.rest.tasks) + rising (numbers_of (λ t. t.number) x.threads)

abbrev pub servers_wrong : Sight → ℕ → List Server → ℕ
servers_wrong s n [] = other (n == s.options.servers)
servers_wrong s n (x ∷ xs) = server_wrong s n x + servers_wrong s (n + 1) xs

abbrev pub pinned_parcel : Standing → ℕ
pinned_parcel x = if_so x.packed (pins x.thread.slots + pins x.thread.temps)

-- the servers are those of the run, and each part is one of its type; a parcel's references keep nothing in use
abbrev pub parts_wrong : Cluster → Sight → ℕ
parts_wrong k s = servers_wrong s 0 k.servers + sum_threads s pinned_parcel

-- LIMITS

abbrev pub between : ℕ → ℕ → ℕ → ℕ
between low high n = other (nat_le low n && nat_le n high)

-- the options of a run are in their ranges
abbrev pub options_out : Options → ℕ
options_out o =
    between 1 64 o.servers + between 1 64 o.workers + between 1 65536 o.colours + between 0 65536 o.cache + between 1 1024 o.quantum
    + between 1 1000000000 o.turns + between 0 1000000 o.balance + between 0 (2 ^ 64 - 1) o.choice

abbrev pub options_wrong : Sight → ℕ
options_wrong s = options_out s.options

-- how many stars a place has at most
abbrev pub most_stars : ℕ
most_stars = 8

abbrev pub long_holder : Thing → ℕ
long_holder (borrows l r) = other (nat_le r.holder.depth most_stars)
long_holder x = 0

-- each holder has at most eight stars
abbrev pub holders_wrong : Sight → ℕ
holders_wrong s = sum_over s long_holder
