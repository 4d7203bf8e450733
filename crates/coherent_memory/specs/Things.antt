-- All that stands anywhere in a cluster, as one list of things (this project's rule). What a coherent cluster keeps is said by
-- sums over this list, so it does not depend on the order of the list, nor on which list of a server a message stands in.
use Rattle.std.specs.Prelude.{ℕ, ◌+◌, ◌==◌, ◌||◌, Bool, true, false, if◌then◌else◌, List, [], ◌∷◌, ◌++◌, length, Option, Some, None}
use Rattle.server_model.specs.Below.fr_base.declared.name.ObjNo.{ObjNo}
use Rattle.server_model.specs.Below.fr_base.declared.name.MutexNo.{MutexNo}
use Rattle.server_model.specs.Below.heap_partition.declared.value.Cell.{Cell}
use Rattle.server_model.specs.Below.heap_partition.declared.value.Owned.{Owned}
use Rattle.server_model.specs.Below.owner_box.View.{PartitionState}
use Rattle.server_model.specs.Below.mut_borrow.declared.mutable.MutRef.{MutRef}
use Rattle.server_model.specs.Below.mut_borrow.declared.shared.SharedRef.{SharedRef}
use Rattle.server_model.specs.Below.thread_state.View.{ThreadState}
use Rattle.server_model.specs.Below.thread_state.declared.value.Value.{Value}
use Rattle.server_model.specs.Below.thread_state.declared.value.Value.TheVariants as value
use Rattle.server_model.specs.Below.read_cache.Cache.{Copy}
use Rattle.server_model.specs.Below.mutex_home.Mutexes.{Mutex}
use Rattle.server_model.specs.Below.join_home.Tasks.{Task, TaskState, kept}
use Rattle.server_model.specs.Below.server_msgs.declared.message.Message.{Message}
use Rattle.server_model.specs.Below.server_msgs.declared.message.Message.TheVariants.{Moved, Granted, Unlock, Start, Joined, Finished, Migrate}
use Rattle.server_model.specs.Servers.{Sent, Server, Cluster}

-- where a pointer can stand that a place leads to: a slot or a temporary value of a thread, the cell of an object, wherever
-- that lies
pub data Location : Type 0 where
  at_slot : (thread number : ℕ) → Location
  at_temp : (thread depth : ℕ) → Location
  in_cell : (o : ObjNo) → Location

-- where a value can be owned outside the heap: a thread's slot, temporary value or gift; as a mutex's content, at its home or in
-- a message; as a thread's result, kept or in a message; in the hand of an event
pub data Spot : Type 0 where
  in_slot : (thread number : ℕ) → Spot
  in_temp : (thread depth : ℕ) → Spot
  as_gift : (thread : ℕ) → Spot
  as_content : (mutex : MutexNo) → Spot
  as_result : (thread : ℕ) → Spot
  in_hand : Spot

pub data Thing : Type 0 where
  -- an owned value in a place outside the heap
  holds : (p : Spot) (v : Owned) → Thing
  -- a shared reference or view to an object; a mutable one
  shares : (p : Location) (r : SharedRef) → Thing
  borrows : (p : Location) (r : MutRef) → Thing
  -- the mark of a lock, in its hidden slot: the slot above it has the mutex's content
  locks : (p : Location) (m : MutexNo) → Thing
  -- an object's cell, at an address of a server or in a `moved` message with the word that it had
  lies : (server address : ℕ) (c : Cell) → Thing
  flies : (word : ℕ) (c : Cell) → Thing
  -- a free address with its next colour, and a retired one
  vacant : (server address colour : ℕ) → Thing
  retired : (server address : ℕ) → Thing
  copied : (server : ℕ) (c : Copy) → Thing
  -- a cached word that a thread's walk or pinned reference uses
  uses : (server word : ℕ) → Thing
  -- a message, waiting at a server or on its way there
  sent : (target : ℕ) (m : Message) → Thing
  -- a thread at a server, or in a parcel on its way there
  stands : (server : ℕ) (packed : Bool) (t : ThreadState) → Thing
  -- a mutex at a server, and a thread that waits there for its content
  at_home : (server : ℕ) (m : Mutex) → Thing
  queued : (m : MutexNo) (server thread : ℕ) → Thing
  -- what a server has noted of a thread
  noted : (server : ℕ) (t : Task) → Thing
  -- the counts of a server: the next address, retired addresses, threads started, mutexes made, events
  counts : (server next retired started made events : ℕ) → Thing

-- the things of a list's elements, each with its place from this one on
abbrev pub things_at : {A : Type 0} → (ℕ → A → List Thing) → ℕ → List A → List Thing
things_at f i [] = []
things_at f i (x ∷ xs) = f i x ++ things_at f (i + 1) xs

-- THREADS

-- a pinned reference uses its word
abbrev pub pin_things : ℕ → SharedRef → List Thing
pin_things s r = if r.pinned then uses s r.word ∷ [] else []

abbrev pub value_things : ℕ → Spot → Location → Value → List Thing
value_things s p l value.Gone = []
value_things s p l (value.Own v) = holds p v ∷ []
value_things s p l (value.SharedSlot i) = []
value_things s p l (value.MutSlot i) = []
value_things s p l (value.Shared r) = shares l r ∷ pin_things s r
value_things s p l (value.Mut r) = borrows l r ∷ []
value_things s p l (value.Held m) = locks l m ∷ []

abbrev pub slot_things : ℕ → ℕ → ℕ → Value → List Thing
slot_things s t i v = value_things s (in_slot t i) (at_slot t i) v

abbrev pub temp_things : ℕ → ℕ → ℕ → Value → List Thing
temp_things s t i v = value_things s (in_temp t i) (at_temp t i) v

abbrev pub gift_things : ℕ → Option Owned → List Thing
gift_things t None = []
gift_things t (Some v) = holds (as_gift t) v ∷ []

abbrev pub walk_things : ℕ → ℕ → ℕ → List Thing
walk_things s i w = uses s w ∷ []

abbrev pub thread_things : ℕ → Bool → ThreadState → List Thing
thread_things s packed t =
    stands s packed t ∷ gift_things t.number t.gift ++ things_at (walk_things s) 0 t.walk
    ++ things_at (slot_things s t.number) 0 t.slots ++ things_at (temp_things s t.number) 0 t.temps

abbrev pub standing_things : ℕ → ℕ → ThreadState → List Thing
standing_things s i t = thread_things s false t

-- MESSAGES

-- what a message carries that is owned
abbrev pub carried_things : ℕ → Message → List Thing
carried_things s (Moved w c t) = flies w c ∷ []
carried_things s (Granted m v t) = holds (as_content m) v ∷ []
carried_things s (Unlock m v) = holds (as_content m) v ∷ []
carried_things s (Joined t v by) = holds (as_result t) v ∷ []
carried_things s (Finished t v) = holds (as_result t) v ∷ []
carried_things s (Start t) = thread_things s true t
carried_things s (Migrate t) = thread_things s true t
carried_things s m = []

-- the things of a message to that server
abbrev pub message_things : ℕ → Message → List Thing
message_things s m = sent s m ∷ carried_things s m

abbrev pub waiting_things : ℕ → ℕ → Message → List Thing
waiting_things s i m = message_things s m

abbrev pub leaving_things : ℕ → Sent → List Thing
leaving_things i m = message_things m.target m.message

-- MEMORY, MUTEXES, TASKS

abbrev pub is_free : ℕ → List (ℕ × ℕ) → Bool
is_free a [] = false
is_free a (pair ∷ rest) = (pair.0 == a) || is_free a rest

-- an address that was used and is neither live nor free is retired
abbrev pub cell_things : ℕ → List (ℕ × ℕ) → ℕ → Option Cell → List Thing
cell_things s free a (Some c) = lies s a c ∷ []
cell_things s free a None = if is_free a free then [] else retired s a ∷ []

abbrev pub free_things : ℕ → ℕ → ℕ × ℕ → List Thing
free_things s i pair = vacant s pair.0 pair.1 ∷ []

abbrev pub partition_things : ℕ → PartitionState → List Thing
partition_things s p = things_at (cell_things s p.free) 0 p.cells ++ things_at (free_things s) 0 p.free

abbrev pub copy_things : ℕ → ℕ → Copy → List Thing
copy_things s i c = copied s c ∷ []

abbrev pub content_things : MutexNo → Option Owned → List Thing
content_things m None = []
content_things m (Some v) = holds (as_content m) v ∷ []

abbrev pub queue_things : MutexNo → ℕ → ℕ × ℕ → List Thing
queue_things m i asker = queued m asker.0 asker.1 ∷ []

abbrev pub mutex_things : ℕ → ℕ → Mutex → List Thing
mutex_things s i m = at_home s m ∷ content_things m.number m.content ++ things_at (queue_things m.number) 0 m.queue

abbrev pub result_things : ℕ → TaskState → List Thing
result_things t (kept v) = holds (as_result t) v ∷ []
result_things t _ = []

abbrev pub task_things : ℕ → ℕ → Task → List Thing
task_things s i t = noted s t ∷ result_things t.thread t.state

-- SERVERS AND CLUSTERS

abbrev pub server_things : Server → List Thing
server_things s =
    counts s.rest.number (length s.rest.partition.cells) s.rest.partition.retired s.rest.started s.rest.mutexes.made s.events
    ∷ partition_things s.rest.number s.rest.partition ++ things_at (copy_things s.rest.number) 0 s.rest.cache ++ things_at (mutex_things s.rest.number) 0 s.rest.mutexes.there
    ++ things_at (task_things s.rest.number) 0 s.rest.tasks ++ things_at (standing_things s.rest.number) 0 s.threads ++ things_at (waiting_things s.rest.number) 0 s.rest.inbox
    ++ things_at leaving_things 0 s.rest.outbox

abbrev pub servers_things : List Server → List Thing
servers_things [] = []
servers_things (s ∷ ss) = server_things s ++ servers_things ss

abbrev pub things_of : Cluster → List Thing
things_of k = servers_things k.servers
