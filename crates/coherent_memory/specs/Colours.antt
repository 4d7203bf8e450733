-- THE COLOURED HEAP of a cluster: the state of the shared memory, as acts leave it, that the cluster stands for (in the manner of DRust; the state is
-- this project's).
use Rattle.std.specs.Prelude.{◌≡◌, ℕ, ◌==◌, Bool, true, false, not, ◌&&◌, List, [], ◌∷◌, Option, Some, None, is_some, is_none, unwrap_or}
use Rattle.server_model.specs.Below.fr_base.declared.name.ObjNo.{ObjNo}
use Rattle.server_model.specs.Below.fr_base.declared.name.MutexNo.{MutexNo}
use Rattle.server_model.specs.Below.heap_partition.Plain.{plain_of}
use Rattle.server_model.specs.Below.heap_partition.declared.value.Cell.{Cell}
use Rattle.server_model.specs.Below.join_home.Tasks.{TaskState, asked}
use Rattle.server_model.specs.Below.server_msgs.declared.message.Message.{Message}
use Rattle.server_model.specs.Below.server_msgs.declared.message.Message.TheVariants.{Fetch, Fetched, Move, Moved, Lock, Granted, Dup, Join}
use Rattle.server_model.specs.Below.thread_state.View.{is_over}
use Rattle.server_model.specs.Servers.{Cluster}
use Rattle.server_model.specs.Below.fr_base.Names.{same_plain}
use Rattle.coloured_heap.specs.Heap.{Place, Lies, Flies, Living, Copied, Wish, ForCopy, ForObject, ForContent, ForShare, ForResult, Running, Coloured, object_at, copy_at, thread_at, same_wish, mutex_at}
use Rattle.coloured_heap.specs.Rules as rules
use Rattle.coherent_memory.specs.Names.{tot, one, some, same_object, same_mutex, is_in}
use Rattle.coherent_memory.specs.Things.{at_slot, Thing, lies, copied, sent, locks, at_home, queued, noted}
use Rattle.coherent_memory.specs.Follow as follow
use Rattle.coherent_memory.specs.Follow.{Standing}
use Rattle.coherent_memory.specs.Sight.{Sight, sight, word, issued}
use Rattle.coherent_memory.specs.Weights.{drops}
use Rattle.coherent_memory.specs.Sharing.{gift_content}
use Rattle.coherent_memory.specs.OneHeap.{first_shown, is_given_thread, is_given_mutex}

abbrev if_some : {A : Type 0} → Bool → A → Option A
if_some true x = Some x
if_some false x = None

abbrev or_other : {A : Type 0} → Option A → Option A → Option A
or_other None y = y
or_other (Some x) y = Some x

-- OBJECTS

abbrev dropped_by : ObjNo → Thing → ℕ
dropped_by o (sent r m) = drops o m
dropped_by o x = 0

-- an object with its word and its value without words, condemned where a `drop` message names it
abbrev living_as : Sight → ObjNo → Cell → Place → Option Living
living_as s o c p =
    if_some (same_object c.object o) (record { object = o; place = p; word = unwrap_or (word s o) 0; value = plain_of c.value; is_condemned = some (tot (dropped_by o) s.things) })

-- it lies at a server, or flies to the one that its message goes to
abbrev moved_living : Sight → ObjNo → ℕ → Message → Option Living
moved_living s o r (Moved w c t) = living_as s o c (Flies r)
moved_living s o r m = None

abbrev living_in : Sight → ObjNo → Thing → Option Living
living_in s o (lies r a c) = living_as s o c (Lies r)
living_in s o (sent r m) = moved_living s o r m
living_in s o x = None

abbrev pub living_of : Sight → ObjNo → Option Living
living_of s o = first_shown (living_in s o) s.things

-- COPIES

abbrev copied_as : ℕ → ℕ → Cell → Copied
copied_as r w c = record { server = r; word = w; object = c.object; value = plain_of c.value }

abbrev copy_in : ℕ → ℕ → Thing → Option Copied
copy_in r w (copied q c) = if_some (q == r && c.word == w) (copied_as q c.word c.cell)
copy_in r w x = None

abbrev pub copy_of : Sight → ℕ → ℕ → Option Copied
copy_of s r w = first_shown (copy_in r w) s.things

abbrev pub same_copied : Copied → Copied → Bool
same_copied a b = (((a.server == b.server) && (a.word == b.word)) && same_object a.object b.object) && same_plain a.value b.value

abbrev served_message : Copied → ℕ → Message → ℕ
served_message a r (Fetched w c t) = one (same_copied a (copied_as r w c))
served_message a r m = 0

abbrev served_in : Copied → Thing → ℕ
served_in a (sent r m) = served_message a r m
served_in a x = 0

-- how many `fetched` messages have that copy
abbrev pub served_of : Sight → Copied → ℕ
served_of s a = tot (served_in a) s.things

-- WISHES

abbrev message_wish : Message → Option Wish
message_wish (Fetch w o s t) = Some (ForCopy o w s)
message_wish (Move w o s t) = Some (ForObject o w s)
message_wish (Lock m s t) = Some (ForContent m t s)
message_wish (Dup m s t) = Some (ForShare m t s)
message_wish (Join u s t) = Some (ForResult u t s)
message_wish m = None

abbrev noted_wish : ℕ → TaskState → Option Wish
noted_wish u (asked s t) = Some (ForResult u t s)
noted_wish u x = None

-- the requests of waiting threads whose answer isn't sent yet: request messages, places in queues, noted askers
abbrev wish_in : Thing → Option Wish
wish_in (sent r m) = message_wish m
wish_in (queued m s t) = Some (ForContent m t s)
wish_in (noted r x) = noted_wish x.thread x.state
wish_in x = None

abbrev same_as : Wish → Option Wish → ℕ
same_as a None = 0
same_as a (Some b) = one (same_wish a b)

abbrev pub wishes_of : Sight → Wish → ℕ
wishes_of s a = tot (λ x. same_as a (wish_in x)) s.things

abbrev pub all_wishes : Sight → ℕ
all_wishes s = tot (λ x. one (is_some (wish_in x))) s.things

-- THREADS

abbrev running_as : ℕ → Option Standing → Option Running
running_as t None = None
running_as t (Some x) = if_some (not (is_over x.thread.phase)) (record { thread = t; server = x.server; has_ended = false })

-- the server of a thread that isn't over
abbrev pub running_of : Sight → ℕ → Option Running
running_of s t = running_as t (follow.thread_at s.ground.threads t)

-- a thread other than main that was started and isn't running has ended
abbrev pub has_finished : Sight → ℕ → Bool
has_finished s t = (is_given_thread s t && is_none (running_of s t)) && not (t == 0)

-- MUTEXES

abbrev granted_message : MutexNo → Message → Option ℕ
granted_message m (Granted n v t) = if_some (same_mutex n m) t
granted_message m x = None

-- the thread to which the content was granted: it stands in a `granted` message to it, or in a slot of it
abbrev holder_in : MutexNo → Thing → Option ℕ
holder_in m (sent r x) = granted_message m x
holder_in m (locks (at_slot t i) n) = if_some (same_mutex n m) t
holder_in m x = None

-- or in a gift of it
abbrev gift_holder : Sight → MutexNo → List Standing → Option ℕ
gift_holder s m [] = None
gift_holder s m (x ∷ xs) = or_other (if_some (some (gift_content s m x)) x.thread.number) (gift_holder s m xs)

abbrev pub holder_of : Sight → MutexNo → Option ℕ
holder_of s m = or_other (first_shown (holder_in m) s.things) (gift_holder s m s.ground.threads)

abbrev there_in : MutexNo → Thing → ℕ
there_in m (at_home r n) = one (same_mutex n.number m)
there_in m x = 0

abbrev pub is_mutex_there : Sight → MutexNo → Bool
is_mutex_there s m = some (tot (there_in m) s.things)

-- THE SAME STATE

-- a state of the coloured heap is that of a cluster: it agrees at each name and word. Of a thread that is over it has that it has ended, and of a mutex
-- that is gone that it was made; where the thread stood and who had the content are left out; the order of requests and of served copies doesn't count
pub record IsColoured (s : Sight) (c : Coloured) : Type 0 where
  pub objects : (o : ObjNo) → object_at c o ≡ living_of s o
  pub copies : (r w : ℕ) → copy_at c r w ≡ copy_of s r w
  pub served : (a : Copied) → tot (λ b. one (same_copied a b)) c.served ≡ served_of s a
  pub issued : (w : ℕ) → is_in w c.issued ≡ issued s w
  pub started : (t : ℕ) → is_some (thread_at c t) ≡ is_given_thread s t
  pub servers : (t : ℕ) (r : Running) → running_of s t ≡ Some r → thread_at c t ≡ Some r
  pub ended : (t : ℕ) → rules.is_over c t ≡ has_finished s t
  pub wishes : (a : Wish) → tot (λ b. one (same_wish a b)) c.wishes ≡ wishes_of s a
  pub made : (m : MutexNo) → is_some (mutex_at c m) ≡ is_given_mutex s m
  pub mutexes : (m : MutexNo) → is_mutex_there s m ≡ true → mutex_at c m ≡ Some (record { mutex = m; holder = holder_of s m })

-- the coloured heap of a cluster is that state
abbrev pub StandsColoured : Cluster → Coloured → Type 0
StandsColoured k c = IsColoured (sight k) c
