-- What a thread of a cluster has stands among the cluster's things, and so do the content that an `unlock` brings and the object that a `moved` brings.
use Rattle.std.proofs.Common.{◌≡◌, ◌⊎◌, inl, inr, ⊎_elim, ℕ, ◌+◌, ◌≤◌, ◌==◌, ◌&&◌, Bool, true, false, List, [], ◌∷◌, ◌++◌, Option, Some, None, refl, ap, subst, ◌∙◌, arith}
use Rattle.server_model.specs.Below.fr_base.declared.name.MutexNo.{MutexNo}
use Rattle.server_model.specs.Below.fr_base.declared.name.ObjNo.{ObjNo}
use Rattle.server_model.specs.Below.heap_partition.declared.value.Cell.{Cell}
use Rattle.server_model.specs.Below.heap_partition.declared.value.Owned.{Owned}
use Rattle.server_model.specs.Below.owner_box.View.{PartitionState}
use Rattle.server_model.specs.Below.mut_borrow.declared.shared.SharedRef.{SharedRef}
use Rattle.server_model.specs.Below.thread_state.View.{ThreadState}
use Rattle.server_model.specs.Below.thread_state.declared.value.Value.{Value}
use Rattle.server_model.specs.Below.thread_state.declared.value.Value.TheVariants as value
use Rattle.server_model.specs.Below.read_cache.Cache.{Copy}
use Rattle.server_model.specs.Below.mutex_home.Mutexes.{Mutex}
use Rattle.server_model.specs.Below.join_home.Tasks.{Task, TaskState, kept}
use Rattle.server_model.specs.Below.server_msgs.declared.message.Message.{Message}
use Rattle.server_model.specs.Below.server_msgs.declared.message.Message.TheVariants.{Moved, Granted, Unlock, Start, Joined, Finished, Migrate}
use Rattle.server_model.specs.Servers.{Server, Cluster}
use Rattle.coherent_memory.specs.Names.{tot, one, same_object, same_mutex, Among}
use Rattle.coherent_memory.specs.Things.{in_cell, Spot, as_content, Thing, flies, holds, locks, sent, stands, things_at, pin_things, slot_things, temp_things, gift_things, walk_things, thread_things, standing_things, message_things, waiting_things, leaving_things, is_free, cell_things, free_things, partition_things, copy_things, content_things, queue_things, mutex_things, result_things, task_things, server_things, servers_things, things_of}
use Rattle.coherent_memory.specs.Follow.{Standing, threads_in}
use Rattle.coherent_memory.specs.Sharing.{is_content_of}
use Rattle.coherent_memory.proofs.Sums.{tot-append}

-- what a message brings: a mutex's content, or an object under way with its old word
pub data Brought : Type 0 where
  a_content : (m : MutexNo) → Brought
  an_object : (word : ℕ) (o : ObjNo) → Brought

abbrev pub unlocks : Brought → MutexNo → ℕ
unlocks (a_content m) n = one (same_mutex n m)
unlocks (an_object w o) n = 0

abbrev pub moves : Brought → ℕ → ObjNo → ℕ
moves (a_content m) v p = 0
moves (an_object w o) v p = one (v == w && same_object p o)

abbrev pub kept_at : Brought → Spot → ℕ
kept_at (a_content m) p = is_content_of m p
kept_at (an_object w o) p = 0

-- what is not held in a place of its own: an `unlock` brings the content or a `moved` the object, or a lock's mark stands where no slot is
abbrev pub loose : Brought → Thing → ℕ
loose m (sent r (Unlock n v)) = unlocks m n
loose m (sent r (Moved w c t)) = moves m w c.object
loose m (locks (in_cell o) n) = 1
loose m x = 0

abbrev pub content_held : Brought → Thing → ℕ
content_held m (holds p v) = kept_at m p
content_held m (flies w c) = moves m w c.object
content_held m x = 0

unlock_held : (m : Brought) (n : MutexNo) → unlocks m n ≤ kept_at m (as_content n)
unlock_held (a_content m) n = omega arith
unlock_held (an_object w o) n = omega arith

pub among_split : {A : Type 0} (x : A) (xs ys : List A) → Among x (xs ++ ys) → Among x xs ⊎ Among x ys
among_split x [] ys h = inr h
among_split x (y ∷ xs) ys (inl e) = inl (inl e)
among_split x (y ∷ xs) ys (inr h) = ⊎_elim (λ (a : Among x xs). inl (inr a)) (λ (b : Among x ys). inr b) (among_split x xs ys h)

threads_joined : (a b : List Thing) → threads_in (a ++ b) ≡ threads_in a ++ threads_in b
threads_joined [] b = refl
threads_joined (stands s p t ∷ a) b = ap (λ xs. record { server = s; packed = p; thread = t } ∷ xs) (threads_joined a b)
threads_joined (_ ∷ a) b = threads_joined a b

-- each thread of these has its things among them, and each loose content is held
pub record Whole (b : List Thing) : Type 0 where
  pub has : (x : Standing) → Among x (threads_in b) → (f : Thing → ℕ) → tot f (thread_things x.server x.packed x.thread) ≤ tot f b
  pub held : (m : Brought) → tot (loose m) b ≤ tot (content_held m) b

-- no thread is among these
record Plain (b : List Thing) : Type 0 where
  none : threads_in b ≡ []
  held : (m : Brought) → tot (loose m) b ≤ tot (content_held m) b

none_joined : (xs ys : List Standing) → xs ≡ [] → ys ≡ [] → xs ++ ys ≡ []
none_joined xs ys e f = rw e f

plain_join : (a b : List Thing) → Plain a → Plain b → Plain (a ++ b)
plain_join a b p q = record {
  none = threads_joined a b ∙ none_joined (threads_in a) (threads_in b) p.none q.none;
  held = λ m. omega (arith, p.held m, q.held m, tot-append (loose m) a b, tot-append (content_held m) a b);
}

plain_whole : (b : List Thing) → Plain b → Whole b
plain_whole b p = record { has = λ x h f. let n : Among x [] = subst (λ xs. Among x xs) p.none h in absurd n; held = p.held }

whole_join : (a b : List Thing) → Whole a → Whole b → Whole (a ++ b)
whole_join a b p q = record {
  has = λ x h f.
      ⊎_elim (λ (k : Among x (threads_in a)). let l = p.has x k f in omega (arith, l, tot-append f a b)) (λ (k : Among x (threads_in b)). let l = q.has x k f in omega (arith, l, tot-append f a b))
      (among_split x (threads_in a) (threads_in b) (subst (λ xs. Among x xs) (threads_joined a b) h));
  held = λ m. omega (arith, p.held m, q.held m, tot-append (loose m) a b, tot-append (content_held m) a b);
}

nothing : Plain []
nothing = record { none = refl; held = λ m. omega arith }

plain_all : {A : Type 0} (g : ℕ → A → List Thing) → ((i : ℕ) (x : A) → Plain (g i x)) → (i : ℕ) (xs : List A) → Plain (things_at g i xs)
plain_all g p i [] = nothing
plain_all g p i (x ∷ xs) = plain_join (g i x) (things_at g (i + 1) xs) (p i x) (plain_all g p (i + 1) xs)

whole_all : {A : Type 0} (g : ℕ → A → List Thing) → ((i : ℕ) (x : A) → Whole (g i x)) → (i : ℕ) (xs : List A) → Whole (things_at g i xs)
whole_all g p i [] = plain_whole [] nothing
whole_all g p i (x ∷ xs) = whole_join (g i x) (things_at g (i + 1) xs) (p i x) (whole_all g p (i + 1) xs)

-- PARTS OF A THREAD

pin_plain : (s : ℕ) (r : SharedRef) (q : Bool) → r.pinned ≡ q → Plain (pin_things s r)
pin_plain s r true e = record { none = rw e refl; held = λ m. rw e (omega arith) }
pin_plain s r false e = record { none = rw e refl; held = λ m. rw e (omega arith) }

slot_plain : (s t i : ℕ) (v : Value) → Plain (slot_things s t i v)
slot_plain s t i (value.Own v) = record { none = refl; held = λ m. omega arith }
slot_plain s t i (value.Shared r) = let p = pin_plain s r r.pinned refl in record { none = p.none; held = λ m. (let l = p.held m in omega (arith, l)) }
slot_plain s t i (value.Mut r) = record { none = refl; held = λ m. omega arith }
slot_plain s t i (value.Held m) = record { none = refl; held = λ m. omega arith }
slot_plain s t i _ = nothing

temp_plain : (s t i : ℕ) (v : Value) → Plain (temp_things s t i v)
temp_plain s t i (value.Own v) = record { none = refl; held = λ m. omega arith }
temp_plain s t i (value.Shared r) = let p = pin_plain s r r.pinned refl in record { none = p.none; held = λ m. (let l = p.held m in omega (arith, l)) }
temp_plain s t i (value.Mut r) = record { none = refl; held = λ m. omega arith }
temp_plain s t i (value.Held m) = record { none = refl; held = λ m. omega arith }
temp_plain s t i _ = nothing

gift_plain : (t : ℕ) (g : Option Owned) → Plain (gift_things t g)
gift_plain t None = nothing
gift_plain t (Some v) = record { none = refl; held = λ m. omega arith }

walk_plain : (s i w : ℕ) → Plain (walk_things s i w)
walk_plain s i w = record { none = refl; held = λ m. omega arith }

abbrev thread_rest : ℕ → ThreadState → List Thing
thread_rest s t = gift_things t.number t.gift ++ things_at (walk_things s) 0 t.walk ++ things_at (slot_things s t.number) 0 t.slots ++ things_at (temp_things s t.number) 0 t.temps

rest_plain : (s : ℕ) (t : ThreadState) → Plain (thread_rest s t)
rest_plain s t =
    plain_join (gift_things t.number t.gift ++ things_at (walk_things s) 0 t.walk ++ things_at (slot_things s t.number) 0 t.slots) (things_at (temp_things s t.number) 0 t.temps)
    (plain_join (gift_things t.number t.gift ++ things_at (walk_things s) 0 t.walk) (things_at (slot_things s t.number) 0 t.slots)
    (plain_join (gift_things t.number t.gift) (things_at (walk_things s) 0 t.walk) (gift_plain t.number t.gift) (plain_all (walk_things s) (walk_plain s) 0 t.walk))
    (plain_all (slot_things s t.number) (slot_plain s t.number) 0 t.slots)) (plain_all (temp_things s t.number) (temp_plain s t.number) 0 t.temps)

thread_whole : (s : ℕ) (p : Bool) (t : ThreadState) → Whole (thread_things s p t)
thread_whole s p t = record { has = has; held = λ m. (let l = (rest_plain s t).held m in omega (arith, l)) }
  where
    has : (x : Standing) → Among x (threads_in (thread_things s p t)) → (f : Thing → ℕ) → tot f (thread_things x.server x.packed x.thread) ≤ tot f (thread_things s p t)
    has x (inl e) f = subst (λ (y : Standing). tot f (thread_things y.server y.packed y.thread) ≤ tot f (thread_things s p t)) e (omega arith)
    has x (inr h) f = let n : Among x [] = subst (λ xs. Among x xs) (rest_plain s t).none h in absurd n

standing_whole : (s i : ℕ) (t : ThreadState) → Whole (standing_things s i t)
standing_whole s i t = thread_whole s false t

-- MESSAGES

message_whole : (s : ℕ) (m : Message) → Whole (message_things s m)
message_whole s (Moved w c t) = plain_whole (message_things s (Moved w c t)) (record { none = refl; held = λ m. omega arith })
message_whole s (Granted n v t) = plain_whole (message_things s (Granted n v t)) (record { none = refl; held = λ m. omega arith })
message_whole s (Unlock n v) = plain_whole (message_things s (Unlock n v)) (record { none = refl; held = λ m. omega (arith, unlock_held m n) })
message_whole s (Joined t v by) = plain_whole (message_things s (Joined t v by)) (record { none = refl; held = λ m. omega arith })
message_whole s (Finished t v) = plain_whole (message_things s (Finished t v)) (record { none = refl; held = λ m. omega arith })
message_whole s (Start t) = let p = thread_whole s true t in record { has = λ x h f. (let l = p.has x h f in omega (arith, l)); held = λ m. (let l = p.held m in omega (arith, l)) }
message_whole s (Migrate t) = let p = thread_whole s true t in record { has = λ x h f. (let l = p.has x h f in omega (arith, l)); held = λ m. (let l = p.held m in omega (arith, l)) }
message_whole s m = plain_whole (message_things s m) (record { none = refl; held = λ n. omega arith })

-- MEMORY, MUTEXES, TASKS

unused_plain : (s a : ℕ) (free : List (ℕ × ℕ)) (q : Bool) → is_free a free ≡ q → Plain (cell_things s free a None)
unused_plain s a free true e = record { none = rw e refl; held = λ m. rw e (omega arith) }
unused_plain s a free false e = record { none = rw e refl; held = λ m. rw e (omega arith) }

cell_plain : (s : ℕ) (free : List (ℕ × ℕ)) (a : ℕ) (c : Option Cell) → Plain (cell_things s free a c)
cell_plain s free a (Some c) = record { none = refl; held = λ m. omega arith }
cell_plain s free a None = unused_plain s a free (is_free a free) refl

free_plain : (s i : ℕ) (pair : ℕ × ℕ) → Plain (free_things s i pair)
free_plain s i pair = record { none = refl; held = λ m. omega arith }

partition_plain : (s : ℕ) (p : PartitionState) → Plain (partition_things s p)
partition_plain s p =
    plain_join (things_at (cell_things s p.free) 0 p.cells) (things_at (free_things s) 0 p.free) (plain_all (cell_things s p.free) (cell_plain s p.free) 0 p.cells) (plain_all (free_things s) (free_plain s) 0 p.free)

copy_plain : (s i : ℕ) (c : Copy) → Plain (copy_things s i c)
copy_plain s i c = record { none = refl; held = λ m. omega arith }

content_plain : (n : MutexNo) (v : Option Owned) → Plain (content_things n v)
content_plain n None = nothing
content_plain n (Some v) = record { none = refl; held = λ m. omega arith }

queue_plain : (n : MutexNo) (i : ℕ) (asker : ℕ × ℕ) → Plain (queue_things n i asker)
queue_plain n i asker = record { none = refl; held = λ m. omega arith }

mutex_plain : (s i : ℕ) (m : Mutex) → Plain (mutex_things s i m)
mutex_plain s i m =
    let p = plain_join (content_things m.number m.content) (things_at (queue_things m.number) 0 m.queue) (content_plain m.number m.content) (plain_all (queue_things m.number) (queue_plain m.number) 0 m.queue) in
    record { none = p.none; held = λ n. (let l = p.held n in omega (arith, l)) }

result_plain : (t : ℕ) (x : TaskState) → Plain (result_things t x)
result_plain t (kept v) = record { none = refl; held = λ m. omega arith }
result_plain t _ = nothing

task_plain : (s i : ℕ) (t : Task) → Plain (task_things s i t)
task_plain s i t = let p = result_plain t.thread t.state in record { none = p.none; held = λ m. (let l = p.held m in omega (arith, l)) }

-- SERVERS

abbrev server_rest : Server → List Thing
server_rest s =
    partition_things s.rest.number s.rest.partition ++ things_at (copy_things s.rest.number) 0 s.rest.cache ++ things_at (mutex_things s.rest.number) 0 s.rest.mutexes.there
    ++ things_at (task_things s.rest.number) 0 s.rest.tasks ++ things_at (standing_things s.rest.number) 0 s.threads ++ things_at (waiting_things s.rest.number) 0 s.rest.inbox
    ++ things_at leaving_things 0 s.rest.outbox

seven_whole : (p c m t x i o : List Thing) → Plain p → Plain c → Plain m → Plain t → Whole x → Whole i → Whole o → Whole (p ++ c ++ m ++ t ++ x ++ i ++ o)
seven_whole p c m t x i o p1 c1 m1 t1 x1 i1 o1 =
    whole_join (p ++ c ++ m ++ t ++ x ++ i) o (whole_join (p ++ c ++ m ++ t ++ x) i (whole_join (p ++ c ++ m ++ t) x (plain_whole (p ++ c ++ m ++ t) (plain_join (p ++ c ++ m) t (plain_join (p ++ c) m (plain_join p c p1 c1) m1) t1)) x1) i1) o1

rest_whole : (s : Server) → Whole (server_rest s)
rest_whole s =
    seven_whole (partition_things s.rest.number s.rest.partition) (things_at (copy_things s.rest.number) 0 s.rest.cache) (things_at (mutex_things s.rest.number) 0 s.rest.mutexes.there)
    (things_at (task_things s.rest.number) 0 s.rest.tasks) (things_at (standing_things s.rest.number) 0 s.threads) (things_at (waiting_things s.rest.number) 0 s.rest.inbox) (things_at leaving_things 0 s.rest.outbox)
    (partition_plain s.rest.number s.rest.partition) (plain_all (copy_things s.rest.number) (copy_plain s.rest.number) 0 s.rest.cache) (plain_all (mutex_things s.rest.number) (mutex_plain s.rest.number) 0 s.rest.mutexes.there)
    (plain_all (task_things s.rest.number) (task_plain s.rest.number) 0 s.rest.tasks) (whole_all (standing_things s.rest.number) (standing_whole s.rest.number) 0 s.threads)
    (whole_all (waiting_things s.rest.number) (λ j m. message_whole s.rest.number m) 0 s.rest.inbox) (whole_all leaving_things (λ j m. message_whole m.target m.message) 0 s.rest.outbox)

server_whole : (s : Server) → Whole (server_things s)
server_whole s = let p = rest_whole s in record { has = λ x h f. (let l = p.has x h f in omega (arith, l)); held = λ m. (let l = p.held m in omega (arith, l)) }

servers_whole : (ss : List Server) → Whole (servers_things ss)
servers_whole [] = plain_whole [] nothing
servers_whole (s ∷ ss) = whole_join (server_things s) (servers_things ss) (server_whole s) (servers_whole ss)

pub cluster_whole : (k : Cluster) → Whole (things_of k)
cluster_whole k = servers_whole k.servers
