-- What is owned in no slot and no temporary value has a place that a home, a message or a thread tells of: a content, a result, a gift.
use Rattle.std.proofs.Common.{◌≡◌, ℕ, ◌+◌, Bool, true, false, if◌then◌else◌, List, [], ◌∷◌, ◌++◌, Option, Some, None, is_some, refl, arith}
use Rattle.law_counts_sums.specs.Below.fr_base.declared.name.MutexNo.{MutexNo}
use Rattle.law_counts_sums.specs.Below.heap_partition.declared.value.Cell.{Cell}
use Rattle.law_counts_sums.specs.Below.heap_partition.declared.value.Owned.{Owned}
use Rattle.law_counts_sums.specs.Below.mut_borrow.declared.shared.SharedRef.{SharedRef}
use Rattle.law_counts_sums.specs.Below.owner_box.View.{PartitionState}
use Rattle.law_counts_sums.specs.Below.mutex_home.Mutexes.{Mutex}
use Rattle.law_counts_sums.specs.Below.join_home.Tasks.{Task, TaskState, going, let_go, kept, asked, in_pair}
use Rattle.law_counts_sums.specs.Below.thread_state.View.{ThreadState}
use Rattle.law_counts_sums.specs.Below.thread_state.declared.value.Value.{Value}
use Rattle.law_counts_sums.specs.Below.thread_state.declared.value.Value.TheVariants as value
use Rattle.law_counts_sums.specs.Below.server_msgs.declared.message.Message.{Message}
use Rattle.law_counts_sums.specs.Below.server_msgs.declared.message.Message.TheVariants as message
use Rattle.law_counts_sums.specs.Below.server_model.Servers.{Server, Cluster}
use Rattle.law_counts_sums.specs.Below.coherent_memory.Names.{tot, if_so}
use Rattle.law_counts_sums.specs.Below.coherent_memory.Things.{as_gift, as_content, as_result, Thing, holds, sent, stands, noted, things_at, pin_things, slot_things, temp_things, gift_things, walk_things, thread_things, standing_things, message_things, waiting_things, leaving_things, is_free, cell_things, free_things, partition_things, copy_things, content_things, queue_things, mutex_things, result_things, task_things, server_things, servers_things, things_of, retired, uses}
use Rattle.law_counts_sums.proofs.Below.coherent_memory.Sums.{tot-append, server_parts}

-- a weight of mutexes, of threads whose result it is, and of threads whose gift it is
module _ (content : MutexNo → ℕ) (result gift : ℕ → ℕ) where
  -- of the values in these places
  abbrev pub placed : Thing → ℕ
  placed (holds (as_content m) v) = content m
  placed (holds (as_result t) v) = result t
  placed (holds (as_gift t) v) = gift t
  placed x = 0

  abbrev kept_of : ℕ → TaskState → ℕ
  kept_of t (kept v) = result t
  kept_of t x = 0

  abbrev sent_of : Message → ℕ
  sent_of (message.Finished t v) = result t
  sent_of (message.Joined t v by) = result t
  sent_of m = 0

  -- of what tells of them
  abbrev pub telling : Thing → ℕ
  telling (holds (as_content m) v) = content m
  telling (noted s x) = kept_of x.thread x.state
  telling (sent s m) = sent_of m
  telling (stands s p t) = if_so (is_some t.gift) (gift t.number)
  telling x = 0

  abbrev Even : List Thing → Type 0
  Even b = tot placed b ≡ tot telling b

  even_both : (xs ys : List Thing) → Even xs → Even ys → Even (xs ++ ys)
  even_both xs ys e f = omega (arith, e, f, tot-append placed xs ys, tot-append telling xs ys)

  even_all : {X : Type 0} (g : ℕ → X → List Thing) → ((i : ℕ) (x : X) → Even (g i x)) → (i : ℕ) (xs : List X) → Even (things_at g i xs)
  even_all g e i [] = refl
  even_all g e i (x ∷ xs) = even_both (g i x) (things_at g (i + 1) xs) (e i x) (even_all g e (i + 1) xs)

  -- A THREAD

  pins_even : (s : ℕ) (r : SharedRef) → Even (pin_things s r)
  pins_even s r = by r.pinned
    where
      by : (q : Bool) → Even (if q then uses s r.word ∷ [] else [])
      by true = refl
      by false = refl

  slot_even : (s t i : ℕ) (v : Value) → Even (slot_things s t i v)
  slot_even s t i (value.Shared r) = omega (arith, pins_even s r)
  slot_even s t i value.Gone = refl
  slot_even s t i (value.Own v) = refl
  slot_even s t i (value.SharedSlot j) = refl
  slot_even s t i (value.MutSlot j) = refl
  slot_even s t i (value.Mut r) = refl
  slot_even s t i (value.Held m) = refl

  temp_even : (s t i : ℕ) (v : Value) → Even (temp_things s t i v)
  temp_even s t i (value.Shared r) = omega (arith, pins_even s r)
  temp_even s t i value.Gone = refl
  temp_even s t i (value.Own v) = refl
  temp_even s t i (value.SharedSlot j) = refl
  temp_even s t i (value.MutSlot j) = refl
  temp_even s t i (value.Mut r) = refl
  temp_even s t i (value.Held m) = refl

  thread_even : (s : ℕ) (p : Bool) (t : ThreadState) → Even (thread_things s p t)
  thread_even s p t =
      let w = things_at (walk_things s) 0 t.walk in
      let a = things_at (slot_things s t.number) 0 t.slots in
      let b = things_at (temp_things s t.number) 0 t.temps in
      let g = gift_things t.number t.gift in
      let ew = even_all (walk_things s) (λ i x. refl) 0 t.walk in
      let ea = even_all (slot_things s t.number) (slot_even s t.number) 0 t.slots in
      let eb = even_all (temp_things s t.number) (temp_even s t.number) 0 t.temps in
      omega (arith, given t.gift, told t.gift, ew, ea, eb, tot-append placed (g ++ w ++ a) b, tot-append placed (g ++ w) a, tot-append placed g w, tot-append telling (g ++ w ++ a) b, tot-append telling (g ++ w) a, tot-append telling g w)
    where
      given : (o : Option Owned) → tot placed (gift_things t.number o) ≡ if_so (is_some o) (gift t.number)
      given None = refl
      given (Some v) = omega arith

      told : (o : Option Owned) → tot telling (gift_things t.number o) ≡ 0
      told None = refl
      told (Some v) = omega arith

  message_even : (s : ℕ) (m : Message) → Even (message_things s m)
  message_even s (message.Start t) = omega (arith, thread_even s true t)
  message_even s (message.Migrate t) = omega (arith, thread_even s true t)
  message_even s (message.Granted m v t) = omega arith
  message_even s (message.Unlock m v) = omega arith
  message_even s (message.Joined t v by) = omega arith
  message_even s (message.Finished t v) = omega arith
  message_even s (message.Moved w c t) = omega arith
  message_even s _ = refl

  -- THE REST

  cell_even : (s : ℕ) (free : List (ℕ × ℕ)) (a : ℕ) (c : Option Cell) → Even (cell_things s free a c)
  cell_even s free a (Some c) = refl
  cell_even s free a None = by (is_free a free)
    where
      by : (q : Bool) → Even (if q then [] else retired s a ∷ [])
      by true = refl
      by false = refl

  partition_even : (s : ℕ) (p : PartitionState) → Even (partition_things s p)
  partition_even s p = even_both (things_at (cell_things s p.free) 0 p.cells) (things_at (free_things s) 0 p.free) (even_all (cell_things s p.free) (cell_even s p.free) 0 p.cells) (even_all (free_things s) (λ i x. refl) 0 p.free)

  mutex_even : (s i : ℕ) (m : Mutex) → Even (mutex_things s i m)
  mutex_even s i m =
      let c = content_things m.number m.content in
      let q = things_at (queue_things m.number) 0 m.queue in
      let both : Even (c ++ q) = even_both c q (by m.content) (even_all (queue_things m.number) (λ j x. refl) 0 m.queue) in
      omega (arith, both)
    where
      by : (o : Option Owned) → Even (content_things m.number o)
      by None = refl
      by (Some v) = refl

  task_even : (s i : ℕ) (t : Task) → Even (task_things s i t)
  task_even s i t = omega (arith, by t.state)
    where
      by : (x : TaskState) → tot placed (result_things t.thread x) ≡ kept_of t.thread x + tot telling (result_things t.thread x)
      by going = omega arith
      by let_go = omega arith
      by (kept v) = omega arith
      by (asked r u) = omega arith
      by (in_pair p d) = omega arith

  server_even : (s : Server) → Even (server_things s)
  server_even s =
      let n = s.rest.number in
      omega (
        arith,
        server_parts placed s,
        server_parts telling s,
        partition_even n s.rest.partition,
        even_all (copy_things n) (λ i x. refl) 0 s.rest.cache,
        even_all (mutex_things n) (mutex_even n) 0 s.rest.mutexes.there,
        even_all (task_things n) (task_even n) 0 s.rest.tasks,
        even_all (standing_things n) (λ i x. thread_even n false x) 0 s.threads,
        even_all (waiting_things n) (λ i x. message_even n x) 0 s.rest.inbox,
        even_all leaving_things (λ i x. message_even x.target x.message) 0 s.rest.outbox,
      )

  servers_even : (ss : List Server) → Even (servers_things ss)
  servers_even [] = refl
  servers_even (s ∷ ss) = even_both (server_things s) (servers_things ss) (server_even s) (servers_even ss)

  -- in each cluster there is as much of these values as is told
  pub places_told : (k : Cluster) → tot placed (things_of k) ≡ tot telling (things_of k)
  places_told k = servers_even k.servers
