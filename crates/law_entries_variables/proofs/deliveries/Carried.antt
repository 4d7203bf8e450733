-- What messages carry stands beside them: a sum is at most another one, where each thing weighs at most as much, and each message with what it carries.
use Rattle.std.proofs.Common.{◌≡◌, ◌≤◌, ℕ, ◌+◌, Bool, true, false, if◌then◌else◌, List, [], ◌∷◌, ◌++◌, length, Option, Some, None, refl, arith}
use Rattle.law_words_ends.specs.Below.heap_partition.declared.value.Cell.{Cell}
use Rattle.law_words_ends.specs.Below.heap_partition.declared.value.Owned.{Owned}
use Rattle.law_words_ends.specs.Below.mut_borrow.declared.shared.SharedRef.{SharedRef}
use Rattle.law_words_ends.specs.Below.owner_box.View.{PartitionState}
use Rattle.law_words_ends.specs.Below.mutex_home.Mutexes.{Mutex}
use Rattle.law_words_ends.specs.Below.join_home.Tasks.{Task, TaskState, going, let_go, kept, asked, in_pair}
use Rattle.law_words_ends.specs.Below.thread_state.View.{ThreadState}
use Rattle.law_words_ends.specs.Below.thread_state.declared.value.Value.{Value}
use Rattle.law_words_ends.specs.Below.thread_state.declared.value.Value.TheVariants as value
use Rattle.law_words_ends.specs.Below.server_msgs.declared.message.Message.{Message}
use Rattle.law_words_ends.specs.Below.server_msgs.declared.message.Message.TheVariants as message
use Rattle.law_words_ends.specs.Below.server_model.Servers.{Server, Cluster}
use Rattle.law_words_ends.specs.Below.coherent_memory.Names.{tot}
use Rattle.law_words_ends.specs.Below.coherent_memory.Things.{Spot, in_slot, in_temp, as_gift, as_content, as_result, Location, at_slot, at_temp, Thing, holds, shares, borrows, locks, lies, flies, vacant, retired, copied, uses, sent, stands, at_home, queued, noted, counts, things_at, pin_things, value_things, slot_things, temp_things, gift_things, walk_things, thread_things, standing_things, message_things, waiting_things, leaving_things, is_free, cell_things, free_things, partition_things, copy_things, content_things, queue_things, mutex_things, result_things, task_things, server_things, servers_things, things_of}
use Rattle.law_words_ends.proofs.Below.coherent_memory.Sums.{tot-append, server_parts}
use Rattle.law_entries_variables.proofs.deliveries.Weighed.{Bare}

-- a message, or an object under way
abbrev pub is_sent : Thing → Bool
is_sent (sent n m) = true
is_sent (flies w c) = true
is_sent x = false

module _ (f g : Thing → ℕ) (each : (x : Thing) → is_sent x ≡ false → f x ≤ g x) (told : (n : ℕ) (m : Message) → Bare m → tot f (message_things n m) ≤ tot g (message_things n m))
    (started : (n : ℕ) (t : ThreadState) → f (sent n (message.Start t)) ≤ g (sent n (message.Start t))) (moved : (n : ℕ) (t : ThreadState) → f (sent n (message.Migrate t)) ≤ g (sent n (message.Migrate t))) where
  abbrev Less : List Thing → Type 0
  Less b = tot f b ≤ tot g b

  less_both : (xs ys : List Thing) → Less xs → Less ys → Less (xs ++ ys)
  less_both xs ys e d = omega (arith, e, d, tot-append f xs ys, tot-append g xs ys)

  less_all : {X : Type 0} (at : ℕ → X → List Thing) → ((i : ℕ) (x : X) → Less (at i x)) → (i : ℕ) (xs : List X) → Less (things_at at i xs)
  less_all at e i [] = omega arith
  less_all at e i (x ∷ xs) = less_both (at i x) (things_at at (i + 1) xs) (e i x) (less_all at e (i + 1) xs)

  less_one : (x : Thing) → is_sent x ≡ false → Less (x ∷ [])
  less_one x e = omega (arith, each x e)

  -- THREADS

  pins_less : (s : ℕ) (r : SharedRef) → Less (pin_things s r)
  pins_less s r = by r.pinned
    where
      by : (q : Bool) → Less (if q then uses s r.word ∷ [] else [])
      by true = less_one (uses s r.word) refl
      by false = omega arith

  value_less : (s : ℕ) (p : Spot) (l : Location) (v : Value) → Less (value_things s p l v)
  value_less s p l (value.Shared r) = omega (arith, pins_less s r, each (shares l r) refl)
  value_less s p l value.Gone = omega arith
  value_less s p l (value.Own v) = less_one (holds p v) refl
  value_less s p l (value.SharedSlot j) = omega arith
  value_less s p l (value.MutSlot j) = omega arith
  value_less s p l (value.Mut r) = less_one (borrows l r) refl
  value_less s p l (value.Held m) = less_one (locks l m) refl

  thread_less : (s : ℕ) (p : Bool) (t : ThreadState) → Less (thread_things s p t)
  thread_less s p t =
      let w = things_at (walk_things s) 0 t.walk in
      let a = things_at (slot_things s t.number) 0 t.slots in
      let b = things_at (temp_things s t.number) 0 t.temps in
      let c = gift_things t.number t.gift in
      let walked = less_both c w (given t.gift) (less_all (walk_things s) (λ i x. less_one (uses s x) refl) 0 t.walk) in
      let slots = less_both (c ++ w) a walked (less_all (slot_things s t.number) (λ i v. value_less s (in_slot t.number i) (at_slot t.number i) v) 0 t.slots) in
      let had = less_both (c ++ w ++ a) b slots (less_all (temp_things s t.number) (λ i v. value_less s (in_temp t.number i) (at_temp t.number i) v) 0 t.temps) in
      omega (arith, had, each (stands s p t) refl)
    where
      given : (o : Option Owned) → Less (gift_things t.number o)
      given None = omega arith
      given (Some v) = less_one (holds (as_gift t.number) v) refl

  message_less : (s : ℕ) (m : Message) → Less (message_things s m)
  message_less s (message.Start t) = omega (arith, thread_less s true t, started s t)
  message_less s (message.Migrate t) = omega (arith, thread_less s true t, moved s t)
  message_less s (message.Fetch w o r t) = told s (message.Fetch w o r t) tt
  message_less s (message.Fetched w c t) = told s (message.Fetched w c t) tt
  message_less s (message.Move w o r t) = told s (message.Move w o r t) tt
  message_less s (message.Moved w c t) = told s (message.Moved w c t) tt
  message_less s (message.Drop w o) = told s (message.Drop w o) tt
  message_less s (message.Lock m r t) = told s (message.Lock m r t) tt
  message_less s (message.Granted m v t) = told s (message.Granted m v t) tt
  message_less s (message.Unlock m v) = told s (message.Unlock m v) tt
  message_less s (message.Dup m r t) = told s (message.Dup m r t) tt
  message_less s (message.Dupped m t) = told s (message.Dupped m t) tt
  message_less s (message.Release x) = told s (message.Release x) tt
  message_less s (message.Join u r t) = told s (message.Join u r t) tt
  message_less s (message.Joined u v t) = told s (message.Joined u v t) tt
  message_less s (message.Finished u v) = told s (message.Finished u v) tt

  -- THE REST

  cell_less : (s : ℕ) (free : List (ℕ × ℕ)) (a : ℕ) (c : Option Cell) → Less (cell_things s free a c)
  cell_less s free a (Some c) = less_one (lies s a c) refl
  cell_less s free a None = by (is_free a free)
    where
      by : (q : Bool) → Less (if q then [] else retired s a ∷ [])
      by true = omega arith
      by false = less_one (retired s a) refl

  partition_less : (s : ℕ) (p : PartitionState) → Less (partition_things s p)
  partition_less s p =
      less_both (things_at (cell_things s p.free) 0 p.cells) (things_at (free_things s) 0 p.free) (less_all (cell_things s p.free) (cell_less s p.free) 0 p.cells) (less_all (free_things s) (λ i x. less_one (vacant s x.0 x.1) refl) 0 p.free)

  mutex_less : (s i : ℕ) (m : Mutex) → Less (mutex_things s i m)
  mutex_less s i m =
      let c = content_things m.number m.content in
      let q = things_at (queue_things m.number) 0 m.queue in
      let both : Less (c ++ q) = less_both c q (by m.content) (less_all (queue_things m.number) (λ j x. less_one (queued m.number x.0 x.1) refl) 0 m.queue) in
      omega (arith, both, each (at_home s m) refl)
    where
      by : (o : Option Owned) → Less (content_things m.number o)
      by None = omega arith
      by (Some v) = less_one (holds (as_content m.number) v) refl

  task_less : (s i : ℕ) (t : Task) → Less (task_things s i t)
  task_less s i t = omega (arith, by t.state, each (noted s t) refl)
    where
      by : (x : TaskState) → Less (result_things t.thread x)
      by going = omega arith
      by let_go = omega arith
      by (kept v) = less_one (holds (as_result t.thread) v) refl
      by (asked r u) = omega arith
      by (in_pair p d) = omega arith

  server_less : (s : Server) → Less (server_things s)
  server_less s =
      let n = s.rest.number in
      omega (
        arith,
        server_parts f s,
        server_parts g s,
        each (counts n (length s.rest.partition.cells) s.rest.partition.retired s.rest.started s.rest.mutexes.made s.events) refl,
        partition_less n s.rest.partition,
        less_all (copy_things n) (λ i x. less_one (copied n x) refl) 0 s.rest.cache,
        less_all (mutex_things n) (mutex_less n) 0 s.rest.mutexes.there,
        less_all (task_things n) (task_less n) 0 s.rest.tasks,
        less_all (standing_things n) (λ i x. thread_less n false x) 0 s.threads,
        less_all (waiting_things n) (λ i x. message_less n x) 0 s.rest.inbox,
        less_all leaving_things (λ i x. message_less x.target x.message) 0 s.rest.outbox,
      )

  servers_less : (ss : List Server) → Less (servers_things ss)
  servers_less [] = omega arith
  servers_less (s ∷ ss) = less_both (server_things s) (servers_things ss) (server_less s) (servers_less ss)

  pub cluster_less : (k : Cluster) → tot f (things_of k) ≤ tot g (things_of k)
  cluster_less k = servers_less k.servers
