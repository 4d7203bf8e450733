-- What a server weighs by the contents of mutexes, list by list: its messages, its mutexes and its threads.
use Rattle.std.proofs.Common.{◌≡◌, ℕ, ◌+◌, Bool, true, false, is_some, if◌then◌else◌, List, [], ◌∷◌, ◌++◌, Option, Some, None, refl, arith}
use Rattle.law_counts_waiting.specs.Below.fr_base.declared.name.MutexNo.{MutexNo}
use Rattle.law_counts_waiting.specs.Below.heap_partition.declared.value.Cell.{Cell}
use Rattle.law_counts_waiting.specs.Below.heap_partition.declared.value.Owned.{Owned}
use Rattle.law_counts_waiting.specs.Below.mut_borrow.declared.shared.SharedRef.{SharedRef}
use Rattle.law_counts_waiting.specs.Below.owner_box.View.{PartitionState}
use Rattle.law_counts_waiting.specs.Below.mutex_home.Mutexes.{Mutex}
use Rattle.law_counts_waiting.specs.Below.join_home.Tasks.{Task, TaskState, kept}
use Rattle.law_counts_waiting.specs.Below.thread_state.View.{ThreadState}
use Rattle.law_counts_waiting.specs.Below.thread_state.declared.value.Value.{Value}
use Rattle.law_counts_waiting.specs.Below.thread_state.declared.value.Value.TheVariants as value
use Rattle.law_counts_waiting.specs.Below.server_msgs.declared.message.Message.{Message}
use Rattle.law_counts_waiting.specs.Below.server_msgs.declared.message.Message.TheVariants as message
use Rattle.law_counts_waiting.specs.Below.server_model.Servers.{Sent, Rest, Server}
use Rattle.law_counts_waiting.specs.Below.coherent_memory.Names.{tot, if_so, one, same_mutex}
use Rattle.law_counts_waiting.specs.Below.coherent_memory.Things.{at_slot, Thing, holds, locks, retired, uses, stands, noted, things_at, is_free, cell_things, free_things, partition_things, copy_things, content_things, queue_things, mutex_things, result_things, task_things, gift_things, walk_things, pin_things, slot_things, temp_things, thread_things, standing_things, message_things, waiting_things, leaving_things, server_things}
use Rattle.law_counts_waiting.specs.Below.coherent_memory.Sharing.{spot_mutex}
use Rattle.law_counts_waiting.specs.Below.coherent_memory.Weights.{is_home_of}
use Rattle.law_counts_waiting.proofs.Below.coherent_memory.Sums.{tot-append, server_parts}
use Rattle.law_counts_waiting.proofs.Below.law_counts_sums.Bags.{all_standing, rest_things, server_same}
use Rattle.law_counts_waiting.proofs.Below.law_counts_sums.Unseen.{Unseen, none_at, thread_alone, content_none, result_none, partition_none, copies_none}

-- LISTS

-- the mark of a lock weighs what its mutex does
abbrev pub mark : (MutexNo → ℕ) → Value → ℕ
mark c (value.Held n) = c n
mark c v = 0

-- a content that is in weighs what its mutex does
abbrev pub inside : (MutexNo → ℕ) → Mutex → ℕ
inside c x = if_so (is_some x.content) (c x.number)

-- so does a home
abbrev pub home : (MutexNo → ℕ) → Mutex → ℕ
home c x = c x.number

-- a message weighs the content that it carries, or its thread
abbrev pub mail : (MutexNo → ℕ) → (ThreadState → ℕ) → Message → ℕ
mail c b (message.Granted m v t) = c m
mail c b (message.Unlock m v) = c m
mail c b (message.Start t) = b t
mail c b (message.Migrate t) = b t
mail c b m = 0

abbrev pub mail_sent : (MutexNo → ℕ) → (ThreadState → ℕ) → Sent → ℕ
mail_sent c b x = mail c b x.message

-- the messages and mutexes of a server
abbrev pub weight : (MutexNo → ℕ) → (ThreadState → ℕ) → List Message → List Sent → List Mutex → ℕ
weight c b i o ms = tot (mail c b) i + tot (mail_sent c b) o + tot (inside c) ms

abbrev pub weight_of : (MutexNo → ℕ) → (ThreadState → ℕ) → Rest → ℕ
weight_of c b r = weight c b r.inbox r.outbox r.mutexes.there

-- THINGS

-- the contents outside slots by one weight of their mutexes, the marks in slots by another one, and threads by a third
abbrev pub weigh : (MutexNo → ℕ) → (MutexNo → ℕ) → (ThreadState → ℕ) → Thing → ℕ
weigh c l g (holds p v) = spot_mutex c p
weigh c l g (locks (at_slot t i) n) = l n
weigh c l g (stands r p t) = g t
weigh c l g x = 0

-- what a thread weighs with its slots
abbrev pub body : (MutexNo → ℕ) → (ThreadState → ℕ) → ThreadState → ℕ
body l g t = tot (mark l) t.slots + g t

module _ (c l : MutexNo → ℕ) (g : ThreadState → ℕ) where
  abbrev f : Thing → ℕ
  f = weigh c l g

  -- things of a list, each by what it weighs
  each_at : {X : Type 0} (p : ℕ → X → List Thing) (h : X → ℕ) → ((i : ℕ) (x : X) → tot f (p i x) ≡ h x) → (i : ℕ) (xs : List X) → tot f (things_at p i xs) ≡ tot h xs
  each_at p h e i [] = refl
  each_at p h e i (x ∷ xs) = omega (arith, e i x, each_at p h e (i + 1) xs, tot-append f (p i x) (things_at p (i + 1) xs))

  -- things that weigh nothing
  no_at : {X : Type 0} (p : ℕ → X → List Thing) → ((i : ℕ) (x : X) → tot f (p i x) ≡ 0) → (i : ℕ) (xs : List X) → tot f (things_at p i xs) ≡ 0
  no_at p e i [] = refl
  no_at p e i (x ∷ xs) = omega (arith, e i x, no_at p e (i + 1) xs, tot-append f (p i x) (things_at p (i + 1) xs))

  -- a pin
  pin_no : (s : ℕ) (q : SharedRef) → tot f (pin_things s q) ≡ 0
  pin_no s q = by q.pinned
    where
      by : (b : Bool) → tot f (if b then uses s q.word ∷ [] else []) ≡ 0
      by true = refl
      by false = refl

  -- a slot
  slot_is : (s t i : ℕ) (v : Value) → tot f (slot_things s t i v) ≡ mark l v
  slot_is s t i value.Gone = refl
  slot_is s t i (value.Own v) = refl
  slot_is s t i (value.SharedSlot j) = refl
  slot_is s t i (value.MutSlot j) = refl
  slot_is s t i (value.Shared q) = omega (arith, pin_no s q)
  slot_is s t i (value.Mut r) = refl
  slot_is s t i (value.Held m) = omega arith

  -- a temporary value
  temp_no : (s t i : ℕ) (v : Value) → tot f (temp_things s t i v) ≡ 0
  temp_no s t i value.Gone = refl
  temp_no s t i (value.Own v) = refl
  temp_no s t i (value.SharedSlot j) = refl
  temp_no s t i (value.MutSlot j) = refl
  temp_no s t i (value.Shared q) = omega (arith, pin_no s q)
  temp_no s t i (value.Mut r) = refl
  temp_no s t i (value.Held m) = refl

  -- the value of a gift
  gift_no : (t : ℕ) (v : Option Owned) → tot f (gift_things t v) ≡ 0
  gift_no t None = refl
  gift_no t (Some v) = refl

  -- a thread weighs what it does with its slots
  pub thread_sum : (s : ℕ) (p : Bool) (t : ThreadState) → tot f (thread_things s p t) ≡ body l g t
  thread_sum s p t =
      let q = gift_things t.number t.gift in
      let w = things_at (walk_things s) 0 t.walk in
      let a = things_at (slot_things s t.number) 0 t.slots in
      let d = things_at (temp_things s t.number) 0 t.temps in
      omega (
        arith,
        gift_no t.number t.gift,
        no_at (walk_things s) (λ i x. refl) 0 t.walk,
        each_at (slot_things s t.number) (mark l) (slot_is s t.number) 0 t.slots,
        no_at (temp_things s t.number) (temp_no s t.number) 0 t.temps,
        tot-append f (q ++ w ++ a) d,
        tot-append f (q ++ w) a,
        tot-append f q w,
      )

  abbrev b : ThreadState → ℕ
  b = body l g

  -- a message
  message_sum : (s : ℕ) (m : Message) → tot f (message_things s m) ≡ mail c b m
  message_sum s (message.Start t) = omega (arith, thread_sum s true t)
  message_sum s (message.Migrate t) = omega (arith, thread_sum s true t)
  message_sum s (message.Fetch v o r t) = refl
  message_sum s (message.Fetched v d t) = refl
  message_sum s (message.Move v o r t) = refl
  message_sum s (message.Moved v d t) = refl
  message_sum s (message.Drop v o) = refl
  message_sum s (message.Lock m r t) = refl
  message_sum s (message.Granted m v t) = omega arith
  message_sum s (message.Unlock m v) = omega arith
  message_sum s (message.Dup m r t) = refl
  message_sum s (message.Dupped m t) = refl
  message_sum s (message.Release x) = refl
  message_sum s (message.Join u r t) = refl
  message_sum s (message.Joined u v t) = refl
  message_sum s (message.Finished u v) = refl

  -- a mutex
  mutex_sum : (s i : ℕ) (x : Mutex) → tot f (mutex_things s i x) ≡ inside c x
  mutex_sum s i x =
      omega (arith, content x.content, no_at (queue_things x.number) (λ j q. refl) 0 x.queue, tot-append f (content_things x.number x.content) (things_at (queue_things x.number) 0 x.queue))
    where
      content : (o : Option Owned) → tot f (content_things x.number o) ≡ if_so (is_some o) (c x.number)
      content None = refl
      content (Some v) = omega arith

  -- a note
  task_no : (s i : ℕ) (t : Task) → tot f (task_things s i t) ≡ 0
  task_no s i t = result t.state
    where
      result : (x : TaskState) → tot f (noted s t ∷ result_things t.thread x) ≡ 0
      result (kept v) = refl
      result _ = refl

  -- memory
  partition_no : (s : ℕ) (p : PartitionState) → tot f (partition_things s p) ≡ 0
  partition_no s p = omega (arith, no_at (cell_things s p.free) cell 0 p.cells, no_at (free_things s) (λ i x. refl) 0 p.free, tot-append f (things_at (cell_things s p.free) 0 p.cells) (things_at (free_things s) 0 p.free))
    where
      cell : (a : ℕ) (o : Option Cell) → tot f (cell_things s p.free a o) ≡ 0
      cell a (Some d) = refl
      cell a None = by (is_free a p.free)
        where
          by : (q : Bool) → tot f (if q then [] else retired s a ∷ []) ≡ 0
          by true = refl
          by false = refl

  -- all of a server but its threads weighs what its messages and mutexes do
  pub rest_sum : (n e : ℕ) (r : Rest) → tot f (rest_things n e r) ≡ weight_of c b r
  rest_sum n e r =
      let p = partition_things n r.partition in
      let k = things_at (copy_things n) 0 r.cache in
      let ms = things_at (mutex_things n) 0 r.mutexes.there in
      let ts = things_at (task_things n) 0 r.tasks in
      let i = things_at (waiting_things n) 0 r.inbox in
      let o = things_at leaving_things 0 r.outbox in
      omega (
        arith,
        partition_no n r.partition,
        no_at (copy_things n) (λ j x. refl) 0 r.cache,
        each_at (mutex_things n) (inside c) (mutex_sum n) 0 r.mutexes.there,
        no_at (task_things n) (task_no n) 0 r.tasks,
        each_at (waiting_things n) (mail c b) (λ j x. message_sum n x) 0 r.inbox,
        each_at leaving_things (mail_sent c b) (λ j x. message_sum x.target x.message) 0 r.outbox,
        tot-append f (p ++ k ++ ms ++ ts ++ i) o,
        tot-append f (p ++ k ++ ms ++ ts) i,
        tot-append f (p ++ k ++ ms) ts,
        tot-append f (p ++ k) ms,
        tot-append f p k,
      )

  -- and a server what they and its threads do
  pub server_sum : (s : Server) → tot f (server_things s) ≡ weight_of c b s.rest + tot b s.threads
  server_sum s =
      let n = s.rest.number in
      omega (arith, server_same s f, rest_sum n s.events s.rest, each_at (standing_things n) b (λ i t. thread_sum n false t) 0 s.threads, tot-append f (all_standing n s.threads) (rest_things n s.events s.rest))

-- HOMES

module _ (m : MutexNo) where
  abbrev h : Thing → ℕ
  h = is_home_of m

  -- values aren't seen
  unseen : (n : ℕ) → Unseen h n
  unseen n = record { held = λ p v. refl; shared = λ l r. refl; borrowed = λ l r. refl; locked = λ l x. refl; live = λ a c. refl; free = λ a x. refl; old = λ a. refl; copy = λ s c. refl; used = λ s x. refl }

  -- a mutex
  home_at : (n i : ℕ) (x : Mutex) → tot h (mutex_things n i x) ≡ one (same_mutex x.number m)
  home_at n i x =
      omega (arith, content_none h n (unseen n) x, none_at h n (unseen n) (queue_things x.number) (λ j y. refl) 0 x.queue, tot-append h (content_things x.number x.content) (things_at (queue_things x.number) 0 x.queue))

  -- all of them
  homes_at : (n i : ℕ) (xs : List Mutex) → tot h (things_at (mutex_things n) i xs) ≡ tot (home (λ x. one (same_mutex x m))) xs
  homes_at n i [] = refl
  homes_at n i (x ∷ xs) = omega (arith, home_at n i x, homes_at n (i + 1) xs, tot-append h (mutex_things n i x) (things_at (mutex_things n) (i + 1) xs))

  -- a message
  message_homes : (n : ℕ) (x : Message) → tot h (message_things n x) ≡ 0
  message_homes n (message.Start t) = omega (arith, thread_alone h n (unseen n) n true t)
  message_homes n (message.Migrate t) = omega (arith, thread_alone h n (unseen n) n true t)
  message_homes n _ = refl

  -- the homes of a server are its mutexes
  pub home_sum : (s : Server) → tot h (server_things s) ≡ tot (home (λ x. one (same_mutex x m))) s.rest.mutexes.there
  home_sum s =
      let n = s.rest.number in
      omega (
        arith,
        server_parts h s,
        partition_none h n (unseen n) s.rest.partition,
        copies_none h n (unseen n) n s.rest.cache,
        homes_at n 0 s.rest.mutexes.there,
        none_at h n (unseen n) (task_things n) (λ i x. omega (arith, result_none h n (unseen n) x.thread x.state)) 0 s.rest.tasks,
        none_at h n (unseen n) (standing_things n) (λ i x. omega (arith, thread_alone h n (unseen n) n false x)) 0 s.threads,
        none_at h n (unseen n) (waiting_things n) (λ i x. message_homes n x) 0 s.rest.inbox,
        none_at h n (unseen n) leaving_things (λ i x. message_homes x.target x.message) 0 s.rest.outbox,
      )
