-- Contents, results and gifts of a server agree with types exactly where its things weigh nothing.
use Rattle.std.proofs.Common.{◌≡◌, ℕ, ◌+◌, Bool, true, false, if◌then◌else◌, List, [], ◌∷◌, ◌++◌, Option, Some, None, refl, arith}
use Rattle.law_counts_things.specs.Below.fr_base.declared.name.MutexNo.{MutexNo}
use Rattle.law_counts_things.specs.Below.heap_partition.declared.value.Cell.{Cell}
use Rattle.law_counts_things.specs.Below.heap_partition.declared.value.Owned.{Owned}
use Rattle.law_counts_things.specs.Below.mut_borrow.declared.shared.SharedRef.{SharedRef}
use Rattle.law_counts_things.specs.Below.owner_box.View.{PartitionState}
use Rattle.law_counts_things.specs.Below.mutex_home.Mutexes.{Mutex}
use Rattle.law_counts_things.specs.Below.join_home.Tasks.{TaskState, going, let_go, kept, asked, in_pair}
use Rattle.law_counts_things.specs.Below.thread_state.View.{ThreadState}
use Rattle.law_counts_things.specs.Below.thread_state.declared.value.Value.{Value}
use Rattle.law_counts_things.specs.Below.thread_state.declared.value.Value.TheVariants as value
use Rattle.law_counts_things.specs.Below.server_msgs.declared.message.Message.{Message}
use Rattle.law_counts_things.specs.Below.server_msgs.declared.message.Message.TheVariants as message
use Rattle.law_counts_things.specs.Below.server_model.Servers.{Sent, Server}
use Rattle.law_counts_things.specs.Below.coherent_memory.Names.{tot}
use Rattle.law_counts_things.specs.Below.coherent_memory.Things.{Location, Spot, in_slot, in_temp, as_content, as_result, Thing, holds, stands, retired, uses, things_at, pin_things, value_things, slot_things, temp_things, gift_things, walk_things, thread_things, standing_things, is_free, cell_things, free_things, partition_things, copy_things, content_things, queue_things, mutex_things, result_things, task_things, message_things, waiting_things, leaving_things, server_things}
use Rattle.law_counts_things.proofs.Below.coherent_memory.Sums.{tot-append, server_parts}
use Rattle.law_counts_things.specs.Below.law_counts_sums.Laws.{Gives}
use Rattle.law_counts_things.specs.Below.coherent_types.Names.{NameTypes}
use Rattle.law_counts_things.specs.Below.coherent_types.ClusterTypes.{misfit}
use Rattle.law_counts_things.proofs.things.Handed.{all_none, none_all}
use Rattle.law_types_still.proofs.things.Kept.{Wanted, GiftHas, MessageHas, ContentHas, StateHas, NoteHas}
use Rattle.law_types_still.proofs.things.Steps.{ServerHas}

-- with what each gift counts as
module _ (n : NameTypes) (spot : ℕ → Option Spot) where
  -- a value that counts as what stands there; a thread's gift; what stands as a content, a result or a gift
  abbrev pub spot_misfit : Option Spot → Owned → ℕ
  spot_misfit None v = 0
  spot_misfit (Some p) v = misfit n (holds p v)

  abbrev pub given_misfit : ℕ → Option Owned → ℕ
  given_misfit t None = 0
  given_misfit t (Some v) = spot_misfit (spot t) v

  abbrev pub kept_misfit : Thing → ℕ
  kept_misfit (holds (as_content m) v) = misfit n (holds (as_content m) v)
  kept_misfit (holds (as_result t) v) = misfit n (holds (as_result t) v)
  kept_misfit (stands r p t) = given_misfit t.number t.gift
  kept_misfit x = 0

  -- a content agrees with its mutex's type, a result with its thread's, and a gift with what it counts as
  abbrev pub agreeing : Wanted
  agreeing = record { content = λ m v. misfit n (holds (as_content m) v) ≡ 0; result = λ t v. misfit n (holds (as_result t) v) ≡ 0; gift = λ t v. spot_misfit (spot t) v ≡ 0 }

  abbrev f : Thing → ℕ
  f = kept_misfit

  -- WHAT WEIGHS NOTHING

  -- nor do lists of what weighs nothing
  nothing_at : {X : Type 0} (g : ℕ → X → List Thing) → ((i : ℕ) (x : X) → tot f (g i x) ≡ 0) → (i : ℕ) (xs : List X) → tot f (things_at g i xs) ≡ 0
  nothing_at g z i [] = refl
  nothing_at g z i (x ∷ xs) = omega (arith, z i x, nothing_at g z (i + 1) xs, tot-append f (g i x) (things_at g (i + 1) xs))

  -- addresses and cells
  cell_nothing : (s : ℕ) (free : List (ℕ × ℕ)) (a : ℕ) (c : Option Cell) → tot f (cell_things s free a c) ≡ 0
  cell_nothing s free a (Some c) = refl
  cell_nothing s free a None = by (is_free a free)
    where
      by : (b : Bool) → tot f (if b then [] else retired s a ∷ []) ≡ 0
      by true = refl
      by false = refl

  partition_nothing : (s : ℕ) (p : PartitionState) → tot f (partition_things s p) ≡ 0
  partition_nothing s p =
      omega (arith, nothing_at (cell_things s p.free) (cell_nothing s p.free) 0 p.cells, nothing_at (free_things s) (λ i x. refl) 0 p.free, tot-append f (things_at (cell_things s p.free) 0 p.cells) (things_at (free_things s) 0 p.free))

  -- THREADS

  -- slots and temporary values
  pin_nothing : (s : ℕ) (r : SharedRef) → tot f (pin_things s r) ≡ 0
  pin_nothing s r = by r.pinned
    where
      by : (b : Bool) → tot f (if b then uses s r.word ∷ [] else []) ≡ 0
      by true = refl
      by false = refl

  value_nothing : (s : ℕ) (p : Spot) (l : Location) → ((v : Owned) → f (holds p v) ≡ 0) → (v : Value) → tot f (value_things s p l v) ≡ 0
  value_nothing s p l z (value.Own v) = omega (arith, z v)
  value_nothing s p l z (value.Shared r) = omega (arith, pin_nothing s r)
  value_nothing s p l z value.Gone = refl
  value_nothing s p l z (value.SharedSlot i) = refl
  value_nothing s p l z (value.MutSlot i) = refl
  value_nothing s p l z (value.Mut r) = refl
  value_nothing s p l z (value.Held m) = refl

  -- a gift counts with its thread
  gift_nothing : (t : ℕ) (o : Option Owned) → tot f (gift_things t o) ≡ 0
  gift_nothing t None = refl
  gift_nothing t (Some v) = refl

  -- of a thread its gift alone
  thread_alone : (s : ℕ) (p : Bool) (t : ThreadState) → tot f (thread_things s p t) ≡ given_misfit t.number t.gift
  thread_alone s p t =
      let g = gift_things t.number t.gift in
      let u = things_at (walk_things s) 0 t.walk in
      let a = things_at (slot_things s t.number) 0 t.slots in
      let b = things_at (temp_things s t.number) 0 t.temps in
      omega (
        arith,
        gift_nothing t.number t.gift,
        nothing_at (walk_things s) (λ i x. refl) 0 t.walk,
        nothing_at (slot_things s t.number) (λ i x. value_nothing s (in_slot t.number i) _ (λ v. refl) x) 0 t.slots,
        nothing_at (temp_things s t.number) (λ i x. value_nothing s (in_temp t.number i) _ (λ v. refl) x) 0 t.temps,
        tot-append f (g ++ u ++ a) b,
        tot-append f (g ++ u) a,
        tot-append f g u,
      )

  -- a gift of no weight agrees, and the other way
  gift_from : (t : ℕ) (o : Option Owned) → given_misfit t o ≡ 0 → Gives (λ v. spot_misfit (spot t) v ≡ 0) o
  gift_from t None z = tt
  gift_from t (Some v) z = z

  gift_to : (t : ℕ) (o : Option Owned) → Gives (λ v. spot_misfit (spot t) v ≡ 0) o → given_misfit t o ≡ 0
  gift_to t None g = refl
  gift_to t (Some v) g = g

  -- MESSAGES

  -- so it is with what a message carries
  message_from : (s : ℕ) (m : Message) → tot f (message_things s m) ≡ 0 → MessageHas agreeing m
  message_from s (message.Granted m v t) z = omega (arith, z)
  message_from s (message.Unlock m v) z = omega (arith, z)
  message_from s (message.Joined u v t) z = omega (arith, z)
  message_from s (message.Finished u v) z = omega (arith, z)
  message_from s (message.Start t) z = gift_from t.number t.gift (omega (arith, z, thread_alone s true t))
  message_from s (message.Migrate t) z = gift_from t.number t.gift (omega (arith, z, thread_alone s true t))
  message_from s _ z = tt

  message_to : (s : ℕ) (m : Message) → MessageHas agreeing m → tot f (message_things s m) ≡ 0
  message_to s (message.Granted m v t) g = omega (arith, g)
  message_to s (message.Unlock m v) g = omega (arith, g)
  message_to s (message.Joined u v t) g = omega (arith, g)
  message_to s (message.Finished u v) g = omega (arith, g)
  message_to s (message.Start t) g = omega (arith, thread_alone s true t, gift_to t.number t.gift g)
  message_to s (message.Migrate t) g = omega (arith, thread_alone s true t, gift_to t.number t.gift g)
  message_to s _ g = refl

  -- MUTEXES AND NOTES

  -- of a mutex its content alone
  mutex_alone : (s i : ℕ) (m : Mutex) → tot f (mutex_things s i m) ≡ tot f (content_things m.number m.content)
  mutex_alone s i m = omega (arith, nothing_at (queue_things m.number) (λ j x. refl) 0 m.queue, tot-append f (content_things m.number m.content) (things_at (queue_things m.number) 0 m.queue))

  -- a content of no weight agrees, and the other way
  content_from : (m : MutexNo) (o : Option Owned) → tot f (content_things m o) ≡ 0 → Gives (λ v. misfit n (holds (as_content m) v) ≡ 0) o
  content_from m None z = tt
  content_from m (Some v) z = omega (arith, z)

  content_to : (m : MutexNo) (o : Option Owned) → Gives (λ v. misfit n (holds (as_content m) v) ≡ 0) o → tot f (content_things m o) ≡ 0
  content_to m None g = refl
  content_to m (Some v) g = omega (arith, g)

  -- so does a result that is kept
  state_from : (t : ℕ) (z : TaskState) → tot f (result_things t z) ≡ 0 → StateHas agreeing t z
  state_from t (kept v) z = omega (arith, z)
  state_from t going z = tt
  state_from t let_go z = tt
  state_from t (asked r u) z = tt
  state_from t (in_pair p o) z = tt

  state_to : (t : ℕ) (z : TaskState) → StateHas agreeing t z → tot f (result_things t z) ≡ 0
  state_to t (kept v) g = omega (arith, g)
  state_to t going g = refl
  state_to t let_go g = refl
  state_to t (asked r u) g = refl
  state_to t (in_pair p o) g = refl

  -- A SERVER

  -- where it weighs nothing all agree
  pub server_from : (s : Server) → tot f (server_things s) ≡ 0 → ServerHas agreeing s
  server_from s z =
      let m = s.rest.number in
      let parts = server_parts f s in (
        record {
          contents = all_none f (mutex_things m) (ContentHas agreeing) (λ i x y. content_from x.number x.content (omega (arith, y, mutex_alone m i x))) 0 s.rest.mutexes.there (omega (arith, z, parts));
          notes = all_none f (task_things m) (NoteHas agreeing) (λ i x y. state_from x.thread x.state (omega (arith, y))) 0 s.rest.tasks (omega (arith, z, parts));
          waiting = all_none f (waiting_things m) (MessageHas agreeing) (λ i x y. message_from m x y) 0 s.rest.inbox (omega (arith, z, parts));
          leaving = all_none f leaving_things (λ (x : Sent). MessageHas agreeing x.message) (λ i x y. message_from x.target x.message y) 0 s.rest.outbox (omega (arith, z, parts));
        },
        all_none f (standing_things m) (GiftHas agreeing) (λ i x y. gift_from x.number x.gift (omega (arith, y, thread_alone m false x))) 0 s.threads (omega (arith, z, parts)),
      )

  -- and the other way
  pub server_to : (s : Server) → ServerHas agreeing s → tot f (server_things s) ≡ 0
  server_to s g =
      let m = s.rest.number in
      let r = g.0 in
      omega (
        arith,
        server_parts f s,
        partition_nothing m s.rest.partition,
        nothing_at (copy_things m) (λ i x. refl) 0 s.rest.cache,
        none_all f (mutex_things m) (ContentHas agreeing) (λ i x y. omega (arith, mutex_alone m i x, content_to x.number x.content y)) 0 s.rest.mutexes.there r.contents,
        none_all f (task_things m) (NoteHas agreeing) (λ i x y. omega (arith, state_to x.thread x.state y)) 0 s.rest.tasks r.notes,
        none_all f (standing_things m) (GiftHas agreeing) (λ i x y. omega (arith, thread_alone m false x, gift_to x.number x.gift y)) 0 s.threads g.1,
        none_all f (waiting_things m) (MessageHas agreeing) (λ i x y. message_to m x y) 0 s.rest.inbox r.waiting,
        none_all f leaving_things (λ (x : Sent). MessageHas agreeing x.message) (λ i x y. message_to x.target x.message y) 0 s.rest.outbox r.leaving,
      )
