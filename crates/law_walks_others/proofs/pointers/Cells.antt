-- How much a weight that sees cells, threads and messages alone, words included, sees of the rest of a server: what its partition has, and what its messages carry.
use Rattle.std.proofs.Common.{◌≡◌, ℕ, ◌+◌, Bool, true, false, if◌then◌else◌, List, [], ◌∷◌, ◌++◌, Option, Some, None, refl, arith}
use Rattle.law_words_values.specs.Below.fr_base.declared.name.MutexNo.{MutexNo}
use Rattle.law_words_values.specs.Below.fr_base.declared.name.ObjNo.{ObjNo}
use Rattle.law_words_values.specs.Below.heap_partition.declared.value.Owned.{Owned}
use Rattle.law_words_values.specs.Below.owner_box.View.{PartitionState}
use Rattle.law_words_values.specs.Below.mutex_home.Mutexes.{Mutex}
use Rattle.law_words_values.specs.Below.join_home.Tasks.{Task, TaskState, going, let_go, kept, asked, in_pair}
use Rattle.law_words_values.specs.Below.mut_borrow.declared.shared.SharedRef.{SharedRef}
use Rattle.law_words_values.specs.Below.thread_state.View.{ThreadState}
use Rattle.law_words_values.specs.Below.thread_state.declared.value.Value.{Value}
use Rattle.law_words_values.specs.Below.thread_state.declared.value.Value.TheVariants as value
use Rattle.law_words_values.specs.Below.server_msgs.declared.message.Message.{Message}
use Rattle.law_words_values.specs.Below.server_model.Servers.{Sent, Rest}
use Rattle.law_words_values.specs.Below.coherent_memory.Names.{tot}
use Rattle.law_words_values.specs.Below.coherent_memory.Things.{Spot, in_slot, in_temp, Location, at_slot, at_temp, Thing, lies, flies, stands, sent, uses, things_at, partition_things, copy_things, content_things, queue_things, mutex_things, result_things, task_things, value_things, pin_things, gift_things, walk_things, slot_things, temp_things, thread_things, waiting_things, leaving_things}
use Rattle.law_words_values.proofs.Below.coherent_memory.Sums.{tot-append}
use Rattle.law_words_values.proofs.Below.law_counts_sums.Bags.{rest_things}

-- of a cell it sees the object and the value, with the server where it lies, of a thread all of it with where it stands, and each message
pub record Seeing : Type 0 where
  pub cells : Option ℕ → ObjNo → Owned → ℕ
  pub threads : ℕ → Bool → ThreadState → ℕ
  pub messages : ℕ → Message → ℕ

abbrev pub cell_weight : Seeing → Thing → ℕ
cell_weight see (lies s a c) = see.cells (Some s) c.object c.value
cell_weight see (flies w c) = see.cells None c.object c.value
cell_weight see (stands s p t) = see.threads s p t
cell_weight see (sent s m) = see.messages s m
cell_weight see x = 0

module _ (see : Seeing) (n : ℕ) where
  abbrev f : Thing → ℕ
  f x = cell_weight see x

  none_at : {X : Type 0} (g : ℕ → X → List Thing) → ((i : ℕ) (x : X) → tot f (g i x) ≡ 0) → (i : ℕ) (xs : List X) → tot f (things_at g i xs) ≡ 0
  none_at g e i [] = refl
  none_at g e i (x ∷ xs) = omega (arith, e i x, none_at g e (i + 1) xs, tot-append f (g i x) (things_at g (i + 1) xs))

  -- WHAT IT DOESN'T SEE

  content_none : (m : MutexNo) (c : Option Owned) → tot f (content_things m c) ≡ 0
  content_none m None = refl
  content_none m (Some v) = refl

  mutex_none : (i : ℕ) (m : Mutex) → tot f (mutex_things n i m) ≡ 0
  mutex_none i m =
      let c = content_things m.number m.content in
      let q = things_at (queue_things m.number) 0 m.queue in
      omega (arith, content_none m.number m.content, none_at (queue_things m.number) (λ j a. refl) 0 m.queue, tot-append f c q)

  result_none : (t : ℕ) (x : TaskState) → tot f (result_things t x) ≡ 0
  result_none t (kept v) = refl
  result_none t going = refl
  result_none t let_go = refl
  result_none t (asked s u) = refl
  result_none t (in_pair p is_done) = refl

  task_none : (i : ℕ) (x : Task) → tot f (task_things n i x) ≡ 0
  task_none i x = omega (arith, result_none x.thread x.state)

  pin_none : (r : SharedRef) → tot f (pin_things n r) ≡ 0
  pin_none r = by r.pinned
    where
      by : (b : Bool) → tot f (if b then uses n r.word ∷ [] else []) ≡ 0
      by true = refl
      by false = refl

  value_none : (p : Spot) (l : Location) (v : Value) → tot f (value_things n p l v) ≡ 0
  value_none p l value.Gone = refl
  value_none p l (value.Own v) = refl
  value_none p l (value.SharedSlot i) = refl
  value_none p l (value.MutSlot i) = refl
  value_none p l (value.Shared r) = omega (arith, pin_none r)
  value_none p l (value.Mut r) = refl
  value_none p l (value.Held m) = refl

  gift_none : (t : ℕ) (g : Option Owned) → tot f (gift_things t g) ≡ 0
  gift_none t None = refl
  gift_none t (Some v) = refl

  -- of a thread's things it sees the thread
  pub thread_seen : (p : Bool) (t : ThreadState) → tot f (thread_things n p t) ≡ see.threads n p t
  thread_seen p t =
      let g = gift_things t.number t.gift in
      let w = things_at (walk_things n) 0 t.walk in
      let s = things_at (slot_things n t.number) 0 t.slots in
      let r = things_at (temp_things n t.number) 0 t.temps in
      omega (
        arith,
        gift_none t.number t.gift,
        none_at (walk_things n) (λ i x. refl) 0 t.walk,
        none_at (slot_things n t.number) (λ i v. value_none (in_slot t.number i) (at_slot t.number i) v) 0 t.slots,
        none_at (temp_things n t.number) (λ i v. value_none (in_temp t.number i) (at_temp t.number i) v) 0 t.temps,
        tot-append f (g ++ w ++ s) r,
        tot-append f (g ++ w) s,
        tot-append f g w,
      )

  -- WHAT IT SEES

  -- what a partition has, and what messages carry
  abbrev pub amount : PartitionState → List Message → List Sent → ℕ
  amount p inbox outbox = tot f (partition_things n p) + tot f (things_at (waiting_things n) 0 inbox) + tot f (things_at leaving_things 0 outbox)

  -- of the rest of a server
  pub rest_seen : (e : ℕ) (r : Rest) → tot f (rest_things n e r) ≡ amount r.partition r.inbox r.outbox
  rest_seen e r =
      let p = partition_things n r.partition in
      let c = things_at (copy_things n) 0 r.cache in
      let m = things_at (mutex_things n) 0 r.mutexes.there in
      let t = things_at (task_things n) 0 r.tasks in
      let i = things_at (waiting_things n) 0 r.inbox in
      let o = things_at leaving_things 0 r.outbox in
      omega (
        arith,
        none_at (copy_things n) (λ j x. refl) 0 r.cache,
        none_at (mutex_things n) mutex_none 0 r.mutexes.there,
        none_at (task_things n) task_none 0 r.tasks,
        tot-append f (p ++ c ++ m ++ t ++ i) o,
        tot-append f (p ++ c ++ m ++ t) i,
        tot-append f (p ++ c ++ m) t,
        tot-append f (p ++ c) m,
        tot-append f p c,
      )
