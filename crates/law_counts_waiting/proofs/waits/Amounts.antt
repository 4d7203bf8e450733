-- How much a weight that sees threads and cells alone sees of the rest of a server: what its partition has, and what its messages carry.
use Rattle.std.proofs.Common.{◌≡◌, ℕ, ◌+◌, ◌≤◌, Bool, true, false, if◌then◌else◌, List, [], ◌∷◌, ◌++◌, Option, Some, None, refl, ap, arith}
use Rattle.law_counts_asking.specs.Below.fr_base.declared.label.Plain.{Plain}
use Rattle.law_counts_asking.specs.Below.fr_base.declared.name.MutexNo.{MutexNo}
use Rattle.law_counts_asking.specs.Below.heap_partition.Plain.{plain_of}
use Rattle.law_counts_asking.specs.Below.heap_partition.declared.value.Owned.{Owned}
use Rattle.law_counts_asking.specs.Below.owner_box.View.{PartitionState}
use Rattle.law_counts_asking.specs.Below.mutex_home.Mutexes.{Mutex}
use Rattle.law_counts_asking.specs.Below.join_home.Tasks.{Task, TaskState, going, let_go, kept, asked, in_pair}
use Rattle.law_counts_asking.specs.Below.mut_borrow.declared.shared.SharedRef.{SharedRef}
use Rattle.law_counts_asking.specs.Below.thread_state.View.{ThreadState}
use Rattle.law_counts_asking.specs.Below.thread_state.declared.value.Value.{Value}
use Rattle.law_counts_asking.specs.Below.thread_state.declared.value.Value.TheVariants as value
use Rattle.law_counts_asking.specs.Below.server_msgs.declared.message.Message.{Message}
use Rattle.law_counts_asking.specs.Below.server_model.Servers.{Sent, Rest}
use Rattle.law_counts_asking.specs.Below.coherent_memory.Names.{tot}
use Rattle.law_counts_asking.specs.Below.coherent_memory.Things.{Spot, as_gift, as_content, as_result, Location, at_slot, at_temp, in_slot, in_temp, Thing, stands, things_at, partition_things, copy_things, content_things, queue_things, mutex_things, result_things, task_things, value_things, gift_things, slot_things, temp_things, thread_things, waiting_things, leaving_things}
use Rattle.law_counts_asking.proofs.Below.coherent_memory.Sums.{tot-append}
use Rattle.law_counts_asking.proofs.Below.law_counts_sums.Bags.{counts_of, rest_things}
use Rattle.law_words_asked.specs.Below.law_heap_still.events.Shows.{Sign, nothing, a_value, a_branch, a_count, sign_of, note_sign}
use Rattle.law_words_asked.proofs.Below.law_heap_still.events.Arrivals.{no_pin, thread_parts}

-- it sees threads and cells alone
pub record SeesStanding (w : Sign → ℕ) : Type 0 where
  pub none : w nothing ≡ 0
  pub values : (p : Spot) (v : Plain) → w (a_value p v) ≡ 0
  pub branches : (t : ℕ) (b : Bool) → w (a_branch t b) ≡ 0
  pub counts : (s m n : ℕ) → w (a_count s m n) ≡ 0

module _ (w : Sign → ℕ) (sees : SeesStanding w) (n : ℕ) where
  abbrev f : Thing → ℕ
  f x = w (sign_of x)

  none_at : {X : Type 0} (g : ℕ → X → List Thing) → ((i : ℕ) (x : X) → tot f (g i x) ≡ 0) → (i : ℕ) (xs : List X) → tot f (things_at g i xs) ≡ 0
  none_at g e i [] = refl
  none_at g e i (x ∷ xs) = omega (arith, e i x, none_at g e (i + 1) xs, tot-append f (g i x) (things_at g (i + 1) xs))

  -- WHAT IT DOESN'T SEE

  content_none : (m : MutexNo) (c : Option Owned) → tot f (content_things m c) ≡ 0
  content_none m None = refl
  content_none m (Some v) = omega (arith, sees.values (as_content m) (plain_of v))

  mutex_none : (i : ℕ) (m : Mutex) → tot f (mutex_things n i m) ≡ 0
  mutex_none i m =
      let c = content_things m.number m.content in
      let q = things_at (queue_things m.number) 0 m.queue in
      omega (arith, sees.none, content_none m.number m.content, none_at (queue_things m.number) (λ j a. omega (arith, sees.none)) 0 m.queue, tot-append f c q)

  note_none : (t : ℕ) (x : TaskState) → w (note_sign t x) ≡ 0
  note_none t (in_pair p is_done) = sees.branches t is_done
  note_none t going = sees.none
  note_none t let_go = sees.none
  note_none t (kept v) = sees.none
  note_none t (asked s u) = sees.none

  result_none : (t : ℕ) (x : TaskState) → tot f (result_things t x) ≡ 0
  result_none t (kept v) = omega (arith, sees.values (as_result t) (plain_of v))
  result_none t going = refl
  result_none t let_go = refl
  result_none t (asked s u) = refl
  result_none t (in_pair p is_done) = refl

  task_none : (i : ℕ) (x : Task) → tot f (task_things n i x) ≡ 0
  task_none i x = omega (arith, note_none x.thread x.state, result_none x.thread x.state)

  value_none : (p : Spot) (l : Location) (v : Value) → tot f (value_things n p l v) ≡ 0
  value_none p l value.Gone = refl
  value_none p l (value.Own v) = omega (arith, sees.values p (plain_of v))
  value_none p l (value.SharedSlot i) = refl
  value_none p l (value.MutSlot i) = refl
  value_none p l (value.Shared r) = omega (arith, sees.none, no_pin w sees.none n r)
  value_none p l (value.Mut r) = omega (arith, sees.none)
  value_none p l (value.Held m) = omega (arith, sees.none)

  gift_none : (t : ℕ) (g : Option Owned) → tot f (gift_things t g) ≡ 0
  gift_none t None = refl
  gift_none t (Some v) = omega (arith, sees.values (as_gift t) (plain_of v))

  -- of a thread's things it sees the thread
  pub thread_seen : (p : Bool) (t : ThreadState) → tot f (thread_things n p t) ≡ f (stands n p t)
  thread_seen p t =
      omega (
        arith,
        thread_parts w sees.none n p t,
        gift_none t.number t.gift,
        none_at (slot_things n t.number) (λ i v. value_none (in_slot t.number i) (at_slot t.number i) v) 0 t.slots,
        none_at (temp_things n t.number) (λ i v. value_none (in_temp t.number i) (at_temp t.number i) v) 0 t.temps,
      )

  -- WHAT IT SEES

  -- what a partition has, and what messages carry
  abbrev pub amount : PartitionState → List Message → List Sent → ℕ
  amount p inbox outbox = tot f (partition_things n p) + tot f (things_at (waiting_things n) 0 inbox) + tot f (things_at leaving_things 0 outbox)

  -- of the rest of a server
  pub rest_seen : (e : ℕ) (r : Rest) → tot f (rest_things n e r) ≡ amount r.partition r.inbox r.outbox
  rest_seen e r =
      let p = partition_things n r.partition in
      let c = things_at (copy_things n) 0 r.cache in
      let m = things_at (mutex_things n) 0 r.mutexes.there in
      let t = things_at (task_things n) 0 r.tasks in
      let i = things_at (waiting_things n) 0 r.inbox in
      let o = things_at leaving_things 0 r.outbox in
      omega (
        arith,
        sees.counts n r.started r.mutexes.made,
        none_at (copy_things n) (λ j x. omega (arith, sees.none)) 0 r.cache,
        none_at (mutex_things n) mutex_none 0 r.mutexes.there,
        none_at (task_things n) task_none 0 r.tasks,
        tot-append f (p ++ c ++ m ++ t ++ i) o,
        tot-append f (p ++ c ++ m ++ t) i,
        tot-append f (p ++ c ++ m) t,
        tot-append f (p ++ c) m,
        tot-append f p c,
      )
