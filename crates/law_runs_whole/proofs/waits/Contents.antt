-- In a quiet cluster the contents and the queues of mutexes are those of the mutexes at their homes.
use Rattle.std.proofs.Common.{◌≡◌, ℕ, ◌+◌, ◌≤◌, ◌&&◌, is_some, Bool, true, false, if◌then◌else◌, List, [], ◌∷◌, ◌++◌, length, Option, Some, None, refl, sym, subst, arith}
use Rattle.law_runs_whole.specs.Below.fr_base.declared.name.MutexNo.{MutexNo}
use Rattle.law_runs_whole.specs.Below.heap_partition.declared.value.Cell.{Cell}
use Rattle.law_runs_whole.specs.Below.heap_partition.declared.value.Owned.{Owned}
use Rattle.law_runs_whole.specs.Below.mut_borrow.declared.mutable.MutRef.{MutRef}
use Rattle.law_runs_whole.specs.Below.mut_borrow.declared.shared.SharedRef.{SharedRef}
use Rattle.law_runs_whole.specs.Below.read_cache.Cache.{Copy}
use Rattle.law_runs_whole.specs.Below.mutex_home.Mutexes.{Mutex}
use Rattle.law_runs_whole.specs.Below.join_home.Tasks.{Task, TaskState, kept}
use Rattle.law_runs_whole.specs.Below.thread_state.View.{ThreadState}
use Rattle.law_runs_whole.specs.Below.thread_state.declared.value.Value.{Value}
use Rattle.law_runs_whole.specs.Below.thread_state.declared.value.Value.TheVariants as value
use Rattle.law_runs_whole.specs.Below.server_model.Servers.{Server}
use Rattle.law_runs_whole.specs.Below.drive_model.Ending.{is_none, no_message}
use Rattle.law_runs_whole.specs.Below.coherent_memory.Names.{tot, one, if_so, same_mutex}
use Rattle.law_runs_whole.specs.Below.coherent_memory.Things.{Thing, Spot, Location, in_slot, in_temp, as_gift, as_content, as_result, holds, shares, borrows, locks, lies, vacant, retired, copied, uses, stands, at_home, queued, noted, counts, things_at, is_free, value_things, gift_things, walk_things, slot_things, temp_things, thread_things, standing_things, cell_things, free_things, copy_things, content_things, queue_things, mutex_things, result_things, task_things, waiting_things, leaving_things, server_things, servers_things}
use Rattle.law_runs_whole.proofs.Below.coherent_memory.Names.{and_left, and_right}
use Rattle.law_runs_whole.proofs.Below.coherent_memory.Sums.{tot-append, server_parts}
use Rattle.law_runs_whole.proofs.Below.law_counts_sums.MutexResults.{weighed}

-- a weight of what mutexes have at their homes, beside one of the mutexes
pub record OfMutexes (f g : Thing → ℕ) : Type 0 where
  pub counted : (n a b c d e : ℕ) → f (counts n a b c d e) ≡ 0
  pub slot : (t i : ℕ) (v : Owned) → f (holds (in_slot t i) v) ≡ 0
  pub temp : (t i : ℕ) (v : Owned) → f (holds (in_temp t i) v) ≡ 0
  pub gift : (t : ℕ) (v : Owned) → f (holds (as_gift t) v) ≡ 0
  pub result : (t : ℕ) (v : Owned) → f (holds (as_result t) v) ≡ 0
  pub shared : (l : Location) (r : SharedRef) → f (shares l r) ≡ 0
  pub borrowed : (l : Location) (r : MutRef) → f (borrows l r) ≡ 0
  pub locked : (l : Location) (m : MutexNo) → f (locks l m) ≡ 0
  pub live : (n a : ℕ) (c : Cell) → f (lies n a c) ≡ 0
  pub free : (n a m : ℕ) → f (vacant n a m) ≡ 0
  pub old : (n a : ℕ) → f (retired n a) ≡ 0
  pub copy : (n : ℕ) (c : Copy) → f (copied n c) ≡ 0
  pub used : (n w : ℕ) → f (uses n w) ≡ 0
  pub thread : (n : ℕ) (p : Bool) (x : ThreadState) → f (stands n p x) ≡ 0
  pub note : (n : ℕ) (x : Task) → f (noted n x) ≡ 0
  pub mutex : (n i : ℕ) (x : Mutex) → tot f (mutex_things n i x) ≤ g (at_home n x)

module _ (f g : Thing → ℕ) (u : OfMutexes f g) where
  none_of : {X : Type 0} (h : ℕ → X → List Thing) → ((i : ℕ) (x : X) → tot f (h i x) ≡ 0) → (i : ℕ) (xs : List X) → tot f (things_at h i xs) ≡ 0
  none_of h z i [] = refl
  none_of h z i (x ∷ xs) = omega (arith, z i x, none_of h z (i + 1) xs, tot-append f (h i x) (things_at h (i + 1) xs))

  value_none : (n : ℕ) (p : Spot) (l : Location) (v : Value) → ((w : Owned) → f (holds p w) ≡ 0) → tot f (value_things n p l v) ≡ 0
  value_none n p l value.Gone z = refl
  value_none n p l (value.Own w) z = omega (arith, z w)
  value_none n p l (value.SharedSlot i) z = refl
  value_none n p l (value.MutSlot i) z = refl
  value_none n p l (value.Shared r) z = omega (arith, u.shared l r, by r.pinned)
    where
      by : (b : Bool) → tot f (if b then uses n r.word ∷ [] else []) ≡ 0
      by true = omega (arith, u.used n r.word)
      by false = refl
  value_none n p l (value.Mut r) z = omega (arith, u.borrowed l r)
  value_none n p l (value.Held m) z = omega (arith, u.locked l m)

  thread_none : (n : ℕ) (x : ThreadState) → tot f (thread_things n false x) ≡ 0
  thread_none n x =
      let gift = gift_things x.number x.gift in
      let walk = things_at (walk_things n) 0 x.walk in
      let slots = things_at (slot_things n x.number) 0 x.slots in
      let temps = things_at (temp_things n x.number) 0 x.temps in
      omega (
        arith,
        u.thread n false x,
        given x.gift,
        none_of (walk_things n) (λ i w. omega (arith, u.used n w)) 0 x.walk,
        none_of (slot_things n x.number) (λ i v. value_none n _ _ v (u.slot x.number i)) 0 x.slots,
        none_of (temp_things n x.number) (λ i v. value_none n _ _ v (u.temp x.number i)) 0 x.temps,
        tot-append f (gift ++ walk ++ slots) temps,
        tot-append f (gift ++ walk) slots,
        tot-append f gift walk,
      )
    where
      given : (v : Option Owned) → tot f (gift_things x.number v) ≡ 0
      given None = refl
      given (Some v) = omega (arith, u.gift x.number v)

  cell_none : (n : ℕ) (free : List (ℕ × ℕ)) (a : ℕ) (c : Option Cell) → tot f (cell_things n free a c) ≡ 0
  cell_none n free a (Some c) = omega (arith, u.live n a c)
  cell_none n free a None = by (is_free a free)
    where
      by : (b : Bool) → tot f (if b then [] else retired n a ∷ []) ≡ 0
      by true = refl
      by false = omega (arith, u.old n a)

  task_none : (n i : ℕ) (x : Task) → tot f (task_things n i x) ≡ 0
  task_none n i x = omega (arith, u.note n x, by x.state)
    where
      by : (c : TaskState) → tot f (result_things x.thread c) ≡ 0
      by (kept v) = omega (arith, u.result x.thread v)
      by _ = refl

  mutexes_fewer : (n i : ℕ) (xs : List Mutex) → tot f (things_at (mutex_things n) i xs) ≤ tot g (things_at (mutex_things n) i xs)
  mutexes_fewer n i [] = omega arith
  mutexes_fewer n i (x ∷ xs) =
      let w : g (at_home n x) ≤ tot g (mutex_things n i x) = omega arith in
      omega (arith, u.mutex n i x, w, mutexes_fewer n (i + 1) xs, tot-append f (mutex_things n i x) (things_at (mutex_things n) (i + 1) xs), tot-append g (mutex_things n i x) (things_at (mutex_things n) (i + 1) xs))

  server_fewer : (s : Server) → s.rest.inbox ≡ [] → s.rest.outbox ≡ [] → tot f (server_things s) ≤ tot g (server_things s)
  server_fewer s i o =
      let n = s.rest.number in
      let p = s.rest.partition in
      let inbox : tot f (things_at (waiting_things n) 0 s.rest.inbox) ≡ 0 = subst (λ ms. tot f (things_at (waiting_things n) 0 ms) ≡ 0) (sym i) refl in
      let outbox : tot f (things_at leaving_things 0 s.rest.outbox) ≡ 0 = subst (λ ms. tot f (things_at leaving_things 0 ms) ≡ 0) (sym o) refl in
      omega (
        arith,
        server_parts f s,
        server_parts g s,
        inbox,
        outbox,
        u.counted n (length p.cells) p.retired s.rest.started s.rest.mutexes.made s.events,
        none_of (cell_things n p.free) (cell_none n p.free) 0 p.cells,
        none_of (free_things n) (λ j y. omega (arith, u.free n y.0 y.1)) 0 p.free,
        tot-append f (things_at (cell_things n p.free) 0 p.cells) (things_at (free_things n) 0 p.free),
        none_of (copy_things n) (λ j y. omega (arith, u.copy n y)) 0 s.rest.cache,
        mutexes_fewer n 0 s.rest.mutexes.there,
        none_of (task_things n) (task_none n) 0 s.rest.tasks,
        none_of (standing_things n) (λ j y. thread_none n y) 0 s.threads,
      )

  pub servers_fewer : (ss : List Server) → no_message ss ≡ true → tot f (servers_things ss) ≤ tot g (servers_things ss)
  servers_fewer [] q = omega arith
  servers_fewer (s ∷ ss) q =
      let first : is_none s.rest.inbox && is_none s.rest.outbox ≡ true = and_left (is_none s.rest.inbox && is_none s.rest.outbox) (no_message ss) q in
      omega (
        arith,
        server_fewer s (no_item s.rest.inbox (and_left (is_none s.rest.inbox) (is_none s.rest.outbox) first)) (no_item s.rest.outbox (and_right (is_none s.rest.inbox) (is_none s.rest.outbox) first)),
        servers_fewer ss (and_right (is_none s.rest.inbox && is_none s.rest.outbox) (no_message ss) q),
        tot-append f (server_things s) (servers_things ss),
        tot-append g (server_things s) (servers_things ss),
      )
    where
      no_item : {X : Type 0} (xs : List X) → is_none xs ≡ true → xs ≡ []
      no_item [] e = refl
      no_item (y ∷ ys) e = absurd (cc e)

-- CONTENTS AND QUEUES

abbrev pub content_held : MutexNo → Thing → ℕ
content_held m (holds (as_content n) v) = one (same_mutex n m)
content_held m x = 0

abbrev pub waits_for_it : MutexNo → Thing → ℕ
waits_for_it m (queued n r t) = one (same_mutex n m)
waits_for_it m x = 0

content_queue : (m n : MutexNo) (i : ℕ) (xs : List (ℕ × ℕ)) → tot (content_held m) (things_at (queue_things n) i xs) ≡ 0
content_queue m n i [] = refl
content_queue m n i (x ∷ xs) = omega (arith, content_queue m n (i + 1) xs)

queue_many : (m n : MutexNo) (i : ℕ) (xs : List (ℕ × ℕ)) → tot (waits_for_it m) (things_at (queue_things n) i xs) ≤ if_so (same_mutex n m) (length xs)
queue_many m n i [] = omega arith
queue_many m n i (x ∷ xs) = by (same_mutex n m) (tot (waits_for_it m) (things_at (queue_things n) (i + 1) xs)) (queue_many m n (i + 1) xs)
  where
    by : (b : Bool) (s : ℕ) → s ≤ if_so b (length xs) → one b + s ≤ if_so b (length (x ∷ xs))
    by true s l = omega (arith, l)
    by false s l = omega (arith, l)

pub contents_of : (m : MutexNo) (n : ℕ) → OfMutexes (content_held m) (weighed m n (λ x. one (is_some x.content)))
contents_of m n = record {
  counted = λ n a b c d e. refl;
  slot = λ t i v. refl;
  temp = λ t i v. refl;
  gift = λ t v. refl;
  result = λ t v. refl;
  shared = λ l r. refl;
  borrowed = λ l r. refl;
  locked = λ l m. refl;
  live = λ n a c. refl;
  free = λ n a m. refl;
  old = λ n a. refl;
  copy = λ n c. refl;
  used = λ n w. refl;
  thread = λ n p x. refl;
  note = λ n x. refl;
  mutex = λ r i x. omega (arith, by x (same_mutex x.number m) x.content, content_queue m x.number 0 x.queue, tot-append (content_held m) (content_things x.number x.content) (things_at (queue_things x.number) 0 x.queue));
}
  where
    by : (x : Mutex) (b : Bool) (c : Option Owned) → tot (content_held m) (content_things x.number c) ≤ if_so (same_mutex x.number m) (one (is_some c))
    by x b None = omega arith
    by x b (Some v) = so (same_mutex x.number m)
      where
        so : (b : Bool) → one b + 0 ≤ if_so b 1
        so true = omega arith
        so false = omega arith

pub queues_of : (m : MutexNo) (n : ℕ) → OfMutexes (waits_for_it m) (weighed m n (λ x. length x.queue))
queues_of m n = record {
  counted = λ n a b c d e. refl;
  slot = λ t i v. refl;
  temp = λ t i v. refl;
  gift = λ t v. refl;
  result = λ t v. refl;
  shared = λ l r. refl;
  borrowed = λ l r. refl;
  locked = λ l m. refl;
  live = λ n a c. refl;
  free = λ n a m. refl;
  old = λ n a. refl;
  copy = λ n c. refl;
  used = λ n w. refl;
  thread = λ n p x. refl;
  note = λ n x. refl;
  mutex = λ r i x. omega (arith, by x x.content, queue_many m x.number 0 x.queue, tot-append (waits_for_it m) (content_things x.number x.content) (things_at (queue_things x.number) 0 x.queue));
}
  where
    by : (x : Mutex) (c : Option Owned) → tot (waits_for_it m) (content_things x.number c) ≡ 0
    by x None = refl
    by x (Some v) = refl
