-- Sums of a weight that, of server n, sees threads, messages and counts alone.
use Rattle.std.proofs.Common.{◌≡◌, ℕ, ◌+◌, Bool, true, false, if◌then◌else◌, List, [], ◌∷◌, ◌++◌, length, Option, Some, None, refl, sym, subst, arith}
use Rattle.coherent_memory.specs.Below.fr_base.declared.name.MutexNo.{MutexNo}
use Rattle.coherent_memory.specs.Below.heap_partition.declared.value.Cell.{Cell}
use Rattle.coherent_memory.specs.Below.heap_partition.declared.value.Owned.{Owned}
use Rattle.coherent_memory.specs.Below.mut_borrow.declared.mutable.MutRef.{MutRef}
use Rattle.coherent_memory.specs.Below.mut_borrow.declared.shared.SharedRef.{SharedRef}
use Rattle.coherent_memory.specs.Below.owner_box.View.{PartitionState}
use Rattle.coherent_memory.specs.Below.read_cache.Cache.{Copy}
use Rattle.coherent_memory.specs.Below.mutex_home.Mutexes.{Mutex}
use Rattle.coherent_memory.specs.Below.join_home.Tasks.{Task, TaskState, kept}
use Rattle.coherent_memory.specs.Below.thread_state.View.{ThreadState}
use Rattle.coherent_memory.specs.Below.thread_state.declared.value.Value.{Value}
use Rattle.coherent_memory.specs.Below.thread_state.declared.value.Value.TheVariants as value
use Rattle.coherent_memory.specs.Below.server_model.Servers.{Server}
use Rattle.coherent_memory.specs.Names.{tot}
use Rattle.coherent_memory.specs.Things.{Thing, Spot, Location, as_gift, as_content, as_result, holds, shares, borrows, locks, lies, vacant, retired, copied, uses, stands, at_home, queued, noted, counts, things_at, is_free, cell_things, free_things, partition_things, copy_things, content_things, queue_things, mutex_things, result_things, task_things, gift_things, walk_things, pin_things, value_things, slot_things, temp_things, thread_things, standing_things, server_things}
use Rattle.coherent_memory.proofs.Sums.{tot-append, server_parts, inbox_of, all_sent}

pub record Unseen (f : Thing → ℕ) (n : ℕ) : Type 0 where
  pub held : (p : Spot) (v : Owned) → f (holds p v) ≡ 0
  pub shared : (l : Location) (r : SharedRef) → f (shares l r) ≡ 0
  pub borrowed : (l : Location) (r : MutRef) → f (borrows l r) ≡ 0
  pub locked : (l : Location) (m : MutexNo) → f (locks l m) ≡ 0
  pub live : (a : ℕ) (c : Cell) → f (lies n a c) ≡ 0
  pub free : (a next : ℕ) → f (vacant n a next) ≡ 0
  pub old : (a : ℕ) → f (retired n a) ≡ 0
  pub copy : (s : ℕ) (c : Copy) → f (copied s c) ≡ 0
  pub used : (s w : ℕ) → f (uses s w) ≡ 0

-- nor mutexes, nor who waits for one, nor what is noted of a thread
pub record Unnoted (f : Thing → ℕ) : Type 0 where
  pub mutex : (s : ℕ) (m : Mutex) → f (at_home s m) ≡ 0
  pub queue : (m : MutexNo) (s t : ℕ) → f (queued m s t) ≡ 0
  pub note : (s : ℕ) (t : Task) → f (noted s t) ≡ 0

module _ (f : Thing → ℕ) (n : ℕ) (u : Unseen f n) where
  pub none_at : {X : Type 0} (g : ℕ → X → List Thing) → ((i : ℕ) (x : X) → tot f (g i x) ≡ 0) → (i : ℕ) (xs : List X) → tot f (things_at g i xs) ≡ 0
  none_at g z i [] = refl
  none_at g z i (x ∷ xs) = omega (arith, z i x, none_at g z (i + 1) xs, tot-append f (g i x) (things_at g (i + 1) xs))

  cell_none : (free : List (ℕ × ℕ)) (a : ℕ) (c : Option Cell) → tot f (cell_things n free a c) ≡ 0
  cell_none free a (Some c) = omega (arith, u.live a c)
  cell_none free a None = by (is_free a free)
    where
      by : (b : Bool) → tot f (if b then [] else retired n a ∷ []) ≡ 0
      by true = refl
      by false = omega (arith, u.old a)

  pin_none : (s : ℕ) (q : SharedRef) → tot f (pin_things s q) ≡ 0
  pin_none s q = by q.pinned
    where
      by : (b : Bool) → tot f (if b then uses s q.word ∷ [] else []) ≡ 0
      by true = omega (arith, u.used s q.word)
      by false = refl

  value_none : (s : ℕ) (p : Spot) (l : Location) (v : Value) → tot f (value_things s p l v) ≡ 0
  value_none s p l value.Gone = refl
  value_none s p l (value.Own v) = omega (arith, u.held p v)
  value_none s p l (value.SharedSlot i) = refl
  value_none s p l (value.MutSlot i) = refl
  value_none s p l (value.Shared q) = omega (arith, u.shared l q, pin_none s q)
  value_none s p l (value.Mut r) = omega (arith, u.borrowed l r)
  value_none s p l (value.Held m) = omega (arith, u.locked l m)

  gift_none : (t : ℕ) (v : Option Owned) → tot f (gift_things t v) ≡ 0
  gift_none t None = refl
  gift_none t (Some v) = omega (arith, u.held (as_gift t) v)

  -- of a thread it sees the thread itself
  pub thread_alone : (s : ℕ) (p : Bool) (t : ThreadState) → tot f (thread_things s p t) ≡ f (stands s p t)
  thread_alone s p t =
      let g = gift_things t.number t.gift in
      let w = things_at (walk_things s) 0 t.walk in
      let a = things_at (slot_things s t.number) 0 t.slots in
      let b = things_at (temp_things s t.number) 0 t.temps in
      omega (
        arith,
        gift_none t.number t.gift,
        none_at (walk_things s) (λ i x. omega (arith, u.used s x)) 0 t.walk,
        none_at (slot_things s t.number) (λ i x. value_none s _ _ x) 0 t.slots,
        none_at (temp_things s t.number) (λ i x. value_none s _ _ x) 0 t.temps,
        tot-append f (g ++ w ++ a) b,
        tot-append f (g ++ w) a,
        tot-append f g w,
      )

  pub content_none : (m : Mutex) → tot f (content_things m.number m.content) ≡ 0
  content_none m = by m.content
    where
      by : (c : Option Owned) → tot f (content_things m.number c) ≡ 0
      by None = refl
      by (Some v) = omega (arith, u.held (as_content m.number) v)

  pub result_none : (t : ℕ) (x : TaskState) → tot f (result_things t x) ≡ 0
  result_none t (kept v) = omega (arith, u.held (as_result t) v)
  result_none t _ = refl

  pub partition_none : (p : PartitionState) → tot f (partition_things n p) ≡ 0
  partition_none p = omega (arith, none_at (cell_things n p.free) (cell_none p.free) 0 p.cells, none_at (free_things n) (λ i x. omega (arith, u.free x.0 x.1)) 0 p.free, tot-append f (things_at (cell_things n p.free) 0 p.cells) (things_at (free_things n) 0 p.free))

  pub copies_none : (s : ℕ) (cs : List Copy) → tot f (things_at (copy_things s) 0 cs) ≡ 0
  copies_none s cs = none_at (copy_things s) (λ i x. omega (arith, u.copy s x)) 0 cs

module _ (f : Thing → ℕ) (n : ℕ) (u : Unseen f n) (w : Unnoted f) where
  mutex_none : (s i : ℕ) (m : Mutex) → tot f (mutex_things s i m) ≡ 0
  mutex_none s i m = omega (arith, w.mutex s m, content_none f n u m, none_at f n u (queue_things m.number) (λ j x. omega (arith, w.queue m.number x.0 x.1)) 0 m.queue, tot-append f (content_things m.number m.content) (things_at (queue_things m.number) 0 m.queue))

  task_none : (s i : ℕ) (t : Task) → tot f (task_things s i t) ≡ 0
  task_none s i t = omega (arith, w.note s t, result_none f n u t.thread t.state)

  -- what it sees of a server
  pub seen_of : (s : Server) → s.rest.number ≡ n → tot f (server_things s)
      ≡ f (counts s.rest.number (length s.rest.partition.cells) s.rest.partition.retired s.rest.started s.rest.mutexes.made s.events) + tot f (things_at (standing_things s.rest.number) 0 s.threads) + inbox_of f s + all_sent f s.rest.outbox
  seen_of s e =
      omega (
        arith,
        server_parts f s,
        subst (λ m. tot f (partition_things m s.rest.partition) ≡ 0) (sym e) (partition_none f n u s.rest.partition),
        copies_none f n u s.rest.number s.rest.cache,
        none_at f n u (mutex_things s.rest.number) (mutex_none s.rest.number) 0 s.rest.mutexes.there,
        none_at f n u (task_things s.rest.number) (task_none s.rest.number) 0 s.rest.tasks,
      )
