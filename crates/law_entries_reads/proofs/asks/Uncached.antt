-- Where a server's cache has no copy under a word, the coloured heap has none there.
use Rattle.std.proofs.Common.{◌≡◌, ℕ, ◌+◌, ◌==◌, ◌&&◌, Bool, true, false, if◌then◌else◌, List, [], ◌∷◌, Option, Some, None, is_some, refl, ap, ◌∙◌, arith}
use Rattle.law_entries_reads.specs.Below.law_copies_kept.Below.heap_partition.Plain.{plain_of}
use Rattle.law_entries_reads.specs.Below.law_copies_kept.Below.heap_partition.declared.value.Cell.{Cell}
use Rattle.join_home.specs.Tasks.{Task, TaskState, kept}
use Rattle.mutex_home.specs.Mutexes.{Mutex}
use Rattle.law_entries_reads.specs.Below.law_copies_kept.Below.read_cache.Cache.{Copy, copy_of as cached_copy, is_cached}
use Rattle.law_entries_reads.specs.Below.law_copies_kept.Below.thread_state.View.{ThreadState}
use Rattle.law_entries_reads.specs.Below.law_copies_kept.Below.thread_state.declared.value.Value.{Value}
use Rattle.law_entries_reads.specs.Below.law_copies_kept.Below.thread_state.declared.value.Value.TheVariants as value
use Rattle.law_entries_reads.specs.Below.law_copies_kept.Below.server_msgs.declared.message.Message.{Message}
use Rattle.law_entries_reads.specs.Below.law_copies_kept.Below.server_msgs.declared.message.Message.TheVariants as message
use Rattle.law_entries_reads.specs.Below.law_copies_kept.Below.server_model.Servers.{Server, Cluster, server_at}
use Rattle.law_entries_reads.specs.Below.law_entries_variables.Below.coloured_heap.Heap.{Copied}
use Rattle.law_entries_reads.specs.Below.law_copies_kept.Below.coherent_memory.Names.{tot}
use Rattle.law_entries_reads.specs.Below.law_copies_kept.Below.coherent_memory.Things.{Thing, copied, retired, is_free, things_at, slot_things, thread_things, message_things, cell_things, free_things, copy_things, queue_things, mutex_things, result_things, task_things, standing_things, waiting_things, leaving_things, server_things, things_of}
use Rattle.law_entries_reads.specs.Below.law_copies_kept.Below.coherent_memory.Sight.{sight}
use Rattle.law_entries_reads.specs.Below.law_copies_kept.Below.coherent_memory.Colours.{copy_of}
use Rattle.law_entries_reads.specs.Below.law_copies_kept.Below.coherent_memory.Coherent.{IsSound}
use Rattle.law_entries_reads.proofs.Below.law_copies_kept.Below.coherent_memory.Sums.{tot-append, server_parts}
use Rattle.law_entries_reads.proofs.Below.law_copies_kept.Below.law_counts_sums.Elsewhere.{here_alone}
use Rattle.law_entries_reads.proofs.Below.law_copies_kept.Below.law_heap_still.events.Told.{told, ones}
use Rattle.law_entries_reads.proofs.Below.law_entries_variables.deliveries.Weighed.{Seen, pins_unseen, thread_seen}
use Rattle.law_entries_reads.proofs.Below.law_entries_variables.deliveries.Changed.{mutex_seen}
use Rattle.law_entries_reads.proofs.Below.law_entries_variables.deliveries.Shown.{if_some, copy_in, copy_is, none_first}
use Rattle.law_entries_reads.proofs.Below.law_entries_variables.deliveries.After.{copy_seen}

module _ (r w : ℕ) where
  -- a copy under the word at the server
  abbrev under : Thing → ℕ
  under x = told ones (copy_in r w x)

  seen : Seen under
  seen = copy_seen r w ones

  none_at : {X : Type 0} (g : ℕ → X → List Thing) → ((i : ℕ) (x : X) → tot under (g i x) ≡ 0) → (i : ℕ) (xs : List X) → tot under (things_at g i xs) ≡ 0
  none_at g z i [] = refl
  none_at g z i (x ∷ xs) = omega (arith, z i x, none_at g z (i + 1) xs, tot-append under (g i x) (things_at g (i + 1) xs))

  slot_none : (n t i : ℕ) (v : Value) → tot under (slot_things n t i v) ≡ 0
  slot_none n t i value.Gone = refl
  slot_none n t i (value.Own v) = refl
  slot_none n t i (value.SharedSlot j) = refl
  slot_none n t i (value.MutSlot j) = refl
  slot_none n t i (value.Shared q) = omega (arith, pins_unseen under seen n q)
  slot_none n t i (value.Mut q) = refl
  slot_none n t i (value.Held m) = refl

  thread_none : (n : ℕ) (p : Bool) (t : ThreadState) → tot under (thread_things n p t) ≡ 0
  thread_none n p t = omega (arith, thread_seen under seen n p t, none_at (slot_things 0 t.number) (slot_none 0 t.number) 0 t.slots)

  message_none : (n : ℕ) (m : Message) → tot under (message_things n m) ≡ 0
  message_none n (message.Start t) = omega (arith, thread_none n true t)
  message_none n (message.Migrate t) = omega (arith, thread_none n true t)
  message_none n _ = refl

  mutex_none : (n i : ℕ) (m : Mutex) → tot under (mutex_things n i m) ≡ 0
  mutex_none n i m = omega (arith, mutex_seen under seen n m, none_at (queue_things m.number) (λ j x. refl) 0 m.queue)

  result_none : (t : ℕ) (x : TaskState) → tot under (result_things t x) ≡ 0
  result_none t (kept v) = refl
  result_none t _ = refl

  task_none : (n i : ℕ) (x : Task) → tot under (task_things n i x) ≡ 0
  task_none n i x = omega (arith, result_none x.thread x.state)

  cell_none : (n : ℕ) (free : List (ℕ × ℕ)) (a : ℕ) (c : Option Cell) → tot under (cell_things n free a c) ≡ 0
  cell_none n free a (Some c) = refl
  cell_none n free a None = by (is_free a free)
    where
      by : (b : Bool) → tot under (if b then [] else retired n a ∷ []) ≡ 0
      by true = refl
      by false = refl

  -- of a server it sees the cache
  cache_alone : (s : Server) → tot under (server_things s) ≡ tot under (things_at (copy_things s.rest.number) 0 s.rest.cache)
  cache_alone s =
      let n = s.rest.number in
      let p = s.rest.partition in
      omega (
        arith,
        server_parts under s,
        none_at (cell_things n p.free) (cell_none n p.free) 0 p.cells,
        none_at (free_things n) (λ i x. refl) 0 p.free,
        tot-append under (things_at (cell_things n p.free) 0 p.cells) (things_at (free_things n) 0 p.free),
        none_at (mutex_things n) (mutex_none n) 0 s.rest.mutexes.there,
        none_at (task_things n) (task_none n) 0 s.rest.tasks,
        none_at (standing_things n) (λ i t. thread_none n false t) 0 s.threads,
        none_at (waiting_things n) (λ i m. message_none n m) 0 s.rest.inbox,
        none_at leaving_things (λ i m. message_none m.target m.message) 0 s.rest.outbox,
      )

  none_shown : (n : ℕ) (c : Copy) → (n == r && c.word == w) ≡ false → under (copied n c) ≡ 0
  none_shown n c e = ap (λ q. told ones (if_some q (as_copied n c))) e
    where
      as_copied : ℕ → Copy → Copied
      as_copied m d = record { server = m; word = d.word; object = d.cell.object; value = plain_of d.cell.value }

  away : (a b : Bool) → a ≡ false → (a && b) ≡ false
  away true b e = absurd (cc e)
  away false b e = refl

  never : (a b : Bool) → b ≡ false → (a && b) ≡ false
  never true b e = e
  never false b e = refl

  elsewhere : (s : Server) → (s.rest.number == r) ≡ false → tot under (server_things s) ≡ 0
  elsewhere s e = omega (arith, cache_alone s, none_at (copy_things s.rest.number) (λ i c. omega (arith, none_shown s.rest.number c (away (s.rest.number == r) (c.word == w) e))) 0 s.rest.cache)

  none_cached : (n i : ℕ) (cs : List Copy) → is_cached cs w ≡ false → tot under (things_at (copy_things n) i cs) ≡ 0
  none_cached n i [] e = refl
  none_cached n i (c ∷ cs) e = by (c.word == w) refl e (none_cached n (i + 1) cs)
    where
      by : (b : Bool) → (c.word == w) ≡ b → is_some (if b then Some c else cached_copy cs w) ≡ false → (is_cached cs w ≡ false → tot under (things_at (copy_things n) (i + 1) cs) ≡ 0) → tot under (things_at (copy_things n) i (c ∷ cs)) ≡ 0
      by true q f go = absurd (cc f)
      by false q f go = omega (arith, none_shown n c (never (n == r) (c.word == w) q), go f)

pub uncached : (k : Cluster) → IsSound k → (number : ℕ) (s : Server) → server_at k.servers number ≡ Some s → (w : ℕ) → is_cached s.rest.cache w ≡ false → copy_of (sight k) s.rest.number w ≡ None
uncached k sound number s here w e =
    let n = s.rest.number in
    let all = here_alone k sound number s here (under n w) (λ x q. elsewhere n w x q) in
    copy_is (sight k) n w ∙ none_first (copy_in n w) (things_of k) (omega (arith, all, cache_alone n w s, none_cached n w n 0 s.rest.cache e))
