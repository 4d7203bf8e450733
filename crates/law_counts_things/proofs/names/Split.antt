-- A weight of names that is at most two others together gives each thing at most what they give.
use Rattle.std.proofs.Common.{ℕ, ◌+◌, ◌≤◌, List, [], ◌∷◌, arith}
use Rattle.law_counts_things.specs.Below.fr_base.declared.name.MutexNo.{MutexNo}
use Rattle.law_counts_things.specs.Below.fr_base.declared.release.Released.{Released}
use Rattle.law_counts_things.specs.Below.fr_base.declared.release.Released.TheVariants as released
use Rattle.law_counts_things.specs.Below.heap_partition.declared.value.Owned.{Owned}
use Rattle.law_counts_things.specs.Below.heap_partition.declared.value.Owned.TheVariants as owned
use Rattle.law_counts_things.specs.Below.join_home.Tasks.{TaskState, asked, in_pair}
use Rattle.law_counts_things.specs.Below.thread_state.declared.phase.Phase.{Phase}
use Rattle.law_counts_things.specs.Below.thread_state.declared.phase.Phase.TheVariants as phase
use Rattle.law_counts_things.specs.Below.server_msgs.declared.message.Message.{Message}
use Rattle.law_counts_things.specs.Below.server_msgs.declared.message.Message.TheVariants as message
use Rattle.law_counts_things.specs.Below.coherent_memory.Names.{tot}
use Rattle.law_counts_things.specs.Below.coherent_memory.Things.{Thing, holds, shares, borrows, locks, lies, flies, copied, sent, stands, at_home, queued, noted}
use Rattle.law_counts_things.specs.Below.coherent_memory.Sharing.{owned_mutex, released_mutex, phase_mutex}
use Rattle.law_counts_things.specs.Below.coherent_memory.Naming.{owned_thread, released_thread, message_thread, phase_thread, noted_thread, threads, fetched_mutex, named_mutexes}

-- SUMS

pub two_le : (f g h : Thing → ℕ) → ((x : Thing) → f x + g x ≤ h x) → (b : List Thing) → tot f b + tot g b ≤ tot h b
two_le f g h l [] = omega arith
two_le f g h l (x ∷ b) = omega (arith, l x, two_le f g h l b)

-- THREADS

module _ (f g h : ℕ → ℕ) (l : (t : ℕ) → f t ≤ g t + h t) where
  owned_split : (v : Owned) → owned_thread f v ≤ owned_thread g v + owned_thread h v
  owned_split (owned.Task t) = l t
  owned_split (owned.Box p) = l p.object.thread
  owned_split _ = omega arith

  released_split : (x : Released) → released_thread f x ≤ released_thread g x + released_thread h x
  released_split (released.Mutex m) = omega arith
  released_split (released.Task t) = l t

  message_split : (m : Message) → message_thread f m ≤ message_thread g m + message_thread h m
  message_split (message.Fetch w o s t) = omega (arith, l o.thread, l t)
  message_split (message.Fetched w c t) = omega (arith, l c.object.thread, owned_split c.value, l t)
  message_split (message.Move w o s t) = omega (arith, l o.thread, l t)
  message_split (message.Moved w c t) = l t
  message_split (message.Drop w o) = l o.thread
  message_split (message.Lock m s t) = l t
  message_split (message.Granted m v t) = l t
  message_split (message.Dup m s t) = l t
  message_split (message.Dupped m t) = l t
  message_split (message.Release x) = released_split x
  message_split (message.Join u s t) = omega (arith, l u, l t)
  message_split (message.Joined u v t) = omega (arith, l u, l t)
  message_split (message.Finished t v) = l t
  message_split _ = omega arith

  phase_split : (p : Phase) → phase_thread f p ≤ phase_thread g p + phase_thread h p
  phase_split (phase.WaitJoin t) = l t
  phase_split (phase.WaitPar a b) = omega (arith, l a, l b)
  phase_split (phase.GotPar a b) = omega (arith, l a, l b)
  phase_split _ = omega arith

  noted_split : (s : TaskState) → noted_thread f s ≤ noted_thread g s + noted_thread h s
  noted_split (asked s t) = l t
  noted_split (in_pair t over) = l t
  noted_split _ = omega arith

  pub threads_split : (x : Thing) → threads f x ≤ threads g x + threads h x
  threads_split (holds p v) = owned_split v
  threads_split (shares p r) = l r.object.thread
  threads_split (borrows p r) = l r.object.thread
  threads_split (lies s a c) = omega (arith, l c.object.thread, owned_split c.value)
  threads_split (flies w c) = omega (arith, l c.object.thread, owned_split c.value)
  threads_split (copied s c) = omega (arith, l c.cell.object.thread, owned_split c.cell.value)
  threads_split (sent s m) = message_split m
  threads_split (stands s p t) = omega (arith, l t.number, phase_split t.phase)
  threads_split (queued m s t) = l t
  threads_split (noted s x) = omega (arith, l x.thread, noted_split x.state)
  threads_split _ = omega arith

-- MUTEXES

module _ (f g h : MutexNo → ℕ) (l : (m : MutexNo) → f m ≤ g m + h m) where
  owned_splits : (v : Owned) → owned_mutex f v ≤ owned_mutex g v + owned_mutex h v
  owned_splits (owned.Mutex m) = l m
  owned_splits _ = omega arith

  released_splits : (x : Released) → released_mutex f x ≤ released_mutex g x + released_mutex h x
  released_splits (released.Mutex m) = l m
  released_splits (released.Task t) = omega arith

  message_splits : (m : Message) → fetched_mutex f m ≤ fetched_mutex g m + fetched_mutex h m
  message_splits (message.Fetched w c t) = owned_splits c.value
  message_splits (message.Lock m s t) = l m
  message_splits (message.Granted m v t) = l m
  message_splits (message.Unlock m v) = l m
  message_splits (message.Dup m s t) = l m
  message_splits (message.Dupped m t) = l m
  message_splits (message.Release x) = released_splits x
  message_splits _ = omega arith

  phase_splits : (p : Phase) → phase_mutex f p ≤ phase_mutex g p + phase_mutex h p
  phase_splits (phase.WaitLock m) = l m
  phase_splits (phase.WaitDup m) = l m
  phase_splits _ = omega arith

  pub mutexes_split : (x : Thing) → named_mutexes f x ≤ named_mutexes g x + named_mutexes h x
  mutexes_split (holds p v) = owned_splits v
  mutexes_split (locks p m) = l m
  mutexes_split (lies s a c) = owned_splits c.value
  mutexes_split (flies w c) = owned_splits c.value
  mutexes_split (copied s c) = owned_splits c.cell.value
  mutexes_split (sent s m) = message_splits m
  mutexes_split (stands s p t) = phase_splits t.phase
  mutexes_split (at_home s m) = l m.number
  mutexes_split (queued m s t) = l m
  mutexes_split _ = omega arith
