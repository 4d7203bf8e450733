-- What something owns isn't given up: an object that a box names is live and no `drop` names it; mutexes and threads that are owned anywhere have names that were given.
use Rattle.std.proofs.Common.{◌≡◌, ℕ, ◌+◌, ◌≤◌, ◌==◌, ◌&&◌, ◌||◌, not, Bool, true, false, refl, ap, arith}
use Rattle.std.specs.Prelude.{◌%◌, ◌^◌}
use Rattle.law_runs_whole.specs.Below.law_words_ends.Below.fr_base.declared.name.MutexNo.{MutexNo}
use Rattle.law_runs_whole.specs.Below.law_words_ends.Below.fr_base.declared.name.ObjNo.{ObjNo}
use Rattle.law_runs_whole.specs.Below.law_words_ends.Below.heap_partition.declared.value.Owned.{Owned}
use Rattle.law_runs_whole.specs.Below.law_words_ends.Below.heap_partition.declared.value.Owned.TheVariants as owned
use Rattle.law_runs_whole.specs.Below.server_model.Servers.{Cluster}
use Rattle.law_runs_whole.specs.Below.coherent_memory.Names.{tot, one, other, some, boxes}
use Rattle.law_runs_whole.specs.Below.coherent_memory.Things.{Thing, holds, lies, flies, sent, things_of}
use Rattle.law_runs_whole.specs.Below.coherent_memory.Weights.{cells, owners}
use Rattle.law_runs_whole.specs.Below.coherent_memory.Requests.{home_of}
use Rattle.law_runs_whole.specs.Below.coherent_memory.Naming.{threads, named_mutexes, started_at, made_at, zeroth_thread, zeroth_mutex, uncounted_thread, uncounted_mutex}
use Rattle.law_runs_whole.specs.Below.coherent_memory.OneHeap.{object_n, owns, names, is_given_thread, is_given_mutex}
use Rattle.law_runs_whole.specs.Below.coherent_memory.Sight.{sight}
use Rattle.law_runs_whole.specs.Below.coherent_memory.Coherent.{IsSound}
use Rattle.law_entries_writes.specs.Below.law_entries_variables.Below.law_heap_still.events.Shows.{is_named}
use Rattle.law_runs_whole.proofs.Below.law_words_ends.Below.law_heap_still.events.Unnamed.{two_at_most}
use Rattle.law_entries_writes.proofs.Below.law_entries_variables.deliveries.Shown.{dropped_by}

-- OBJECTS

-- a thing's owned value is a box of the object
abbrev pub names_it : ObjNo → Thing → ℕ
names_it o x = one (names (object_n o) x)

boxed : (o : ObjNo) (v : Owned) → one (owns (object_n o) v) ≤ boxes o v
boxed o (owned.Box p) = omega arith
boxed o owned.Nothing = omega arith
boxed o owned.Unit = omega arith
boxed o (owned.Int i) = omega arith
boxed o (owned.Mutex m) = omega arith
boxed o (owned.Task t) = omega arith

owned_or_dropped : (o : ObjNo) (x : Thing) → names_it o x + dropped_by o x ≤ owners o x
owned_or_dropped o (holds p v) = omega (arith, boxed o v)
owned_or_dropped o (lies r a c) = omega (arith, boxed o c.value)
owned_or_dropped o (flies w c) = omega (arith, boxed o c.value)
owned_or_dropped o (sent r m) = omega arith
owned_or_dropped o _ = omega arith

module _ (k : Cluster) (sound : IsSound k) (o : ObjNo) where
  -- one box or one `drop` of the object at most, where it is live
  sole : tot (names_it o) (things_of k) + tot (dropped_by o) (things_of k) ≤ tot (cells o) (things_of k)
  sole =
      let same : tot (owners o) (things_of k) ≡ tot (cells o) (things_of k) = sound.one_owner.owner_of_each o in
      omega (arith, same, two_at_most (names_it o) (dropped_by o) (owners o) (owned_or_dropped o) (things_of k))

  few : tot (cells o) (things_of k) ≤ 1
  few = sound.one_home.home_of_each o

  pub named_live : 1 ≤ tot (names_it o) (things_of k) → 1 ≤ tot (cells o) (things_of k)
  named_live l = omega (arith, l, sole)

  pub named_kept : 1 ≤ tot (names_it o) (things_of k) → tot (dropped_by o) (things_of k) ≡ 0
  named_kept l = omega (arith, l, sole, few)

  -- what a `drop` names, no box does
  pub dropped_unnamed : 1 ≤ tot (dropped_by o) (things_of k) → is_named (sight k) (object_n o) ≡ false
  dropped_unnamed l = none (tot (names_it o) (things_of k)) (omega (arith, l, sole, few))
    where
      none : (n : ℕ) → n ≡ 0 → some n ≡ false
      none n z = ap some z

-- NAMES OF MUTEXES AND THREADS

module _ (k : Cluster) (sound : IsSound k) where
  counted : tot (threads (uncounted_thread (sight k))) (things_of k) + tot (named_mutexes (uncounted_mutex (sight k))) (things_of k) ≡ 0
  counted = sound.names.names_counted

  zeroth : tot (threads zeroth_thread) (things_of k) + tot (named_mutexes zeroth_mutex) (things_of k) ≡ 0
  zeroth = sound.names.counts_from_one

  pub mutex_given : (m : MutexNo) → ((f : MutexNo → ℕ) → f m ≤ tot (named_mutexes f) (things_of k)) → is_given_mutex (sight k) m ≡ true
  mutex_given m l = by (m.count == 0) (some (tot (made_at m.home m.count) (things_of k))) (omega (arith, zeroth, l zeroth_mutex)) (omega (arith, counted, l (uncounted_mutex (sight k))))
    where
      by : (a d : Bool) → one a ≡ 0 → other d ≡ 0 → not a && d ≡ true
      by false true z e = refl
      by false false z e = absurd (cc e)
      by true d z e = absurd (cc z)

  pub thread_given : (t : ℕ) → ((f : ℕ → ℕ) → f t ≤ tot (threads f) (things_of k)) → is_given_thread (sight k) t ≡ true
  thread_given t l =
      by (t == 0) (t % 2 ^ 32 == 0) (some (tot (started_at (home_of t) (t % 2 ^ 32)) (things_of k))) (omega (arith, zeroth, l zeroth_thread)) (omega (arith, counted, l (uncounted_thread (sight k))))
    where
      by : (a b d : Bool) → one (b && not a) ≡ 0 → other d ≡ 0 → a || (not b && d) ≡ true
      by true b d z e = refl
      by false true d z e = absurd (cc z)
      by false false true z e = refl
      by false false false z e = absurd (cc e)
