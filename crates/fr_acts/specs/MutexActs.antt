-- What an act on mutexes does to the plain state, from the parts of the code.
use Rattle.std.specs.Prelude.{◌≡◌, ℕ, ℤ, ⊤, List, ◌∷◌, None, Some, IsSome}
use Rattle.fr_base.specs.declared.label.Plain.{Plain}
use Rattle.fr_base.specs.declared.label.Plain.TheVariants as plain
use Rattle.fr_base.specs.declared.label.Label.{Label}
use Rattle.fr_base.specs.declared.name.MutexNo.{MutexNo}
use Rattle.fr_base.specs.declared.place.Lval.{Lval}
use Rattle.fr_base.specs.declared.step.Fresh.{Fresh}
use Rattle.fr_base.specs.declared.step.Fresh.TheVariants as fresh
use Rattle.fr_plain.specs.declared.value.Value.{Value}
use Rattle.fr_plain.specs.declared.value.Value.TheVariants.{Own, Held}
use Rattle.fr_plain.specs.Heap.{Heap}
use Rattle.fr_plain.specs.MachineThreads.{Mutex, Pair, mutex_at}
use Rattle.fr_plain.specs.Machine.{mutex_behind}
use Rattle.fr_plain.specs.State.{cell_of}
use Rattle.fr_plain.specs.Acts.{Act, do_mutex, do_dup, do_lock, do_unlock}
use Rattle.fr_plain.specs.Run.{Move, Life, settle_life}
use Rattle.fr_plain.specs.Threads.{Thread, Whole, with_thread, release, state_of}
use Rattle.fr_plain.specs.Whole.{done_act}
use Rattle.fr_shared.specs.declared.heap.Released.{Released}
use Rattle.fr_shared.specs.declared.heap.Released.TheVariants as released
use Rattle.fr_acts.specs.SlotOrder.{newest_first}
use Rattle.fr_acts.specs.Behind.{there_behind, content_behind}

-- what such an act sees and changes: the thread's slots (the newest last), the heap and the mutexes
pub record Part : Type 0 where
  pub slots : List Value
  pub heap : Heap
  pub mutexes : List Mutex

abbrev pub part : List Value → Heap → List Mutex → Part
part slots heap mutexes = record { slots = slots; heap = heap; mutexes = mutexes }

-- what else is there: all threads, the thread's own life, the pairs and the output
pub record Rest : Type 0 where
  pub threads : List Thread
  pub life : Life
  pub pairs : List Pair
  pub output : List ℤ

-- the plain state
abbrev pub whole_in : Rest → Part → Whole
whole_in x p = record { threads = x.threads; heap = p.heap; mutexes = p.mutexes; pairs = x.pairs; output = x.output }

-- the thread in it
abbrev pub thread_in : Rest → ℕ → Part → Thread
thread_in x t p = record { number = t; life = x.life; slots = newest_first p.slots }

-- the state where the thread goes on with the value of its step
abbrev pub goes_to : Rest → Move Life → ℕ → Value → Part → Whole
goes_to x m t v p = whole_in (record x { threads = with_thread x.threads (record { number = t; life = settle_life (m.plug v); slots = newest_first p.slots }) }) p

-- the value that goes last, as far as others have a part in it
abbrev pub last_of : Released → Plain
last_of released.Nothing = plain.Nothing
last_of (released.Task t) = plain.Task t
last_of (released.Share n) = plain.Mutex n

-- the thread's act with these new names is done: it leads from one part to the other with this value and these labels, and
-- lets go what goes last, whatever else is there
abbrev pub Leads : ℕ → Fresh → Act → Part → Part → Value → List Label → Released → Type 0
Leads t names a before after v labels last =
    (x : Rest) (m : Move Life) → done_act (whole_in x before) (thread_in x t before) names m a ≡ Some (record { state = release (goes_to x m t v after) (last_of last); labels = labels })

-- the newest slot is the content of a lock, above the lock's mark
abbrev pub IsLocked : List Value → Type 0
IsLocked (Own v ∷ Held n ∷ rest) = ⊤
IsLocked _ = ⊥

-- THE LAW

-- where the plain machine does the act, what the code asks for holds
pub record ActsGo : Type 0 where
  pub made : (s : Whole) (t : Thread) (m : Move Life) (n : MutexNo) (v : Value) → IsSome (done_act s t (fresh.Mutex n) m (do_mutex v)) → IsSome (cell_of v) × (mutex_at s.mutexes n ≡ None)
  pub dup : (s : Whole) (t : Thread) (m : Move Life) (w : Lval) → IsSome (done_act s t fresh.None m (do_dup w)) → IsSome (there_behind s.mutexes (mutex_behind (state_of s t) w))
  pub lock : (s : Whole) (t : Thread) (m : Move Life) (w : Lval) → IsSome (done_act s t fresh.None m (do_lock w)) → IsSome (content_behind s.mutexes (mutex_behind (state_of s t) w))
  pub unlock : (s : Whole) (t : Thread) (m : Move Life) → IsSome (done_act s t fresh.None m do_unlock) → IsLocked t.slots
