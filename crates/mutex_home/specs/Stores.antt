-- What the parts of a home's store stand for.
use Rattle.std.specs.Prelude.{ℕ, zero, suc, ◌+◌, ◌==◌, if◌then◌else◌, List, [], ◌∷◌, ◌++◌, Option, None, Some}
use Rattle.fr_base.specs.declared.name.MutexNo.{MutexNo}
use Rattle.slab.specs.Slab.{get}
use Rattle.mutex_home.specs.Mutexes.{Mutex, mutex_in, with_mutex}
use Rattle.mutex_home.specs.Queues.{queue_at}
use Rattle.mutex_home.specs.declared.parts.Entry.{Entry}
use Rattle.mutex_home.specs.declared.parts.Store.{Store}

-- who waits for the content of the mutex with that count, the first that asked first
abbrev pub queue_of : List (List (ℕ × ℕ)) → ℕ → List (ℕ × ℕ)
queue_of lists zero = []
queue_of lists (suc i) = queue_at lists i

abbrev pub mutex_of : MutexNo → List (List (ℕ × ℕ)) → Entry → Mutex
mutex_of m lists e = record { number = m; content = e.content; shares = e.shares; queue = queue_of lists m.count }

-- the mutex with that count, where its key leads to this: keys are used again, and counts aren't
abbrev pub mutex_at : ℕ → List (List (ℕ × ℕ)) → ℕ → Option Entry → Option Mutex
mutex_at home lists count None = None
mutex_at home lists count (Some e) = if e.count == count then Some (mutex_of (record { home = home; count = count }) lists e) else None

abbrev pub listed : Option Mutex → List Mutex → List Mutex
listed None xs = xs
listed (Some x) xs = x ∷ xs

-- the mutexes of these keys, of which the first is that of this count
abbrev pub mutexes_by : (ℕ → ℕ → Option Mutex) → ℕ → List ℕ → List Mutex
mutexes_by at count [] = []
mutexes_by at count (key ∷ keys) = listed (at count key) (mutexes_by at (count + 1) keys)

abbrev pub mutexes_in : Store → List Mutex
mutexes_in s = mutexes_by (λ count key. mutex_at s.home s.waits.lists count (get s.entries key)) 1 s.keys.items

-- one more waits for a mutex
abbrev pub queued_at : List Mutex → ℕ × ℕ → Option Mutex → List Mutex
queued_at xs by None = xs
queued_at xs by (Some x) = with_mutex xs (record x { queue = x.queue ++ by ∷ [] })

abbrev pub queued : List Mutex → MutexNo → ℕ × ℕ → List Mutex
queued xs m by = queued_at xs by (mutex_in xs m)

-- the first that waits for a mutex waits no longer
abbrev pub first_from : List Mutex → Mutex → List (ℕ × ℕ) → List Mutex × Option (ℕ × ℕ)
first_from xs x [] = (xs, None)
first_from xs x (first ∷ rest) = (with_mutex xs (record x { queue = rest }), Some first)

abbrev pub first_at : List Mutex → Option Mutex → List Mutex × Option (ℕ × ℕ)
first_at xs None = (xs, None)
first_at xs (Some x) = first_from xs x x.queue

abbrev pub first_out : List Mutex → MutexNo → List Mutex × Option (ℕ × ℕ)
first_out xs m = first_at xs (mutex_in xs m)
