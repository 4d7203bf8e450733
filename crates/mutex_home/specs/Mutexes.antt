-- The mutexes whose home a server is (this project's rules): the content goes to those that ask in the order in which they
-- asked, and a mutex without a share is gone once its content is in.
use Rattle.std.specs.Prelude.{ℕ, ◌+◌, ◌-◌, ◌^◌, Bool, ◌==◌, ◌&&◌, nat_lt, if◌then◌else◌, List, [], ◌∷◌, ◌++◌, Option, Some, None}
use Rattle.fr_base.specs.declared.name.MutexNo.{MutexNo}
use Rattle.fr_base.specs.Names.{same_mutex}
use Rattle.heap_partition.specs.declared.value.Owned.{Owned}
use Rattle.mutex_home.specs.declared.answers.Asked.{Asked}
use Rattle.mutex_home.specs.declared.answers.Asked.TheVariants.{Queued, Granted}
use Rattle.mutex_home.specs.declared.answers.Back.{Back}
use Rattle.mutex_home.specs.declared.answers.Back.TheVariants.{Next, Ended, Kept}

-- a mutex: its content where that is in, how many values of it there are, and who waits for the content: server and thread,
-- the first that asked first
pub record Mutex : Type 0 where
  pub number : MutexNo
  pub content : Option Owned
  pub shares : ℕ
  pub queue : List (ℕ × ℕ)

-- the mutexes that are there, by rising number, and how many were made at this server
pub record Mutexes : Type 0 where
  pub home : ℕ
  pub made : ℕ
  pub there : List Mutex

abbrev pub mutex_in : List Mutex → MutexNo → Option Mutex
mutex_in [] m = None
mutex_in (x ∷ xs) m = if same_mutex x.number m then Some x else mutex_in xs m

abbrev pub with_mutex : List Mutex → Mutex → List Mutex
with_mutex [] new = []
with_mutex (x ∷ xs) new = if same_mutex x.number new.number then new ∷ xs else x ∷ with_mutex xs new

abbrev pub without_mutex : List Mutex → MutexNo → List Mutex
without_mutex [] m = []
without_mutex (x ∷ xs) m = if same_mutex x.number m then xs else x ∷ without_mutex xs m

abbrev pub put_mutex : Mutexes → Mutex → Mutexes
put_mutex ms x = record ms { there = with_mutex ms.there x }

abbrev pub end_mutex : Mutexes → MutexNo → Mutexes
end_mutex ms m = record ms { there = without_mutex ms.there m }

-- the number of the next mutex
abbrev pub next_mutex : Mutexes → MutexNo
next_mutex ms = record { home = ms.home; count = ms.made + 1 }

abbrev pub can_make : Mutexes → Bool
can_make ms = nat_lt ms.made 4294967295

-- a new mutex with that content and one share
abbrev pub make : Mutexes → Owned → Mutexes
make ms v = record ms { made = ms.made + 1; there = ms.there ++ record { number = next_mutex ms; content = Some v; shares = 1; queue = [] } ∷ [] }

abbrev pub asked_of : Mutexes → ℕ → ℕ → Option Owned → Mutex → Mutexes × Asked
asked_of ms server thread None x = (put_mutex ms (record x { queue = x.queue ++ (server, thread) ∷ [] }), Queued)
asked_of ms server thread (Some v) x = (put_mutex ms (record x { content = None }), Granted v)

abbrev pub asked_in : Mutexes → ℕ → ℕ → Option Mutex → Option (Mutexes × Asked)
asked_in ms server thread None = None
asked_in ms server thread (Some x) = Some (asked_of ms server thread x.content x)

-- a thread at that server asks for the content; None where the mutex isn't there
abbrev pub ask : Mutexes → MutexNo → ℕ → ℕ → Option (Mutexes × Asked)
ask ms m server thread = asked_in ms server thread (mutex_in ms.there m)

-- nobody waits: the content is in, unless no share is left
abbrev pub unclaimed : Mutexes → Owned → Mutex → Mutexes × Back
unclaimed ms v x = if x.shares == 0 then (end_mutex ms x.number, Ended v) else (put_mutex ms (record x { content = Some v }), Kept)

abbrev pub back_to : Mutexes → Owned → Mutex → List (ℕ × ℕ) → Mutexes × Back
back_to ms v x [] = unclaimed ms v x
back_to ms v x (first ∷ rest) = (put_mutex ms (record x { queue = rest }), Next first.0 first.1 v)

abbrev pub back_out : Mutexes → Owned → Mutex → Option Owned → Option (Mutexes × Back)
back_out ms v x None = Some (back_to ms v x x.queue)
back_out ms v x (Some inside) = None

abbrev pub back_in : Mutexes → Owned → Option Mutex → Option (Mutexes × Back)
back_in ms v None = None
back_in ms v (Some x) = back_out ms v x x.content

-- the content comes back; None where the mutex isn't there or its content is in
abbrev pub give_back : Mutexes → MutexNo → Owned → Option (Mutexes × Back)
give_back ms m v = back_in ms v (mutex_in ms.there m)

abbrev pub more_in : Mutexes → Option Mutex → Option Mutexes
more_in ms None = None
more_in ms (Some x) = if nat_lt 0 x.shares && nat_lt x.shares (2 ^ 64 - 1) then Some (put_mutex ms (record x { shares = x.shares + 1 })) else None

-- one share more; None where the mutex isn't there or has no share
abbrev pub more : Mutexes → MutexNo → Option Mutexes
more ms m = more_in ms (mutex_in ms.there m)

-- the last share ends the mutex where the content is in
abbrev pub last_less : Mutexes → Mutex → Option Owned → Mutexes × Option Owned
last_less ms x None = (put_mutex ms (record x { shares = 0 }), None)
last_less ms x (Some v) = (end_mutex ms x.number, Some v)

abbrev pub less_of : Mutexes → Mutex → Mutexes × Option Owned
less_of ms x = if x.shares == 1 then last_less ms x x.content else (put_mutex ms (record x { shares = x.shares - 1 }), None)

abbrev pub less_in : Mutexes → Option Mutex → Option (Mutexes × Option Owned)
less_in ms None = None
less_in ms (Some x) = if nat_lt 0 x.shares then Some (less_of ms x) else None

-- one share less, and the content where this was the last share and the content is in; None where the mutex isn't there or has
-- no share
abbrev pub less : Mutexes → MutexNo → Option (Mutexes × Option Owned)
less ms m = less_in ms (mutex_in ms.there m)
