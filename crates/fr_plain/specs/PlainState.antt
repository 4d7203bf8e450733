-- THE PLAIN STATE: what a state of the plain machine shows, name by name, so that no order of lists counts (this project's rule). The
-- next steps, what threads wait for and whether they have ended depend on nothing else; what was printed is left out.
use Rattle.std.specs.Prelude.{◌≡◌, ℕ, Bool, false, is_some, List, length, Option, Some, None, if◌then◌else◌}
use Rattle.fr_base.specs.declared.label.Plain.{Plain}
use Rattle.fr_base.specs.declared.name.MutexNo.{MutexNo}
use Rattle.fr_base.specs.declared.name.ObjNo.{ObjNo}
use Rattle.fr_plain.specs.declared.value.Value.{Value}
use Rattle.fr_plain.specs.Heap.{made_by, cell_at}
use Rattle.fr_plain.specs.MachineThreads.{Life, alive, over, owing, loose, ended, Thread, Shared, Pair, Whole, thread_at, is_over, mutex_at, mutex_there, pair_of}

-- a thread that goes on: its place in the program, and its slots, the newest first
pub record Running (P : Type 0) : Type 0 where
  pub place : P
  pub slots : List Value

-- the threads whose names were given; of a thread that isn't over, how many objects it has made and for which two threads it waits; the objects and the
-- mutexes that are there, and the names of mutexes that were given
pub record PlainState (P : Type 0) : Type 0 where
  pub thread : ℕ → Option (Life (Running P))
  pub made : ℕ → ℕ
  pub pair : ℕ → Option (ℕ × ℕ)
  pub object : ObjNo → Option Plain
  pub mutex : MutexNo → Option Shared
  pub is_given : MutexNo → Bool

-- the two threads of a pair
abbrev pub two_of : Option Pair → Option (ℕ × ℕ)
two_of None = None
two_of (Some p) = Some (p.first, p.second)

module _ {P : Type 0} where
  -- two states are the same: they agree at each name
  pub record SameState (a b : PlainState P) : Type 0 where
    pub threads : (t : ℕ) → a.thread t ≡ b.thread t
    pub made : (t : ℕ) → a.made t ≡ b.made t
    pub pairs : (t : ℕ) → a.pair t ≡ b.pair t
    pub objects : (o : ObjNo) → a.object o ≡ b.object o
    pub mutexes : (m : MutexNo) → a.mutex m ≡ b.mutex m
    pub given : (m : MutexNo) → a.is_given m ≡ b.is_given m

  -- the place of a thread that goes on
  abbrev pub place_of : Life P → Option P
  place_of (alive p) = Some p
  place_of over = None
  place_of (owing p) = Some p
  place_of (loose p) = Some p
  place_of (ended v) = None

  abbrev pub place_in : Option (Life P) → Option P
  place_in None = None
  place_in (Some l) = place_of l

  -- OF A STATE OF THE MACHINE

  abbrev pub running : List Value → Life P → Life (Running P)
  running slots (alive p) = alive (record { place = p; slots = slots })
  running slots over = over
  running slots (owing p) = owing (record { place = p; slots = slots })
  running slots (loose p) = loose (record { place = p; slots = slots })
  running slots (ended v) = ended v

  abbrev pub running_in : Option (Thread P) → Option (Life (Running P))
  running_in None = None
  running_in (Some x) = Some (running x.slots x.life)

  abbrev pub is_over_in : Option (Thread P) → Bool
  is_over_in None = false
  is_over_in (Some x) = is_over x.life

  abbrev pub plain_state : Whole P → PlainState P
  plain_state s = record {
    thread = λ t. running_in (thread_at s.threads t);
    made = λ t. if is_over_in (thread_at s.threads t) then 0 else length (made_by s.heap t);
    pair = λ t. if is_over_in (thread_at s.threads t) then None else two_of (pair_of s.pairs t);
    object = λ o. cell_at s.heap o;
    mutex = λ m. mutex_there s.mutexes m;
    is_given = λ m. is_some (mutex_at s.mutexes m);
  }
