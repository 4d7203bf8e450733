-- ALL RUNS OF A CODE, EXPLORED (this project's rule): each order of plain steps, but for the names that it gives. A new name is the first one that wasn't
-- given: threads are 0 (main), 1, 2 and so on, and mutexes 0.0, 0.1 and so on.
use Rattle.std.specs.Prelude.{◌≡◌, ⊤, ◌==◌, ◌&&◌, ◌+◌, ℕ, zero, suc, nat_lt, is_none, ℤ, Bool, true, false, List, [], ◌∷◌, length, map, slice_get, Option, Some, None}
use Rattle.std.specs.List.{list_all, flat_map}
use Rattle.std.specs.Ordering.{int_eq}
use Rattle.fr_base.specs.Names.{same_mutex}
use Rattle.fr_base.specs.declared.name.MutexNo.{MutexNo}
use Rattle.fr_base.specs.declared.instruction.Instr.{Instr}
use Rattle.fr_base.specs.declared.step.Fresh.{Fresh}
use Rattle.fr_base.specs.declared.step.Fresh.TheVariants as fresh
use Rattle.fr_base.specs.declared.step.Wait.{Wait}
use Rattle.fr_base.specs.declared.step.Wait.TheVariants as wait
use Rattle.fr_base.specs.declared.step.Ending3.{Ending3}
use Rattle.fr_base.specs.declared.step.Ending3.TheVariants.{Finished, Deadlocked, Going}
use Rattle.fr_base.specs.declared.name.ObjNo.{ObjNo}
use Rattle.fr_plain.specs.Heap.{live}
use Rattle.fr_plain.specs.MachineThreads.{Moves, Life, over, life_move, Thread, Mutex, Whole}
use Rattle.fr_plain.specs.Machine.{Stepped, Turn, Takes, no_name, a_thread, two_threads, a_mutex, takes_name, step, ending_of}
use Rattle.fr_plain.specs.PlainState.{Running, PlainState, plain_state}
use Rattle.fr_plain.specs.Run.{Run}
use Rattle.fr_plain.specs.SamePlain.{waits_at}
use Rattle.fr_code.specs.Steps.{Place, code_moves}
use Rattle.fr_code.specs.Machine.{CodeStepped, code_run, code_start}
use Rattle.fr_code.specs.StandsFor.{IsCodeOf}

-- THE NAMES OF AN ORDER

abbrev pub threads_of : Fresh → List ℕ
threads_of (fresh.Thread t) = t ∷ []
threads_of (fresh.Threads t u) = t ∷ u ∷ []
threads_of _ = []

abbrev pub mutexes_of : Fresh → List MutexNo
mutexes_of (fresh.Mutex m) = m ∷ []
mutexes_of _ = []

-- those of new threads, and those of new mutexes
abbrev pub threads_named : List Turn → List ℕ
threads_named order = flat_map (λ t. threads_of t.1) order

abbrev pub mutexes_named : List Turn → List MutexNo
mutexes_named order = flat_map (λ t. mutexes_of t.1) order

-- the names that a step may take where so many threads and so many mutexes were named: the next ones, or those before
abbrev pub up_to : ℕ → List ℕ
up_to zero = 0 ∷ []
up_to (suc k) = suc k ∷ up_to k

abbrev pub mutex_no : ℕ → MutexNo
mutex_no k = record { home = 0; count = k }

abbrev pub names_for : Takes → ℕ → ℕ → List Fresh
names_for no_name k m = fresh.None ∷ []
names_for a_thread k m = map (λ t. fresh.Thread t) (up_to k)
names_for two_threads k m = flat_map (λ t. map (λ u. fresh.Threads t u) (up_to (suc k))) (up_to k)
names_for a_mutex k m = map (λ n. fresh.Mutex (mutex_no n)) (up_to m)

-- STAGES

abbrev pub goes_on : Ending3 → Bool
goes_on Going = true
goes_on e = false

abbrev pub no_stage : {A : Type 0} → List A → Bool
no_stage [] = true
no_stage (x ∷ xs) = false

-- where a run is: how many threads, main among them, and mutexes were named, and the state
pub record Stage (P : Type 0) : Type 0 where
  pub threads : ℕ
  pub mutexes : ℕ
  pub state : Whole P

module _ {P : Type 0} where
  abbrev pub reached : Stage P → Fresh → Option (Stepped P) → List (Stage P)
  reached x names None = []
  reached x names (Some y) = record { threads = x.threads + length (threads_of names); mutexes = x.mutexes + length (mutexes_of names); state = y.state } ∷ []

module _ {P : Type 0} (ms : Moves P) where
  abbrev pub next_of : Stage P → Thread P → List (Stage P)
  next_of x t = flat_map (λ names. reached x names (step ms x.state t.number names)) (names_for (takes_name (life_move ms t.life)) x.threads x.mutexes)

  -- after one step of whatever thread
  abbrev pub next : Stage P → List (Stage P)
  next x = flat_map (next_of x) x.state.threads

  -- each run from there goes on for so many steps, and is then where the test holds
  abbrev pub after : ℕ → (Stage P → Bool) → Stage P → Bool
  after zero test x = test x
  after (suc k) test x = goes_on (ending_of ms x.state) && list_all (after k test) (next x)

-- ENDS

-- how a program ends: what it printed, and at the lock of which of its mutexes, in the order in which they were made, main waits
pub record End : Type 0 where
  pub ending : Ending3
  pub prints : List ℤ
  pub lock : Option ℕ

abbrev pub same_ending : Ending3 → Ending3 → Bool
same_ending Finished Finished = true
same_ending Deadlocked Deadlocked = true
same_ending _ _ = false

abbrev pub same_prints : List ℤ → List ℤ → Bool
same_prints [] [] = true
same_prints (i ∷ is) (j ∷ js) = int_eq i j && same_prints is js
same_prints _ _ = false

abbrev pub is_at_lock : Option ℕ → ℕ → Option Wait → Bool
is_at_lock None k None = true
is_at_lock (Some m) k (Some (wait.Lock n)) = nat_lt m k && same_mutex n (mutex_no m)
is_at_lock _ k _ = false

-- NOTHING LEFT

abbrev pub all_gone : List Mutex → Bool
all_gone [] = true
all_gone (x ∷ xs) = is_none x.there && all_gone xs

module _ {P : Type 0} where
  abbrev pub is_past : Life P → Bool
  is_past over = true
  is_past l = false

  abbrev pub all_past : List (Thread P) → Bool
  all_past [] = true
  all_past (x ∷ xs) = is_past x.life && all_past xs

  -- each thread is over and its result taken, and no object and no mutex is left
  abbrev pub is_bare : Whole P → Bool
  is_bare s = all_past s.threads && all_gone s.mutexes && live s.heap == 0

  -- in the plain state: no thread is at work or has a result, and no object and no mutex is there
  abbrev pub PastIn : Option (Life (Running P)) → Type 0
  PastIn None = ⊤
  PastIn (Some l) = l ≡ over

  pub record IsEmpty (s : PlainState P) : Type 0 where
    pub threads : (t : ℕ) → PastIn (s.thread t)
    pub objects : (o : ObjNo) → s.object o ≡ None
    pub mutexes : (m : MutexNo) → s.mutex m ≡ None

  abbrev pub empty_if : Ending3 → Whole P → Bool
  empty_if Finished s = is_bare s
  empty_if e s = true

module _ {P : Type 0} (ms : Moves P) where
  -- a run has come to this end: no step is left, and where it has finished nothing is
  abbrev pub ends : End → Stage P → Bool
  ends e x = same_ending e.ending (ending_of ms x.state) && same_prints e.prints x.state.output && is_at_lock e.lock x.mutexes (waits_at ms x.state 0) && empty_if e.ending x.state && no_stage (next ms x)

-- main alone, at the first instruction
abbrev pub code_stage : Stage Place
code_stage = record { threads = 1; mutexes = 0; state = code_start }

-- each run of the code has so many steps, and then comes to this end
abbrev pub all_end : List Instr → ℕ → End → Bool
all_end code n e = after (code_moves code) n (ends (code_moves code) e) code_stage

-- WHAT THAT SAYS OF RUNS, whatever names their orders give

-- a wait for the lock of that mutex
abbrev pub LocksAt : Option MutexNo → Option Wait → Type 0
LocksAt None w = ⊥
LocksAt (Some m) w = w ≡ Some (wait.Lock m)

-- for the lock of that one of these, or for nothing
abbrev pub WaitsSo : Option ℕ → List MutexNo → Option Wait → Type 0
WaitsSo None ns w = w ≡ None
WaitsSo (Some k) ns w = LocksAt (slice_get ns k) w

-- a state to which an order leads
pub record EndsSo {P : Type 0} (ms : Moves P) (n : ℕ) (e : End) (order : List Turn) (s : Whole P) : Type 0 where
  pub steps : length order ≡ n
  pub ending : ending_of ms s ≡ e.ending
  pub prints : s.output ≡ e.prints
  pub lock : WaitsSo e.lock (mutexes_named order) (waits_at ms s 0)
  pub empty : e.ending ≡ Finished → IsEmpty (plain_state s)

-- where all runs of one code of a program come to an end, so do those of each other code of it
abbrev pub AllEndSo : Type 0
AllEndSo =
    (r : Run) (code other : List Instr) (n : ℕ) (e : End) → IsCodeOf code r → IsCodeOf other r → all_end code n e ≡ true → (order : List Turn) (d : CodeStepped) → code_run other code_start order ≡ Some d
    → goes_on (ending_of (code_moves other) d.state) ≡ false → EndsSo (code_moves other) n e order d.state
