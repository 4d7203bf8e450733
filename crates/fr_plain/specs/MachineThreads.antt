-- The state of the plain machine over one heap: threads, mutexes and pairs of threads, and what goes with a dropped value (this
-- project's rules). P is the place of a thread in its program: a running term, or a place in a code with temporary values.
use Rattle.std.specs.Prelude.{ℕ, ℤ, zero, suc, Bool, true, false, is_some, ◌==◌, ◌&&◌, List, [], ◌∷◌, length, Option, Some, None, if◌then◌else◌}
use Rattle.fr_base.specs.Names.{same_mutex}
use Rattle.fr_base.specs.declared.label.Plain.{Plain}
use Rattle.fr_base.specs.declared.label.Plain.TheVariants as plain
use Rattle.fr_base.specs.declared.name.MutexNo.{MutexNo}
use Rattle.fr_plain.specs.declared.value.Value.{Value}
use Rattle.fr_plain.specs.declared.value.Value.TheVariants.{Own}
use Rattle.fr_plain.specs.Heap.{Heap}
use Rattle.fr_plain.specs.State.{State, slot_at, with_slot, gone, without}
use Rattle.fr_plain.specs.MachineActs.{Capture, Act, do_end, do_finish, do_leave, end_of}

-- WHERE A THREAD IS

-- a thread's work goes on, or it is done with a constant or with a temporary value
pub data Now : Type 0 where
  going : Now
  constant : Value → Now
  temporary : Value → Now

module _ {A : Type 0} where
  abbrev pub by_now : Now → A → (Value → A) → (Value → A) → A
  by_now going a f g = a
  by_now (constant v) a f g = f v
  by_now (temporary v) a f g = g v

  abbrev pub on_value : Now → (Value → A) → A → A
  on_value n f a = by_now n a f f

-- the next act, and what the place becomes with the value that the act leaves; neither sees the state
pub record Move (B : Type 0) (P : Type 0) : Type 0 where
  pub act : Act B
  pub plug : Value → P

module _ {B P Q : Type 0} where
  abbrev pub next : (P → Q) → Option (Move B P) → Option (Move B Q)
  next f None = None
  next f (Some m) = Some (record { act = m.act; plug = λ v. f (m.plug v) })

module _ {B P : Type 0} where
  abbrev pub alone : (Value → P) → Act B → Option (Move B P)
  alone f a = Some (record { act = a; plug = f })

-- how places move: whether a place's work is done, else its next act, and what needs no step
pub record Moves (P : Type 0) : Type 0 where
  pub now : P → Now
  pub move : P → Option (Move P P)
  pub settle : P → P

-- a thread: its place, or it has ended. The main thread is `alive` until it is `over`. Another thread is
-- `owing` as long as somebody has its task, and then `ended` with its result; it is `loose` once its task was dropped, and
-- nobody will have its result. It is `over` once its result was joined or dropped
pub data Life (P : Type 0) : Type 0 where
  alive : P → Life P
  over : Life P
  owing : P → Life P
  loose : P → Life P
  ended : Value → Life P

module _ {P : Type 0} (ms : Moves P) where
  abbrev pub settle_life : Life P → Life P
  settle_life (alive r) = alive (ms.settle r)
  settle_life over = over
  settle_life (owing r) = owing (ms.settle r)
  settle_life (loose r) = loose (ms.settle r)
  settle_life (ended v) = ended v

  abbrev pub life_move : Life P → Option (Move P (Life P))
  life_move (alive r) = on_value (ms.now r) (λ v. alone (λ x. over) (do_end v)) (next alive (ms.move r))
  life_move over = None
  life_move (owing r) = on_value (ms.now r) (λ v. alone ended (do_finish v)) (next owing (ms.move r))
  life_move (loose r) = on_value (ms.now r) (λ v. alone (λ x. over) (do_leave v)) (next loose (ms.move r))
  life_move (ended v) = None

-- CAPTURES

-- what a new thread's captures leave of the slots, and the new thread's slots
pub record Passed : Type 0 where
  pub left : List Value
  pub new : List Value

abbrev pub left_after : Bool → List Value → ℕ → List Value
left_after true slots i = with_slot slots i gone
left_after false slots i = slots

abbrev pub then_passed : Option Value → (Value → Option Passed) → Option Passed
then_passed None go = None
then_passed (Some v) go = go v

-- the captured values in order, the last one newest
abbrev pub pass : List Capture → List Value → List Value → Option Passed
pass [] slots new = Some (record { left = slots; new = new })
pass (c ∷ cs) slots new = then_passed (slot_at slots c.slot) (λ v. pass cs (left_after c.take slots c.slot) (v ∷ new))

-- THE STATE

-- a thread that was started
pub record Thread (P : Type 0) : Type 0 where
  pub number : ℕ
  pub life : Life P
  pub slots : List Value

-- a mutex with its content, where that is in, and the number of its shares
pub record Shared : Type 0 where
  pub content : Option Plain
  pub shares : ℕ

-- a mutex whose name was given; None where its last share is gone
pub record Mutex : Type 0 where
  pub number : MutexNo
  pub there : Option Shared

-- a thread that started two threads and waits for both
pub record Pair : Type 0 where
  pub parent : ℕ
  pub first : ℕ
  pub second : ℕ

pub record Whole (P : Type 0) : Type 0 where
  pub threads : List (Thread P)
  pub heap : Heap
  pub mutexes : List Mutex
  pub pairs : List Pair
  pub output : List ℤ

-- MUTEXES

-- None where the name wasn't given
abbrev pub mutex_at : List Mutex → MutexNo → Option Mutex
mutex_at [] n = None
mutex_at (x ∷ xs) n = if same_mutex x.number n then Some x else mutex_at xs n

abbrev there_in : Option Mutex → Option Shared
there_in None = None
there_in (Some x) = x.there

-- a mutex with a share
abbrev pub mutex_there : List Mutex → MutexNo → Option Shared
mutex_there xs n = there_in (mutex_at xs n)

abbrev pub with_mutex : List Mutex → MutexNo → Option Shared → List Mutex
with_mutex [] n new = []
with_mutex (x ∷ xs) n new = if same_mutex x.number n then record x { there = new } ∷ xs else x ∷ with_mutex xs n new

-- PAIRS

abbrev pub pair_of : List Pair → ℕ → Option Pair
pair_of [] t = None
pair_of (p ∷ ps) t = if p.parent == t then Some p else pair_of ps t

abbrev pub without_pair : List Pair → ℕ → List Pair
without_pair [] t = []
without_pair (p ∷ ps) t = if p.parent == t then without_pair ps t else p ∷ without_pair ps t

module _ {P : Type 0} where
  -- THREADS

  abbrev pub thread_at : List (Thread P) → ℕ → Option (Thread P)
  thread_at [] t = None
  thread_at (x ∷ xs) t = if x.number == t then Some x else thread_at xs t

  abbrev pub with_thread : List (Thread P) → Thread P → List (Thread P)
  with_thread [] new = []
  with_thread (x ∷ xs) new = if x.number == new.number then new ∷ xs else x ∷ with_thread xs new

  -- the name was given to a thread
  abbrev pub is_given : Whole P → ℕ → Bool
  is_given s t = is_some (thread_at s.threads t)

  abbrev pub result_of_life : Life P → Option Value
  result_of_life (ended v) = Some v
  result_of_life _ = None

  abbrev pub result_in : Option (Thread P) → Option Value
  result_in None = None
  result_in (Some x) = result_of_life x.life

  -- the result of a thread that has ended and was neither joined nor let go
  abbrev pub result_at : List (Thread P) → ℕ → Option Value
  result_at xs t = result_in (thread_at xs t)

  abbrev pub with_life : Thread P → Life P → Thread P
  with_life x l = record { number = x.number; life = l; slots = x.slots }

  -- the thread has ended, whether or not its result is kept
  abbrev pub is_over : Life P → Bool
  is_over over = true
  is_over (ended v) = true
  is_over (alive r) = false
  is_over (owing r) = false
  is_over (loose r) = false

  abbrev pub all_over : List (Thread P) → Bool
  all_over [] = true
  all_over (t ∷ ts) = is_over t.life && all_over ts

  -- one thread's slots and the heap
  abbrev pub state_of : Whole P → Thread P → State
  state_of s t = record { thread = t.number; slots = t.slots; heap = s.heap }

  -- WHAT GOES WITH A DROPPED VALUE

  -- a task lets its thread go, and a mutex value takes one share. The last share drops the content where that is in. A result
  -- or a content that goes may be a task or a mutex value again. None of this has a label

  -- a value goes with its boxes
  abbrev pub value_gone : (Whole P → Plain → Whole P) → Whole P → Value → Whole P
  value_gone go s v = go (record s { heap = without s.heap v }) (end_of s.heap v)

  -- a thread whose task is dropped: its result is dropped at once where it has ended, else at its end
  abbrev pub thread_released : (Whole P → Plain → Whole P) → Whole P → Thread P → Life P → Whole P
  thread_released go s x (owing r) = record s { threads = with_thread s.threads (with_life x (loose r)) }
  thread_released go s x (ended v) = value_gone go (record s { threads = with_thread s.threads (with_life x over) }) v
  thread_released go s x l = s

  abbrev pub thread_released_in : (Whole P → Plain → Whole P) → Whole P → Option (Thread P) → Whole P
  thread_released_in go s None = s
  thread_released_in go s (Some x) = thread_released go s x x.life

  abbrev pub content_gone : (Whole P → Plain → Whole P) → Whole P → Option Plain → Whole P
  content_gone go s None = s
  content_gone go s (Some v) = value_gone go s (Own v)

  -- one share less; the last one takes the content with it, where that is in
  abbrev pub share_gone : (Whole P → Plain → Whole P) → Whole P → MutexNo → Shared → ℕ → Whole P
  share_gone go s n x (suc (suc k)) = record s { mutexes = with_mutex s.mutexes n (Some (record x { shares = suc k })) }
  share_gone go s n x _ = content_gone go (record s { mutexes = with_mutex s.mutexes n None }) x.content

  abbrev pub share_released : (Whole P → Plain → Whole P) → Whole P → MutexNo → Option Shared → Whole P
  share_released go s n None = s
  share_released go s n (Some x) = share_gone go s n x x.shares

  -- at most so many threads and mutexes, one for another's result or content
  abbrev pub release_by : ℕ → Whole P → Plain → Whole P
  release_by k s plain.Nothing = s
  release_by k s plain.Unit = s
  release_by k s (plain.Int n) = s
  release_by k s (plain.Box o) = s
  release_by zero s (plain.Task t) = s
  release_by (suc k) s (plain.Task t) = thread_released_in (release_by k) s (thread_at s.threads t)
  release_by zero s (plain.Mutex n) = s
  release_by (suc k) s (plain.Mutex n) = share_released (release_by k) s n (mutex_there s.mutexes n)

  abbrev pub count_both : List Mutex → List (Thread P) → ℕ
  count_both [] ts = length ts
  count_both (m ∷ ms) ts = suc (count_both ms ts)

  -- no more threads and mutexes can go than there are
  abbrev pub release : Whole P → Plain → Whole P
  release s v = release_by (count_both s.mutexes s.threads) s v

  -- a value is dropped that stands nowhere any more
  abbrev pub dropped : Whole P → Plain → Whole P
  dropped s v = value_gone release s (Own v)
