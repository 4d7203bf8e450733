-- Several threads over one heap that share no memory: typed states, and that no thread is ever stuck (Featherweight Rust's
-- progress and preservation, with this project's threads).
use Rattle.std.specs.Prelude.{◌≡◌, ℕ, ◌≤◌, ⊤, Bool, true, false, List, [], length, Option, Some, None}
use Rattle.fr_plain.specs.Below.fr_base.declared.step.Fresh.{Fresh}
use Rattle.fr_plain.specs.Below.fr_base.declared.step.Wait.TheVariants as wait
use Rattle.fr_plain.specs.Below.fr_terms.Terms.{block_t, Items}
use Rattle.fr_plain.specs.Below.fr_typing.Kinds.{Kind, own}
use Rattle.fr_plain.specs.Below.fr_typing.Places.{Env}
use Rattle.fr_plain.specs.Below.fr_typing.Typing.{Types}
use Rattle.fr_store.specs.Keys.{Key, slot_k, temp_k, content_k, result_k, hand_k}
use Rattle.fr_store.specs.Store.{Val, gone_v, Store}
use Rattle.fr_store.specs.ListState.{slot_value}
use Rattle.fr_store.specs.Typed.{owns, KeyTypes, Typed}
use Rattle.fr_store.specs.Below.{tree_of}
use Rattle.fr_store.specs.Local.{IsLocal}
use Rattle.fr_store.specs.Thread.{ThreadTyped}
use Rattle.fr_plain.specs.declared.value.Value.{Value}
use Rattle.fr_plain.specs.Run.{Run, Life, alive, over, owing, loose, ended}
use Rattle.fr_plain.specs.Threads.{result_of_life}
use Rattle.fr_plain.specs.Whole.{Thread, Whole, Stepped, thread_at, is_over, waits_for, step, refused, start}
use Rattle.fr_plain.specs.Resolve.{program}
use Rattle.fr_plain.specs.Below.fr_typing.Threaded.{IsThreaded}
use Rattle.fr_sound.specs.RunTypes.{threads, RunTypes, held}
use Rattle.fr_sound.specs.Seen.{Gives, vals, hand_of, heap_of, rank_of, IsKnown, AreKnown}

-- WHAT STANDS WHERE

-- the temporary value in a thread's running term
abbrev pub held_life : Life → Option Value
held_life (alive r) = held r
held_life over = None
held_life (owing r) = held r
held_life (loose r) = held r
held_life (ended v) = None

abbrev pub slot_in : Gives → ℕ → Option Thread → ℕ → Val
slot_in g t None i = gone_v
slot_in g t (Some x) i = slot_value (vals g t x.slots) i

abbrev pub hand_in : Gives → ℕ → Option Thread → Val
hand_in g t None = gone_v
hand_in g t (Some x) = hand_of g t (held_life x.life)

abbrev pub result_val : Gives → ℕ → Option Thread → Val
result_val g t None = gone_v
result_val g t (Some x) = hand_of g t (result_of_life x.life)

-- the threads' slots, temporary values and kept results
abbrev pub value_of_key : Gives → List Thread → Key → Val
value_of_key g ts (slot_k t i) = slot_in g t (thread_at ts t) i
value_of_key g ts (temp_k t n) = gone_v
value_of_key g ts (content_k h n) = gone_v
value_of_key g ts (result_k t) = result_val g t (thread_at ts t)
value_of_key g ts (hand_k t) = hand_in g t (thread_at ts t)

-- all threads, and the one heap
abbrev pub seen_all : Gives → Whole → Store
seen_all g s = record { at = value_of_key g s.threads; heap = heap_of g s.heap }

-- WHOSE TASKS ARE THERE

abbrev pub is_owed : Life → Bool
is_owed (alive r) = false
is_owed over = false
is_owed (owing r) = true
is_owed (loose r) = false
is_owed (ended v) = true

abbrev pub owed_by : Option Thread → Bool
owed_by None = false
owed_by (Some x) = is_owed x.life

-- somebody has the thread's task
abbrev pub owed_in : List Thread → ℕ → Bool
owed_in ts t = owed_by (thread_at ts t)

-- TYPED STATES

-- a running term over the store: it will end with no slot left
pub record IsRunning (g : Gives) (high : ℕ) (E : KeyTypes) (s : Store) (t : ℕ) (slots : List Value) (r : Run) (k : Kind) : Type 0 where
  pub env : Env
  pub temp : Option Kind
  pub types : RunTypes threads env temp r k []
  pub thread : ThreadTyped (slot_k t) (rank_of high) (hand_k t) env E s temp
  pub long : length slots ≡ length env
  pub low : length env ≤ high

-- a thread whose task somebody has ends with a result of the type that the task tells
abbrev pub IsTypedIn : Gives → ℕ → KeyTypes → Store → ℕ → List Value → Life → Type 0
IsTypedIn g high E s t slots (alive r) = (k : Kind) × IsRunning g high E s t slots r k
IsTypedIn g high E s t slots over = ⊤
IsTypedIn g high E s t slots (owing r) = IsRunning g high E s t slots r (own (g.result t))
IsTypedIn g high E s t slots (loose r) = (k : Kind) × IsRunning g high E s t slots r k
IsTypedIn g high E s t slots (ended v) = E (result_k t) ≡ owns (tree_of (g.result t))

-- no mutex was made, and no thread waits for a pair: the forms that run today make none
abbrev pub HasNeither : Whole → Type 0
HasNeither s = (s.mutexes ≡ []) × (s.pairs ≡ [])

-- all threads are typed over one typed store in which they share no memory, and a task that stands somewhere is that of a
-- thread that goes on or whose result is kept, and stands nowhere else
pub record AreTyped (s : Whole) : Type 0 where
  pub gives : Gives
  pub high : ℕ
  pub types : KeyTypes
  pub typed : Typed (rank_of high) types (seen_all gives s)
  pub local : IsLocal types
  pub known : AreKnown (IsKnown (owed_in s.threads) s.heap) (seen_all gives s)
  pub each : (t : ℕ) (x : Thread) → thread_at s.threads t ≡ Some x → IsTypedIn gives high types (seen_all gives s) t x.slots x.life
  pub neither : HasNeither s

-- THE LAWS

-- a typed state after a step of that thread
pub record StepsOn (s : Whole) (t : ℕ) (names : Fresh) : Type 0 where
  pub next : Stepped
  pub is : step s t names ≡ Some next
  pub typed : AreTyped next.state

-- a step that is not refused can be done, and leaves a typed state
abbrev pub NeverStuckTogether : Type 0
NeverStuckTogether = (s : Whole) → AreTyped s → (t : ℕ) (names : Fresh) → refused s t names ≡ None → StepsOn s t names

-- a thread waits for another one alone, which is there and has not ended
abbrev pub WaitsForLiving : Type 0
WaitsForLiving = (s : Whole) → AreTyped s → (t u : ℕ) (x : Thread) → thread_at s.threads t ≡ Some x → waits_for s x ≡ Some (wait.Join u) → (y : Thread) × (thread_at s.threads u ≡ Some y) × (is_over y.life ≡ false)

-- a thread has ended, waits for another one that has not, or steps under some names
pub data Stands (s : Whole) (t : ℕ) (x : Thread) : Type 0 where
  has_ended : is_over x.life ≡ true → Stands s t x
  is_waiting : (u : ℕ) (y : Thread) → waits_for s x ≡ Some (wait.Join u) → thread_at s.threads u ≡ Some y → is_over y.life ≡ false → Stands s t x
  is_going : (names : Fresh) → StepsOn s t names → Stands s t x

-- each thread stands in one of these three ways: none is stuck
abbrev pub OneOfThree : Type 0
OneOfThree = (s : Whole) → AreTyped s → (t : ℕ) (x : Thread) → thread_at s.threads t ≡ Some x → Stands s t x

-- a program of such forms that typing types starts typed
abbrev pub StartsTogether : Type 0
StartsTogether = (at : ℕ) (items : Items) (k : Kind) (e : Env) → IsThreaded (block_t at items) → Types [] (block_t at items) k e → AreTyped (start (program (block_t at items)))
