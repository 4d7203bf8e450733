-- The plain machine whole: steps of a thread under an order, refusals, and runs.
use Rattle.std.specs.Prelude.{ℕ, ℤ, zero, suc, ◌+◌, Bool, true, false, is_some, ◌==◌, ◌&&◌, ◌||◌, List, [], ◌∷◌, ◌++◌, Option, Some, None, if◌then◌else◌}
use Rattle.fr_base.specs.declared.name.MutexNo.{MutexNo}
use Rattle.fr_base.specs.declared.place.Lval.{Lval}
use Rattle.fr_base.specs.declared.label.Plain.{Plain}
use Rattle.fr_base.specs.declared.label.Plain.TheVariants.{Task, Mutex as MutexValue}
use Rattle.fr_base.specs.declared.label.Label.{Label}
use Rattle.fr_base.specs.declared.label.Label.TheVariants as label
use Rattle.fr_base.specs.declared.step.Fresh.{Fresh}
use Rattle.fr_base.specs.declared.step.Fresh.TheVariants as fresh
use Rattle.fr_base.specs.declared.step.Wait.{Wait}
use Rattle.fr_base.specs.declared.step.Wait.TheVariants as wait
use Rattle.fr_base.specs.declared.step.Ending3.{Ending3}
use Rattle.fr_base.specs.declared.step.Ending3.TheVariants as ending
use Rattle.fr_plain.specs.declared.value.Value.{Value}
use Rattle.fr_plain.specs.declared.value.Value.TheVariants.{Own, Held}
use Rattle.fr_plain.specs.State.{State, loads, Reached, then_reached, locate, value_at}
use Rattle.fr_plain.specs.MachineActs.{Capture, Act, do_spawn, do_join, do_mutex, do_dup, do_lock, do_unlock, do_par, do_par_end, Did, act, unit, drops_last}
use Rattle.fr_plain.specs.MachineThreads.{Move, Moves, Life, alive, over, owing, settle_life, life_move, Passed, pass, Thread, Shared, Pair, Whole, mutex_at, mutex_there, with_mutex, pair_of, without_pair, thread_at, with_thread, is_given, result_at, with_life, is_over, all_over, state_of, release, dropped}

-- the numbers that these labels print
abbrev pub prints : List Label → List ℤ
prints [] = []
prints (label.Print n ∷ ls) = n ∷ prints ls
prints (l ∷ ls) = prints ls

-- a state and the labels that led to it
pub record Stepped (P : Type 0) : Type 0 where
  pub state : Whole P
  pub labels : List Label

abbrev pub is_nameless : Fresh → Bool
is_nameless fresh.None = true
is_nameless _ = false

-- why a thread can't step with these names
pub data Refusal : Type 0 where
  no_thread : Refusal
  has_ended : Refusal
  waits : Wait → Refusal
  name_kind : Refusal
  name_used : Refusal

-- one step of an order: of which thread, and with which new names
abbrev pub Turn : Type 0
Turn = ℕ × Fresh

-- so many steps of the main thread, none with a name
abbrev pub main_steps : ℕ → List Turn
main_steps zero = []
main_steps (suc k) = (0, fresh.None) ∷ main_steps k

abbrev pub refused_wait : Option Wait → Option Refusal → Option Refusal
refused_wait (Some w) other = Some (waits w)
refused_wait None other = other

-- the names that a step takes
pub data Takes : Type 0 where
  no_name : Takes
  a_thread : Takes
  two_threads : Takes
  a_mutex : Takes

-- the mutex whose value stands at a place, and the loads of a read there
abbrev pub mutex_value : Reached → Option Value → Option (MutexNo × List Label)
mutex_value r (Some (Own (MutexValue n))) = Some (n, r.passed ++ loads r.spot (Own (MutexValue n)))
mutex_value r _ = None

abbrev pub mutex_behind : State → Lval → Option (MutexNo × List Label)
mutex_behind s w = then_reached (locate s w) (λ r. mutex_value r (value_at s r.spot))

abbrev pub unless_some : Option Value → Wait → Option Wait
unless_some None w = Some w
unless_some (Some v) w = None

abbrev pub unless_both : Option Value → Option Value → Wait → Option Wait
unless_both (Some v) (Some w) x = None
unless_both v w x = Some x

abbrev pub unless_in : Option Plain → MutexNo → Option Wait
unless_in None n = Some (wait.Lock n)
unless_in (Some v) n = None

abbrev pub content_waits : Option Shared → MutexNo → Option Wait
content_waits None n = None
content_waits (Some x) n = unless_in x.content n

module _ {P : Type 0} where
  -- what the dropped value had at its end is let go
  abbrev pub then_released : Plain → Option (Stepped P) → Option (Stepped P)
  then_released v None = None
  then_released v (Some x) = Some (record { state = release x.state v; labels = x.labels })

  abbrev pub nameless : Fresh → Option (Stepped P) → Option (Stepped P)
  nameless names x = if is_nameless names then x else None

  -- WAITING

  -- a join waits until the thread has ended
  abbrev pub join_waits : Whole P → Value → Option Wait
  join_waits s (Own (Task t)) = unless_some (result_at s.threads t) (wait.Join t)
  join_waits s _ = None

  -- a lock waits until the content is in
  abbrev pub lock_waits : Whole P → Option (MutexNo × List Label) → Option Wait
  lock_waits s None = None
  lock_waits s (Some p) = content_waits (mutex_there s.mutexes p.0) p.0

  -- the end of a pair waits until both have ended
  abbrev pub pair_waits : Whole P → Option Pair → Option Wait
  pair_waits s None = None
  pair_waits s (Some p) = unless_both (result_at s.threads p.first) (result_at s.threads p.second) (wait.Par p.first p.second)

  abbrev pub act_waits : Whole P → Thread P → Act P → Option Wait
  act_waits s t (do_join v) = join_waits s v
  act_waits s t (do_lock w) = lock_waits s (mutex_behind (state_of s t) w)
  act_waits s t do_par_end = pair_waits s (pair_of s.pairs t.number)
  act_waits s t _ = None

  abbrev pub move_waits : Whole P → Thread P → Option (Move P (Life P)) → Option Wait
  move_waits s t None = None
  move_waits s t (Some m) = act_waits s t m.act

  -- NAMES

  abbrev pub takes_of : Act P → Takes
  takes_of (do_spawn cs r) = a_thread
  takes_of (do_par cs r ds q) = two_threads
  takes_of (do_mutex v) = a_mutex
  takes_of _ = no_name

  -- which names the next step takes
  abbrev pub takes_name : Option (Move P (Life P)) → Takes
  takes_name None = no_name
  takes_name (Some m) = takes_of m.act

  abbrev pub refused_names : Whole P → Takes → Fresh → Option Refusal
  refused_names s no_name fresh.None = None
  refused_names s a_thread (fresh.Thread u) = if is_given s u then Some name_used else None
  refused_names s two_threads (fresh.Threads u v) = if u == v || is_given s u || is_given s v then Some name_used else None
  refused_names s a_mutex (fresh.Mutex n) = if is_some (mutex_at s.mutexes n) then Some name_used else None
  refused_names s _ _ = Some name_kind

  abbrev pub then_labels : List Label → Option (Stepped P) → Option (Stepped P)
  then_labels ls None = None
  then_labels ls (Some x) = Some (record { state = x.state; labels = ls ++ x.labels })

  abbrev pub go_on : Option (Stepped P) → (Whole P → Option (Stepped P)) → Option (Stepped P)
  go_on None f = None
  go_on (Some x) f = then_labels x.labels (f x.state)

module _ {P : Type 0} (ms : Moves P) where
  -- A STEP

  -- the thread goes on with what its term became, and what needs no step has vanished
  abbrev pub stepped : Whole P → Thread P → Move P (Life P) → Option Did → Option (Stepped P)
  stepped s t m None = None
  stepped s t m (Some d) =
      Some (record {
        state = record s { threads = with_thread s.threads (record { number = t.number; life = settle_life ms (m.plug d.value); slots = d.state.slots }); heap = d.state.heap; output = s.output ++ prints d.labels };
        labels = d.labels;
      })

  -- an act of the thread alone
  abbrev pub alone_stepped : Whole P → Thread P → Move P (Life P) → Act P → Option (Stepped P)
  alone_stepped s t m a = then_released (drops_last a (state_of s t)) (stepped s t m (act a (state_of s t)))

  -- a new thread with the captured values as slots; its task is the value of the step
  abbrev pub started_with : Whole P → Thread P → Move P (Life P) → P → ℕ → Option Passed → Option (Stepped P)
  started_with s t m r u None = None
  started_with s t m r u (Some p) =
      Some (record {
        state = record s { threads = with_thread s.threads (record { number = t.number; life = settle_life ms (m.plug (Own (Task u))); slots = p.left }) ++ record { number = u; life = owing (ms.settle r); slots = p.new } ∷ [] };
        labels = label.Start u ∷ [];
      })

  -- under a new name
  abbrev pub started : Whole P → Thread P → Move P (Life P) → Fresh → P → (List Value → Option Passed) → Option (Stepped P)
  started s t m (fresh.Thread u) r passed = if is_given s u then None else started_with s t m r u (passed t.slots)
  started s t m _ r passed = None

  -- the value of the step is the result of the other thread, which is over
  abbrev pub joined_with : Whole P → Thread P → Move P (Life P) → Option (Thread P) → Option Value → Option (Stepped P)
  joined_with s t m (Some x) (Some v) =
      Some (record { state = record s { threads = with_thread (with_thread s.threads (with_life x over)) (record { number = t.number; life = settle_life ms (m.plug v); slots = t.slots }) }; labels = [] })
  joined_with s t m _ _ = None

  abbrev pub joined : Whole P → Thread P → Move P (Life P) → Value → Option (Stepped P)
  joined s t m (Own (Task u)) = joined_with s t m (thread_at s.threads u) (result_at s.threads u)
  joined s t m _ = None

  -- the thread goes on with the value of its step and with these slots
  abbrev pub goes_on : Whole P → Thread P → Move P (Life P) → Value → List Value → Whole P
  goes_on s t m v slots = record s { threads = with_thread s.threads (record { number = t.number; life = settle_life ms (m.plug v); slots = slots }) }

  -- MUTEXES

  -- the name of a new mutex; it has its content and one share
  abbrev pub made : Whole P → Thread P → Move P (Life P) → Fresh → Value → Option (Stepped P)
  made s t m (fresh.Mutex n) (Own v) =
      if is_some (mutex_at s.mutexes n)
      then None
      else Some (record { state = record (goes_on s t m (Own (MutexValue n)) t.slots) { mutexes = s.mutexes ++ record { number = n; there = Some (record { content = Some v; shares = 1 }) } ∷ [] }; labels = [] })
  made s t m _ _ = None

  abbrev pub where_there : Option Shared → (Shared → Option (Stepped P)) → Option (Stepped P)
  where_there None go = None
  where_there (Some x) go = go x

  -- a step at the mutex of a place, with the loads on the way to it
  abbrev pub at_mutex : Whole P → Option (MutexNo × List Label) → (MutexNo → List Label → Shared → Option (Stepped P)) → Option (Stepped P)
  at_mutex s None go = None
  at_mutex s (Some p) go = where_there (mutex_there s.mutexes p.0) (go p.0 p.1)

  abbrev pub at_place : Whole P → Thread P → Lval → (MutexNo → List Label → Shared → Option (Stepped P)) → Option (Stepped P)
  at_place s t w go = at_mutex s (mutex_behind (state_of s t) w) go

  -- one share more
  abbrev pub shared : Whole P → Thread P → Move P (Life P) → MutexNo → List Label → Shared → Option (Stepped P)
  shared s t m n ls x =
      Some (record { state = record (goes_on s t m (Own (MutexValue n)) t.slots) { mutexes = with_mutex s.mutexes n (Some (record x { shares = x.shares + 1 })) }; labels = ls })

  -- where the content is in, it is taken out: its slot comes behind the mark of the lock
  abbrev pub locked_with : Whole P → Thread P → Move P (Life P) → MutexNo → List Label → Shared → Option Plain → Option (Stepped P)
  locked_with s t m n ls x None = None
  locked_with s t m n ls x (Some v) =
      Some (record { state = record (goes_on s t m unit (Own v ∷ Held n ∷ t.slots)) { mutexes = with_mutex s.mutexes n (Some (record x { content = None })) }; labels = ls ++ label.Lock n ∷ [] })

  abbrev pub locked : Whole P → Thread P → Move P (Life P) → MutexNo → List Label → Shared → Option (Stepped P)
  locked s t m n ls x = locked_with s t m n ls x x.content

  -- the content is in again; where no share is left, it is dropped
  abbrev pub given_back : Whole P → MutexNo → Plain → Option Shared → Whole P
  given_back s n v (Some x) = record s { mutexes = with_mutex s.mutexes n (Some (record x { content = Some v })) }
  given_back s n v None = dropped s v

  -- the last slot's value goes back, and both slots go
  abbrev pub unlocked : Whole P → Thread P → Move P (Life P) → List Value → Option (Stepped P)
  unlocked s t m (Own v ∷ Held n ∷ rest) = Some (record { state = given_back (goes_on s t m unit rest) n v (mutex_there s.mutexes n); labels = label.Unlock n ∷ [] })
  unlocked s t m _ = None

  -- PAIRS OF THREADS

  -- both start with the captured values as slots, the second list's from what the first one leaves
  abbrev pub two_with : Whole P → Thread P → Move P (Life P) → ℕ → P → List Value → ℕ → P → Option Passed → Option (Stepped P)
  two_with s t m a p first b q None = None
  two_with s t m a p first b q (Some x) =
      Some (record {
        state = record s {
          threads = with_thread s.threads (record { number = t.number; life = settle_life ms (m.plug unit); slots = x.left })
              ++ record { number = a; life = owing (ms.settle p); slots = first } ∷ record { number = b; life = owing (ms.settle q); slots = x.new } ∷ [];
          pairs = record { parent = t.number; first = a; second = b } ∷ s.pairs;
        };
        labels = label.Start a ∷ label.Start b ∷ [];
      })

  abbrev pub second_of : Whole P → Thread P → Move P (Life P) → ℕ → P → List Capture → ℕ → P → Option Passed → Option (Stepped P)
  second_of s t m a p ds b q None = None
  second_of s t m a p ds b q (Some x) = two_with s t m a p x.new b q (pass ds x.left [])

  -- two new names, the first list's first
  abbrev pub two_started : Whole P → Thread P → Move P (Life P) → Fresh → List Capture → P → List Capture → P → Option (Stepped P)
  two_started s t m (fresh.Threads a b) cs p ds q = if a == b || is_given s a || is_given s b then None else second_of s t m a p ds b q (pass cs t.slots [])
  two_started s t m _ cs p ds q = None

  abbrev pub taken : List (Thread P) → Option (Thread P) → List (Thread P)
  taken ts None = ts
  taken ts (Some x) = with_thread ts (with_life x over)

  -- the results of both are taken
  abbrev pub pair_over : Whole P → Pair → List (Thread P)
  pair_over s p = taken (taken s.threads (thread_at s.threads p.first)) (thread_at s.threads p.second)

  -- where both have ended
  abbrev pub two_ended : Whole P → Thread P → Move P (Life P) → Pair → Option Value → Option Value → Option (Stepped P)
  two_ended s t m p (Some v) (Some w) = Some (record { state = record (goes_on (record s { threads = pair_over s p }) t m unit t.slots) { pairs = without_pair s.pairs t.number }; labels = [] })
  two_ended s t m p _ _ = None

  abbrev pub two_joined : Whole P → Thread P → Move P (Life P) → Option Pair → Option (Stepped P)
  two_joined s t m None = None
  two_joined s t m (Some p) = two_ended s t m p (result_at s.threads p.first) (result_at s.threads p.second)

  -- ALL ACTS

  -- starting a thread takes one new thread name, a pair two, a new mutex one new mutex name, and no other step takes a name
  abbrev pub done_act : Whole P → Thread P → Fresh → Move P (Life P) → Act P → Option (Stepped P)
  done_act s t names m (do_spawn cs r) = started s t m names r (λ slots. pass cs slots [])
  done_act s t names m (do_join v) = nameless names (joined s t m v)
  done_act s t names m (do_mutex v) = made s t m names v
  done_act s t names m (do_dup w) = nameless names (at_place s t w (shared s t m))
  done_act s t names m (do_lock w) = nameless names (at_place s t w (locked s t m))
  done_act s t names m do_unlock = nameless names (unlocked s t m t.slots)
  done_act s t names m (do_par cs p ds q) = two_started s t m names cs p ds q
  done_act s t names m do_par_end = nameless names (two_joined s t m (pair_of s.pairs t.number))
  done_act s t names m a = nameless names (alone_stepped s t m a)

  abbrev pub moved : Whole P → Thread P → Fresh → Option (Move P (Life P)) → Option (Stepped P)
  moved s t names None = None
  moved s t names (Some m) = done_act s t names m m.act

  abbrev pub step_of : Whole P → Fresh → Option (Thread P) → Option (Stepped P)
  step_of s names None = None
  step_of s names (Some t) = moved s t names (life_move ms t.life)

  -- one step of that thread with these new names; None where it isn't an enabled step
  abbrev pub step : Whole P → ℕ → Fresh → Option (Stepped P)
  step s t names = step_of s names (thread_at s.threads t)

  -- WAITING

  -- what the thread waits for, where its next step isn't enabled
  abbrev pub waits_for : Whole P → Thread P → Option Wait
  waits_for s t = move_waits s t (life_move ms t.life)

  abbrev pub all_wait : Whole P → List (Thread P) → Bool
  all_wait s [] = true
  all_wait s (t ∷ ts) = (is_over t.life || is_some (waits_for s t)) && all_wait s ts

  -- REFUSALS

  abbrev pub refused_of : Whole P → Fresh → Option (Thread P) → Option Refusal
  refused_of s names None = Some no_thread
  refused_of s names (Some t) = if is_over t.life then Some has_ended else refused_wait (waits_for s t) (refused_names s (takes_name (life_move ms t.life)) names)

  -- the first reason, in this order
  abbrev pub refused : Whole P → ℕ → Fresh → Option Refusal
  refused s t names = refused_of s names (thread_at s.threads t)

  -- RUNS

  -- the steps of an order; None from the first on that isn't enabled
  abbrev pub run : Whole P → List Turn → Option (Stepped P)
  run s [] = Some (record { state = s; labels = [] })
  run s (t ∷ ts) = go_on (step s t.0 t.1) (λ x. run x ts)

  -- the main thread alone, at the start of its term
  abbrev pub start : P → Whole P
  start r = record { threads = record { number = 0; life = alive (ms.settle r); slots = [] } ∷ []; heap = record { thread = 0; cells = [] } ∷ []; mutexes = []; pairs = []; output = [] }

  -- the plain run of a program under an order
  abbrev pub plain : P → List Turn → Option (Stepped P)
  plain r order = run (start r) order

  -- finished where all threads have ended, deadlocked where each other one waits, else going
  abbrev pub ending_of : Whole P → Ending3
  ending_of s = if all_over s.threads then ending.Finished else if all_wait s s.threads then ending.Deadlocked else ending.Going
