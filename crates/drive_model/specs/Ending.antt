-- How a cluster stands, and which of its threads wait (this project's rules): a thread that waits for a copy, an object or a share is
-- answered by a message, so only those at a lock, a join or a pair can wait for good.
use Rattle.std.specs.Prelude.{ℕ, ◌&&◌, ◌||◌, Bool, true, false, is_some, List, [], ◌∷◌}
use Rattle.fr_base.specs.declared.step.Wait.{Wait}
use Rattle.fr_base.specs.declared.step.Ending3.{Ending3}
use Rattle.fr_base.specs.declared.step.Ending3.TheVariants.{Finished, Deadlocked, Going}
use Rattle.thread_state.specs.View.{ThreadState, is_over}
use Rattle.thread_state.specs.declared.phase.Phase.{Phase}
use Rattle.thread_state.specs.declared.phase.Phase.TheVariants as phase
use Rattle.server_model.specs.Servers.{Server, Cluster}
use Rattle.server_model.specs.Questions.{wait_of, waits_among}

abbrev pub waits_in : List Server → List (ℕ × Wait)
waits_in [] = []
waits_in (s ∷ ss) = waits_among s.threads (waits_in ss)

-- all threads of a cluster that wait at a lock, a join or a pair, by rising thread, with what each waits for
abbrev pub waits : Cluster → List (ℕ × Wait)
waits k = waits_in k.servers

abbrev pub is_none : {X : Type 0} → List X → Bool
is_none [] = true
is_none (x ∷ xs) = false

-- no message waits, in an inbox or an outbox
abbrev pub no_message : List Server → Bool
no_message [] = true
no_message (s ∷ ss) = is_none s.rest.inbox && is_none s.rest.outbox && no_message ss

-- each of the threads passes the test
abbrev pub all_threads : (Phase → Bool) → List ThreadState → Bool
all_threads f [] = true
all_threads f (t ∷ ts) = f t.phase && all_threads f ts

abbrev pub all_in : (Phase → Bool) → List Server → Bool
all_in f [] = true
all_in f (s ∷ ss) = all_threads f s.threads && all_in f ss

-- over, or waiting at a lock, a join or a pair
abbrev pub is_stopped : Phase → Bool
is_stopped p = is_over p || is_some (wait_of p)

abbrev pub ending_of : (quiet over stopped : Bool) → Ending3
ending_of true true stopped = Finished
ending_of true false true = Deadlocked
ending_of quiet over stopped = Going

-- finished where all threads are over and no message waits; deadlocked where no message waits, some thread isn't over and each such
-- thread waits at a lock, a join or a pair; else it goes on
abbrev pub ending : Cluster → Ending3
ending k = ending_of (no_message k.servers) (all_in is_over k.servers) (all_in is_stopped k.servers)

abbrev pub is_going : Ending3 → Bool
is_going Going = true
is_going e = false
