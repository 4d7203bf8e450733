-- What a server tells of itself (this project's rules): which eviction is due, which threads can step, wait, may be moved or aren't over.
use Rattle.std.specs.Prelude.{if◌then◌else◌, ℕ, ◌+◌, ◌&&◌, not, nat_lt, List, [], ◌∷◌, length, Option, Some, None}
use Rattle.fr_base.specs.declared.settings.Options.{Options}
use Rattle.fr_base.specs.declared.step.Wait.{Wait}
use Rattle.fr_base.specs.declared.step.Wait.TheVariants as wait
use Rattle.place_walk.specs.Below.read_cache.Cache.{oldest_unused}
use Rattle.place_walk.specs.Below.thread_state.View.{ThreadState, is_over}
use Rattle.place_walk.specs.Below.thread_state.declared.phase.Phase.{Phase}
use Rattle.place_walk.specs.Below.thread_state.declared.phase.Phase.TheVariants as phase
use Rattle.server_model.specs.Servers.{Server}
use Rattle.server_model.specs.Events.{can_step, is_ready}

-- a cache that holds more words than it is to keep gives up the oldest that nobody uses
abbrev pub due : Options → Server → Option ℕ
due o s = if nat_lt o.cache (length s.rest.cache) then oldest_unused s.rest.cache else None

-- the threads that can step, by rising number
abbrev pub runnable_in : List ThreadState → List ℕ
runnable_in [] = []
runnable_in (t ∷ ts) = if can_step t.phase then t.number ∷ runnable_in ts else runnable_in ts

abbrev pub runnable : Server → List ℕ
runnable s = runnable_in s.threads

-- what a thread waits for at a lock, a join or a pair
abbrev pub wait_of : Phase → Option Wait
wait_of (phase.WaitLock m) = Some (wait.Lock m)
wait_of (phase.WaitJoin t) = Some (wait.Join t)
wait_of (phase.WaitPar a b) = Some (wait.Par a b)
wait_of p = None

-- a thread with what it waits for, among others by rising thread
abbrev pub add_wait : ℕ → Option Wait → List (ℕ × Wait) → List (ℕ × Wait)
add_wait t None ws = ws
add_wait t (Some w) [] = (t, w) ∷ []
add_wait t (Some w) (x ∷ xs) = if nat_lt t x.0 then (t, w) ∷ x ∷ xs else x ∷ add_wait t (Some w) xs

abbrev pub waits_among : List ThreadState → List (ℕ × Wait) → List (ℕ × Wait)
waits_among [] ws = ws
waits_among (t ∷ ts) ws = add_wait t.number (wait_of t.phase) (waits_among ts ws)

abbrev pub active_in : List ThreadState → ℕ
active_in [] = 0
active_in (t ∷ ts) = if is_over t.phase then active_in ts else 1 + active_in ts

-- the load of a server: the threads that stand there and aren't over; parcels under way don't count
abbrev pub active : Server → ℕ
active s = active_in s.threads

abbrev pub movable_in : List ThreadState → Option ℕ
movable_in [] = None
movable_in (t ∷ ts) = if is_ready t.phase && not t.moved_since_step then Some t.number else movable_in ts

-- the thread that may be moved: the least number that is ready and hasn't moved since its last plain step
abbrev pub movable : Server → Option ℕ
movable s = movable_in s.threads
