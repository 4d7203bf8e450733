-- The threads of a server over places (this project's own): a place for each thread that stands there or is to come, by rising number.
use Rattle.std.specs.Prelude.{if◌then◌else◌, ◌≡◌, ℕ, ◌^◌, ◌&&◌, ◌==◌, not, Bool, is_some, List, [], ◌∷◌, map, ⊤, Option, Some, None}
use Rattle.rank_map.specs.Places.{Place, Rises}
use Rattle.rank_map.specs.Queues.{items_of}
use Rattle.rank_map.specs.Marks.{IsMarked}
use Rattle.thread_state.specs.View.{ThreadState, ThreadView}
use Rattle.server_model.specs.Servers.{main_thread}
use Rattle.server_model.specs.Events.{can_step, is_ready}
use Rattle.server_model.specs.Questions.{wait_of, active_in}

-- the threads that stand there, by rising number
abbrev pub states : List (Place ThreadView) → List ThreadState
states ps = map (λ v. v.state) (items_of ps)

-- those of a server at the start: the main thread at server 0
abbrev pub first_threads : ℕ → List ThreadState
first_threads s = if s == 0 then main_thread ∷ [] else []

-- a thread stands at the place of its number
abbrev pub HasKey : ℕ → Option ThreadView → Type 0
HasKey k None = ⊤
HasKey k (Some v) = v.state.number ≡ k

abbrev pub AreNumbered : List (Place ThreadView) → Type 0
AreNumbered [] = ⊤
AreNumbered (p ∷ ps) = HasKey p.key p.item × AreNumbered ps

-- which threads can step, wait at a lock, a join or a pair, and may be moved
abbrev pub steps : ThreadView → Bool
steps v = can_step v.state.phase

abbrev pub waits : ThreadView → Bool
waits v = is_some (wait_of v.state.phase)

abbrev pub moves : ThreadView → Bool
moves v = is_ready v.state.phase && not v.state.moved_since_step

-- the threads' places, the sets of those that can step, wait and may be moved, and how many aren't over
pub record AreThreads (all : List (Place ThreadView)) (runnable waiting movable : List (Place (Unit {0}))) (active : ℕ) : Type 0 where
  pub rises : Rises 0 (2 ^ 40) all
  pub numbered : AreNumbered all
  pub runnable_set : IsMarked steps all runnable
  pub waiting_set : IsMarked waits all waiting
  pub movable_set : IsMarked moves all movable
  pub count : active ≡ active_in (states all)
