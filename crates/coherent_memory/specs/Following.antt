-- Sentences of a sound cluster that follow from others. They stay sentences where events keep them one by one.
use Rattle.std.specs.Prelude.{◌≡◌, ◌≢◌, ℕ, Some}
use Rattle.server_model.specs.Below.thread_state.declared.phase.Phase.TheVariants as phase
use Rattle.server_model.specs.Servers.{Cluster}
use Rattle.coherent_memory.specs.Names.{Among}
use Rattle.coherent_memory.specs.Things.{things_of}
use Rattle.coherent_memory.specs.Follow.{Standing}
use Rattle.coherent_memory.specs.Sight.{sight, word}
use Rattle.coherent_memory.specs.Paths.{Awaited}
use Rattle.coherent_memory.specs.Walking.{path}
use Rattle.coherent_memory.specs.Turn.{InTurn}
use Rattle.coherent_memory.specs.Balances.{Agree, AtMost, AtMostOne}
use Rattle.coherent_memory.specs.Weights.{is_home_of, shares_of, shares_at_home, tasks_of, is_thread}
use Rattle.coherent_memory.specs.Requests.{pair_notes, pair_places}
use Rattle.coherent_memory.specs.Sharing.{contents, going_notes, goes_on, owed, results, has_ended}
use Rattle.coherent_memory.specs.Coherent.{Holds, IsSound, at_their_home, marks_in_slots, carry_what_is_asked, phases_stand, pairs_unnamed, named_are_there}

-- what is said of threads, of the notes and results of each, and of what is owed to its task values
pub record TasksNoted (k : Cluster) : Type 0 where
  pub numbers_differ : AtMostOne is_thread (things_of k)
  pub noted_go_on : Agree going_notes goes_on (things_of k)
  pub one_result : AtMost (results (sight k)) has_ended (things_of k)
  pub task_values_owed : Agree tasks_of (owed (sight k)) (things_of k)

-- what is said of the homes, contents and shares of mutexes, and of what waits for them
pub record MutexesNoted (k : Cluster) : Type 0 where
  pub at_their_home : Holds k at_their_home
  pub one_content : Agree (contents (sight k)) is_home_of (things_of k)
  pub marks_in_slots : Holds k marks_in_slots
  pub shares_counted : Agree shares_of shares_at_home (things_of k)
  pub carry_what_is_asked : Holds k carry_what_is_asked
  pub phases_stand : Holds k phases_stand

pub record FollowLaw : Type 0 where
  -- a thread goes on or has one result, and either is owed to one task value
  pub one_task_value : (k : Cluster) → TasksNoted k → AtMostOne tasks_of (things_of k)
  -- the one result of each thread of `GotPar(a, b)` stands there, and is owed to none
  pub pairs_unnamed : (k : Cluster) → TasksNoted k → Holds k pairs_unnamed
  -- the two threads that a parent waits for differ
  pub pairs_differ : (k : Cluster) → TasksNoted k → Agree pair_notes pair_places (things_of k) → (x : Standing) (a b : ℕ) → Among x (sight k).ground.threads → x.thread.phase ≡ phase.WaitPar a b → a ≢ b
  -- what a thread waits for in turn is under its object's word: the pointer there has that word, and the message too
  pub awaited_words : (k : Cluster) → IsSound k → (x : Standing) (w : ℕ) → Among x (sight k).ground.threads → x.thread.phase ≡ phase.WaitCell w → (a : Awaited) → InTurn (sight k) x w a (path (sight k) x) → word (sight k) a.object ≡ Some w
  -- what names a mutex is a share of it, its content, or waits for it where a value of it stands
  pub named_are_there : (k : Cluster) → MutexesNoted k → Holds k named_are_there
