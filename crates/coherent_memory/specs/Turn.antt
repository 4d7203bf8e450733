-- WHAT A WALK WAITS FOR, hop by hop (this project's rules).
use Rattle.std.specs.Prelude.{◌≡◌, ℕ, suc, ◌<◌, ◌≤◌, true, false, List, Option, Some}
use Rattle.server_model.specs.Below.fr_base.declared.place.Lval.{Lval}
use Rattle.server_model.specs.Below.mut_borrow.declared.mutable.MutRef.{MutRef}
use Rattle.server_model.specs.Below.thread_state.declared.phase.Phase.TheVariants as phase
use Rattle.server_model.specs.Below.thread_state.declared.value.Value.{Value}
use Rattle.server_model.specs.Below.thread_state.declared.value.Value.TheVariants as value
use Rattle.coherent_memory.specs.Names.{tot, Among}
use Rattle.coherent_memory.specs.Things.{Location}
use Rattle.coherent_memory.specs.Follow.{Standing}
use Rattle.coherent_memory.specs.Sight.{Sight}
use Rattle.coherent_memory.specs.Paths.{Path, reads, shares, lends, writes, ends, Awaited, to_read, to_write, to_clean, is_readable}
use Rattle.coherent_memory.specs.Walking.{path, words_kept, in_turn, asked_for, turn_wrong}
use Rattle.coherent_memory.specs.Passing.{HopOf}

-- a hop of a place over a pointer of which this may be waited for
pub record IsAsked (s : Sight) (x : Standing) (w : Lval) (i : ℕ) (f : Option Value → List Awaited) (a : Awaited) : Type 0 where
  pub location : Location
  pub value : Value
  pub hop : HopOf s.ground x.thread.number w.slot i location value
  pub asked : Among a (f (Some value))

-- at that hop of a path that reads the thread may wait for this: the last pointer of a borrow in its own way, those before it as reads
pub data AwaitsAt (s : Sight) (x : Standing) : Path → ℕ → Awaited → Type 0 where
  read_at : (w : Lval) (i : ℕ) (a : Awaited) → i < w.depth → IsAsked s x w i (to_read s.options.colours) a → AwaitsAt s x (reads w) i a
  before_share : (w : Lval) (i : ℕ) (a : Awaited) → suc i < w.depth → IsAsked s x w i (to_read s.options.colours) a → AwaitsAt s x (shares w) i a
  at_share : (w : Lval) (i : ℕ) (a : Awaited) → suc i ≡ w.depth → IsAsked s x w i (to_clean s.options.colours) a → AwaitsAt s x (shares w) i a
  before_lend : (w : Lval) (i : ℕ) (a : Awaited) → suc i < w.depth → IsAsked s x w i (to_read s.options.colours) a → AwaitsAt s x (lends w) i a
  at_lend : (w : Lval) (i : ℕ) (a : Awaited) → suc i ≡ w.depth → IsAsked s x w i to_write a → AwaitsAt s x (lends w) i a

-- what is waited for is here, or in a copy that may be read and that the thread keeps
abbrev pub CanRead : Standing → Awaited → Type 0
CanRead x a = is_readable (words_kept x.thread) x.server a ≡ true

-- the first hop of a path that can't be read waits for this
pub record FirstUnread (s : Sight) (x : Standing) (p : Path) (a : Awaited) : Type 0 where
  pub number : ℕ
  pub at : AwaitsAt s x p number a
  pub unread : is_readable (words_kept x.thread) x.server a ≡ false
  pub before : (j : ℕ) (b : Awaited) → j < number → AwaitsAt s x p j b → CanRead x b

-- the hop of a write after those that are passed waits for this
pub record NextHop (s : Sight) (x : Standing) (w : Lval) (a : Awaited) : Type 0 where
  pub within : x.thread.passed < w.depth
  pub asked : IsAsked s x w x.thread.passed to_write a

-- what a thread that waits under the word waits for in turn: a read for its first hop that it can't read, a write for its next hop, the end of a reference
-- for that reference where it has the word, else for the next hop of its holder
pub data InTurn (s : Sight) (x : Standing) (w : ℕ) (a : Awaited) : Path → Type 0 where
  by_read : (p : Lval) → FirstUnread s x (reads p) a → InTurn s x w a (reads p)
  by_share : (p : Lval) → FirstUnread s x (shares p) a → InTurn s x w a (shares p)
  by_lend : (p : Lval) → FirstUnread s x (lends p) a → InTurn s x w a (lends p)
  by_write : (p : Lval) → NextHop s x p a → InTurn s x w a (writes p)
  by_end : (r : MutRef) → r.word ≡ w → Among a (to_write (Some (value.Mut r))) → InTurn s x w a (ends r)
  by_holder : (r : MutRef) → (r.word ≡ w → ⊥) → NextHop s x r.holder a → InTurn s x w a (ends r)

-- what the thread waits for in turn has that word, and the thread's message asks for its object, or for a copy where it is read, or brings it
pub record WaitsFor (s : Sight) (x : Standing) (w : ℕ) : Type 0 where
  pub awaited : Awaited
  pub turn : InTurn s x w awaited (path s x)
  pub word : awaited.word ≡ w
  pub asked : 1 ≤ tot (asked_for x.thread.number awaited) s.things

abbrev pub WaitInTurn : Sight → Type 0
WaitInTurn s = (x : Standing) (w : ℕ) → Among x s.ground.threads → x.thread.phase ≡ phase.WaitCell w → WaitsFor s x w

pub record TurnLaw : Type 0 where
  pub from_count : (s : Sight) → turn_wrong s ≡ 0 → WaitInTurn s
  pub none_counted : (s : Sight) → WaitInTurn s → turn_wrong s ≡ 0
  -- there is one thing that it may wait for
  pub told : (s : Sight) (x : Standing) (w : ℕ) (a : Awaited) → InTurn s x w a (path s x) → in_turn s x w (path s x) ≡ Some a
