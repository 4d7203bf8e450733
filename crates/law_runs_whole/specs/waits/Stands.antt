-- THE PROGRAM'S OWN TERMS WHERE A CLUSTER STANDS (this project's rule): their plain run under a journal's order, beside the cluster's one heap, and what
-- its threads wait for beside what the cluster's do.
use Rattle.std.specs.Prelude.{◌≡◌, ⊤, ℕ, false, List, [], ◌∷◌, Option, Some, None}
use Rattle.law_runs_whole.specs.Below.fr_base.declared.label.Label.{Label}
use Rattle.law_runs_whole.specs.Below.fr_base.declared.name.MutexNo.{MutexNo}
use Rattle.law_runs_whole.specs.Below.fr_base.declared.name.ObjNo.{ObjNo}
use Rattle.law_runs_whole.specs.Below.fr_base.declared.step.Ending3.{Ending3}
use Rattle.law_runs_whole.specs.Below.fr_base.declared.step.Ending3.TheVariants.{Deadlocked}
use Rattle.law_runs_whole.specs.Below.fr_base.declared.step.Wait.{Wait}
use Rattle.law_runs_whole.specs.Below.fr_plain.Alike.{LivesAlike}
use Rattle.law_runs_whole.specs.Below.fr_plain.Machine.{waits_for}
use Rattle.law_runs_whole.specs.Below.fr_plain.MachineThreads.{Life, Moves, Thread, Whole}
use Rattle.law_runs_whole.specs.Below.fr_plain.PlainState.{Running, PlainState, plain_state}
use Rattle.law_runs_whole.specs.Below.fr_plain.Run.{Run, terms}
use Rattle.law_runs_whole.specs.Below.fr_plain.Whole as term
use Rattle.law_runs_whole.specs.Below.fr_code.Laws.{StandsAt}
use Rattle.law_runs_whole.specs.Below.fr_code.StandsFor.{IsCodeOf}
use Rattle.law_runs_whole.specs.Below.journal.View.{EntryView}
use Rattle.law_runs_whole.specs.Below.journal.Journals.{order, labels}
use Rattle.law_runs_whole.specs.Below.server_model.Servers.{Cluster}
use Rattle.law_runs_whole.specs.Below.server_model.Questions.{add_wait}
use Rattle.law_runs_whole.specs.Below.drive_model.Ending as cluster
use Rattle.law_runs_whole.specs.Below.drive_model.Ending.{ending, is_going}
use Rattle.law_runs_whole.specs.Below.coherent_memory.LeftBy.{LeadsTo}
use Rattle.law_runs_whole.specs.Below.coherent_memory.OneHeap.{one_heap}
use Rattle.law_runs_coherent.specs.Below.coherent_types.ClusterTypes.{IsCoherent}
use Rattle.code_meaning.specs.OneHeap.{plain_run}

-- THE SAME BUT FOR PLACES: plain states of two machines; P and Q are their places, and R says which ones stand for each other
module _ {P Q : Type 0} (R : P → Q → Type 0) where
  -- both go on at places that stand for each other, with the same slots
  abbrev pub RunningAlike : Running P → Running Q → Type 0
  RunningAlike x y = R x.place y.place × (x.slots ≡ y.slots)

  -- both threads are there and alike, or neither is
  abbrev pub BothThere : Option (Life (Running P)) → Option (Life (Running Q)) → Type 0
  BothThere None None = ⊤
  BothThere (Some x) (Some y) = LivesAlike RunningAlike x y
  BothThere _ _ = ⊥

  -- they agree at each name, but that threads that go on do so at places that stand for each other
  pub record SameButPlaces (a : PlainState P) (b : PlainState Q) : Type 0 where
    pub threads : (t : ℕ) → BothThere (a.thread t) (b.thread t)
    pub made : (t : ℕ) → a.made t ≡ b.made t
    pub pairs : (t : ℕ) → a.pair t ≡ b.pair t
    pub objects : (o : ObjNo) → a.object o ≡ b.object o
    pub mutexes : (m : MutexNo) → a.mutex m ≡ b.mutex m
    pub given : (m : MutexNo) → a.is_given m ≡ b.is_given m

-- WHERE THE TERMS STAND

-- a plain run of a term that is there, with these labels; it comes to the cluster's one heap, each thread at a term for which its code there stands
abbrev pub ComesTo : Option term.Stepped → Cluster → List Label → Type 0
ComesTo None k ls = ⊥
ComesTo (Some x) k ls = (x.labels ≡ ls) × SameButPlaces (StandsAt k.code) (plain_state x.state) (one_heap k)

-- the program's own plain run under the journal's order is there, with the journal's labels, and its state is the cluster's one heap
abbrev pub StandsThere : Run → Cluster → List EntryView → Type 0
StandsThere program k es = ComesTo (term.plain program (order es)) k (labels es)

-- where the code's plain run under the journal's order leads to the cluster's one heap, so does that of the program
abbrev pub ProgramsStandThere : Type 0
ProgramsStandThere = (program : Run) (k : Cluster) (es : List EntryView) → IsCodeOf k.code program → LeadsTo (plain_run k.code) (order es) (one_heap k) (labels es) → StandsThere program k es

-- WHAT THEY WAIT FOR

module _ {P : Type 0} (ms : Moves P) where
  abbrev pub waits_in : Whole P → List (Thread P) → List (ℕ × Wait)
  waits_in s [] = []
  waits_in s (x ∷ xs) = add_wait x.number (waits_for ms s x) (waits_in s xs)

  -- the threads of a plain state that wait and for what, by rising thread
  abbrev pub waits : Whole P → List (ℕ × Wait)
  waits s = waits_in s s.threads

-- a plain run of a term that is there, whose threads wait at its end for these
abbrev pub HasWaits : Option term.Stepped → List (ℕ × Wait) → Type 0
HasWaits None ws = ⊥
HasWaits (Some x) ws = waits terms x.state ≡ ws

-- under the journal's order the program's threads come to wait for what the cluster's wait for
abbrev pub WaitsThere : Run → Cluster → List EntryView → Type 0
WaitsThere program k es = HasWaits (term.plain program (order es)) (cluster.waits k)

-- so they do where it is deadlocked
abbrev pub DeadlocksWaitThere : Type 0
DeadlocksWaitThere =
    (program : Run) (k : Cluster) (es : List EntryView) → IsCodeOf k.code program → LeadsTo (plain_run k.code) (order es) (one_heap k) (labels es) → IsCoherent k → ending k ≡ Deadlocked → WaitsThere program k es

-- HOW THEY END

-- a plain run of a term that is there, and stands so at its end
abbrev pub HasEnding : Option term.Stepped → Ending3 → Type 0
HasEnding None e = ⊥
HasEnding (Some x) e = term.ending_of x.state ≡ e

-- under the journal's order the program's own terms come to end as the cluster does: finished, or deadlocked
abbrev pub EndsThere : Run → Cluster → List EntryView → Type 0
EndsThere program k es = HasEnding (term.plain program (order es)) (ending k)

-- so they do where it has come to an end
abbrev pub ProgramsEndThere : Type 0
ProgramsEndThere =
    (program : Run) (k : Cluster) (es : List EntryView) → IsCodeOf k.code program → LeadsTo (plain_run k.code) (order es) (one_heap k) (labels es) → IsCoherent k → is_going (ending k) ≡ false → EndsThere program k es
