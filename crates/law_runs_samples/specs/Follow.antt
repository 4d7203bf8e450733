-- WHAT FOLLOWS OF EACH RUN OF A PROGRAM ON SERVERS from its plain runs (this project's rule).
use Rattle.std.specs.Prelude.{◌≡◌, ◌+◌, ◌<◌, ◌^◌, false, List, length}
use Rattle.law_plain_table.specs.Below.fr_base.declared.step.Ending3.TheVariants.{Finished, Deadlocked}
use Rattle.law_plain_table.specs.Below.fr_terms.Terms.{block_t}
use Rattle.law_plain_table.specs.Below.fr_plain.Resolve.{program}
use Rattle.law_plain_names.specs.Explored.{IsEmpty, WaitsSo, mutexes_named}
use Rattle.law_runs_whole.specs.Below.drive_model.Ending.{ending, is_going}
use Rattle.law_runs_whole.specs.Below.journal.View.{EntryView}
use Rattle.law_runs_whole.specs.Below.journal.Journals.{order, prints}
use Rattle.law_runs_whole.specs.Below.server_model.declared.event.Event.{Event}
use Rattle.law_runs_whole.specs.Below.server_model.Servers.{Cluster, start_of}
use Rattle.law_runs_whole.specs.Below.coherent_memory.OneHeap.{one_heap}
use Rattle.law_runs_whole.specs.Below.law_counts_sums.Laws.{Gives}
use Rattle.law_runs_whole.specs.runs.Runs.{run_of}
use Rattle.law_runs_whole.specs.programs.Programs.{Given}
use Rattle.law_runs_whole.specs.ends.Left.{NothingLeft}
use Rattle.law_runs_whole.specs.waits.Locks.{cluster_wait}
use Rattle.law_runs_samples.specs.Rows.{Row, IsExplored}

-- a cluster, and the journal that led there, end as the row says
pub record EndsAs (row : Row) (d : Cluster × List EntryView) : Type 0 where
  pub ending : ending d.0 ≡ row.end.ending
  -- what the journal prints, and how many plain steps are in its order
  pub prints : prints d.1 ≡ row.end.prints
  pub steps : length (order d.1) ≡ row.steps
  -- where it has finished, nothing is left on the servers, and its one heap is empty
  pub left : row.end.ending ≡ Finished → NothingLeft d.0
  pub empty : row.end.ending ≡ Finished → IsEmpty (one_heap d.0)
  -- where it is deadlocked, main waits at the lock of that one of the mutexes that the order names
  pub waits : row.end.ending ≡ Deadlocked → WaitsSo row.end.lock (mutexes_named (order d.1)) (cluster_wait d.0 0)

-- whatever events, from the start of whatever code of whatever source of that program, on however many servers and under whatever options in their ranges
abbrev pub EventsEndAs : Row → Type 0
EventsEndAs row =
    (g : Given) (es : List Event) → program (block_t g.at g.items) ≡ program row.term → length es + 1 < 2 ^ 31 → Gives (λ (d : Cluster × List EntryView). is_going (ending d.0) ≡ false → EndsAs row d) (run_of (start_of g.code g.options) es)

-- what is explored follows
abbrev pub ExploredFollows : Type 0
ExploredFollows = (row : Row) → IsExplored row → EventsEndAs row
