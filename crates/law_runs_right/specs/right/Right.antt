-- RUNS IN ROUNDS OF TYPED PROGRAMS (in the manner of DRust; what is said of them is this project's).
use Rattle.std.specs.Prelude.{◌≡◌, true, false, List, [], length, Some}
use Rattle.law_plain_table.specs.Below.fr_base.declared.instruction.Instr.{Instr}
use Rattle.law_plain_table.specs.Below.fr_base.declared.settings.Options.{Options}
use Rattle.law_plain_table.specs.Below.fr_base.declared.step.Ending3.TheVariants.{Deadlocked}
use Rattle.law_plain_table.specs.Below.fr_terms.Terms.{Term, block_t, IsBlock}
use Rattle.law_plain_table.specs.Below.fr_terms.Limits.{HasShortPlaces}
use Rattle.law_plain_table.specs.Below.fr_typing.Kinds.{Kind}
use Rattle.law_plain_table.specs.Below.fr_typing.Places.{Env}
use Rattle.law_plain_table.specs.Below.fr_typing.Typing.{Types}
use Rattle.law_plain_table.specs.Below.fr_plain.Resolve.{program}
use Rattle.law_plain_table.specs.Bare.{bare}
use Rattle.law_plain_table.specs.CodeOf.{code_of}
use Rattle.law_entries_events.specs.Below.law_runs_whole.Below.journal.View.{EntryView}
use Rattle.law_entries_events.specs.Below.law_runs_whole.Below.server_model.Servers.{Cluster}
use Rattle.drive_model.specs.Ending.{ending, is_going}
use Rattle.drive_model.specs.Rounds.{Run, rounds}
use Rattle.law_entries_events.specs.Below.law_runs_whole.Below.coherent_memory.Naming.{options_out}
use Rattle.law_entries_events.specs.Below.law_runs_whole.programs.Programs.{Given, RunsRight}
use Rattle.law_entries_events.specs.Below.code_meaning.LeftByItsCode.{LeftByItsCode}
use Rattle.law_entries_events.specs.Below.coloured_heap.Driven.{is_driven}
use Rattle.law_runs_whole.specs.waits.Stands.{StandsThere, WaitsThere, EndsThere}

-- a cluster and the journal that led there are those of a right run of this program under these options
pub record IsRight (t : Term) (o : Options) (k : Cluster) (es : List EntryView) : Type 0 where
  pub given : Given
  pub term : block_t given.at given.items ≡ t
  pub options : given.options ≡ o
  -- it is coherent and the journal is right: the program's own plain run, of its terms on one heap, is there under the journal's order, with the
  -- journal's labels and prints; the messages that wait and those that were delivered are together as many as the journal's acts send; and where
  -- it is finished nothing is left
  pub right : RunsRight given (k, es)
  -- and it is what the journal leaves: the journal is legal, each of its entries reaches what it loads and stores, and the words, owners, copies,
  -- messages and events that it leaves are the cluster's
  pub left : LeftByItsCode k es
  -- the program's own terms come under the journal's order to that cluster's one heap: the same threads, each at a term for which its code there
  -- stands and with the same slots, over the same objects and mutexes
  pub stands : StandsThere (program t) k es
  -- the journal is one that a driver can leave: each copy that is evicted was too many, and between two moves of a thread it does a plain step
  pub driven : is_driven o es ≡ true
  -- where the run would go on, it has as many events as it may
  pub turns : is_going (ending k) ≡ true → length es ≡ o.turns
  -- where it has come to an end, so have the program's own terms: they have finished, or are deadlocked
  pub ends : is_going (ending k) ≡ false → EndsThere (program t) k es
  -- where it is deadlocked, the list of its threads that wait, with what each waits for, is that of those terms
  pub waits : ending k ≡ Deadlocked → WaitsThere (program t) k es

-- each run in rounds of whatever code of a typed program
abbrev pub RunsInRoundsAreRight : Type 0
RunsInRoundsAreRight = (t : Term) (code : List Instr) (o : Options) (kind : Kind) (env : Env) (r : Run) → IsBlock t → HasShortPlaces t → Types [] t kind env → bare code ≡ code_of (program t) → options_out o ≡ 0 → rounds code o ≡ Some r → IsRight t o r.cluster r.journal
