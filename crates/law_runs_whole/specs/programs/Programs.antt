-- WHOLE RUNS OF PROGRAMS on servers (in the manner of DRust; what is said of them is this project's).
use Rattle.std.specs.Prelude.{◌≡◌, ◌+◌, ◌<◌, ◌^◌, ℕ, List, [], length}
use Rattle.law_plain_table.specs.Below.fr_base.declared.instruction.Instr.{Instr}
use Rattle.law_plain_table.specs.Below.fr_base.declared.settings.Options.{Options}
use Rattle.law_plain_table.specs.Below.fr_terms.Terms.{Term, block_t, Items}
use Rattle.law_plain_table.specs.Below.fr_terms.Limits.{HasShortPlaces}
use Rattle.law_plain_table.specs.Below.fr_typing.Kinds.{Kind}
use Rattle.law_plain_table.specs.Below.fr_typing.Places.{Env}
use Rattle.law_plain_table.specs.Below.fr_typing.Typing.{Types}
use Rattle.law_plain_table.specs.Below.fr_plain.Resolve.{program}
use Rattle.law_plain_table.specs.Below.fr_code.StandsFor.{IsCodeOf}
use Rattle.law_plain_table.specs.Layout.{IsLaidOut}
use Rattle.law_runs_coherent.specs.Below.journal.View.{EntryView}
use Rattle.law_runs_coherent.specs.Below.coloured_heap.Heap.{Coloured}
use Rattle.law_runs_coherent.specs.Below.coloured_heap.Figures.{deliveries}
use Rattle.law_runs_coherent.specs.Below.coloured_heap.Sends.{all_messages}
use Rattle.law_runs_coherent.specs.Below.server_model.declared.event.Event.{Event}
use Rattle.law_runs_coherent.specs.Below.server_model.Servers.{Cluster, start_of}
use Rattle.law_runs_coherent.specs.Below.server_model.Clusters.{apply}
use Rattle.law_runs_coherent.specs.Below.coherent_memory.Sight.{sight}
use Rattle.law_runs_coherent.specs.Below.coherent_memory.Naming.{options_out}
use Rattle.law_runs_coherent.specs.Below.coherent_memory.Colours.{StandsColoured}
use Rattle.law_runs_coherent.specs.Below.coherent_memory.LeftBy.{messages_of}
use Rattle.law_runs_coherent.specs.Below.coherent_types.ClusterTypes.{IsCoherent}
use Rattle.law_runs_coherent.specs.Below.law_counts_sums.Laws.{Gives, FewEvents}
use Rattle.law_runs_whole.specs.Below.code_meaning.Laws.{RunsAlike}
use Rattle.law_runs_whole.specs.Below.code_meaning.LeftByItsCode.{LeftByItsCode}
use Rattle.law_runs_whole.specs.runs.Runs.{run_of, PlainlyLeft, LeadsOn}
use Rattle.law_runs_whole.specs.going.Going.{IsOnItsWay}

-- a typed program, its code, and options
pub record Given : Type 0 where
  pub code : List Instr
  pub at : ℕ
  pub items : Items
  pub kind : Kind
  pub env : Env
  pub options : Options
  -- its places have at most eight stars, as those of a source
  pub short : HasShortPlaces (block_t at items)
  pub typed : Types [] (block_t at items) kind env
  -- the code stands for the program, each thread's code behind the end of another's
  pub is : IsCodeOf code (program (block_t at items))
  pub laid : IsLaidOut code
  pub within : options_out options ≡ 0

-- where some events from the start lead: a cluster, and the journal of their entries
pub record RunsRight (g : Given) (d : Cluster × List EntryView) : Type 0 where
  pub coherent : IsCoherent d.0
  -- the journal's order is one of plain steps of the code, which lead to the cluster's one heap
  pub left : PlainlyLeft d.0 d.1
  -- and of the program's own terms, with the journal's labels and prints
  pub alike : RunsAlike (program (block_t g.at g.items)) d.1
  -- the messages that wait and those that were delivered are together as many as the acts send
  pub messages : messages_of (sight d.0) + deliveries d.1 ≡ all_messages d.1
  -- it goes on, or is deadlocked, or finished with nothing left
  pub on : IsOnItsWay d.0

abbrev pub ProgramsRunRight : Type 0
ProgramsRunRight = (g : Given) (es : List Event) → length es + 1 < 2 ^ 31 → Gives (RunsRight g) (run_of (start_of g.code g.options) es)

-- what is still to be shown of single events: the entry leads on from each coloured heap that the cluster stands for
abbrev pub EntriesLead : Type 0
EntriesLead = (k : Cluster) (e : Event) → IsCoherent k → FewEvents k → (s : Coloured) → StandsColoured k s → Gives (LeadsOn k.options s) (apply k e)

-- with it the cluster is left by its code
abbrev pub ProgramsAreLeft : Type 0
ProgramsAreLeft = EntriesLead → (g : Given) (es : List Event) → length es < 2 ^ 31 → Gives (λ (d : Cluster × List EntryView). LeftByItsCode d.0 d.1) (run_of (start_of g.code g.options) es)
