-- RUNS IN ROUNDS ARE RUNS OF EVENTS (this project's rule). In a round the messages to other servers are handed over after it, and a message of a server to itself waits there at
-- once. So messages can wait in another order than where each event's messages are handed over before the next event; nothing else differs, and no event depends on that order.
use Rattle.std.specs.Prelude.{◌≡◌, ◌≤◌, ◌<◌, ℕ, true, false, min, List, [], ◌∷◌, ◌++◌, length, Option, Some, slice_get, slice_set}
use Rattle.rand_pcg.specs.Lcg.{Lcg}
use Rattle.law_runs_whole.specs.Below.fr_base.declared.instruction.Instr.{Instr}
use Rattle.law_runs_whole.specs.Below.fr_base.declared.settings.Options.{Options}
use Rattle.law_runs_whole.specs.Below.fr_code.CodeTypes.{Table}
use Rattle.law_runs_whole.specs.Below.fr_code.CodeTable.{IsTable}
use Rattle.law_runs_whole.specs.Below.journal.View.{EntryView}
use Rattle.law_runs_whole.specs.Below.server_model.declared.event.Event.{Event}
use Rattle.law_runs_whole.specs.Below.server_model.declared.event.What.TheVariants.{Migrate}
use Rattle.law_runs_whole.specs.Below.server_model.Servers.{Server, Cluster, start_of}
use Rattle.law_runs_whole.specs.Below.server_model.Events.{enabled, does}
use Rattle.law_runs_whole.specs.Below.server_model.Clusters.{outboxes, hand_over}
use Rattle.drive_model.specs.Balance.{Shift, loads, balance}
use Rattle.drive_model.specs.Ending.{ending, is_going}
use Rattle.drive_model.specs.Rounds.{Run, run_start, events_left, round, shifted, balanced, is_done, rounds}
use Rattle.law_runs_whole.specs.Below.coherent_memory.Naming.{options_out}
use Rattle.law_runs_coherent.specs.Below.coherent_types.ClusterTypes.{IsCoherent}
use Rattle.law_runs_whole.specs.runs.Runs.{run_of, EachKeepsCoherence}
use Rattle.law_runs_rounds.specs.rounds.Order.{IsSameCluster}
use Rattle.law_runs_rounds.specs.rounds.Choosing.{AreChosen}
use Rattle.law_runs_rounds.specs.rounds.Working.{HasSmallCounts, CanWork}

-- a run in rounds, from the start of its code on, between two rounds
pub record IsUnderWay (r : Run) : Type 0 where
  -- events with the run's journal, one after another, each with its messages handed over; they lead to a coherent cluster
  pub events : List Event
  pub ran : Cluster
  pub leads : run_of (start_of r.cluster.code r.cluster.options) events ≡ Some (ran, r.journal)
  pub coherent : IsCoherent ran
  -- each is one that a driver chooses
  pub chosen : AreChosen events (start_of r.cluster.code r.cluster.options)
  -- the run's own is the same but for the order in which messages wait
  pub same : IsSameCluster r.cluster ran
  pub sent : outboxes r.cluster.servers ≡ []
  pub generators : length r.generators ≡ length r.cluster.servers
  pub turns : length r.journal ≤ r.cluster.options.turns
  pub within : options_out r.cluster.options ≡ 0

-- there is a run, and it is under way
pub record GoesOn (o : Option Run) : Type 0 where
  pub run : Run
  pub is : o ≡ Some run
  pub under_way : IsUnderWay run

-- the start of a code with a table, under options in their ranges
abbrev pub StartsAreUnderWay : Type 0
StartsAreUnderWay = (code : List Instr) (table : Table) (o : Options) → IsTable code table → options_out o ≡ 0 → IsUnderWay (run_start code o)

-- where each event keeps coherence, a round and a balance have a result, and the run is under way again
abbrev pub RoundsGoOn : Type 0
RoundsGoOn = EachKeepsCoherence → (r : Run) → IsUnderWay r → GoesOn (round r)

abbrev pub BalancesGoOn : Type 0
BalancesGoOn = EachKeepsCoherence → (n : ℕ) (r : Run) → IsUnderWay r → GoesOn (balanced n r)

-- what a balance does at the server that the thread leaves, whose parcel is handed over
pub record CanMove (r : Run) (x : Shift) : Type 0 where
  pub server : Server
  pub there : slice_get r.cluster.servers x.source ≡ Some server
  pub counts : HasSmallCounts r.cluster.code server
  pub on : enabled r.cluster.options server (Migrate x.thread x.target) ≡ true
  pub after : Server
  pub entry : EntryView
  pub done : does r.cluster.code r.cluster.options server (Migrate x.thread x.target) ≡ Some (after, entry)
  pub moved : shifted r (Some x)
      ≡ Some (record r { cluster = hand_over (record r.cluster { servers = slice_set r.cluster.servers x.source after }); journal = r.journal ++ entry ∷ [] })

-- each balance that moves a thread, where an event is left
abbrev pub BalancesCanMove : Type 0
BalancesCanMove = EachKeepsCoherence → (r : Run) (x : Shift) → IsUnderWay r → 1 ≤ events_left r → balance (loads r.cluster.servers) ≡ Some x → CanMove r x

-- each server can work in a round, whatever the others do in it
abbrev pub ServersCanWork : Type 0
ServersCanWork =
    EachKeepsCoherence → (r : Run) (i : ℕ) (s : Server) (g : Lcg) → IsUnderWay r → slice_get r.cluster.servers i ≡ Some s → slice_get r.generators i ≡ Some g
    → CanWork r.cluster.code r.cluster.options (min r.cluster.options.quantum (events_left r)) s g

-- a round of a run that isn't done does an event
abbrev pub RoundsGrow : Type 0
RoundsGrow = (r x : Run) → IsUnderWay r → is_done r ≡ false → round r ≡ Some x → length r.journal < length x.journal

-- a whole run: it has a result, is a run of events, and is done
pub record HasEnded (o : Option Run) : Type 0 where
  pub run : Run
  pub is : o ≡ Some run
  pub under_way : IsUnderWay run
  pub done : is_done run ≡ true

abbrev pub RoundsEnd : Type 0
RoundsEnd = EachKeepsCoherence → (code : List Instr) (table : Table) (o : Options) → IsTable code table → options_out o ≡ 0 → HasEnded (rounds code o)

-- once it isn't going no message waits, and the events lead to the very cluster
abbrev pub EndsAreExact : Type 0
EndsAreExact = (r : Run) (u : IsUnderWay r) → is_going (ending r.cluster) ≡ false → u.ran ≡ r.cluster
