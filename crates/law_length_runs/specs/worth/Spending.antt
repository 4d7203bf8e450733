-- HOW LONG A RUN GETS (this project's rules): each event takes from what the cluster is worth, which only steps of threads and new threads raise.
use Rattle.std.specs.Prelude.{◌≡◌, ◌≤◌, ℕ, ◌+◌, ◌*◌, if◌then◌else◌, List, [], ◌∷◌, length, Option, Some, None, option_map}
use Rattle.law_runs_coherent.specs.Below.fr_base.declared.instruction.Instr.{Instr}
use Rattle.law_runs_coherent.specs.Below.fr_base.declared.settings.Options.{Options}
use Rattle.law_runs_coherent.specs.Below.journal.View.{EntryView}
use Rattle.law_runs_coherent.specs.Below.thread_state.View.{ThreadState}
use Rattle.law_runs_coherent.specs.Below.server_model.declared.event.Event.{Event}
use Rattle.law_runs_coherent.specs.Below.server_model.declared.event.What.{What}
use Rattle.law_runs_coherent.specs.Below.server_model.declared.event.What.TheVariants.{Step, Deliver, Evict, Migrate}
use Rattle.law_runs_coherent.specs.Below.server_model.Servers.{Server, Cluster, server_at, start_of}
use Rattle.law_runs_coherent.specs.Below.server_model.Work.{then_some, thread_in}
use Rattle.law_runs_coherent.specs.Below.server_model.Clusters.{apply}
use Rattle.law_runs_coherent.specs.Below.law_counts_sums.Laws.{Gives}
use Rattle.law_length_runs.specs.worth.Credit.{credit, begun}

-- a thread that has moved since its last plain step isn't worth another move
abbrev pub moves_again : Option ThreadState → ℕ
moves_again None = 0
moves_again (Some t) = if t.moved_since_step then 2 else 0

-- what an event at a server costs beside what it takes
abbrev pub cost_at : What → Option Server → ℕ
cost_at w None = 0
cost_at (Step t) (Some s) = 4
cost_at (Deliver i) (Some s) = 0
cost_at (Evict w) (Some s) = 0
cost_at (Migrate t target) (Some s) = moves_again (thread_in s.threads t)

abbrev pub cost : Cluster → Event → ℕ
cost k e = cost_at e.what (server_at k.servers e.server)

-- an event takes at least one, whatever it is and whatever the cluster
abbrev pub EventsSpend : Type 0
EventsSpend = (k : Cluster) (e : Event) → Gives (λ (d : Cluster × EntryView). credit d.0 + 5 * begun k + 1 ≤ credit k + 5 * begun d.0 + cost k e) (apply k e)

-- a cluster after some events, the entries of its journal, and what the events cost together
pub record After : Type 0 where
  pub cluster : Cluster
  pub journal : List EntryView
  pub costs : ℕ

abbrev pub one_more : EntryView → ℕ → After → After
one_more e c x = record x { journal = e ∷ x.journal; costs = c + x.costs }

-- where each of the events has a result
abbrev pub after_all : List Event → Cluster → Option After
after_all [] k = Some (record { cluster = k; journal = []; costs = 0 })
after_all (e ∷ es) k = then_some (apply k e) (λ d. option_map (one_more d.1 (cost k e)) (after_all es d.0))

-- at its start a program is worth one move of main
abbrev pub StartsWithLittle : Type 0
StartsWithLittle = (code : List Instr) (o : Options) → (credit (start_of code o) ≤ 2) × (begun (start_of code o) ≡ 0)

-- so a run has at most as many entries as its events cost, and five for each thread that it starts, and two
abbrev pub RunsAreShort : Type 0
RunsAreShort = (code : List Instr) (o : Options) (es : List Event) → Gives (λ (x : After). length x.journal ≤ x.costs + 5 * begun x.cluster + 2) (after_all es (start_of code o))
