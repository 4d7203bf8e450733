-- A run in rounds (this project's rule). In a round each server does some events by itself, and its messages to others are handed over
-- after it; so the journal doesn't depend on how many workers do the servers of a round.
use Rattle.std.specs.Prelude.{ℕ, zero, suc, ◌+◌, ◌-◌, ◌%◌, ◌==◌, ◌&&◌, ◌||◌, not, nat_lt, min, Bool, if◌then◌else◌, List, [], ◌∷◌, ◌++◌, length, Option, Some, None, option_map}
use Rattle.rand_pcg.specs.Lcg.{Lcg}
use Rattle.fr_base.specs.declared.instruction.Instr.{Instr}
use Rattle.fr_base.specs.declared.settings.Options.{Options}
use Rattle.journal.specs.View.{EntryView}
use Rattle.server_model.specs.declared.event.What.TheVariants.{Migrate}
use Rattle.server_model.specs.Servers.{Server, Cluster, start_of}
use Rattle.server_model.specs.Work.{then_some}
use Rattle.server_model.specs.Events.{does}
use Rattle.server_model.specs.Clusters.{hand_over, apply}
use Rattle.drive_model.specs.Ending.{ending, is_going}
use Rattle.drive_model.specs.Choice.{Drawn, generator_of, next}
use Rattle.drive_model.specs.Balance.{Shift, loads, balance}

-- the cluster, each server's generator, and the journal that led there
pub record Run : Type 0 where
  pub cluster : Cluster
  pub generators : List Lcg
  pub journal : List EntryView

abbrev pub generators_from : ℕ → ℕ → ℕ → List Lcg
generators_from choice s zero = []
generators_from choice s (suc n) = generator_of choice s ∷ generators_from choice (s + 1) n

abbrev pub run_start : List Instr → Options → Run
run_start code o = record { cluster = start_of code o; generators = generators_from o.choice 0 o.servers; journal = [] }

-- ONE SERVER IN A ROUND

-- a server with its generator, and the entries of what it did
pub record Worked : Type 0 where
  pub server : Server
  pub generator : Lcg
  pub entries : List EntryView

abbrev pub nothing_done : Server → Lcg → Worked
nothing_done s g = record { server = s; generator = g; entries = [] }

abbrev pub after_entry : EntryView → Worked → Worked
after_entry e w = record w { entries = e ∷ w.entries }

abbrev pub work_on : (Server → Lcg → Option Worked) → List Instr → Options → Server → Lcg → Option Drawn → Option Worked
work_on go code o s g None = Some (nothing_done s g)
work_on go code o s g (Some d) = then_some (does code o s d.what) (λ e. option_map (after_entry e.1) (go e.0 d.generator))

-- at most so many events of a server, each the next one, until it has none
abbrev pub work : List Instr → Options → ℕ → Server → Lcg → Option Worked
work code o zero s g = Some (nothing_done s g)
work code o (suc n) s g = work_on (work code o n) code o s g (next o s g)

-- ONE ROUND

-- the servers and generators after a round, and its entries in the order of the servers
pub record Round : Type 0 where
  pub servers : List Server
  pub generators : List Lcg
  pub entries : List EntryView

abbrev pub no_entries : List Server → List Lcg → Round
no_entries ss gs = record { servers = ss; generators = gs; entries = [] }

abbrev pub before_round : Worked → Round → Round
before_round w r = record { servers = w.server ∷ r.servers; generators = w.generator ∷ r.generators; entries = w.entries ++ r.entries }

-- each server does at most a quantum of events, and no more than are then left
abbrev pub round_of : List Instr → Options → (left : ℕ) → List Server → List Lcg → Option Round
round_of code o left (s ∷ ss) (g ∷ gs) =
    then_some (work code o (min o.quantum left) s g) (λ w. option_map (before_round w) (round_of code o (left - length w.entries) ss gs))
round_of code o left ss gs = Some (no_entries ss gs)

-- how many events the run may still do
abbrev pub events_left : Run → ℕ
events_left r = r.cluster.options.turns - length r.journal

-- once all have worked, their messages are handed over
abbrev pub after_round : Run → Round → Run
after_round r x = record { cluster = hand_over (record r.cluster { servers = x.servers }); generators = x.generators; journal = r.journal ++ x.entries }

abbrev pub round : Run → Option Run
round r = option_map (after_round r) (round_of r.cluster.code r.cluster.options (events_left r) r.cluster.servers r.generators)

-- BALANCE

-- the thread leaves, and its parcel is handed over at once
abbrev pub shifted : Run → Option Shift → Option Run
shifted r None = Some r
shifted r (Some x) =
    option_map (λ d. record r { cluster = d.0; journal = r.journal ++ d.1 ∷ [] }) (apply r.cluster (record { server = x.source; what = Migrate x.thread x.target }))

-- it is the turn of a balance after the n-th round, counted from 1, where an event is left
abbrev pub is_balanced : ℕ → Run → Bool
is_balanced n r = nat_lt 0 r.cluster.options.balance && (n % r.cluster.options.balance == 0 && nat_lt 0 (events_left r))

abbrev pub balanced : ℕ → Run → Option Run
balanced n r = if is_balanced n r then shifted r (balance (loads r.cluster.servers)) else Some r

-- WHOLE RUNS

-- it has come to an end, or has done as many events as it may
abbrev pub is_done : Run → Bool
is_done r = not (is_going (ending r.cluster)) || events_left r == 0

-- at most so many rounds, from the n-th on, until the run is done
abbrev pub rounds_from : ℕ → ℕ → Run → Option Run
rounds_from zero n r = Some r
rounds_from (suc k) n r = if is_done r then Some r else then_some (round r) (λ x. then_some (balanced n x) (rounds_from k (n + 1)))

-- the run of a program's code under options; a round does at least one event of a run that goes on, so no run has more rounds than
-- events. None where an event has no result
abbrev pub rounds : List Instr → Options → Option Run
rounds code o = rounds_from o.turns 1 (run_start code o)
