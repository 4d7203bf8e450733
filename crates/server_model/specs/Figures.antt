-- Runs of a cluster under an order of events given by hand, and the figures that a report shows of a run.
use Rattle.std.specs.Prelude.{ℕ, ℤ, zero, suc, ◌+◌, ◌==◌, ◌&&◌, Bool, true, false, List, [], ◌∷◌, ◌++◌, length, Option, Some, None, is_some, if◌then◌else◌}
use Rattle.fr_base.specs.Kinds.{kind_number}
use Rattle.fr_base.specs.declared.instruction.Instr.{Instr}
use Rattle.fr_base.specs.declared.settings.Options.{Options}
use Rattle.place_walk.specs.Below.thread_state.View.{ThreadState, is_over}
use Rattle.place_walk.specs.Below.heap_partition.declared.value.Cell.{Cell}
use Rattle.journal.specs.declared.act.Act.{Act}
use Rattle.journal.specs.declared.act.Act.TheVariants as act
use Rattle.journal.specs.View.{EntryView}
use Rattle.fr_base.specs.declared.label.Label.{Label}
use Rattle.place_walk.specs.Below.read_cache.Cache.{Copy}
use Rattle.journal.specs.Journals.{labels, prints}
use Rattle.server_msgs.specs.Messages.{kind_of}
use Rattle.server_msgs.specs.declared.message.Message.{Message}
use Rattle.server_model.specs.declared.event.Event.{Event}
use Rattle.server_model.specs.declared.event.What.{What}
use Rattle.server_model.specs.declared.event.What.TheVariants.{Step, Deliver, Evict, Migrate}
use Rattle.server_model.specs.Servers.{Sent, Server, Cluster, start_of}
use Rattle.server_model.specs.Events.{can_step}
use Rattle.server_model.specs.Clusters.{act_at, hand_over, outboxes}

-- RUNS

-- a cluster, the entries that led to it, and the kinds of the messages between different servers
pub record Ran : Type 0 where
  pub cluster : Cluster
  pub journal : List EntryView
  pub kinds : List ℕ

abbrev pub kinds_of : List Sent → List ℕ
kinds_of [] = []
kinds_of (x ∷ xs) = kind_number (kind_of x.message) ∷ kinds_of xs

abbrev pub ran_on : Ran → Option (Cluster × EntryView) → Option Ran
ran_on r None = None
ran_on r (Some d) = Some (record { cluster = hand_over d.0; journal = r.journal ++ d.1 ∷ []; kinds = r.kinds ++ kinds_of (outboxes d.0.servers) })

-- one event more
abbrev pub run_event : Option Ran → Event → Option Ran
run_event None e = None
run_event (Some r) e = ran_on r (act_at r.cluster e)

abbrev pub run_from : Option Ran → List Event → Option Ran
run_from r [] = r
run_from r (e ∷ es) = run_from (run_event r e) es

-- the run of a program's code from its start
abbrev pub run : List Instr → Options → List Event → Option Ran
run code o es = run_from (Some (record { cluster = start_of code o; journal = []; kinds = [] })) es

-- FIGURES

abbrev pub one_if : Bool → ℕ
one_if true = 1
one_if false = 0

abbrev pub steps_in : List EntryView → ℕ
steps_in [] = 0
steps_in (e ∷ es) = one_if (is_some e.done) + steps_in es

abbrev pub acts_in : List EntryView → List Act
acts_in [] = []
acts_in (e ∷ es) = e.acts ++ acts_in es

abbrev pub count_acts : (Act → ℕ) → List Act → ℕ
count_acts f [] = 0
count_acts f (a ∷ rest) = f a + count_acts f rest

abbrev pub issues : Act → ℕ
issues (act.Make o w) = 1
issues (act.Take o old new) = 1
issues (act.Tint o old new) = 1
issues (act.Renew o old new) = 1
issues a = 0

abbrev pub renews : Act → ℕ
renews (act.Renew o old new) = 1
renews a = 0

abbrev pub hits : Act → ℕ
hits (act.Hit o w) = 1
hits a = 0

abbrev pub evictions : Act → ℕ
evictions (act.Evict w) = 1
evictions a = 0

abbrev pub count_of : ℕ → List ℕ → ℕ
count_of k [] = 0
count_of k (x ∷ xs) = one_if (x == k) + count_of k xs

abbrev pub counted : ℕ → ℕ → List (ℕ × ℕ) → List (ℕ × ℕ)
counted k zero rest = rest
counted k (suc n) rest = (k, suc n) ∷ rest

-- the kinds of messages from this number on, with how many there were, where there were some
abbrev pub counts_from : ℕ → ℕ → List ℕ → List (ℕ × ℕ)
counts_from zero k kinds = []
counts_from (suc n) k kinds = counted k (count_of k kinds) (counts_from n (k + 1) kinds)

-- THE STATE AT THE END

abbrev pub all_over : List ThreadState → Bool
all_over [] = true
all_over (t ∷ ts) = is_over t.phase && all_over ts

abbrev pub no_cell : List (Option Cell) → Bool
no_cell [] = true
no_cell (None ∷ cells) = no_cell cells
no_cell (Some c ∷ cells) = false

abbrev pub is_none_left : {X : Type 0} → List X → Bool
is_none_left [] = true
is_none_left (x ∷ xs) = false

-- its threads are over, and no object, message, mutex or result is left
abbrev pub is_finished_at : Server → Bool
is_finished_at s =
    all_over s.threads && no_cell s.rest.partition.cells && is_none_left s.rest.inbox && is_none_left s.rest.outbox && is_none_left s.rest.mutexes.there && is_none_left s.rest.tasks

abbrev pub are_finished : List Server → Bool
are_finished [] = true
are_finished (s ∷ ss) = is_finished_at s && are_finished ss

abbrev pub retired_in : List Server → ℕ
retired_in [] = 0
retired_in (s ∷ ss) = s.rest.partition.retired + retired_in ss

-- what a report shows: plain steps, events, words issued and renewed, hits and evictions, the messages between different servers,
-- all and by kind, and the prints; and whether nothing is left, with the number of retired addresses
pub record Figures : Type 0 where
  pub steps : ℕ
  pub events : ℕ
  pub issued : ℕ
  pub renewed : ℕ
  pub hits : ℕ
  pub evictions : ℕ
  pub messages : ℕ
  pub by_kind : List (ℕ × ℕ)
  pub prints : List ℤ
  pub finished : Bool
  pub retired : ℕ

-- a run of which nothing is left and that did nothing
abbrev pub idle : Figures
idle = record { steps = 0; events = 0; issued = 0; renewed = 0; hits = 0; evictions = 0; messages = 0; by_kind = []; prints = []; finished = true; retired = 0 }

abbrev pub figures_of : Ran → Figures
figures_of r = record {
  steps = steps_in r.journal;
  events = length r.journal;
  issued = count_acts issues (acts_in r.journal);
  renewed = count_acts renews (acts_in r.journal);
  hits = count_acts hits (acts_in r.journal);
  evictions = count_acts evictions (acts_in r.journal);
  messages = length r.kinds;
  by_kind = counts_from 16 0 r.kinds;
  prints = prints r.journal;
  finished = are_finished r.cluster.servers;
  retired = retired_in r.cluster.servers;
}

abbrev pub figures_in : Option Ran → Option Figures
figures_in None = None
figures_in (Some r) = Some (figures_of r)

-- WHAT ELSE A RUN SHOWS

abbrev pub labels_of : Option Ran → List Label
labels_of None = []
labels_of (Some r) = labels r.journal

abbrev pub acts_each : List EntryView → List (List Act)
acts_each [] = []
acts_each (e ∷ es) = e.acts ∷ acts_each es

-- the acts of each event
abbrev pub acts_of : Option Ran → List (List Act)
acts_of None = []
acts_of (Some r) = acts_each r.journal

abbrev pub flags_at : List ThreadState → List Bool
flags_at [] = []
flags_at (t ∷ ts) = t.moved_since_step ∷ flags_at ts

abbrev pub flags_in : List Server → List Bool
flags_in [] = []
flags_in (s ∷ ss) = flags_at s.threads ++ flags_in ss

-- whether each thread has moved since its last plain step
abbrev pub moved_flags : Option Ran → List Bool
moved_flags None = []
moved_flags (Some r) = flags_in r.cluster.servers

abbrev pub users_at : List Copy → List (ℕ × ℕ)
users_at [] = []
users_at (c ∷ cs) = (c.word, c.users) ∷ users_at cs

abbrev pub users_of : List Server → List (ℕ × ℕ)
users_of [] = []
users_of (s ∷ ss) = users_at s.rest.cache ++ users_of ss

-- the cached words of all servers, with how many use each
abbrev pub cached_users : Option Ran → List (ℕ × ℕ)
cached_users None = []
cached_users (Some r) = users_of r.cluster.servers

-- EVENTS BY HAND

abbrev pub at : ℕ → What → Event
at s w = record { server = s; what = w }

-- thread 0.0 steps at that server so many times
abbrev pub steps_of : (server thread n : ℕ) → List Event
steps_of s t zero = []
steps_of s t (suc n) = at s (Step t) ∷ steps_of s t n

abbrev pub deliver : (server place : ℕ) → List Event
deliver s i = at s (Deliver i) ∷ []

abbrev pub evict : (server word : ℕ) → List Event
evict s w = at s (Evict w) ∷ []

abbrev pub migrate : (server thread target : ℕ) → List Event
migrate s t target = at s (Migrate t target) ∷ []

-- EVENTS AS THEY COME

abbrev pub step_first : List ThreadState → ℕ → Option Event
step_first [] s = None
step_first (t ∷ ts) s = if can_step t.phase then Some (at s (Step t.number)) else step_first ts s

-- a server delivers its oldest message, and else its first thread that can steps
abbrev pub event_of : List Message → Server → Option Event
event_of [] s = step_first s.threads s.rest.number
event_of (m ∷ ms) s = Some (at s.rest.number (Deliver 0))

abbrev pub or_else : Option Event → Option Event → Option Event
or_else None e = e
or_else (Some e) f = Some e

abbrev pub first_event : List Server → Option Event
first_event [] = None
first_event (s ∷ ss) = or_else (event_of s.rest.inbox s) (first_event ss)

abbrev pub last_event : List Server → Option Event
last_event [] = None
last_event (s ∷ ss) = or_else (last_event ss) (event_of s.rest.inbox s)

abbrev pub next_of : (List Server → Option Event) → Option Ran → Option Event
next_of choose None = None
next_of choose (Some r) = choose r.cluster.servers

abbrev pub chosen : (Option Ran → Option Ran) → Option Ran → Option Event → Option Ran
chosen go r None = r
chosen go r (Some e) = go (run_event r e)

-- at most so many events, each at the server that is chosen
abbrev pub run_on : (List Server → Option Event) → ℕ → Option Ran → Option Ran
run_on choose zero r = r
run_on choose (suc n) r = chosen (run_on choose n) r (next_of choose r)

-- a run goes on as long as an event is enabled, at most 100 events: the first server that can goes on, or the last one
abbrev pub first_goes_on : Option Ran → Option Ran
first_goes_on r = run_on first_event 100 r

abbrev pub last_goes_on : Option Ran → Option Ran
last_goes_on r = run_on last_event 100 r
