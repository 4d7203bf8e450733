-- Runs under chosen events stay coherent: at each turn one of all enabled events of all servers is taken, steps, deliveries, evictions and migrations
-- alike, by a number that goes on from turn to turn.
use Rattle.std.specs.Prelude.{◌≡◌, ℕ, zero, suc, ◌+◌, ◌*◌, ◌/◌, ◌%◌, Bool, true, false, List, [], ◌∷◌, ◌++◌, length, Option, Some, None, slice_get}
use Rattle.server_model.specs.Below.fr_base.declared.instruction.Instr.{Instr}
use Rattle.server_model.specs.Below.fr_base.declared.settings.Options.{Options}
use Rattle.server_model.specs.Below.thread_state.View.{ThreadState}
use Rattle.server_model.specs.Below.read_cache.Cache.{Copy}
use Rattle.server_model.specs.Below.server_msgs.declared.message.Message.{Message}
use Rattle.server_model.specs.Below.journal.View.{EntryView}
use Rattle.server_model.specs.declared.event.Event.{Event}
use Rattle.server_model.specs.declared.event.What.{What}
use Rattle.server_model.specs.declared.event.What.TheVariants.{Step, Deliver, Evict, Migrate}
use Rattle.server_model.specs.Servers.{Server, Cluster, start_of}
use Rattle.server_model.specs.Events.{enabled}
use Rattle.server_model.specs.Clusters.{apply}
use Rattle.server_model.specs.Programs.{with_servers, read_elsewhere, written_elsewhere, read_by_pairs, often_written, lent_box, read_two, locked_elsewhere}
use Rattle.coherent_memory.specs.Coherent.{Sentence, broken}
use Rattle.coherent_samples.specs.Along.{Fault, breaks, no_result}
use Rattle.sample_clusters.specs.ChosenPrograms.{lent_deep, locked_by_two, viewed_twice, locked_in_box}

-- THE ENABLED EVENTS

abbrev kept : Bool → Server → What → List Event
kept true s w = record { server = s.rest.number; what = w } ∷ []
kept false s w = []

abbrev kept_if : Options → Server → What → List Event
kept_if o s w = kept (enabled o s w) s w

abbrev steps : Options → Server → List ThreadState → List Event
steps o s [] = []
steps o s (t ∷ ts) = kept_if o s (Step t.number) ++ steps o s ts

abbrev moves_to : Options → Server → ℕ → ℕ → List Event
moves_to o s t zero = []
moves_to o s t (suc n) = kept_if o s (Migrate t n) ++ moves_to o s t n

abbrev moves : Options → Server → List ThreadState → List Event
moves o s [] = []
moves o s (t ∷ ts) = moves_to o s t.number o.servers ++ moves o s ts

abbrev deliveries : Options → Server → ℕ → List Message → List Event
deliveries o s i [] = []
deliveries o s i (m ∷ ms) = kept_if o s (Deliver i) ++ deliveries o s (i + 1) ms

abbrev evictions : Options → Server → List Copy → List Event
evictions o s [] = []
evictions o s (c ∷ cs) = kept_if o s (Evict c.word) ++ evictions o s cs

abbrev events_at : Options → Server → List Event
events_at o s = steps o s s.threads ++ steps o s s.threads ++ deliveries o s 0 s.rest.inbox ++ evictions o s s.rest.cache ++ moves o s s.threads

abbrev pub all_events : Options → List Server → List Event
all_events o [] = []
all_events o (s ∷ ss) = events_at o s ++ all_events o ss

-- TURNS

abbrev pub next_number : ℕ → ℕ
next_number n = (n * 1103515245 + 12345) % 2147483648

abbrev pub chosen : ℕ → List Event → Option Event
chosen n [] = None
chosen n (e ∷ es) = slice_get (e ∷ es) ((n / 65536) % length (e ∷ es))

abbrev with_fault : ℕ → List Sentence → List Fault → List Fault
with_fault n [] fs = fs
with_fault n (s ∷ ss) fs = breaks n (s ∷ ss) ∷ []

abbrev after : (Cluster → List Fault) → ℕ → Option (Cluster × EntryView) → List Fault
after go n None = no_result n ∷ []
after go n (Some d) = with_fault n (broken d.0) (go d.0)

abbrev take_turn : (Cluster → List Fault) → ℕ → Cluster → Option Event → List Fault
take_turn go n k None = []
take_turn go n k (Some e) = after go n (apply k e)

-- the first fault within so many turns
abbrev turns : ℕ → ℕ → Cluster → List Fault
turns zero seed k = []
turns (suc n) seed k = take_turn (turns n (next_number seed)) n k (chosen seed (all_events k.options k.servers))

abbrev pub Stays : List Instr → Options → ℕ → ℕ → Type 0
Stays code o n seed = turns n seed (start_of code o) ≡ []

pub record ChosenStayCoherent : Type 0 where
  pub reads_1 : Stays read_elsewhere (with_servers 2 65536) 70 1
  pub writes_1 : Stays written_elsewhere (with_servers 2 2) 80 2
  pub writes_2 : Stays written_elsewhere (with_servers 3 2) 80 3
  pub pairs_1 : Stays read_by_pairs (with_servers 3 2) 90 4
  pub pairs_2 : Stays read_by_pairs (with_servers 2 65536) 90 5
  pub often_1 : Stays often_written (with_servers 2 2) 60 6
  pub lends_1 : Stays lent_box (with_servers 2 65536) 80 7
  pub lends_2 : Stays lent_box (with_servers 2 2) 80 8
  pub lends_3 : Stays lent_box (with_servers 3 1) 80 9
  pub two_1 : Stays read_two (with_servers 2 2) 80 10
  pub locks_1 : Stays locked_elsewhere (with_servers 2 2) 80 11
  pub locks_2 : Stays locked_elsewhere (with_servers 3 65536) 80 12
  pub deep_1 : Stays lent_deep (with_servers 2 2) 100 21
  pub deep_2 : Stays lent_deep (with_servers 3 1) 100 22
  pub deep_3 : Stays lent_deep (with_servers 3 65536) 100 23
  pub shared_1 : Stays locked_by_two (with_servers 2 2) 100 31
  pub shared_2 : Stays locked_by_two (with_servers 3 1) 100 32
  pub viewed_1 : Stays viewed_twice (with_servers 3 65536) 100 41
  pub viewed_2 : Stays viewed_twice (with_servers 2 1) 100 42
  pub boxed_1 : Stays locked_in_box (with_servers 2 2) 100 51
  pub boxed_2 : Stays locked_in_box (with_servers 3 1) 100 52
