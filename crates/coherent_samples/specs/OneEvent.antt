-- From clusters that no run need reach: each enabled event leaves no sentence broken.
use Rattle.std.specs.Prelude.{◌≡◌, ℕ, ◌+◌, List, [], ◌∷◌, ◌++◌, length, map, Option, Some, None}
use Rattle.server_model.specs.Below.journal.View.{EntryView}
use Rattle.server_model.specs.declared.event.Event.{Event}
use Rattle.server_model.specs.declared.event.What.TheVariants.{Deliver}
use Rattle.server_model.specs.Servers.{Server, Cluster}
use Rattle.server_model.specs.Clusters.{apply}
use Rattle.coherent_memory.specs.OneHeap.{one_heap}
use Rattle.coherent_memory.specs.Coherent.{Sentence, broken}
use Rattle.sample_clusters.specs.Clusters.{thread_no, middle, relent, ends_dirty}
use Rattle.sample_clusters.specs.Busy.{busy}
use Rattle.coherent_samples.specs.Along.{Fault, breaks, no_result}
use Rattle.coherent_samples.specs.Chosen.{all_events}

abbrev fault_of : ℕ → List Sentence → List Fault
fault_of n [] = []
fault_of n (s ∷ ss) = breaks n (s ∷ ss) ∷ []

abbrev after_one : ℕ → Option (Cluster × EntryView) → List Fault
after_one n None = no_result n ∷ []
after_one n (Some d) = fault_of n (broken d.0)

abbrev after_each : ℕ → Cluster → List Event → List Fault
after_each n k [] = []
after_each n k (e ∷ es) = after_one n (apply k e) ++ after_each (n + 1) k es

-- the faults after each of the enabled events, by its place among them
abbrev pub one_event_faults : Cluster → List Fault
one_event_faults k = after_each 0 k (all_events k.options k.servers)

-- how many messages are in each outbox then
abbrev pub left_behind : Option (Cluster × EntryView) → List ℕ
left_behind None = []
left_behind (Some d) = map (λ (s : Server). length s.rest.outbox) d.0.servers

pub record OneEventKeeps : Type 0 where
  pub middle_keeps : one_event_faults middle ≡ []
  pub busy_keeps : one_event_faults busy ≡ []
  pub relent_keeps : one_event_faults relent ≡ []
  -- the word that comes for a dirty reference which ends goes where the thread waits for it, not to the reference
  pub ends_dirty_keeps : one_event_faults ends_dirty ≡ []
  -- an older message in an outbox stays there
  pub older_stays : left_behind (apply busy (record { server = 1; what = Deliver 2 })) ≡ 0 ∷ 1 ∷ []
  -- the one heap tells which two threads a parent waits for, the first one first
  pub pair_shown : (one_heap busy).pair 0 ≡ Some (thread_no 0 3, thread_no 0 4)
