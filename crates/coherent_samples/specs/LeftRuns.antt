-- Whole runs are left by their journals: after each event the coloured heap of the cluster is the state that the journal leaves, at all names and words
-- that the run has, and the counts of events and messages agree.
use Rattle.std.specs.Prelude.{◌≡◌, ℕ, ◌-◌, Bool, true, false, List, [], ◌∷◌, ◌++◌, map, Option, Some, None, is_some}
use Rattle.server_model.specs.Below.fr_base.declared.name.ObjNo.{ObjNo}
use Rattle.server_model.specs.Below.fr_base.declared.name.MutexNo.{MutexNo}
use Rattle.server_model.specs.Below.fr_base.declared.instruction.Instr.{Instr}
use Rattle.server_model.specs.Below.fr_base.declared.settings.Options.{Options}
use Rattle.server_model.specs.Below.global_addr.Words.{word_of}
use Rattle.coloured_heap.specs.Figures as figures
use Rattle.server_model.specs.Below.server_msgs.declared.message.Message.{Message}
use Rattle.server_model.specs.Below.server_msgs.declared.message.Message.TheVariants.{Fetched}
use Rattle.server_model.specs.declared.event.Event.{Event}
use Rattle.server_model.specs.Figures.{Ran, steps_of, deliver}
use Rattle.server_model.specs.Programs.{with_servers, written_box, read_elsewhere, written_elsewhere, read_by_pairs, often_written, lent_box, read_two, locked_twice, locked_elsewhere}
use Rattle.server_model.specs.Rows.{reading_elsewhere, writing_elsewhere, reading_by_pairs, moving, evicting, locking_twice, locking_elsewhere, unlocked}
use Rattle.coloured_heap.specs.Heap.{Living, Copied, Running, Guarded, Coloured, object_at, copy_at, thread_at, same_wish, mutex_at}
use Rattle.coloured_heap.specs.Legal.{journal_after}
use Rattle.coloured_heap.specs.Reach.{is_all_reached}
use Rattle.coloured_heap.specs.Rules as rules
use Rattle.coloured_heap.specs.Sends.{all_messages}
use Rattle.coherent_memory.specs.Names.{tot, one, is_in}
use Rattle.coherent_memory.specs.Things.{Thing, sent}
use Rattle.coherent_memory.specs.Sight.{Sight, sight, issued}
use Rattle.coherent_memory.specs.Naming.{events_of}
use Rattle.coherent_memory.specs.OneHeap.{is_given_thread, is_given_mutex}
use Rattle.coherent_memory.specs.Colours.{living_of, copy_of, same_copied, served_of, wishes_of, all_wishes, running_of, has_finished, holder_of, is_mutex_there}
use Rattle.coherent_memory.specs.LeftBy.{messages_of}
use Rattle.coherent_samples.specs.OneHeapRuns.{along, starts}

-- what is shown of a coloured heap
pub record Shown : Type 0 where
  pub objects : List (Option Living)
  pub copies : List (Option Copied)
  pub issued : List Bool
  pub started : List Bool
  pub servers : List (Option Running)
  pub ended : List Bool
  pub made : List Bool
  pub mutexes : List (Option Guarded)
  pub served : List ℕ
  pub wishes : List ℕ
  -- is each load and store reached; the events; the messages
  pub reached : Bool
  pub events : ℕ
  pub messages : ℕ

-- the names and words of a small run
abbrev objects : List ObjNo
objects = record { thread = 0; count = 0 } ∷ record { thread = 0; count = 1 } ∷ []

abbrev words : List ℕ
words =
    word_of 0 0 0 ∷ word_of 1 0 0 ∷ word_of 2 0 0 ∷ word_of 3 0 0 ∷ word_of 0 0 1 ∷ word_of 1 0 1 ∷ word_of 2 0 1 ∷ word_of 0 0 2 ∷ word_of 1 0 2 ∷ word_of 2 0 2
    ∷ word_of 0 1 0 ∷ word_of 1 1 0 ∷ word_of 2 1 0 ∷ []

abbrev places : List (ℕ × ℕ)
places = map (λ w. (0, w)) words ++ map (λ w. (1, w)) words ++ map (λ w. (2, w)) words

abbrev threads : List ℕ
threads = 0 ∷ 1 ∷ 2 ∷ 3 ∷ 4 ∷ 5 ∷ []

abbrev mutexes : List MutexNo
mutexes = record { home = 0; count = 1 } ∷ []

-- and some that most runs don't make
abbrev more_mutexes : List MutexNo
more_mutexes = record { home = 0; count = 2 } ∷ record { home = 1; count = 1 } ∷ mutexes

abbrev where_running : Option Running → Option Running → Option Running
where_running None r = None
where_running (Some q) r = r

abbrev where_there : Bool → Option Guarded → Option Guarded
where_there false g = None
where_there true g = g

abbrev copies_served : Message → ℕ
copies_served (Fetched w c t) = 1
copies_served m = 0

abbrev served_message : Thing → ℕ
served_message (sent r m) = copies_served m
served_message x = 0

-- of the cluster, at the requests and served copies of the journal's state, with their numbers
abbrev show_cluster : Sight → Coloured → Shown
show_cluster s c = record {
  objects = map (living_of s) objects;
  copies = map (λ p. copy_of s p.0 p.1) places;
  issued = map (issued s) words;
  started = map (is_given_thread s) threads;
  servers = map (running_of s) threads;
  ended = map (has_finished s) threads;
  made = map (is_given_mutex s) more_mutexes;
  mutexes = map (λ m. where_there (is_mutex_there s m) (Some (record { mutex = m; holder = holder_of s m }))) mutexes;
  served = tot served_message s.things ∷ map (served_of s) c.served;
  wishes = all_wishes s ∷ map (wishes_of s) c.wishes;
  reached = true;
  events = events_of s;
  messages = messages_of s;
}

abbrev show_state : Ran → Sight → Coloured → Shown
show_state r s c = record {
  objects = map (object_at c) objects;
  copies = map (λ p. copy_at c p.0 p.1) places;
  issued = map (λ w. is_in w c.issued) words;
  started = map (λ t. is_some (thread_at c t)) threads;
  servers = map (λ t. where_running (running_of s t) (thread_at c t)) threads;
  ended = map (rules.is_over c) threads;
  made = map (λ m. is_some (mutex_at c m)) more_mutexes;
  mutexes = map (λ m. where_there (is_mutex_there s m) (mutex_at c m)) mutexes;
  served = tot (λ x. 1) c.served ∷ map (λ x. tot (λ y. one (same_copied x y)) c.served) c.served;
  wishes = tot (λ x. 1) c.wishes ∷ map (λ x. tot (λ y. one (same_wish x y)) c.wishes) c.wishes;
  reached = is_all_reached r.cluster.options r.journal;
  events = figures.events r.journal;
  messages = all_messages r.journal - figures.deliveries r.journal;
}

abbrev pub cluster_side : Ran → Option Coloured → List Shown
cluster_side r None = []
cluster_side r (Some c) = show_cluster (sight r.cluster) c ∷ []

abbrev pub journal_side : Ran → Option Coloured → List Shown
journal_side r None = []
journal_side r (Some c) = show_state r (sight r.cluster) c ∷ []

-- how many events have a legal journal
abbrev pub legal_events : Ran → List ℕ
legal_events r = one (is_some (journal_after r.cluster.options r.journal)) ∷ []

abbrev ones : List Event → List ℕ
ones es = map (λ e. 1) es

-- after each event the journal is legal, and both sides show the same
pub record IsLeft (code : List Instr) (o : Options) (es : List Event) : Type 0 where
  pub legal : along legal_events es (starts code o) ≡ ones es
  pub same : along (λ r. cluster_side r (journal_after r.cluster.options r.journal)) es (starts code o) ≡ along (λ r. journal_side r (journal_after r.cluster.options r.journal)) es (starts code o)

pub record RunsAreLeft : Type 0 where
  pub box_written : IsLeft written_box (with_servers 1 65536) (steps_of 0 0 7 ++ deliver 0 0)
  pub copied_once : IsLeft read_elsewhere (with_servers 2 65536) reading_elsewhere
  pub comes_to_writer : IsLeft written_elsewhere (with_servers 2 65536) writing_elsewhere
  pub old_copy_kept : IsLeft read_by_pairs (with_servers 3 65536) reading_by_pairs
  pub renewed_twice : IsLeft often_written (with_servers 1 2) (steps_of 0 0 11 ++ deliver 0 0)
  pub written_in_turns : IsLeft lent_box (with_servers 2 65536) moving
  pub evicted_once : IsLeft read_two (with_servers 2 65536) evicting
  pub locks_itself : IsLeft locked_twice (with_servers 1 65536) locking_twice
  pub released_first : IsLeft locked_elsewhere (with_servers 2 65536) (locking_elsewhere ++ deliver 0 1 ++ deliver 0 0 ++ unlocked)
  pub unlocked_first : IsLeft locked_elsewhere (with_servers 2 65536) (locking_elsewhere ++ deliver 0 0 ++ deliver 0 0 ++ unlocked)
