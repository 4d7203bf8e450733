-- LEFT BY: a cluster is what a journal leaves (this project's rule).
use Rattle.std.specs.Prelude.{◌≡◌, ℕ, ◌+◌, true, List, take, Option, Some}
use Rattle.server_model.specs.Below.fr_base.declared.label.Label.{Label}
use Rattle.server_model.specs.Below.fr_base.declared.step.Fresh.{Fresh}
use Rattle.fr_code.specs.Below.fr_plain.PlainState.{SameState}
use Rattle.fr_code.specs.Machine.{CodeState}
use Rattle.server_model.specs.Below.journal.View.{EntryView}
use Rattle.server_model.specs.Below.journal.Journals.{order, labels}
use Rattle.server_model.specs.Servers.{Cluster}
use Rattle.coloured_heap.specs.Heap.{Coloured}
use Rattle.coloured_heap.specs.Legal.{journal_after}
use Rattle.coloured_heap.specs.Reach.{is_all_reached}
use Rattle.coloured_heap.specs.Sends.{all_messages}
use Rattle.coloured_heap.specs.Figures as figures
use Rattle.coherent_memory.specs.Names.{tot}
use Rattle.coherent_memory.specs.Things.{Thing, sent}
use Rattle.coherent_memory.specs.Sight.{Sight, sight}
use Rattle.coherent_memory.specs.Naming.{events_of}
use Rattle.coherent_memory.specs.OneHeap.{one_heap}
use Rattle.coherent_memory.specs.Colours.{StandsColoured}

-- a plain run of a program: the state and the labels that an order of threads leads to, where it leads somewhere
abbrev pub PlainRun : Type 0
PlainRun = List (ℕ × Fresh) → Option (CodeState × List Label)

-- the order is one of plain steps; they leave that state, with these labels
pub record LeadsTo (run : PlainRun) (steps : List (ℕ × Fresh)) (s : CodeState) (ls : List Label) : Type 0 where
  pub state : CodeState
  pub runs : run steps ≡ Some (state, ls)
  pub same : SameState state s

-- the journal is legal, and the state that it leaves is the cluster's coloured heap
pub record LeavesColoured (k : Cluster) (es : List EntryView) : Type 0 where
  pub state : Coloured
  pub legal : journal_after k.options es ≡ Some state
  pub stands : StandsColoured k state

-- the plain run under the journal's order is there, with the journal's labels
pub record RunsWith (run : PlainRun) (es : List EntryView) : Type 0 where
  pub state : CodeState
  pub runs : run (order es) ≡ Some (state, labels es)

abbrev is_message : Thing → ℕ
is_message (sent r m) = 1
is_message x = 0

-- the messages that wait or are on their way
abbrev pub messages_of : Sight → ℕ
messages_of s = tot is_message s.things

-- the cluster is left by the journal under a plain run of its program
pub record LeftBy (run : PlainRun) (k : Cluster) (es : List EntryView) : Type 0 where
  -- the plain run under the journal's order is there; its state is the cluster's one heap, and its labels are the journal's
  pub plain : LeadsTo run (order es) (one_heap k) (labels es)
  -- and so is that under each beginning of it: entry by entry the journal's labels are those of its plain steps
  pub labelled : (n : ℕ) → RunsWith run (take n es)
  -- each entry reaches what it loads and stores
  pub reached : is_all_reached k.options es ≡ true
  -- the journal is legal, and leaves the cluster's coloured heap
  pub coloured : LeavesColoured k es
  -- the cluster has done as many events as the journal has entries
  pub events : events_of (sight k) ≡ figures.events es
  -- the messages that wait or are on their way, and the deliveries, are together as many as the acts of the journal send, those within one server too
  pub messages : messages_of (sight k) + figures.deliveries es ≡ all_messages es
