-- WHAT AN EVENT SENDS: the messages that it appends to its server's own list and to its outbox are those of its entry's acts (this project's rule).
use Rattle.std.specs.Prelude.{◌≡◌, ℕ, ◌*◌, ◌==◌, Bool, List, [], ◌∷◌, ◌++◌, length, drop, map, filter, remove, Option, Some, None}
use Rattle.server_model.specs.Below.fr_base.declared.instruction.Instr.{Instr}
use Rattle.server_model.specs.Below.fr_base.declared.settings.Options.{Options}
use Rattle.server_model.specs.Below.journal.declared.act.Act.{Act}
use Rattle.server_model.specs.Below.journal.View.{EntryView}
use Rattle.server_model.specs.Below.server_msgs.Messages.{kind_of}
use Rattle.server_model.specs.Below.server_msgs.declared.message.Message.{Message}
use Rattle.server_model.specs.declared.event.Event.{Event}
use Rattle.server_model.specs.declared.event.What.{What}
use Rattle.server_model.specs.declared.event.What.TheVariants.{Deliver}
use Rattle.server_model.specs.Servers.{Sent, Server, Cluster, server_at, start_of}
use Rattle.server_model.specs.Clusters.{act_at, hand_over}
use Rattle.server_model.specs.Figures.{steps_of, deliver}
use Rattle.server_model.specs.Programs.{with_servers, written_box, read_elsewhere, written_elsewhere, read_by_pairs, often_written, lent_box, read_two, locked_twice, locked_elsewhere}
use Rattle.server_model.specs.Rows.{reading_elsewhere, writing_elsewhere, reading_by_pairs, moving, evicting, locking_twice, locking_elsewhere, unlocked}
use Rattle.coloured_heap.specs.Sends.{Sending, sendings, leaves}

-- a message, by its kind and the server that it goes to
abbrev pub sending_of : ℕ → Message → Sending
sending_of target m = record { kind = kind_of m; target = target }

abbrev pub sending_out : Sent → Sending
sending_out x = sending_of x.target x.message

-- it stays at the server
abbrev pub stays : ℕ → Sending → Bool
stays here m = m.target == here

-- the waiting messages that an event finds and leaves: a delivered one is taken out
abbrev pub left_waiting : What → List Message → List Message
left_waiting (Deliver i) ms = remove ms i
left_waiting what ms = ms

-- an event leaves the older messages, and appends those of its acts in order: the ones to its own server to the waiting ones there, the others to the
-- outbox
pub record AppendsSendings (what : What) (before after : Server) (acts : List Act) : Type 0 where
  pub own : List Message
  pub others : List Sent
  pub waiting : after.rest.inbox ≡ left_waiting what before.rest.inbox ++ own
  pub outbox : after.rest.outbox ≡ before.rest.outbox ++ others
  pub own_sendings : map (sending_of before.rest.number) own ≡ filter (stays before.rest.number) (sendings acts)
  pub other_sendings : map sending_out others ≡ filter (leaves before.rest.number) (sendings acts)

-- COMPUTED

-- what stands behind the older messages after an event of a server, its own ones and the others
abbrev appended : What → Option Server → Option Server → List (List Sending)
appended what (Some before) (Some after) = map (sending_of before.rest.number) (drop (length (left_waiting what before.rest.inbox)) after.rest.inbox) ∷ map sending_out (drop (length before.rest.outbox) after.rest.outbox) ∷ []
appended what before after = []

abbrev by_servers : Cluster → Event → Cluster × EntryView → List (List Sending)
by_servers k e d = appended e.what (server_at k.servers e.server) (server_at d.0.servers e.server)

-- what the acts of its entry send
abbrev by_acts : Cluster → Event → Cluster × EntryView → List (List Sending)
by_acts k e d = filter (stays e.server) (sendings d.1.acts) ∷ filter (leaves e.server) (sendings d.1.acts) ∷ []

abbrev shown_and : (Cluster → Event → Cluster × EntryView → List (List Sending)) → (Cluster → List (List Sending)) → Cluster → Event → Option (Cluster × EntryView) → List (List Sending)
shown_and show go k e None = []
shown_and show go k e (Some d) = show k e d ++ go (hand_over d.0)

-- what is shown of each event of a run
abbrev of_each : (Cluster → Event → Cluster × EntryView → List (List Sending)) → List Event → Cluster → List (List Sending)
of_each show [] k = []
of_each show (e ∷ es) k = shown_and show (of_each show es) k e (act_at k e)

-- each event of the run has a result, and what it appends are the messages of its acts
pub record SendsItsActs (code : List Instr) (o : Options) (es : List Event) : Type 0 where
  pub done : length (of_each by_servers es (start_of code o)) ≡ 2 * length es
  pub same : of_each by_servers es (start_of code o) ≡ of_each by_acts es (start_of code o)

pub record RowsSendTheirActs : Type 0 where
  pub box_written : SendsItsActs written_box (with_servers 1 65536) (steps_of 0 0 7 ++ deliver 0 0)
  pub copied_once : SendsItsActs read_elsewhere (with_servers 2 65536) reading_elsewhere
  pub comes_to_writer : SendsItsActs written_elsewhere (with_servers 2 65536) writing_elsewhere
  pub old_copy_kept : SendsItsActs read_by_pairs (with_servers 3 65536) reading_by_pairs
  pub renewed_twice : SendsItsActs often_written (with_servers 1 2) (steps_of 0 0 11 ++ deliver 0 0)
  pub written_in_turns : SendsItsActs lent_box (with_servers 2 65536) moving
  pub evicted_once : SendsItsActs read_two (with_servers 2 65536) evicting
  pub locks_itself : SendsItsActs locked_twice (with_servers 1 65536) locking_twice
  pub released_first : SendsItsActs locked_elsewhere (with_servers 2 65536) (locking_elsewhere ++ deliver 0 1 ++ deliver 0 0 ++ unlocked)
  pub unlocked_first : SendsItsActs locked_elsewhere (with_servers 2 65536) (locking_elsewhere ++ deliver 0 0 ++ deliver 0 0 ++ unlocked)
