-- Whole runs stay coherent: after each event of the rows no sentence is broken.
use Rattle.std.specs.Prelude.{◌≡◌, ℕ, ◌+◌, List, [], ◌∷◌, ◌++◌, Option, Some, None}
use Rattle.server_model.specs.Below.fr_base.declared.instruction.Instr.{Instr}
use Rattle.server_model.specs.Below.fr_base.declared.settings.Options.{Options}
use Rattle.server_model.specs.Below.journal.View.{EntryView}
use Rattle.server_model.specs.declared.event.Event.{Event}
use Rattle.server_model.specs.Servers.{Cluster, start_of}
use Rattle.server_model.specs.Clusters.{apply}
use Rattle.server_model.specs.Figures.{steps_of, deliver}
use Rattle.server_model.specs.Programs.{with_servers, written_box, empty, lent_slot, read_elsewhere, written_elsewhere, read_by_pairs, often_written, lent_box, read_two, locked_twice, locked_elsewhere}
use Rattle.server_model.specs.Rows.{reading_elsewhere, writing_elsewhere, reading_by_pairs, moving, evicting, locking_twice, locking_elsewhere, unlocked}
use Rattle.coherent_memory.specs.Coherent.{Sentence, broken}

-- after which event, counted from 1, which sentences are broken
pub data Fault : Type 0 where
  breaks : (event : ℕ) → List Sentence → Fault
  no_result : (event : ℕ) → Fault

abbrev with_fault : ℕ → List Sentence → List Fault → List Fault
with_fault n [] fs = fs
with_fault n (s ∷ ss) fs = breaks n (s ∷ ss) ∷ fs

abbrev after : (ℕ → Cluster → List Fault) → ℕ → Option (Cluster × EntryView) → List Fault
after go n None = no_result n ∷ []
after go n (Some d) = with_fault n (broken d.0) (go n d.0)

-- the faults after each of these events
abbrev pub faults : List Event → ℕ → Cluster → List Fault
faults [] n k = []
faults (e ∷ es) n k = after (faults es) (n + 1) (apply k e)

-- the run of the code from its start has no fault
abbrev pub Stays : List Instr → Options → List Event → Type 0
Stays code o es = faults es 0 (start_of code o) ≡ []

pub record RowsStayCoherent : Type 0 where
  pub box_written : Stays written_box (with_servers 1 65536) (steps_of 0 0 7 ++ deliver 0 0)
  pub nothing_done : Stays empty (with_servers 1 65536) (steps_of 0 0 1)
  pub slot_lent : Stays lent_slot (with_servers 1 65536) (steps_of 0 0 9)
  pub copied_once : Stays read_elsewhere (with_servers 2 65536) reading_elsewhere
  pub comes_to_writer : Stays written_elsewhere (with_servers 2 65536) writing_elsewhere
  pub old_copy_kept : Stays read_by_pairs (with_servers 3 65536) reading_by_pairs
  pub renewed_twice : Stays often_written (with_servers 1 2) (steps_of 0 0 11 ++ deliver 0 0)
  pub written_in_turns : Stays lent_box (with_servers 2 65536) moving
  pub evicted_once : Stays read_two (with_servers 2 65536) evicting
  pub locks_itself : Stays locked_twice (with_servers 1 65536) locking_twice
  pub released_first : Stays locked_elsewhere (with_servers 2 65536) (locking_elsewhere ++ deliver 0 1 ++ deliver 0 0 ++ unlocked)
  pub unlocked_first : Stays locked_elsewhere (with_servers 2 65536) (locking_elsewhere ++ deliver 0 0 ++ deliver 0 0 ++ unlocked)
