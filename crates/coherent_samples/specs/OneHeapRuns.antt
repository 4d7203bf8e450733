-- The one heap of a cluster along whole runs: after each event it is the plain state of the machine of compiled code under the order of the journal.
use Rattle.std.specs.Prelude.{◌≡◌, ℕ, List, [], ◌∷◌, ◌++◌, map, Option, Some, None}
use Rattle.server_model.specs.Below.fr_base.declared.name.ObjNo.{ObjNo}
use Rattle.server_model.specs.Below.fr_base.declared.label.Label.{Label}
use Rattle.server_model.specs.Below.fr_base.declared.label.Plain.{Plain}
use Rattle.server_model.specs.Below.fr_base.declared.instruction.Instr.{Instr}
use Rattle.server_model.specs.Below.fr_base.declared.settings.Options.{Options}
use Rattle.fr_code.specs.Below.fr_plain.PlainState.{plain_state}
use Rattle.fr_code.specs.Machine.{CodeState, CodeStepped, code_run, code_start}
use Rattle.server_model.specs.Below.journal.Journals.{order, labels}
use Rattle.server_model.specs.declared.event.Event.{Event}
use Rattle.server_model.specs.Servers.{start_of}
use Rattle.server_model.specs.Figures.{Ran, run_event, steps_of, deliver}
use Rattle.server_model.specs.Programs.{with_servers, written_box, lent_slot, read_elsewhere, written_elsewhere, read_by_pairs, often_written, lent_box}
use Rattle.server_model.specs.Rows.{reading_elsewhere, writing_elsewhere, reading_by_pairs, moving}
use Rattle.coherent_memory.specs.OneHeap.{PlainLife, one_heap}

-- WHAT IS SHOWN OF A STATE

-- the threads and objects of some names
pub record Shown : Type 0 where
  pub threads : List (Option PlainLife)
  pub made : List ℕ
  pub pairs : List (Option (ℕ × ℕ))
  pub objects : List (Option Plain)

abbrev pub show : List ℕ → List ObjNo → CodeState → Shown
show ts os s = record { threads = map s.thread ts; made = map s.made ts; pairs = map s.pair ts; objects = map s.object os }

abbrev pub show_code : List ℕ → List ObjNo → Option CodeStepped → List Shown
show_code ts os None = []
show_code ts os (Some d) = show ts os (plain_state d.state) ∷ []

-- ALONG A RUN

abbrev shown_and : {A : Type 0} → (Ran → List A) → (Option Ran → List A) → Option Ran → List A
shown_and f go None = []
shown_and f go (Some r) = f r ++ go (Some r)

-- what f shows after each event
abbrev pub along : {A : Type 0} → (Ran → List A) → List Event → Option Ran → List A
along f [] r = []
along f (e ∷ es) r = shown_and f (along f es) (run_event r e)

abbrev pub starts : List Instr → Options → Option Ran
starts code o = Some (record { cluster = start_of code o; journal = []; kinds = [] })

-- these threads and these objects are in the one heap, after each event, what they are in the code machine's state
abbrev Follows : List Instr → Options → List Event → List ℕ → List ObjNo → Type 0
Follows code o es ts os =
    along (λ r. show ts os (one_heap r.cluster) ∷ []) es (starts code o) ≡ along (λ r. show_code ts os (code_run code code_start (order r.journal))) es (starts code o)

abbrev pub labels_in : Option CodeStepped → List (List Label)
labels_in None = []
labels_in (Some d) = d.labels ∷ []

-- and so are the labels
abbrev Labelled : List Instr → Options → List Event → Type 0
Labelled code o es = along (λ r. labels r.journal ∷ []) es (starts code o) ≡ along (λ r. labels_in (code_run code code_start (order r.journal))) es (starts code o)

abbrev first_objects : List ObjNo
first_objects = record { thread = 0; count = 0 } ∷ record { thread = 0; count = 1 } ∷ []

pub record OneHeapsCompute : Type 0 where
  pub box_written : Follows written_box (with_servers 1 65536) (steps_of 0 0 7 ++ deliver 0 0) (0 ∷ 1 ∷ []) first_objects
  pub slot_lent : Follows lent_slot (with_servers 1 65536) (steps_of 0 0 9) (0 ∷ 1 ∷ []) first_objects
  pub copied_once : Follows read_elsewhere (with_servers 2 65536) reading_elsewhere (0 ∷ 1 ∷ 2 ∷ []) first_objects
  pub comes_to_writer : Follows written_elsewhere (with_servers 2 65536) writing_elsewhere (0 ∷ 1 ∷ 2 ∷ []) first_objects
  pub renewed_twice : Follows often_written (with_servers 1 2) (steps_of 0 0 11 ++ deliver 0 0) (0 ∷ 1 ∷ []) first_objects
  pub written_in_turns : Follows lent_box (with_servers 2 65536) moving (0 ∷ 1 ∷ []) first_objects
  -- a parent shows which two threads it waits for
  pub pairs_started : Follows read_by_pairs (with_servers 3 65536) reading_by_pairs (0 ∷ 1 ∷ 2 ∷ 3 ∷ 4 ∷ []) first_objects
  pub box_labels : Labelled written_box (with_servers 1 65536) (steps_of 0 0 7 ++ deliver 0 0)
  pub copied_labels : Labelled read_elsewhere (with_servers 2 65536) reading_elsewhere
  pub writer_labels : Labelled written_elsewhere (with_servers 2 65536) writing_elsewhere
  pub turns_labels : Labelled lent_box (with_servers 2 65536) moving
