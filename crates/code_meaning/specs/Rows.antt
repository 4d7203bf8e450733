-- Whole runs of clusters, each beside the plain run of its code under the order of its journal: after each event both are the same at all names of
-- the run, with the same labels and prints.
use Rattle.std.specs.Prelude.{◌≡◌, ℕ, ℤ, pos, Bool, List, [], ◌∷◌, ◌++◌, map, Option, Some, None}
use Rattle.fr_base.specs.declared.name.ObjNo.{ObjNo}
use Rattle.fr_base.specs.declared.name.MutexNo.{MutexNo}
use Rattle.fr_base.specs.declared.label.Label.{Label}
use Rattle.fr_base.specs.declared.label.Plain.{Plain}
use Rattle.fr_base.specs.declared.step.Wait.{Wait}
use Rattle.fr_base.specs.declared.step.Wait.TheVariants as wait
use Rattle.fr_base.specs.declared.step.Ending3.{Ending3}
use Rattle.fr_base.specs.declared.step.Ending3.TheVariants as ending
use Rattle.fr_base.specs.declared.instruction.Instr.{Instr}
use Rattle.fr_base.specs.declared.settings.Options.{Options}
use Rattle.journal.specs.Journals.{order, labels, prints}
use Rattle.server_model.specs.declared.event.Event.{Event}
use Rattle.server_model.specs.Figures.{Ran, run as cluster_run, steps_of, deliver, first_goes_on, last_goes_on}
use Rattle.server_model.specs.Programs.{with_servers, written_box, empty, lent_slot, read_elsewhere, written_elsewhere, read_by_pairs, often_written, lent_box, read_two, locked_twice, locked_elsewhere, counted_up, task_dropped}
use Rattle.server_model.specs.Larger.{raised_by_two, pair_in_pair, all_dropped}
use Rattle.server_model.specs.Rows.{reading_elsewhere, writing_elsewhere, reading_by_pairs, moving, evicting, locking_twice, locking_elsewhere, unlocked}
use Rattle.coherent_memory.specs.OneHeap.{PlainLife, one_heap}
use Rattle.coherent_samples.specs.OneHeapRuns.{along, starts}
use Rattle.sample_clusters.specs.ChosenPrograms.{lent_deep, locked_by_two, viewed_twice, locked_in_box}
use Rattle.coherent_samples.specs.ChosenEnds.{run_of, of_run}
use Rattle.fr_plain.specs.MachineThreads.{Shared}
use Rattle.fr_plain.specs.PlainState.{plain_state}
use Rattle.fr_code.specs.Machine.{CodeState, CodeStepped}
use Rattle.code_meaning.specs.Runs.{run, waits, ending_of}

-- WHAT IS SHOWN

-- of a plain state at some names, with what led to it
pub record Shown : Type 0 where
  pub threads : List (Option PlainLife)
  pub made : List ℕ
  pub pairs : List (Option (ℕ × ℕ))
  pub objects : List (Option Plain)
  pub mutexes : List (Option Shared)
  pub given : List Bool
  pub labels : List Label
  pub prints : List ℤ

-- the names of a small run on up to three servers
abbrev threads : List ℕ
threads = 0 ∷ 1 ∷ 2 ∷ 3 ∷ 4 ∷ 5 ∷ 4294967297 ∷ 4294967298 ∷ 8589934593 ∷ []

abbrev objects : List ObjNo
objects =
    record { thread = 0; count = 0 } ∷ record { thread = 0; count = 1 } ∷ record { thread = 0; count = 2 } ∷ record { thread = 0; count = 3 }
    ∷ record { thread = 1; count = 0 } ∷ record { thread = 1; count = 1 } ∷ []

abbrev mutexes : List MutexNo
mutexes = record { home = 0; count = 1 } ∷ record { home = 0; count = 2 } ∷ record { home = 1; count = 1 } ∷ record { home = 2; count = 1 } ∷ []

abbrev show : CodeState → List Label → List ℤ → Shown
show s ls ns = record { threads = map s.thread threads; made = map s.made threads; pairs = map s.pair threads; objects = map s.object objects; mutexes = map s.mutex mutexes; given = map s.is_given mutexes; labels = ls; prints = ns }

-- the one heap of the cluster, with what its journal shows
abbrev pub heap_side : Ran → List Shown
heap_side r = show (one_heap r.cluster) (labels r.journal) (prints r.journal) ∷ []

abbrev shown : Option CodeStepped → List Shown
shown None = []
shown (Some d) = show (plain_state d.state) d.labels d.state.output ∷ []

-- the plain run of its code under the journal's order
abbrev pub run_side : Ran → List Shown
run_side r = shown (run r.cluster.code (order r.journal))

-- how a plain run ends, what its threads wait for, and what it printed
pub record End : Type 0 where
  pub ending : Ending3
  pub waits : List (ℕ × Wait)
  pub prints : List ℤ

abbrev end_of : List Instr → Option CodeStepped → List End
end_of code None = []
end_of code (Some d) = record { ending = ending_of code d.state; waits = waits code d.state; prints = d.state.output } ∷ []

abbrev end_side : Ran → List End
end_side r = end_of r.cluster.code (run r.cluster.code (order r.journal))

abbrev finished : List ℤ → List End
finished ns = record { ending = ending.Finished; waits = []; prints = ns } ∷ []

-- RUNS UNDER GIVEN EVENTS

-- the same after each event, and at the end the plain run has ended so
pub record Agrees (code : List Instr) (o : Options) (es : List Event) (e : List End) : Type 0 where
  pub same : along heap_side es (starts code o) ≡ along run_side es (starts code o)
  pub end : of_run end_side (cluster_run code o es) ≡ e

pub record RowsAgree : Type 0 where
  pub box_written : Agrees written_box (with_servers 1 65536) (steps_of 0 0 7 ++ deliver 0 0) (finished (pos 2 ∷ []))
  pub nothing_done : Agrees empty (with_servers 1 65536) (steps_of 0 0 1) (finished [])
  pub slot_lent : Agrees lent_slot (with_servers 1 65536) (steps_of 0 0 9) (finished (pos 2 ∷ []))
  pub copied_once : Agrees read_elsewhere (with_servers 2 65536) reading_elsewhere (finished (pos 5 ∷ pos 5 ∷ []))
  pub comes_to_writer : Agrees written_elsewhere (with_servers 2 65536) writing_elsewhere (finished (pos 6 ∷ []))
  pub old_copy_kept : Agrees read_by_pairs (with_servers 3 65536) reading_by_pairs (finished (pos 1 ∷ pos 1 ∷ pos 2 ∷ pos 2 ∷ []))
  pub renewed_twice : Agrees often_written (with_servers 1 2) (steps_of 0 0 11 ++ deliver 0 0) (finished (pos 5 ∷ []))
  pub written_in_turns : Agrees lent_box (with_servers 2 65536) moving (finished (pos 2 ∷ pos 3 ∷ pos 3 ∷ []))
  pub evicted_once : Agrees read_two (with_servers 2 65536) evicting (finished (pos 1 ∷ pos 2 ∷ pos 3 ∷ []))
  -- main waits in its second lock
  pub locks_itself : Agrees locked_twice (with_servers 1 65536) locking_twice
      (record { ending = ending.Deadlocked; waits = (0, wait.Lock (record { home = 0; count = 1 })) ∷ []; prints = [] } ∷ [])
  pub released_first : Agrees locked_elsewhere (with_servers 2 65536) (locking_elsewhere ++ deliver 0 1 ++ deliver 0 0 ++ unlocked) (finished [])
  pub unlocked_first : Agrees locked_elsewhere (with_servers 2 65536) (locking_elsewhere ++ deliver 0 0 ++ deliver 0 0 ++ unlocked) (finished [])

-- RUNS UNDER CHOSEN EVENTS

-- the same at the end of a run
abbrev AgreesAfter : Option Ran → Type 0
AgreesAfter r = of_run heap_side r ≡ of_run run_side r

-- the same after so many events, or all there are, that were chosen among all enabled ones; those events can be done
pub record AgreesChosen (code : List Instr) (o : Options) (n seed : ℕ) : Type 0 where
  pub there : of_run {A = ℕ} (λ r. 1 ∷ []) (run_of n seed (starts code o)) ≡ 1 ∷ []
  pub same : AgreesAfter (run_of n seed (starts code o))

-- until no event is enabled, at the first server that can go on, or at the last one
pub record AgreesAtEnd (code : List Instr) (o : Options) (ns : List ℤ) : Type 0 where
  pub first : of_run end_side (first_goes_on (cluster_run code o [])) ≡ finished ns
  pub first_same : AgreesAfter (first_goes_on (cluster_run code o []))
  pub last : of_run end_side (last_goes_on (cluster_run code o [])) ≡ finished ns
  pub last_same : AgreesAfter (last_goes_on (cluster_run code o []))

pub record RunsAgree : Type 0 where
  pub shares_counted : AgreesAtEnd counted_up (with_servers 2 65536) (pos 12 ∷ [])
  pub task_let_go : AgreesAtEnd task_dropped (with_servers 2 65536) (pos 3 ∷ [])
  pub contents_dropped : AgreesAtEnd all_dropped (with_servers 2 65536) (pos 1 ∷ [])
  pub pair_inside : AgreesAtEnd pair_in_pair (with_servers 2 65536) (pos 3 ∷ pos 3 ∷ pos 4 ∷ [])
  pub shared_20 : AgreesChosen locked_by_two (with_servers 2 2) 20 31
  pub shared_40 : AgreesChosen locked_by_two (with_servers 2 2) 40 31
  pub shared_60 : AgreesChosen locked_by_two (with_servers 3 1) 60 32
  pub counted_30 : AgreesChosen counted_up (with_servers 2 2) 30 33
  pub counted_50 : AgreesChosen counted_up (with_servers 3 2) 50 34
  pub raised_40 : AgreesChosen raised_by_two (with_servers 3 2) 40 35
  pub raised_60 : AgreesChosen raised_by_two (with_servers 2 1) 60 36
  pub dropped_15 : AgreesChosen all_dropped (with_servers 2 2) 15 37
  pub dropped_20 : AgreesChosen all_dropped (with_servers 2 2) 20 38
  pub pairs_30 : AgreesChosen read_by_pairs (with_servers 3 2) 30 41
  pub pairs_50 : AgreesChosen read_by_pairs (with_servers 3 2) 50 42
  pub inside_40 : AgreesChosen pair_in_pair (with_servers 2 2) 40 43
  pub viewed_40 : AgreesChosen viewed_twice (with_servers 2 2) 40 44
  pub viewed_60 : AgreesChosen viewed_twice (with_servers 2 2) 60 43
  pub boxed_30 : AgreesChosen locked_in_box (with_servers 2 2) 30 52
  pub boxed_50 : AgreesChosen locked_in_box (with_servers 2 1) 50 53
  pub deep_50 : AgreesChosen lent_deep (with_servers 2 2) 50 51
