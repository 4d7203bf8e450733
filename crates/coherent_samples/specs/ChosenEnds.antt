-- Where runs under chosen events lead: the journal leaves the coloured heap of the cluster, and the code machine's state under the journal's order is
-- its one heap.
use Rattle.std.specs.Prelude.{◌≡◌, ℕ, zero, suc, List, [], ◌∷◌, Option, Some, None}
use Rattle.server_model.specs.Below.fr_base.declared.name.ObjNo.{ObjNo}
use Rattle.server_model.specs.Below.fr_base.declared.instruction.Instr.{Instr}
use Rattle.server_model.specs.Below.fr_base.declared.settings.Options.{Options}
use Rattle.server_model.specs.Below.journal.Journals.{order, labels}
use Rattle.server_model.specs.declared.event.Event.{Event}
use Rattle.server_model.specs.Figures.{Ran, run_event}
use Rattle.server_model.specs.Programs.{with_servers, written_elsewhere, read_by_pairs}
use Rattle.coloured_heap.specs.Legal.{journal_after}
use Rattle.fr_code.specs.Machine.{code_run, code_start}
use Rattle.coherent_memory.specs.OneHeap.{one_heap}
use Rattle.coherent_samples.specs.OneHeapRuns.{starts, show, show_code, labels_in}
use Rattle.coherent_samples.specs.LeftRuns.{legal_events, cluster_side, journal_side}
use Rattle.coherent_samples.specs.Chosen.{next_number, chosen, all_events}
use Rattle.sample_clusters.specs.ChosenPrograms.{lent_deep, locked_by_two, viewed_twice, locked_in_box}

abbrev taken : Option Event → Ran → Option Ran
taken None r = Some r
taken (Some e) r = run_event (Some r) e

-- a run after so many turns
abbrev pub run_of : ℕ → ℕ → Option Ran → Option Ran
run_of n seed None = None
run_of zero seed (Some r) = Some r
run_of (suc n) seed (Some r) = run_of n (next_number seed) (taken (chosen seed (all_events r.cluster.options r.cluster.servers)) r)

abbrev pub of_run : {A : Type 0} → (Ran → List A) → Option Ran → List A
of_run f None = []
of_run f (Some r) = f r

-- the journal is legal, and leaves the coloured heap
pub record Leaves (code : List Instr) (o : Options) (n seed : ℕ) : Type 0 where
  pub legal : of_run legal_events (run_of n seed (starts code o)) ≡ 1 ∷ []
  pub same : of_run (λ q. cluster_side q (journal_after q.cluster.options q.journal)) (run_of n seed (starts code o)) ≡ of_run (λ q. journal_side q (journal_after q.cluster.options q.journal)) (run_of n seed (starts code o))

abbrev threads : List ℕ
threads = 0 ∷ 1 ∷ 2 ∷ 4294967297 ∷ []

abbrev objects : List ObjNo
objects =
    record { thread = 0; count = 0 } ∷ record { thread = 0; count = 1 } ∷ record { thread = 0; count = 2 } ∷ record { thread = 0; count = 3 } ∷ record { thread = 1; count = 0 } ∷ []

-- its one heap is the code machine's state, with the labels
pub record FollowsTo (code : List Instr) (o : Options) (n seed : ℕ) : Type 0 where
  pub there : of_run {A = ℕ} (λ q. 1 ∷ []) (run_of n seed (starts code o)) ≡ 1 ∷ []
  pub state : of_run (λ q. show threads objects (one_heap q.cluster) ∷ []) (run_of n seed (starts code o)) ≡ of_run (λ q. show_code threads objects (code_run code code_start (order q.journal))) (run_of n seed (starts code o))
  pub labels : of_run (λ q. labels q.journal ∷ []) (run_of n seed (starts code o)) ≡ of_run (λ q. labels_in (code_run code code_start (order q.journal))) (run_of n seed (starts code o))

pub record ChosenEnd : Type 0 where
  pub deep_30 : Leaves lent_deep (with_servers 2 2) 30 21
  pub deep_60 : Leaves lent_deep (with_servers 2 2) 60 21
  pub deep_90 : Leaves lent_deep (with_servers 2 2) 90 22
  pub shared_30 : Leaves locked_by_two (with_servers 2 2) 30 31
  pub shared_60 : Leaves locked_by_two (with_servers 3 1) 60 32
  pub shared_90 : Leaves locked_by_two (with_servers 2 2) 90 33
  pub pairs_45 : Leaves read_by_pairs (with_servers 3 2) 45 41
  pub pairs_80 : Leaves read_by_pairs (with_servers 2 2) 80 42
  pub viewed_60 : Leaves viewed_twice (with_servers 2 2) 60 43
  pub boxed_50 : Leaves locked_in_box (with_servers 2 1) 50 53
  pub plain_deep_20 : FollowsTo lent_deep (with_servers 2 2) 20 51
  pub plain_deep_40 : FollowsTo lent_deep (with_servers 2 2) 40 51
  pub plain_deep_60 : FollowsTo lent_deep (with_servers 2 2) 60 52
  pub plain_deep_80 : FollowsTo lent_deep (with_servers 3 2) 80 53
  pub plain_deep_100 : FollowsTo lent_deep (with_servers 3 1) 100 54
  pub plain_deep_120 : FollowsTo lent_deep (with_servers 2 1) 120 55
  pub plain_written_30 : FollowsTo written_elsewhere (with_servers 2 2) 30 61
  pub plain_written_60 : FollowsTo written_elsewhere (with_servers 3 2) 60 62
