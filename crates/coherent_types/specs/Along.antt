-- Whole runs keep what can be counted of types, after each event.
use Rattle.std.specs.Prelude.{◌≡◌, ℕ, ◌+◌, false, List, [], ◌∷◌, ◌++◌, Option, Some, None}
use Rattle.coherent_memory.specs.Below.fr_base.declared.instruction.Instr.{Instr}
use Rattle.coherent_memory.specs.Below.fr_base.declared.settings.Options.{Options}
use Rattle.coherent_memory.specs.Below.fr_base.declared.place.Lval.{Lval}
use Rattle.coherent_memory.specs.Below.journal.View.{EntryView}
use Rattle.coherent_memory.specs.Below.fr_typing.Kinds.{unit, int, box, shared, mutable, Piece, whole}
use Rattle.coherent_memory.specs.Below.fr_store.Keys.{slot_k}
use Rattle.coherent_memory.specs.Below.fr_store.Typed.{Exact, owns, refers, hole, KeyTypes}
use Rattle.coherent_memory.specs.Below.server_model.declared.event.Event.{Event}
use Rattle.coherent_memory.specs.Below.server_model.Servers.{Cluster, start_of}
use Rattle.coherent_memory.specs.Below.server_model.Clusters.{apply}
use Rattle.coherent_memory.specs.Below.server_model.Figures.{deliver}
use Rattle.coherent_memory.specs.Below.server_model.Programs.{with_servers, read_by_pairs, locked_elsewhere, lent_box}
use Rattle.coherent_memory.specs.Below.server_model.Rows.{reading_by_pairs, moving, locking_elsewhere, unlocked}
use Rattle.coherent_memory.specs.Follow.{Standing, thread_at}
use Rattle.coherent_memory.specs.Sight.{Sight, sight}
use Rattle.coherent_types.specs.Names.{NameTypes}
use Rattle.coherent_memory.specs.Below.fr_code.CodeTypes.{Table, Entry as Types}
use Rattle.coherent_memory.specs.Below.fr_sound.States.{part_at}
use Rattle.coherent_types.specs.ClusterTypes.{misfits, forms_wrong, locked_wrong, leads_wrong, views_wrong, ends_wrong}
use Rattle.coherent_types.specs.Tables.{pairs_table, locks_table, lent_table}

-- where each set has one place, the exact type of a slot is that of its environment
abbrev exact_from : ℕ → List Lval → Exact
exact_from t [] = owns hole
exact_from t (w ∷ ws) = refers false (record { key = slot_k t w.slot; depth = w.depth })

abbrev exact_part : ℕ → Option Piece → Exact
exact_part t (Some (whole (shared us))) = exact_from t us
exact_part t (Some (whole (mutable us))) = exact_from t us
exact_part t p = owns hole

abbrev exact_entry : ℕ → ℕ → Option Types → Exact
exact_entry t i None = owns hole
exact_entry t i (Some x) = exact_part t (part_at x.env i)

abbrev exact_thread : Table → ℕ → ℕ → Option Standing → Exact
exact_thread table t i None = owns hole
exact_thread table t i (Some x) = exact_entry t i (table x.thread.pc)

abbrev pub exact_in : Table → Sight → KeyTypes
exact_in table s (slot_k t i) = exact_thread table t i (thread_at s.ground.threads t)
exact_in table s k = owns hole

abbrev wrong_in : Table → NameTypes → Sight → ℕ
wrong_in table n s =
    misfits n s + forms_wrong table n s + locked_wrong table n s + leads_wrong (exact_in table s) s + views_wrong table s + ends_wrong table n s

abbrev after : (Cluster → ℕ) → Option (Cluster × EntryView) → ℕ
after go None = 1
after go (Some d) = go d.0

abbrev wrong_along : Table → NameTypes → List Event → Cluster → ℕ
wrong_along table n [] k = wrong_in table n (sight k)
wrong_along table n (e ∷ es) k = wrong_in table n (sight k) + after (wrong_along table n es) (apply k e)

-- each object holds an integer, each mutex a box, and each thread ends with unit
abbrev pub integers : NameTypes
integers = record { object = λ o. int; mutex = λ m. box int; result = λ t. unit }

abbrev Keeps : List Instr → Options → List Event → Table → Type 0
Keeps code o es table = wrong_along table integers es (start_of code o) ≡ 0

pub record RowsKeepTypes : Type 0 where
  pub pairs : Keeps read_by_pairs (with_servers 3 65536) reading_by_pairs pairs_table
  pub locks : Keeps locked_elsewhere (with_servers 2 65536) (locking_elsewhere ++ deliver 0 1 ++ deliver 0 0 ++ unlocked) locks_table
  pub lent : Keeps lent_box (with_servers 2 65536) moving lent_table
