-- Clusters that break what is counted of types, a sentence each.
use Rattle.std.specs.Prelude.{◌≡◌, ℕ, false, List, [], ◌∷◌, Some}
use Rattle.coherent_memory.specs.Below.global_addr.Words.{word_of}
use Rattle.coherent_memory.specs.Below.fr_base.declared.place.Lval.{Lval}
use Rattle.coherent_memory.specs.Below.heap_partition.declared.value.Owned.TheVariants as owned
use Rattle.coherent_memory.specs.Below.thread_state.View.{ThreadState, new_thread}
use Rattle.coherent_memory.specs.Below.thread_state.declared.value.Value.{Value}
use Rattle.coherent_memory.specs.Below.thread_state.declared.value.Value.TheVariants as value
use Rattle.coherent_memory.specs.Below.fr_typing.Kinds.{unit, int, mutable, own, whole}
use Rattle.coherent_memory.specs.Below.fr_typing.Kinds as kind
use Rattle.coherent_memory.specs.Below.fr_typing.Places.{Env}
use Rattle.coherent_memory.specs.Below.server_model.Servers.{Server, Cluster}
use Rattle.coherent_memory.specs.Below.server_model.Programs.{lent_box}
use Rattle.sample_clusters.specs.Clusters.{cell, int as one_int, box, object, place, the_mutex}
use Rattle.sample_clusters.specs.ChosenPrograms.{lent_deep}
use Rattle.coherent_memory.specs.Sight.{sight}
use Rattle.coherent_types.specs.Names.{NameTypes}
use Rattle.coherent_memory.specs.Below.fr_code.CodeTypes.{Table, going}
use Rattle.coherent_types.specs.ClusterTypes.{misfits, forms_wrong, locked_wrong, leads_wrong, views_wrong, ends_wrong}
use Rattle.coherent_types.specs.Codes.{boxed_table}
use Rattle.coherent_types.specs.Tables.{x_name, r_name, c_name, slot, pairs_table, lent_table}
use Rattle.coherent_types.specs.Typed.{boxed_main, boxed_server, boxed_cluster}
use Rattle.coherent_types.specs.Paired.{parent, seen, paired_server, paired_cluster}
use Rattle.coherent_types.specs.Locking.{twice_table, locking_main, locking_server, locking_cluster}
use Rattle.coherent_types.specs.Along.{exact_in, integers}

-- the cluster with these threads at its one server
abbrev with_threads : Cluster → Server → List ThreadState → Cluster
with_threads k s ts = record k { servers = record s { threads = ts } ∷ [] }

abbrev leads_in : Table → Cluster → ℕ
leads_in table k = let s = sight k in leads_wrong (exact_in table s) s

-- an integer's object holds unit
abbrev unit_held : Cluster
unit_held = record boxed_cluster { servers = record boxed_server { rest = record boxed_server.rest { partition = record boxed_server.rest.partition { cells = cell 0 owned.Unit ∷ [] } } } ∷ [] }

-- an integer stands in the slot of a box
abbrev int_for_box : Cluster
int_for_box = with_threads boxed_cluster boxed_server (record boxed_main { slots = value.Own (one_int 1) ∷ [] } ∷ [])

-- the mark is of another mutex than that at the lock's place
abbrev other_mark : Cluster
other_mark =
    with_threads locking_cluster locking_server
    (record locking_main { slots = value.Own (owned.Mutex the_mutex) ∷ value.Held (record { home = 0; count = 2 }) ∷ value.Own (one_int 1) ∷ [] } ∷ [])

abbrev reference_with : Lval → Value
reference_with holder = value.Mut (record { word = word_of 0 0 0; first = word_of 0 0 0; object = object 0; dirty = false; holder = holder })

-- main has a mutable reference to what its box holds, with that holder
abbrev lent_with : Lval → Cluster
lent_with holder =
    with_threads (record boxed_cluster { code = lent_box }) boxed_server
    (record (new_thread 0 4 (value.Own (box (word_of 0 0 0) 0) ∷ reference_with holder ∷ [])) { made = 1 } ∷ [])

-- the box of another box is lent, and the inner one is lent through that reference: both pointers to the inner object's cell have one location, but
-- the reference ends along the place that was lent
abbrev deep_slots : Env
deep_slots =
    slot c_name (whole (mutable (place 1 2 ∷ []))) ∷ slot r_name (whole (mutable (place 0 1 ∷ []))) ∷ slot x_name (whole (own (kind.box (kind.box int)))) ∷ []

abbrev deep_table : Table
deep_table pc = Some (going deep_slots [] unit)

abbrev reference_to : ℕ → Lval → Value
reference_to n holder = value.Mut (record { word = word_of 0 0 n; first = word_of 0 0 n; object = object n; dirty = false; holder = holder })

abbrev deep_with : Lval → Cluster
deep_with holder =
    record boxed_cluster {
      code = lent_deep;
      servers = record boxed_server {
        rest = record boxed_server.rest { partition = record boxed_server.rest.partition { cells = cell 0 (one_int 1) ∷ cell 1 (box (word_of 0 0 0) 0) ∷ [] } };
        threads = record (new_thread 0 7 (value.Own (box (word_of 0 0 1) 1) ∷ reference_to 1 (place 0 0) ∷ reference_to 0 holder ∷ [])) { made = 2 } ∷ [];
      } ∷ [];
    }

-- the parent has no reference to what its branches see
abbrev unseen : Cluster
unseen =
    with_threads paired_cluster paired_server
    (record parent { slots = value.Own (box (word_of 0 0 0) 0) ∷ value.Gone ∷ [] } ∷ new_thread 1 15 (seen ∷ []) ∷ new_thread 2 19 (seen ∷ []) ∷ [])

-- each thread ends with an integer
abbrev int_results : NameTypes
int_results = record integers { result = λ t. int }

pub record TypesBreak : Type 0 where
  pub agree : misfits integers (sight unit_held) ≡ 1
  pub forms : forms_wrong boxed_table integers (sight int_for_box) ≡ 1
  -- the mutex holds a box, and an integer stands above its mark
  pub locked : locked_wrong twice_table integers (sight locking_cluster) ≡ 1
  pub marks : leads_in twice_table other_mark ≡ 1
  -- a holder is the pointer's place, and not that of the object
  pub held : leads_in lent_table (lent_with (place 0 0)) ≡ 0
  pub holders : leads_in lent_table (lent_with (place 0 1)) ≡ 1
  -- and is no other way to the same pointer
  pub reborrowed : leads_in deep_table (deep_with (place 1 1)) ≡ 0
  pub elsewhere : leads_in deep_table (deep_with (place 0 1)) ≡ 1
  -- both branches' views
  pub views : views_wrong pairs_table (sight unseen) ≡ 2
  -- main's code and those of its branches
  pub ends : ends_wrong pairs_table int_results (sight paired_cluster) ≡ 3
