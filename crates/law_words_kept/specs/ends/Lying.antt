-- THE OBJECTS OF WHAT A THREAD WRITES THROUGH OR ENDS lie where the pointers' words lead (in the manner of DRust), in a coherent cluster.
use Rattle.std.specs.Prelude.{◌≡◌, ℕ, ◌<◌, Some}
use Rattle.law_words_kept.specs.Below.fr_base.declared.place.Lval.{Lval}
use Rattle.law_words_kept.specs.Below.heap_partition.declared.value.BoxPtr.{BoxPtr}
use Rattle.law_words_kept.specs.Below.mut_borrow.declared.mutable.MutRef.{MutRef}
use Rattle.law_words_kept.specs.Below.thread_state.declared.value.Value.{Value}
use Rattle.law_words_kept.specs.Below.thread_state.declared.phase.Phase.TheVariants as phase
use Rattle.law_words_kept.specs.Below.server_model.Servers.{Cluster}
use Rattle.law_words_kept.specs.Below.server_model.Places.{pointer_of}
use Rattle.law_words_kept.specs.Below.coherent_memory.Things.{Location}
use Rattle.law_words_kept.specs.Below.coherent_memory.Follow.{Standing, value_in, locate}
use Rattle.law_words_kept.specs.Below.coherent_memory.Paths.{ends, written_place}
use Rattle.law_words_kept.specs.Below.coherent_memory.Sight.{sight}
use Rattle.law_words_kept.specs.Below.coherent_memory.Walking.{path}
use Rattle.law_words_kept.specs.Below.coherent_types.ClusterTypes.{IsCoherent}
use Rattle.law_words_kept.specs.Below.law_words_paths.paths.HeapStore.{GoesOn}
use Rattle.law_words_kept.specs.reads.Reading.{LiesUnder}

-- of a thread that doesn't wait for a cell: each pointer that its write follows leads to where the object lies
abbrev pub WrittenLieThere : Type 0
WrittenLieThere = (k : Cluster) → IsCoherent k → (x : Standing) (w : Lval) (d : ℕ) (l : Location) (v : Value) (p : BoxPtr) → GoesOn k x → ((u : ℕ) → x.thread.phase ≡ phase.WaitCell u → ⊥) → written_place (path (sight k) x) ≡ Some w → d < w.depth
    → locate (sight k).ground x.thread.number w.slot d ≡ Some l → value_in (sight k).ground l ≡ Some v → pointer_of v ≡ Some p → LiesUnder k p

-- and so does the mutable reference that its instruction ends
abbrev pub EndedLiesThere : Type 0
EndedLiesThere = (k : Cluster) → IsCoherent k → (x : Standing) (r : MutRef) → GoesOn k x → ((u : ℕ) → x.thread.phase ≡ phase.WaitCell u → ⊥) → path (sight k) x ≡ ends r → LiesUnder k (record { word = r.word; object = r.object })
