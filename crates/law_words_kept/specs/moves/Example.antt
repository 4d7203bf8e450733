-- A cluster in which a reference ends: main drops its slot, and the box that it was made from gets its word.
use Rattle.std.specs.Prelude.{false, ◌≡◌, [], ◌∷◌, Some, option_map}
use Rattle.law_words_paths.specs.Below.fr_base.declared.instruction.Operand.TheVariants as operand
use Rattle.law_words_paths.specs.Below.fr_base.declared.instruction.Instr.TheVariants as instr
use Rattle.law_words_paths.specs.Below.global_addr.Words.{word_of}
use Rattle.law_words_paths.specs.Below.mut_borrow.declared.mutable.MutRef.{MutRef}
use Rattle.law_words_paths.specs.Below.thread_state.View.{ThreadState, new_thread}
use Rattle.law_words_paths.specs.Below.thread_state.declared.value.Value.TheVariants as value
use Rattle.law_words_paths.specs.Below.server_model.declared.event.What.TheVariants.{Step}
use Rattle.law_words_paths.specs.Below.server_model.Servers.{Cluster}
use Rattle.law_words_paths.specs.Below.server_model.Clusters.{apply}
use Rattle.law_words_paths.specs.Below.sample_clusters.Clusters.{place, object, box}
use Rattle.law_words_paths.specs.Below.coherent_memory.Things.{at_slot}
use Rattle.law_words_paths.specs.Below.coherent_memory.Sight.{sight}
use Rattle.law_words_paths.specs.Below.coherent_memory.Words.{HasWords}
use Rattle.law_words_paths.specs.Below.coherent_memory.Dirty.{DirtyAlone, PastWords}
use Rattle.law_words_paths.specs.Below.coherent_memory.Coherent.{Holds, first_at_holder}
use Rattle.law_words_paths.specs.Below.coherent_types.Typed.{boxed_server, boxed_cluster}
use Rattle.law_words_paths.specs.words.Reworded.{HasPlaces}
use Rattle.law_words_kept.specs.moves.Ended.{Ended}

abbrev pub ending : MutRef
ending = record { word = word_of 1 0 0; first = word_of 0 0 0; object = object 0; dirty = false; holder = place 0 0 }

abbrev pub ending_main : ThreadState
ending_main = record (new_thread 0 0 (value.Own (box (word_of 0 0 0) 0) ∷ value.Mut ending ∷ [])) { made = 1 }

abbrev pub ending_cluster : Cluster
ending_cluster = record boxed_cluster { code = instr.DropSlot ∷ instr.End operand.Unit ∷ []; servers = record boxed_server { threads = ending_main ∷ [] } ∷ [] }

abbrev pub ended_main : ThreadState
ended_main = record ending_main { pc = 1; slots = value.Own (box (word_of 1 0 0) 0) ∷ [] }

abbrev pub ended_cluster : Cluster
ended_cluster = record ending_cluster { servers = record boxed_server { threads = ended_main ∷ []; events = 3 } ∷ [] }

-- what the law asks, and that it is an event
pub record EndsApply : Type 0 where
  pub done : option_map (λ d. d.0) (apply ending_cluster (record { server = 0; what = Step 0 })) ≡ Some ended_cluster
  pub ends : Ended ending_cluster ended_cluster (at_slot 0 1) (at_slot 0 0) ending
  pub before : HasPlaces ending_cluster
  pub after : HasPlaces ended_cluster
  pub firsts : Holds ending_cluster first_at_holder
  pub words : HasWords (sight ending_cluster)
  pub past : PastWords (sight ending_cluster)
  pub dirty : DirtyAlone (sight ending_cluster)
