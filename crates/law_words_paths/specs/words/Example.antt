-- A cluster to which the laws of words apply: main stands at an assignment through its box, and the box gets the next colour.
use Rattle.std.specs.Prelude.{◌≡◌, [], ◌∷◌, Some}
use Rattle.law_words_paths.specs.Below.journal.declared.act.Act.TheVariants as act
use Rattle.law_words_paths.specs.Below.global_addr.Words.{word_of}
use Rattle.law_words_paths.specs.Below.thread_state.View.{ThreadState}
use Rattle.law_words_paths.specs.Below.thread_state.declared.value.Value.TheVariants as value
use Rattle.law_words_paths.specs.Below.server_model.Servers.{Server, Cluster}
use Rattle.law_words_paths.specs.Below.server_model.Work.{Hand}
use Rattle.law_words_paths.specs.Below.server_model.NewWords.{issue_tint}
use Rattle.law_words_paths.specs.Below.server_model.Places.{in_slot, put_word}
use Rattle.law_words_paths.specs.Below.sample_clusters.Clusters.{object, box}
use Rattle.law_words_paths.specs.Below.coherent_memory.Things.{at_slot}
use Rattle.law_words_paths.specs.Below.coherent_memory.Sight.{sight}
use Rattle.law_words_paths.specs.Below.coherent_memory.Words.{HasWords}
use Rattle.law_words_paths.specs.Below.coherent_types.Typed.{boxed_main, boxed_server, boxed_cluster}
use Rattle.law_words_paths.specs.words.WordsAfter.{Rewrites}
use Rattle.law_words_paths.specs.Below.coherent_memory.Dirty.{DirtyAlone}
use Rattle.law_words_paths.specs.words.PutBack.{put_in, StandsHere}

abbrev pub tinted_main : ThreadState
tinted_main = record boxed_main { slots = value.Own (box (word_of 1 0 0) 0) ∷ [] }

abbrev pub tinted_server : Server
tinted_server = record boxed_server { threads = tinted_main ∷ [] }

abbrev pub tinted_cluster : Cluster
tinted_cluster = record boxed_cluster { servers = tinted_server ∷ [] }

-- main in the hand of an event, before the tint and after it
abbrev pub main_hand : Hand
main_hand = record { work = record { rest = boxed_server.rest; acts = []; labels = [] }; thread = boxed_main }

abbrev pub tinted_hand : Hand
tinted_hand = record { work = record main_hand.work { acts = act.Tint (object 0) (word_of 0 0 0) (word_of 1 0 0) ∷ [] }; thread = tinted_main }

-- what the laws ask
pub record WordsApply : Type 0 where
  pub rewrites : Rewrites boxed_cluster tinted_cluster (at_slot 0 0) (object 0) (word_of 1 0 0)
  pub words : HasWords (sight boxed_cluster)
  pub dirty : DirtyAlone (sight boxed_cluster)
  pub stands : StandsHere boxed_cluster 0 (boxed_main ∷ []) main_hand
  pub tinted : put_word (in_slot 0) (issue_tint (record { word = word_of 0 0 0; object = object 0 }) main_hand.work) main_hand ≡ Some tinted_hand
  pub before : put_in boxed_cluster 0 (boxed_main ∷ []) 2 main_hand ≡ boxed_cluster
  pub after : put_in boxed_cluster 0 (boxed_main ∷ []) 2 tinted_hand ≡ tinted_cluster
