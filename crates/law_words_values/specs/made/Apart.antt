-- WHAT OBJECTS' WORDS TELL: the sentences of words that follow where each object has one, and that different objects have different words (this project's rules).
use Rattle.std.specs.Prelude.{◌≡◌, ℕ, Some, slice_get}
use Rattle.law_counts_things.specs.Below.fr_base.declared.instruction.Operand.{Operand}
use Rattle.law_counts_things.specs.Below.fr_base.declared.instruction.Instr.TheVariants as instr
use Rattle.law_counts_things.specs.Below.journal.View.{EntryView}
use Rattle.law_counts_things.specs.Below.thread_state.View.{ThreadState}
use Rattle.law_counts_things.specs.Below.server_model.declared.event.Event.{Event}
use Rattle.law_counts_things.specs.Below.server_model.declared.event.What.TheVariants.{Step}
use Rattle.law_counts_things.specs.Below.server_model.Servers.{Server, Cluster, server_at}
use Rattle.law_counts_things.specs.Below.server_model.Work.{thread_in}
use Rattle.law_counts_things.specs.Below.server_model.Clusters.{apply}
use Rattle.law_counts_things.specs.Below.coherent_memory.Sight.{sight}
use Rattle.law_counts_things.specs.Below.coherent_memory.Words.{HasWords}
use Rattle.law_counts_things.specs.Below.coherent_memory.Coherent.{Holds, IsSound, same_word, lead_home, different_words}
use Rattle.law_counts_things.specs.Below.coherent_types.ClusterTypes.{IsCoherent}
use Rattle.law_counts_things.specs.Below.law_counts_sums.Kinds.{step_box, kind_of}
use Rattle.law_counts_things.specs.Below.law_counts_sums.Laws.{Gives, FewEvents}
use Rattle.law_words_values.specs.Below.law_words_paths.words.Unmoved.{WordsStay}

-- where each object has a word, pointers that aren't stale have one word an object, and words lead home
pub record WordsTell : Type 0 where
  pub same_word : (k : Cluster) → HasWords (sight k) → Holds k same_word
  pub lead_home : (k : Cluster) → HasWords (sight k) → Holds k lead_home

-- an event of whatever kind but a box, from a sound cluster with few events, its messages handed over: where it leaves each object its word, different objects have
-- different words, as no object comes
abbrev pub StayApart : Type 0
StayApart = (k : Cluster) (e : Event) (before : HasWords (sight k)) → (kind_of k e ≡ Some step_box → ⊥) → IsSound k → FewEvents k → Gives (λ (d : Cluster × EntryView). WordsStay (sight k) (sight d.0) before → Holds d.0 different_words) (apply k e)

-- and after a box, from a coherent one, as the new word is none that was issued
abbrev pub NewApart : Type 0
NewApart = (k : Cluster) (number t : ℕ) (s : Server) (y : ThreadState) (o : Operand) → IsCoherent k → FewEvents k → server_at k.servers number ≡ Some s → thread_in s.threads t ≡ Some y → slice_get k.code y.pc ≡ Some (instr.Box o)
    → Gives (λ (d : Cluster × EntryView). Holds d.0 different_words) (apply k (record { server = number; what = Step t }))
