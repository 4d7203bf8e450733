-- A STEP THAT READS keeps the words (this project's rules): where it ends in a request, and where it copies.
use Rattle.std.specs.Prelude.{◌≡◌, ◌⊎◌, ℕ, false, Some, None, slice_get}
use Rattle.law_words_kept.specs.Below.fr_base.declared.name.ObjNo.{ObjNo}
use Rattle.law_words_kept.specs.Below.fr_base.declared.instruction.Instr.{Instr}
use Rattle.law_words_kept.specs.Below.fr_base.declared.instruction.Instr.TheVariants as instr
use Rattle.law_words_kept.specs.Below.fr_base.declared.place.Lval.{Lval}
use Rattle.law_words_kept.specs.Below.journal.View.{EntryView}
use Rattle.law_words_kept.specs.Below.thread_state.View.{ThreadState}
use Rattle.law_words_kept.specs.Below.thread_state.declared.phase.Phase.TheVariants as phase
use Rattle.law_words_kept.specs.Below.server_model.declared.event.What.TheVariants.{Step}
use Rattle.law_words_kept.specs.Below.server_model.Servers.{Server, Cluster, server_at}
use Rattle.law_words_kept.specs.Below.server_model.Work.{thread_in}
use Rattle.law_words_kept.specs.Below.server_model.Clusters.{apply}
use Rattle.law_words_kept.specs.Below.coherent_memory.Sight.{sight, issued}
use Rattle.law_words_kept.specs.Below.coherent_memory.Words.{HasWords}
use Rattle.law_words_kept.specs.Below.coherent_memory.Dirty.{DirtyAlone, PastWords}
use Rattle.law_words_kept.specs.Below.coherent_memory.Coherent.{Holds, first_at_holder}
use Rattle.law_words_kept.specs.Below.coherent_types.ClusterTypes.{IsCoherent}
use Rattle.law_words_kept.specs.Below.law_counts_sums.Laws.{Gives, FewEvents}
use Rattle.law_words_kept.specs.reads.Reading.{Reads}

-- what is kept of words
pub record WordsHold (k : Cluster) : Type 0 where
  pub has_words : HasWords (sight k)
  pub first_at_holder : Holds k first_at_holder
  pub dirty_alone : DirtyAlone (sight k)
  pub past_words : PastWords (sight k)

-- the same of a cluster in an event or after it, beside the one from which it began: and words rise, as the word of each object is the one that it had then, or
-- wasn't issued then
pub record WordsRise (k z : Cluster) : Type 0 where
  pub has_words : HasWords (sight z)
  pub first_at_holder : Holds z first_at_holder
  pub dirty_alone : DirtyAlone (sight z)
  pub past_words : PastWords (sight z)
  -- the words at the start
  pub began : HasWords (sight k)
  pub rises : (o : ObjNo) → (has_words.word o ≡ began.word o) ⊎ (issued (sight k) (has_words.word o) ≡ false)

-- the step of a thread that reads its place, or borrows from it, and hasn't taken an object: where it does no plain step, the words hold once its messages are
-- handed over
abbrev pub ReadsThatAsk : Type 0
ReadsThatAsk = (k : Cluster) (number t : ℕ) (s : Server) (y : ThreadState) (i : Instr) (w : Lval) (m : ℕ) → IsCoherent k → FewEvents k → server_at k.servers number ≡ Some s → thread_in s.threads t ≡ Some y → slice_get k.code y.pc ≡ Some i → Reads i w m
    → ((v : ℕ) → y.phase ≡ phase.Taken v → ⊥) → Gives (λ (d : Cluster × EntryView). d.1.done ≡ None → WordsRise k d.0) (apply k (record { server = number; what = Step t }))

-- the step of a thread that copies a place, whether it does its plain step or asks
abbrev pub CopiesKeep : Type 0
CopiesKeep = (k : Cluster) (number t : ℕ) (s : Server) (y : ThreadState) (w : Lval) → IsCoherent k → FewEvents k → server_at k.servers number ≡ Some s → thread_in s.threads t ≡ Some y → slice_get k.code y.pc ≡ Some (instr.Read w false)
    → Gives (λ (d : Cluster × EntryView). WordsRise k d.0) (apply k (record { server = number; what = Step t }))

-- that of a thread at a dup
abbrev pub DupsKeep : Type 0
DupsKeep = (k : Cluster) (number t : ℕ) (s : Server) (y : ThreadState) (w : Lval) → IsCoherent k → FewEvents k → server_at k.servers number ≡ Some s → thread_in s.threads t ≡ Some y → slice_get k.code y.pc ≡ Some (instr.Dup w)
    → Gives (λ (d : Cluster × EntryView). WordsRise k d.0) (apply k (record { server = number; what = Step t }))
