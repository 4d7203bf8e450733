-- STARTS OF THREADS (this project's rules): what a new thread captures goes from its parent's slots to its own.
use Rattle.std.specs.Prelude.{◌≡◌, ℕ, Bool, Some, slice_get}
use Rattle.law_words_values.specs.Below.fr_base.Rooms.{WithRoom}
use Rattle.law_words_values.specs.Below.fr_base.declared.instruction.Instr.{Instr}
use Rattle.law_words_values.specs.Below.fr_base.declared.instruction.Instr.TheVariants as instr
use Rattle.law_words_values.specs.Below.journal.View.{EntryView}
use Rattle.law_words_values.specs.Below.thread_state.View.{ThreadState}
use Rattle.law_words_values.specs.Below.server_model.declared.event.What.TheVariants.{Step}
use Rattle.law_words_values.specs.Below.server_model.Servers.{Server, Cluster, server_at}
use Rattle.law_words_values.specs.Below.server_model.Work.{thread_in}
use Rattle.law_words_values.specs.Below.server_model.Clusters.{apply}
use Rattle.law_words_values.specs.Below.coherent_types.ClusterTypes.{IsCoherent}
use Rattle.law_words_values.specs.Below.law_counts_sums.Laws.{Gives, FewEvents}
use Rattle.law_words_values.specs.Below.law_words_paths.words.Unmoved.{LeavesWords}

-- a thread starts, or a pair
pub data StartsThreads : Instr → Type 0 where
  a_thread : (cs : WithRoom (ℕ × Bool)) (pc : ℕ) → StartsThreads (instr.Spawn cs pc)
  a_pair : (cs : WithRoom (ℕ × Bool)) (pc : ℕ) (ds : WithRoom (ℕ × Bool)) (other : ℕ) → StartsThreads (instr.Par cs pc ds other)

-- from a coherent cluster, with its messages handed over, its step leaves each object the word that it had, and what else is kept of words
abbrev pub StartsLeaveWords : Type 0
StartsLeaveWords = (k : Cluster) (number t : ℕ) (s : Server) (y : ThreadState) (i : Instr) → IsCoherent k → FewEvents k → server_at k.servers number ≡ Some s → thread_in s.threads t ≡ Some y → slice_get k.code y.pc ≡ Some i → StartsThreads i
    → Gives (λ (d : Cluster × EntryView). LeavesWords k d.0) (apply k (record { server = number; what = Step t }))
