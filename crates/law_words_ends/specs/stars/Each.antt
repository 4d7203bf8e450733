-- EACH DISCARD, DROP OF A SLOT, ASSIGNMENT AND MOVE keeps the words (this project's rules), whatever stands there: a value that is owned, a reference, or none any more.
use Rattle.std.specs.Prelude.{◌≡◌, ℕ, true, Some, slice_get}
use Rattle.law_words_ends.specs.Below.fr_base.declared.instruction.Operand.{Operand}
use Rattle.law_words_ends.specs.Below.fr_base.declared.instruction.Instr.{Instr}
use Rattle.law_words_ends.specs.Below.fr_base.declared.instruction.Instr.TheVariants as instr
use Rattle.law_words_ends.specs.Below.fr_base.declared.place.Lval.{Lval}
use Rattle.law_words_ends.specs.Below.journal.View.{EntryView}
use Rattle.law_words_ends.specs.Below.thread_state.View.{ThreadState}
use Rattle.law_words_ends.specs.Below.server_model.declared.event.What.TheVariants.{Step}
use Rattle.law_words_ends.specs.Below.server_model.Servers.{Server, Cluster, server_at}
use Rattle.law_words_ends.specs.Below.server_model.Work.{thread_in}
use Rattle.law_words_ends.specs.Below.server_model.Clusters.{apply}
use Rattle.law_words_ends.specs.Below.coherent_types.ClusterTypes.{IsCoherent}
use Rattle.law_words_ends.specs.Below.law_counts_sums.Laws.{Gives, FewEvents}
use Rattle.law_words_writes.specs.Below.law_words_kept.prepared.Requests.{WordsRise}

-- from a coherent cluster the words hold once the messages of a step at that instruction are handed over, whether it does its plain step or asks
abbrev pub StepsKeepWords : Instr → Type 0
StepsKeepWords i = (k : Cluster) (number t : ℕ) (s : Server) (y : ThreadState) → IsCoherent k → FewEvents k → server_at k.servers number ≡ Some s → thread_in s.threads t ≡ Some y → slice_get k.code y.pc ≡ Some i
    → Gives (λ (d : Cluster × EntryView). WordsRise k d.0) (apply k (record { server = number; what = Step t }))

-- a discard, and the drop of the newest slot
abbrev pub DiscardsKeepWords : Type 0
DiscardsKeepWords = StepsKeepWords instr.Discard

abbrev pub DropsKeepWords : Type 0
DropsKeepWords = StepsKeepWords instr.DropSlot

-- an assignment, to a variable or through stars
abbrev pub AssignmentsKeepWords : Type 0
AssignmentsKeepWords = (w : Lval) (o : Operand) → StepsKeepWords (instr.Assign w o)

-- a move, out of a variable or through stars
abbrev pub MovesKeepWords : Type 0
MovesKeepWords = (w : Lval) → StepsKeepWords (instr.Read w true)
