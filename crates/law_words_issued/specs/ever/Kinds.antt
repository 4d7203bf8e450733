-- EVENTS THAT LEAVE WORDS keep it that each word that stands anywhere was issued (this project's rules).
use Rattle.std.specs.Prelude.{◌≡◌, ⊤, ℕ, true, Some, slice_get}
use Rattle.law_words_issued.specs.Below.fr_base.declared.place.Lval.{Lval}
use Rattle.law_words_issued.specs.Below.fr_base.declared.instruction.Operand.{Operand}
use Rattle.law_words_issued.specs.Below.fr_base.declared.instruction.Instr.{Instr}
use Rattle.law_words_issued.specs.Below.fr_base.declared.instruction.Instr.TheVariants as instr
use Rattle.law_words_issued.specs.Below.journal.View.{EntryView}
use Rattle.law_words_issued.specs.Below.thread_state.View.{ThreadState}
use Rattle.law_words_issued.specs.Below.thread_state.declared.value.Value.{Value}
use Rattle.law_words_issued.specs.Below.thread_state.declared.value.Value.TheVariants as value
use Rattle.law_words_issued.specs.Below.server_msgs.declared.message.Message.{Message}
use Rattle.law_words_issued.specs.Below.server_model.declared.event.What.TheVariants.{Step, Deliver}
use Rattle.law_words_issued.specs.Below.server_model.Servers.{Server, Cluster, server_at}
use Rattle.law_words_issued.specs.Below.server_model.Work.{thread_in, last_of}
use Rattle.law_words_issued.specs.Below.server_model.Clusters.{apply}
use Rattle.law_words_issued.specs.Below.coherent_memory.Coherent.{Holds, are_issued}
use Rattle.law_words_issued.specs.Below.coherent_types.ClusterTypes.{IsCoherent}
use Rattle.law_words_issued.specs.Below.law_counts_sums.Laws.{Gives, FewEvents}
use Rattle.law_words_issued.specs.stands.Issuing.{LandsNone}

-- a value that is no mutable reference to an object, and no lock's mark
abbrev pub EndsNone : Value → Type 0
EndsNone (value.Mut r) = ⊥
EndsNone (value.Held m) = ⊥
EndsNone v = ⊤

-- an instruction that follows no star, ends no mutable reference to an object and makes no object, mutex or thread
pub data FollowsNone (y : ThreadState) : Instr → Type 0 where
  lets : (o : Operand) → FollowsNone y (instr.Let o)
  joins : (o : Operand) → FollowsNone y (instr.Join o)
  ends : (o : Operand) → FollowsNone y (instr.End o)
  puts_back : FollowsNone y instr.Unlock
  discards : (v : Value) → last_of y.temps ≡ Some v → EndsNone v → FollowsNone y instr.Discard
  drops : (v : Value) → last_of y.slots ≡ Some v → EndsNone v → FollowsNone y instr.DropSlot
  assigns : (w : Lval) (o : Operand) (v : Value) → w.depth ≡ 0 → slice_get y.slots w.slot ≡ Some v → EndsNone v → FollowsNone y (instr.Assign w o)
  moves : (w : Lval) (v : Value) → w.depth ≡ 0 → slice_get y.slots w.slot ≡ Some v → FollowsNone y (instr.Read w true)
  borrows : (w : Lval) → w.depth ≡ 0 → FollowsNone y (instr.Borrow w)

-- its step, from a coherent cluster in which few events were done, with its messages handed over
abbrev pub StepsStandIssued : Type 0
StepsStandIssued = (k : Cluster) (number t : ℕ) (s : Server) (y : ThreadState) (i : Instr) → IsCoherent k → FewEvents k → server_at k.servers number ≡ Some s → thread_in s.threads t ≡ Some y → slice_get k.code y.pc ≡ Some i → FollowsNone y i
    → Gives (λ (d : Cluster × EntryView). Holds d.0 are_issued) (apply k (record { server = number; what = Step t }))

-- the delivery of whatever message but a `moved`, with which an object lands under a new word
abbrev pub DeliveriesStandIssued : Type 0
DeliveriesStandIssued = (k : Cluster) (number i : ℕ) (s : Server) (m : Message) → IsCoherent k → FewEvents k → server_at k.servers number ≡ Some s → slice_get s.rest.inbox i ≡ Some m → LandsNone m
    → Gives (λ (d : Cluster × EntryView). Holds d.0 are_issued) (apply k (record { server = number; what = Deliver i }))
