-- EVENTS THAT ISSUE NO WORD keep it that each word that stands anywhere was issued (this project's rules).
use Rattle.std.specs.Prelude.{◌≡◌, ⊤, ℕ, Some, slice_get}
use Rattle.law_walks_own.specs.Below.fr_base.declared.instruction.Instr.{Instr}
use Rattle.law_walks_own.specs.Below.fr_base.declared.instruction.Instr.TheVariants as instr
use Rattle.law_walks_own.specs.Below.thread_state.View.{ThreadState}
use Rattle.law_walks_own.specs.Below.journal.View.{EntryView}
use Rattle.law_walks_own.specs.Below.server_msgs.declared.message.Message.{Message}
use Rattle.law_walks_own.specs.Below.server_msgs.declared.message.Message.TheVariants.{Moved}
use Rattle.law_walks_own.specs.Below.server_model.declared.event.What.TheVariants.{Step, Deliver}
use Rattle.law_walks_own.specs.Below.server_model.Servers.{Server, Cluster, server_at}
use Rattle.law_walks_own.specs.Below.server_model.Work.{Hand, thread_in}
use Rattle.law_walks_own.specs.Below.server_model.Places.{Spot}
use Rattle.law_walks_own.specs.Below.server_model.Prepare.{ready, access_of, prepare}
use Rattle.law_walks_own.specs.Below.server_model.Events.{begin_work}
use Rattle.law_walks_own.specs.Below.server_model.Clusters.{apply}
use Rattle.law_walks_own.specs.Below.coherent_memory.Sight.{sight}
use Rattle.law_walks_own.specs.Below.coherent_memory.Coherent.{Holds, IsSound, are_issued}
use Rattle.law_walks_own.specs.Below.coherent_memory.Words.{HasWords}
use Rattle.law_walks_own.specs.Below.law_counts_sums.Laws.{Gives, FewEvents}
use Rattle.law_walks_own.specs.Below.law_words_paths.words.Unmoved.{WordsStay}

-- an instruction that makes no object and no mutex and starts no thread
abbrev pub MakesNone : Instr → Type 0
MakesNone (instr.Box o) = ⊥
MakesNone (instr.Mutex o) = ⊥
MakesNone (instr.Spawn cs pc) = ⊥
MakesNone (instr.Par cs pc ds other) = ⊥
MakesNone i = ⊤

-- the place of a thread's instruction is ready as it is: nothing is asked for, and nothing changes on the way. So it is where no place is followed, and where that is a
-- variable
abbrev pub begun : Server → ThreadState → Hand
begun s y = record { work = begin_work s.rest; thread = y }

pub record IsReady (s : Server) (y : ThreadState) (i : Instr) : Type 0 where
  pub spot : Spot
  pub ready : prepare (access_of i y) (begun s y) ≡ ready (begun s y) spot

-- a step at such an instruction, from a sound cluster in which few events were done, with its messages handed over, keeps it where it leaves each object its word
abbrev pub StepsKeepIssued : Type 0
StepsKeepIssued =
    (k : Cluster) (number t : ℕ) (s : Server) (y : ThreadState) (i : Instr) (before : HasWords (sight k)) → IsSound k → FewEvents k → server_at k.servers number ≡ Some s → thread_in s.threads t ≡ Some y → slice_get k.code y.pc ≡ Some i
    → MakesNone i → IsReady s y i
    → Gives (λ (d : Cluster × EntryView). WordsStay (sight k) (sight d.0) before → Holds d.0 are_issued) (apply k (record { server = number; what = Step t }))

-- so does the delivery of any message but a `moved`, with which an object lands under a new word
abbrev pub LandsNone : Message → Type 0
LandsNone (Moved w c t) = ⊥
LandsNone m = ⊤

abbrev pub DeliveriesKeepIssued : Type 0
DeliveriesKeepIssued =
    (k : Cluster) (number i : ℕ) (s : Server) (m : Message) (before : HasWords (sight k)) → IsSound k → FewEvents k → server_at k.servers number ≡ Some s → slice_get s.rest.inbox i ≡ Some m → LandsNone m
    → Gives (λ (d : Cluster × EntryView). WordsStay (sight k) (sight d.0) before → Holds d.0 are_issued) (apply k (record { server = number; what = Deliver i }))
