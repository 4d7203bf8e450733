-- WHAT WAS ISSUED STAYS ISSUED, and no word is new but in a pointer (this project's rules).
use Rattle.std.specs.Prelude.{◌≡◌, ⊤, ℕ, ◌+◌, true, nat_lt, Some, slice_get}
use Rattle.law_words_issued.specs.Below.fr_base.declared.instruction.Instr.{Instr}
use Rattle.law_words_issued.specs.Below.fr_base.declared.instruction.Instr.TheVariants as instr
use Rattle.law_words_issued.specs.Below.fr_base.declared.instruction.Operand.{Operand}
use Rattle.law_words_issued.specs.Below.global_addr.Words.{colour_of}
use Rattle.law_words_issued.specs.Below.journal.View.{EntryView}
use Rattle.law_words_issued.specs.Below.thread_state.View.{ThreadState}
use Rattle.law_words_issued.specs.Below.server_msgs.declared.message.Message.{Message}
use Rattle.law_words_issued.specs.Below.server_msgs.declared.message.Message.TheVariants.{Fetched}
use Rattle.law_words_issued.specs.Below.server_model.declared.event.Event.{Event}
use Rattle.law_words_issued.specs.Below.server_model.declared.event.What.TheVariants.{Step}
use Rattle.law_words_issued.specs.Below.server_model.Servers.{Server, Cluster, server_at}
use Rattle.law_words_issued.specs.Below.server_model.Work.{thread_in}
use Rattle.law_words_issued.specs.Below.server_model.Clusters.{apply}
use Rattle.law_words_issued.specs.Below.coherent_memory.Names.{tot}
use Rattle.law_words_issued.specs.Below.coherent_memory.Things.{Thing, copied, sent, things_of}
use Rattle.law_words_issued.specs.Below.coherent_memory.Sight.{issued, sight}
use Rattle.law_words_issued.specs.Below.coherent_memory.Placing.{owned_word}
use Rattle.law_words_issued.specs.Below.coherent_memory.Coherent.{IsSound}
use Rattle.law_words_issued.specs.Below.coherent_types.ClusterTypes.{IsCoherent}
use Rattle.law_words_issued.specs.Below.law_counts_sums.Laws.{Gives, FewEvents}
use Rattle.law_words_issued.specs.old.Old.{unissued}

-- an instruction that makes no object
abbrev pub MakesNoObject : Instr → Type 0
MakesNoObject (instr.Box o) = ⊥
MakesNoObject i = ⊤

-- each word below the limit that had been issued is issued after the event, its messages handed over
abbrev pub KeepsWhatWasIssued : Cluster → Event → Type 0
KeepsWhatWasIssued k e = Gives (λ (d : Cluster × EntryView). (w : ℕ) → nat_lt (colour_of w) k.options.colours ≡ true → issued (sight k) w ≡ true → issued (sight d.0) w ≡ true) (apply k e)

-- the step of a thread at such an instruction, done or not, from a coherent cluster in which few events were done, with its messages handed over: each word below the limit that had been
-- issued is issued
abbrev pub StepsKeepWhatWasIssued : Type 0
StepsKeepWhatWasIssued = (k : Cluster) (number t : ℕ) (s : Server) (y : ThreadState) (i : Instr) → IsCoherent k → FewEvents k → server_at k.servers number ≡ Some s → thread_in s.threads t ≡ Some y → slice_get k.code y.pc ≡ Some i → MakesNoObject i
    → Gives (λ (d : Cluster × EntryView). (w : ℕ) → nat_lt (colour_of w) k.options.colours ≡ true → issued (sight k) w ≡ true → issued (sight d.0) w ≡ true) (apply k (record { server = number; what = Step t }))

-- the step of a thread that makes an object
abbrev pub BoxesKeepWhatWasIssued : Type 0
BoxesKeepWhatWasIssued = (k : Cluster) (number t : ℕ) (s : Server) (y : ThreadState) (o : Operand) → IsCoherent k → FewEvents k → server_at k.servers number ≡ Some s → thread_in s.threads t ≡ Some y → slice_get k.code y.pc ≡ Some (instr.Box o)
    → KeepsWhatWasIssued k (record { server = number; what = Step t })

-- the words of copies, cached or on their way, and those that they hold
abbrev pub sent_words : (ℕ → ℕ) → Message → ℕ
sent_words f (Fetched w c t) = f w + owned_word f c.value
sent_words f m = 0

abbrev pub copied_words : (ℕ → ℕ) → Thing → ℕ
copied_words f (copied s c) = f c.word + owned_word f c.cell.value
copied_words f (sent s m) = sent_words f m
copied_words f x = 0

-- each of them had been issued, after whatever event from a sound cluster
abbrev pub CopiesHaveOldWords : Type 0
CopiesHaveOldWords = (k : Cluster) (e : Event) → IsSound k → FewEvents k → Gives (λ (d : Cluster × EntryView). tot (copied_words (unissued k)) (things_of d.0) ≡ 0) (apply k e)
